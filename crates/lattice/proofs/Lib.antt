-- Lattices, banks and words.
pub mod Membership  -- combinations of two vectors, and the test of a plan's lattice
pub mod Bases  -- pairs of vectors with the same lattice
pub mod Euclid  -- falling remainders on rows lead to a basis
pub mod Carried  -- the same with columns carried along modulo a
pub mod NormalForm  -- the normal form generates the lattice, and no other plan does
pub mod SameBank  -- same bank exactly if the difference is in the lattice
pub mod Words  -- each pixel has a word of its own
pub mod Reverse  -- the reverse map
pub mod Rings  -- wrapping around a picture keeps the bank
pub mod Suits  -- what it means that a plan suits
pub mod Classes  -- lattice classes of a pattern, and plans that suit for r
pub mod LongClashes  -- the clash for r is the first, and nothing is found exactly if the plan suits for r
pub mod Cycles  -- bank and cycle of a pixel are its own, and the cycle is below r
pub mod OneCycle  -- r = 1 is what there was before
pub mod TestMeanings  -- the test for 10, and the meaning of all tests together
pub mod Apart  -- the banks that a fetch reads are all different
pub mod Formulas  -- pixels and patterns entry by entry; the formulas by division
