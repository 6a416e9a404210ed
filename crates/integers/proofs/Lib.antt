-- Laws of whole numbers and of machine numbers.
pub mod Comparisons  -- what a test that computes says of numbers
pub mod Integers  -- laws of ℤ that the library lacks
pub mod Polynomials  -- the ring solver, inside
pub mod Ring  -- the ring solver, in use: `ring`, `linear`
pub mod Order  -- linear facts of ℤ for `omega`
pub mod Digits  -- a number in two digits, k × D + u
pub mod Divisions  -- floor division, its remainder, divisibility
pub mod Bezout  -- Euclid's rule, Bezout's combination, the greatest common divisor
pub mod Identities  -- determinants of two and of three vectors
pub mod Sizes  -- sums, products and quotients fit their width
pub mod Raised  -- signed machine numbers raised to unsigned ones
pub mod TowardZero  -- the machine's quotient and remainder, brought to the floor
