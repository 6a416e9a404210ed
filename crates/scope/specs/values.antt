-- Worked values of the definitions.
pub mod Rows  -- what a row is, and the patterns that the figures speak of
pub mod Figures  -- document 01's figures and examples, those of document 02, and the one theorem over them
pub mod BookEdges  -- further rows on books, plans and the program
pub mod OrderEdges  -- further rows on the order of a pattern's pixels
pub mod CycleEdges  -- rows on classes, plans that suit for r, and cycles
pub mod CycleFigures  -- rows on the least plan and the least count for r
pub mod LongClashEdges  -- rows on the clash for r
pub mod CallCycleEdges  -- rows on the calls for r
pub mod CycleOrderEdges  -- rows on the call that writes cycles, and on the order of the checks at r above 1
pub mod PictureEdges  -- further rows on the calls on a picture
pub mod RingEdges  -- rows on ring fetches in a list of calls
pub mod SumEdges  -- rows on the sums of the banks, and the claim on them read off
pub mod OneCycleEdges  -- rows on the calls as they were without r
pub mod DemandExample  -- demand 3 read off in three small pictures
pub mod DemandCyclesExample  -- demand 3 read off at r = 2
