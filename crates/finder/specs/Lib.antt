-- What the finder's code goes by.
pub mod Table  -- the table of differences, and the cells of a plan's lattice
pub mod Searching  -- what a loop over plans searches for, by any tests
pub mod Counting  -- the cells of a book, and the bank of a cell, for r above 1
pub mod Clashing  -- a clash as the code's answer
