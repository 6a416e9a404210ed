-- What is told, and flat arrays.
pub mod Positions  -- the positions of a clash, put one after the other
pub mod Passed  -- an answer told as the one that it equals
pub mod Flattened  -- flat arrays and the record, both ways
