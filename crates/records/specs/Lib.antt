-- What filling a record list asks.
pub mod Filling  -- of one record, and the answer for the list
