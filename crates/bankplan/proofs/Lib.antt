-- Lemmas of the program.
pub mod Written  -- what was read, and what is written
