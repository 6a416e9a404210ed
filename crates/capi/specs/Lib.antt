-- What passes to and from a caller in C or Rust.
pub mod Told  -- how an answer is told: a number and a row of numbers
pub mod Flat  -- a book record as flat arrays
pub mod ToldValues  -- worked values of both
