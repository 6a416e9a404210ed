-- What the program answers.
pub mod Input  -- an input of which the first bytes were read
