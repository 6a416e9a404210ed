-- The lines that the program writes.
pub mod Decimal  -- what `decimal` writes
pub mod ProgramText  -- a plan's two lines, or one line with the refusal
pub mod LongInput  -- the first 2,066 bytes decide
pub mod DecimalDigits  -- the digits are those that the library prints, and how many
pub mod PutLines  -- a line's parts put one after the other
pub mod LineParts  -- the lines as the words and numbers that are put, and their lengths
pub mod ProgramTexts  -- the text of a longer input; the struct has room for it
