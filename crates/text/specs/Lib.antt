-- The program's text as the code's struct.
pub mod Texts  -- a text, and when it is that of a longer input too
