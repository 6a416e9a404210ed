-- What the code on books goes by.
pub mod Scan  -- a test's answer, a pattern's entry, the window's cells
