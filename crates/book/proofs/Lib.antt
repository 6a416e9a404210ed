-- Books as records and as bytes.
pub mod Records  -- the record of a list of patterns, and back
pub mod Bytes  -- a byte and its number; bytes from a place on
pub mod Unused  -- unused entries do not count, and a reader sets them to 0
pub mod UnusedCalls  -- so every call answers alike
pub mod Written  -- written patterns are read
pub mod Reading  -- when bytes are taken
pub mod ReadWrite  -- reading and writing undo each other
pub mod SameBooks  -- books with the same sets of pixels are the same bytes
pub mod Parts  -- a pattern's part of the bytes
pub mod Prefixes  -- bytes that begin with whole patterns
pub mod Longer  -- bytes with more bytes after them
pub mod ReaderRefusals  -- number and place for bytes that are not taken
pub mod Outcomes  -- a test's answer, and that of a loop that runs through tests
pub mod Window  -- a pixel's cell, and the order of cells
pub mod RangeTests  -- a test of the numbers of a range
pub mod PixelTests  -- the tests of a pixel by its cell and those before it
pub mod PixelLoops  -- a loop over a pattern's pixels
pub mod Scanning  -- the tests as the code makes them, pattern after pattern
pub mod RecordLoops  -- a loop over a record's patterns
pub mod PutBooks  -- the bytes as the writer puts them
pub mod Scanned  -- the tests of bytes, pattern after pattern
pub mod Fills  -- arrays filled by the reader
pub mod Taken  -- what bytes that are taken hold
pub mod PartAnswers  -- what the answer about a part shows
