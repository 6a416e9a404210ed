-- Document 01, in the order to read it.
pub mod Search  -- searches and lists that the definitions are made of
pub mod Plans  -- "Pixels, patterns, plans"
pub mod Finding  -- "Finding and checking"
pub mod Banks  -- "Banks and addresses"
pub mod Cycles  -- document 02, Card 4: classes, plans that suit for r, cycles, the longer clash
pub mod Books  -- "Pattern book"
pub mod Numbers  -- "Numbers for what is turned down"
pub mod Calls  -- one definition to a call: checks in order, answer, what was lent
pub mod Program  -- what the program writes
pub mod promises  -- what is promised of the definitions
pub mod values  -- worked values of the definitions
pub mod code  -- what the contracts of this crate's own functions go by beside them
