-- What searches, lists, refusal chains and tests mean.
pub mod Searches  -- what `first`, `gather`, `every` and the like give
pub mod Lists  -- membership, entries by index, `flat_map`
pub mod Picked  -- the numbers of a range that pass a test
pub mod FilledArrays  -- a loop that fills an array
pub mod Patterns  -- a record's pixels and patterns by index
pub mod Orders  -- the order by row, then column
pub mod SortedPatterns  -- a legal pattern is sorted, and settled by the set of its pixels
pub mod Outputs  -- what stands in an output after a call; a loop that puts words there
pub mod Chains  -- chains of tests, and a call by its tests
pub mod Booleans  -- what a chain that finds nothing says
pub mod Tests  -- what each test of a call means
pub mod BookTests  -- what the tests of a book record mean
pub mod BookRefusals  -- the refusal of a record that is not legal
pub mod Deciding  -- the refusal of a call whose condition fails
pub mod ClashAnswers  -- an answer with the positions of a clash beside it
pub mod RefusalNumbers  -- which numbers a chain or a search can give
pub mod CountedAnswers  -- what a counted answer shows of its tests
pub mod Legal  -- a legal call is not refused; a refused one changes nothing
pub mod CallLists  -- a list of calls, over any state, call and reply
