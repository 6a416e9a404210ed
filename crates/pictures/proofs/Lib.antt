-- Pictures in a lent memory, and demand 3 over the definitions.
pub mod Memory  -- what a store and a clear do to the words
pub mod LastStored  -- the word last stored, call by call
pub mod CallTests  -- the tests of each call as one condition
pub mod BankSums  -- the sum of a bank, below 2^64
pub mod BankSumLaws  -- what a store and a clear do to it
pub mod SumEntries  -- what calls do to the entries of the sums
pub mod Fetches  -- what a legal fetch gives
pub mod Pictures  -- a legal call on a picture gives what it is for
pub mod Runs  -- a run of calls keeps the words last stored in place
pub mod Positions  -- the positions beside a fetch
pub mod Replies  -- so each call gives what it is to give
pub mod DemandHolds  -- demand 3
pub mod SumSteps  -- what one call does to the sums
pub mod KeptSums  -- the sums of the banks over a list of calls
pub mod PictureTests  -- the tests 11, 12, 13, what depth and place show, and what a call that writes leaves
pub mod WholeBanks  -- what the depth of a bank shows; its part of the memory
pub mod Deliveries  -- what both fetches answer and leave in the output
pub mod Moved  -- a pattern's pixels moved to a position
pub mod Starts  -- the tests that both fetches begin with
pub mod Wrapped  -- the words at wrapped pixels, put to an output
pub mod ReplyRows  -- a reply's twelve numbers
pub mod ListFaults  -- what is wrong with a list of numbers
pub mod CallPlaces  -- a call of a list, by the numbers from a place on
pub mod ListNumbers  -- every list of calls has numbers
pub mod Stretches  -- something put into a list, stretch after stretch
pub mod MadeCalls  -- one call of a list, made by the code
pub mod ListTurns  -- a list that is made call by call, by what is left
pub mod ListSums  -- the claim on the sums of a list that was made
