-- The least plan, the clash and the check.
pub mod SuitingPlans  -- plans of which a test holds
pub mod CountSearch  -- what the search among equal counts gives: the order
pub mod Narrowing  -- the order in which the code looks at them gives the same
pub mod PlanSearch  -- what the search of plans gives, for any test
pub mod FindAnswers  -- what the call `find` answers by its search
pub mod Pigeonhole  -- m different numbers below n: m is at most n
pub mod Boxes  -- the box of the differences, whose plan suits
pub mod LeastCycles  -- for each r the count is least among all pairs of vectors; none exactly above the limit
pub mod OneCycle  -- the search for r = 1 is the finder's
pub mod Least  -- so the finder's count is least; 7 exactly above the limit
pub mod Bounds  -- the count lies between pixel count and box
pub mod LeastCounts  -- the least count is that of the finder's plan
pub mod ClashSearch  -- what the searches for a clash find
pub mod OwnClashes  -- the clash of a fetch and of the cycles
pub mod CheckClashes  -- the clash of a check
pub mod Clashes  -- the clash of a refusal by 10 is the first one
pub mod Checks  -- the verdict and the surplus
pub mod OneCycleCalls  -- the calls at r = 1 are what they were without r
pub mod KeptAtOne  -- what document 01 promises holds at r = 1
pub mod Marking  -- the cell of a vector in the table
pub mod RowTests  -- the tests of a row and of the rows
pub mod MarkedCells  -- a cell is marked exactly if its vector is a difference
pub mod Hits  -- the marked cells of a plan's lattice
pub mod Tables  -- a plan suits exactly if the table's searches find nothing
pub mod PlanLoops  -- what a loop over plans answers, for any tests
pub mod TableSearch  -- what the table tells of a plan on trial
pub mod ChainOutcomes  -- what a function answers that runs through a chain of tests
pub mod MetAnswers  -- what the answer about a clash shows
pub mod Meetings  -- the clash from the last position to the first
pub mod ClassPositions  -- a position and the first r after it with its bank, one after the other
pub mod Verdicts  -- the clash of a book by those of its patterns
pub mod BookCells  -- the cells of a book are its pixels, raised
pub mod CellEntries  -- the tables of a plan and the cells of a book, entry by entry
pub mod CellBanks  -- the bank of a pixel by lane, shift and the first bank of its row
pub mod Shifts  -- the shifts of the rows, one row after the other
pub mod CountedBanks  -- counting the pixels to a bank decides whether a plan suits for r
pub mod CountedPlans  -- what counting tells of a plan on trial
pub mod PutCycles  -- the cycles of a pattern, put one after the other
pub mod WrittenCycles  -- what the call that writes them answers and leaves, test by test
