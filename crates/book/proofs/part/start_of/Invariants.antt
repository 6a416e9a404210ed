-- `book::part::start_of` meets its contract: before each turn `at` is the place of the pixel count of the pattern whose number
-- the loop has reached.
-- Assumes nothing.
use mathlib.Core.Path.{◌≡◌}
use Rattle.scope.specs.Books.{start}
use Rattle.book.proofs.part.start_of.Given as goal

abbrev pub invariant-loop : goal.invariant-loop
invariant-loop l = l.at ≡ start l.s l.counter
