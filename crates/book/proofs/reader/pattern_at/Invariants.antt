-- `book::reader::pattern_at` meets its contract: before each turn the arrays are filled with the first e pixels.
-- Assumes nothing.
use Prim.Native.Nat.{◌+◌}
use lib.IntN.{pos}
use Rattle.scope.specs.Books.{pixel_from}
use Rattle.checks.proofs.FilledArrays.{Filled}
use Rattle.book.proofs.reader.pattern_at.Given as goal

abbrev pub invariant-loop-e : goal.invariant-loop-e
invariant-loop-e l =
    Filled (pos 0) (λ k. (pixel_from l.s (l.at + 1) k).column) l.e l.initial.columns l.columns
    × Filled (pos 0) (λ k. (pixel_from l.s (l.at + 1) k).row) l.e l.initial.rows l.rows
