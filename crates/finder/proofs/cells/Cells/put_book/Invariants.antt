-- `finder::cells::Cells::put_book` meets its contract. The loop's invariant: the entries of the patterns before n are put.
-- Assumes nothing.
use Prim.Native.Nat.{◌*◌}
use mathlib.Core.Path.{◌≡◌}
use Rattle.checks.proofs.FilledArrays.{Filled}
use Rattle.finder.proofs.BookCells.{entry_at}
use Rattle.finder.proofs.cells.Cells.put_book.Given as goal

abbrev pub invariant-loop-n : goal.invariant-loop-n
invariant-loop-n l = Filled 0 (entry_at l.book) (65 * l.n) l.initial.self.entries l.self.entries × (l.self.r ≡ l.initial.self.r)
