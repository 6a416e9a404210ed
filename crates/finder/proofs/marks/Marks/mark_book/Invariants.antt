-- `finder::marks::Marks::mark_book` meets its contract. The loop's invariant: the differences of the patterns before the n-th are
-- marked.
-- Assumes nothing.
use mathlib.Core.Path.{◌≡◌}
use Rattle.finder.specs.Table.{mark_book}
use Rattle.finder.proofs.marks.Marks.mark_book.Given as goal

abbrev pub invariant-loop-n : goal.invariant-loop-n
invariant-loop-n l = (l.self.cells ≡ mark_book l.book l.n)
