-- `finder::marks::Marks::mark_from` meets its contract. The loop's invariant: the differences of the pixels before position l are
-- marked.
-- Assumes nothing.
use mathlib.Core.Path.{◌≡◌}
use Rattle.finder.specs.Table.{mark_from}
use Rattle.finder.proofs.marks.Marks.mark_from.Given as goal

abbrev pub invariant-loop-l : goal.invariant-loop-l
invariant-loop-l l =
    (l.self.cells ≡ mark_from (record { columns = l.columns; rows = l.rows; used = l.used }) l.e l.l l.initial.self.cells)
