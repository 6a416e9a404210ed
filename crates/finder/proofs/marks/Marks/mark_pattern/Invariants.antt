-- `finder::marks::Marks::mark_pattern` meets its contract. The loop's invariant: the differences with the pixels before position e
-- are marked.
-- Assumes nothing.
use mathlib.Core.Path.{◌≡◌}
use Rattle.finder.specs.Table.{mark_pattern}
use Rattle.finder.proofs.marks.Marks.mark_pattern.Given as goal

abbrev pub invariant-loop-e : goal.invariant-loop-e
invariant-loop-e l = (l.self.cells ≡ mark_pattern l.t l.e l.initial.self.cells)
