-- `finder::cells::Cells::put_entries` meets its contract. The loop's invariant: the first e entries are put.
-- Assumes nothing.
use mathlib.Core.Path.{◌≡◌}
use Rattle.finder.specs.Counting.{EntriesPut}
use Rattle.finder.proofs.cells.Cells.put_entries.Given as goal

abbrev pub invariant-loop-e : goal.invariant-loop-e
invariant-loop-e l = EntriesPut l.t l.n l.e l.initial.self.entries l.self.entries × (l.self.r ≡ l.initial.self.r)
