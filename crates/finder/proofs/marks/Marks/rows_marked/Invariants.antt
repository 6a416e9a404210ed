-- `finder::marks::Marks::rows_marked` meets its contract: before each turn the rows before j are passed, and j's cells start with `from`.
-- Assumes nothing.
use Prim.Native.Nat.{◌-◌}
use Rattle.finder.proofs.RowTests.{RowsPassed}
use Rattle.finder.proofs.marks.Marks.rows_marked.Given as goal

abbrev pub invariant-loop-j : goal.invariant-loop-j
invariant-loop-j l = RowsPassed l.self.cells l.a l.b l.d l.j l.from

abbrev pub decreases-loop-j : goal.decreases-loop-j
decreases-loop-j l = 32 - l.j
