-- `finder::marks::Marks::row_marked` meets its contract: before each turn the cells before x are passed.
-- Assumes nothing.
use Prim.Native.Nat.{◌-◌}
use Rattle.finder.proofs.RowTests.{CellsPassed}
use Rattle.finder.proofs.marks.Marks.row_marked.Given as goal

abbrev pub invariant-loop-cell : goal.invariant-loop-cell
invariant-loop-cell l = CellsPassed l.self.cells l.a l.j l.s l.x

abbrev pub decreases-loop-cell : goal.decreases-loop-cell
decreases-loop-cell l = 63 - l.x
