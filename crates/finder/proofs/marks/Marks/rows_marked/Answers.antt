-- `finder::marks::Marks::rows_marked` meets its contract: before each turn the rows before j are passed, and j's cells start with `from`.
-- Assumes nothing.
use native.Mathlib.Omega.{arith}
use mathlib.Core.Path.{sym, ◌∙◌}
use Rattle.finder.proofs.RowTests.{no_row_passed, row_passed, row_passed_around, row_found, rows_unmarked, start_small}
use Rattle.finder.proofs.marks.Marks.rows_marked.Goals.{then-a-from, else-a-from}
use Rattle.finder.proofs.marks.Marks.rows_marked.Goals as goal

pub loop-j-init : goal.loop-j-init
loop-j-init c = no_row_passed (omega arith) (omega arith) c.requires.4

pub row_marked-requires : goal.row_marked-requires
row_marked-requires c =
    let k = start_small c.loop-j.invariant in
    (omega arith, omega arith, omega arith, omega arith)

pub returns-then-row_marked : goal.returns-then-row_marked
returns-then-row_marked c =
    row_found c.loop-j.invariant c.loop-j-test.true (sym c.if-row_marked.true ∙ c.row_marked.ensures)

pub overflow_add-from : goal.overflow_add-from
overflow_add-from c = omega (arith, start_small c.loop-j.invariant)

pub loop-j-preserved : goal.loop-j-preserved
loop-j-preserved c =
    let unmarked = sym c.if-row_marked.false ∙ c.row_marked.ensures in
    elim c.if-a-from.branch [
      | then-a-from w ↦ rw w.from-is (row_passed_around c.loop-j.invariant unmarked w.if-a-from.true)
      | else-a-from w ↦ rw w.from-is (row_passed c.loop-j.invariant unmarked w.if-a-from.false)
    ]

pub returns-after-a-from : goal.returns-after-a-from
returns-after-a-from c =
    let unmarked = sym c.if-row_marked.false ∙ c.row_marked.ensures in
    elim c.if-a-from.branch [
      | then-a-from w ↦ rows_unmarked (row_passed_around c.loop-j.invariant unmarked w.if-a-from.true) (omega arith)
      | else-a-from w ↦ rows_unmarked (row_passed c.loop-j.invariant unmarked w.if-a-from.false) (omega arith)
    ]

pub returns : goal.returns
returns c = rows_unmarked c.loop-j.invariant c.loop-j-test.false
