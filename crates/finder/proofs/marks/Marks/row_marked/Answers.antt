-- `finder::marks::Marks::row_marked` meets its contract: before each turn the cells before x are passed.
-- Assumes nothing.
use Prim.Native.Nat.{ℕ, ◌+◌, ◌-◌, ◌*◌, ◌<◌}
use native.Mathlib.Omega.{arith}
use mathlib.Core.Path.{◌≡◌, sym, ◌∙◌}
use mathlib.Core.List.{List}
use lib.ListN.{length, get_or, take, drop}
use Rattle.std.proofs.lemmas.List.{get_or_default, length-take}
use Rattle.checks.proofs.Lists.{get_or-take, get_or-drop}
use Rattle.finder.proofs.RowTests.{no_cell_passed, cell_passed, cell_found, row_unmarked}
use Rattle.finder.proofs.marks.Marks.row_marked.Goals as goal

-- y, read at x in the row that begins at cell i, is the table's cell i + x
cell_is :
    (cells : List ℕ) (i : ℕ) {x y : ℕ}
    → y ≡ get_or (take (i + 63 - i) (drop i cells)) x y → x < length (take (i + 63 - i) (drop i cells)) → y ≡ get_or cells (i + x) 0
cell_is cells i {x} {y} e h =
    let inside = get_or-take (i + 63 - i) (drop i cells) x 0 (omega (arith, h, length-take (i + 63 - i) (drop i cells))) in
    e ∙ get_or_default _ x y 0 h ∙ inside ∙ get_or-drop i cells x 0

pub loop-cell-init : goal.loop-cell-init
loop-cell-init c = no_cell_passed

pub returns-then-cell-eq1 : goal.returns-then-cell-eq1
returns-then-cell-eq1 c =
    let k = c.in-Some.ensures.lookup in
    cell_found c.loop-cell.invariant (omega (arith, k)) (sym (cell_is c.args.self.now.cells (63 * c.args.j) k.1 (omega (arith, k))) ∙ c.if-cell-eq1.true)

pub loop-cell-smaller : goal.loop-cell-smaller
loop-cell-smaller c = omega (arith, c.in-Some.ensures.lookup)

pub loop-cell-preserved : goal.loop-cell-preserved
loop-cell-preserved c =
    let k = c.in-Some.ensures.lookup in
    cell_passed c.loop-cell.invariant (λ e. c.if-cell-eq1.false (cell_is c.args.self.now.cells (63 * c.args.j) k.1 (omega (arith, k)) ∙ e))

pub returns : goal.returns
returns c = row_unmarked c.loop-cell.invariant (omega (arith, c.in_default.ensures.lookup))
