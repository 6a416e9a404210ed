-- `finder::cells::entry_of` meets its contract: entry 0 is the count, entry k the cell of pixel k - 1, or 0 past the pixels.
-- Assumes nothing.
use Prim.Native.Nat.{◌-◌}
use native.Mathlib.Omega.{arith}
use mathlib.Core.Path.{◌∙◌, ap}
use mir.Syntax.{w8}
use Rattle.scope.specs.Plans.{at, pixel_at}
use Rattle.scope.proofs.PlanFacts.{entry_handed}
use Rattle.book.specs.Scan.{cell_of}
use Rattle.finder.proofs.BookCells.{count_entry, pixel_entry, empty_entry}
use Rattle.finder.proofs.cells.entry_of.Goals as goal

pub returns-then-k-eq0 : goal.returns-then-k-eq0
returns-then-k-eq0 c = count_entry _ _ c.if-k-eq0.true

pub returns-then-t-k : goal.returns-then-t-k
returns-then-t-k c =
    let k = c.args.k in
    empty_entry _ k (k - 1) (omega (arith, c.if-k-eq0.false)) (omega (arith, c.if-t-k.true, c.if-k-eq0.false))

pub returns : goal.returns
unfolding pixel_at at
returns c =
    c.cell.ensures
    ∙ ap cell_of (entry_handed w8 _ _ c.i-1.given c.j-1.given)
    ∙ pixel_entry c.args.t c.args.k _
    (omega (arith, c.if-k-eq0.false))
    (omega (arith, c.if-t-k.false, c.if-k-eq0.false))

pub bounds-t-e : goal.bounds-t-e
bounds-t-e c =
    omega arith

pub bounds-t-e-2 : goal.bounds-t-e-2
bounds-t-e-2 c =
    omega arith
