-- `finder::cells::Cells::put_entries` meets its contract. The loop's invariant: the first e entries are put.
-- Assumes nothing.
use Prim.Native.Nat.{ℕ}
use native.Mathlib.Omega.{arith}
use mathlib.Core.Path.{◌≡◌, refl, subst}
use Rattle.finder.specs.Counting.{EntriesPut}
use Rattle.finder.proofs.BookCells.{none_put, one_more_put}
use Rattle.finder.proofs.cells.Cells.put_entries.Goals as goal

pub loop-e-init : goal.loop-e-init
loop-e-init c = (none_put _, refl)

pub loop-e-preserved : goal.loop-e-preserved
loop-e-preserved c = (one_more_put _ c.loop-e.invariant.0 (omega (arith, c.loop-e.invariant.0.size)) c.entry_of.ensures, c.loop-e.invariant.1)

pub returns : goal.returns
returns c =
    let u = c.args in
    let all : c.loop-e.e ≡ 65 = omega (arith, c.loop-e-test.false) in
    (subst (λ (m : ℕ). EntriesPut u.t u.n m u.self.now.entries c.loop-e.self.entries) all c.loop-e.invariant.0, c.loop-e.invariant.1)
