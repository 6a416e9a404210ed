-- `finder::finding::first_with` meets its contract. The loop's invariant: the best plan so far is that of the d's before this one, and
-- the next one must have a smaller b.
-- Assumes nothing.
use Rattle.std.specs.Prelude.{Result, Ok, Err}
use Prim.Native.Nat.{ℕ, ◌+◌, ◌-◌, ◌≤◌}
use native.Mathlib.Nat.{le-div_iff_mul-le, div-add-mod', add-sub_cancel}
use native.Mathlib.Omega.{arith}
use mathlib.Core.Path.{◌≡◌, refl}
use mathlib.Core.Bool.{Bool}
use Rattle.scope.specs.declared.Plan.{Plan}
use Rattle.scope.specs.declared.Refusal.{Refusal}
use Rattle.finder.specs.Searching.{least_below, Searched}
use Rattle.finder.proofs.PlanLoops.{BestIn, none_best, best_replaced, best_stays, best_at_end, divisor_searched, no_divisor_none}
use Rattle.finder.proofs.finding.first_with.Goals.{then-n-d-eq0+in-Ok, then-n-d-eq0+in_default, else-n-d-eq0}
use Rattle.finder.proofs.finding.first_with.Goals as goal

-- a turn with this d: a plan with a smaller b replaces the best one, else that one stays
module _ {Tests : (Plan → Bool) → Type 0} (n d : ℕ) {best r : Result Plan Refusal} {below : ℕ} (least : 1 ≤ d)
    (before : BestIn Tests n (d - 1) best below) (here : Searched Tests (λ test. least_below test n d below) r) where
  next : d - 1 + 1 ≡ d
  next = omega arith

  searched : Searched Tests (λ test. least_below test n (d - 1 + 1) below) r
  searched = rw next here

  replaced : {p : Plan} → r ≡ Ok p → BestIn Tests n d (Ok p) p.b
  replaced is = rw next at (best_replaced n (d - 1) before searched is)

  stays : {x : Refusal} → r ≡ Err x → BestIn Tests n d best below
  stays is = rw next at (best_stays n (d - 1) before searched is)

pub loop-d-init : goal.loop-d-init
loop-d-init g c = (omega arith, none_best _)

pub least_b-p-requires : goal.least_b-p-requires
least_b-p-requires g c = (
  (le-div_iff_mul-le {k = c.loop-d.d} (omega arith)).1 (omega arith),
  omega arith,
  omega (arith, div-add-mod' c.args.n c.loop-d.d),
)

pub loop-d-preserved : goal.loop-d-preserved
loop-d-preserved g c =
    let n = c.args.n in
    let d = c.loop-d.d in
    let before = c.loop-d.invariant.1 in (
      omega arith,
      rw (add-sub_cancel d 1) (elim c.if-n-d-eq0.branch [
        | then-n-d-eq0+in-Ok w ↦ rw (w.best-is, w.below-is) (replaced n d (omega arith) before (divisor_searched n d _ w.if-n-d-eq0.true w.least_b-p.ensures) w.in-Ok.is)
        | then-n-d-eq0+in_default w ↦ rw (w.best-is, w.below-is) (stays n d (omega arith) before (divisor_searched n d _ w.if-n-d-eq0.true w.least_b-p.ensures) w.in_default.is)
        | else-n-d-eq0 w ↦ rw (w.best-is, w.below-is) (stays n d (omega arith) before (no_divisor_none n d _ w.if-n-d-eq0.false) refl)
      ]),
    )

-- the last d was looked at
pub returns-after-n-d-eq0 : goal.returns-after-n-d-eq0
returns-after-n-d-eq0 g c =
    let n = c.args.n in
    let d = c.loop-d.d in
    let before = c.loop-d.invariant.1 in
    elim c.if-n-d-eq0.branch [
      | then-n-d-eq0+in-Ok w ↦ rw w.best-is (best_at_end n (replaced n d (omega arith) before (divisor_searched n d _ w.if-n-d-eq0.true w.least_b-p.ensures) w.in-Ok.is) (omega arith))
      | then-n-d-eq0+in_default w ↦ rw w.best-is (best_at_end n (stays n d (omega arith) before (divisor_searched n d _ w.if-n-d-eq0.true w.least_b-p.ensures) w.in_default.is) (omega arith))
      | else-n-d-eq0 w ↦ rw w.best-is (best_at_end n (stays n d (omega arith) before (no_divisor_none n d _ w.if-n-d-eq0.false) refl) (omega arith))
    ]

pub returns : goal.returns
returns g c = best_at_end _ c.loop-d.invariant.1 (omega arith)
