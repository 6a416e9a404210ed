-- `finder::counting::CellsTrial::least_b` meets its contract. The loop's invariant: it ends at the smaller of `below` and a, the tables
-- are of a plan with a and d, and no plan with a smaller b suits for r.
-- Assumes nothing.
use Prim.Native.Nat.{ℕ}
use native.Mathlib.Omega.{arith}
use mathlib.Core.Path.{◌≡◌, refl, ◌∙◌, ap, ap₂}
use mathlib.Core.Bool.{Bool, not}
use mathlib.Core.List.{List}
use Rattle.scope.specs.Search.{some_below}
use Rattle.scope.specs.Plans.{plan}
use Rattle.scope.specs.Cycles.{suits_for}
use Rattle.scope.specs.declared.Plan.{Plan}
use Rattle.finder.specs.Counting.{pattern_in}
use Rattle.finder.specs.Searching.{least_below}
use Rattle.finder.proofs.PlanLoops.{none_yet, one_more_none, found_at, found_nowhere, none_below}
use Rattle.finder.proofs.CountedPlans.{crowded_none, uncrowded_found}
use Rattle.finder.proofs.counting.CellsTrial.least_b.Goals as goal

pub loop-b-init : goal.loop-b-init
unfolding plan
loop-b-init c = (
  omega arith,
  omega arith,
  ap (λ (p : Plan). p.a) c.of-tables.ensures,
  ap (λ (p : Plan). p.d) c.of-tables.ensures,
  none_yet _ 0,
)

pub slant-requires : goal.slant-requires
slant-requires c = omega (arith, c.loop-b.invariant.0, c.loop-b.invariant.2, c.loop-b-test.true)

-- the plan on trial, and what is said of it
slanted : {p : Plan} {a d x z : ℕ} (b : ℕ) → p ≡ plan x b z → x ≡ a → z ≡ d → p ≡ plan a b d
slanted b is a-is d-is = is ∙ ap₂ (λ (a d : ℕ). plan a b d) a-is d-is

crowded_is :
    {p q : Plan} (r : ℕ) (entries : List ℕ) {x : Bool} → p ≡ q → x ≡ some_below 16 (λ n. not (suits_for r p (pattern_in entries n)))
    → x ≡ some_below 16 (λ n. not (suits_for r q (pattern_in entries n)))
crowded_is r entries e is = is ∙ ap (λ (p : Plan). some_below 16 (λ n. not (suits_for r p (pattern_in entries n)))) e

pub returns-then-not-book_crowded : goal.returns-then-not-book_crowded
unfolding least_below
returns-then-not-book_crowded c =
    let l = c.loop-b in
    let is = slanted l.b c.slant.ensures l.invariant.2 l.invariant.3 in
    rw is (found_at _ 0 c.args.below _ l.invariant.4 (omega arith) (omega (arith, l.invariant.0, c.loop-b-test.true))
    (uncrowded_found c.requires.1 (omega (arith, l.invariant.0, c.loop-b-test.true)) (crowded_is c.args.self.now.r c.args.self.now.entries is c.book_crowded.ensures)
    (ap not c.if-not-book_crowded.true)) refl)

pub loop-b-preserved : goal.loop-b-preserved
unfolding plan
loop-b-preserved c =
    let l = c.loop-b in
    let is = slanted l.b c.slant.ensures l.invariant.2 l.invariant.3 in (
      l.invariant.0,
      omega (arith, c.loop-b-test.true),
      ap (λ (p : Plan). p.a) is,
      ap (λ (p : Plan). p.d) is,
      one_more_none _ 0 _ l.invariant.4 (crowded_none c.requires.1 (omega (arith, l.invariant.0, c.loop-b-test.true)) (crowded_is c.args.self.now.r c.args.self.now.entries is c.book_crowded.ensures) (ap not c.if-not-book_crowded.false)) refl,
    )

pub returns : goal.returns
unfolding least_below
returns c =
    let m = c.args.below in
    found_nowhere _ 0 m m
    (none_below c.args.a c.args.d m c.loop-b.b c.requires.1 (omega (arith, c.loop-b.invariant.0, c.loop-b-test.false)) c.loop-b.invariant.4)
    (omega arith)
