-- What an answer tells of the search behind it, the positions of the clash that it found, and whether a plan suits, test by test.
-- Assumes nothing.
use Rattle.std.specs.Prelude.{Result, Ok, Err}
use Prim.Native.Nat.{ℕ, ◌≤◌, ◌<◌}
use native.Mathlib.Omega.{arith}
use mathlib.Core.Path.{◌≡◌, refl, sym, ◌∙◌, ap}
use mathlib.Core.Bool.{true}
use mathlib.Core.Logic.Iff
use mathlib.Core.Logic.{◌↔◌}
use mathlib.Core.Option.{Option, none, some, map}
use mathlib.Core.List.{List, [], ◌∷◌}
use lib.Dec.{leb}
use lib.ListN.{length, take, replicate}
use Rattle.scope.specs.Search.{whenever}
use Rattle.scope.specs.Plans.{Pixel, is_plan, pixels}
use Rattle.scope.specs.Banks.{over_start}
use Rattle.scope.specs.Cycles.{LongClash, shortened, followers, clash_in_for}
use Rattle.scope.specs.Numbers.{suits_test, places}
use Rattle.scope.specs.declared.Clash.{Clash}
use Rattle.scope.specs.declared.Pattern.{Pattern}
use Rattle.scope.specs.declared.Plan.{Plan}
use Rattle.scope.specs.declared.Refusal.{Refusal}
use Rattle.scope.specs.declared.Refusal.TheVariants.{Unsuited}
use Rattle.scope.proofs.PlanFacts.{is_plan_iff}
use Rattle.checks.proofs.Booleans.{last_test, test_before}
use Rattle.checks.proofs.BookTests.{count_legal_iff}
use Rattle.checks.proofs.Chains.{chain_refuses, chain_goes_on, chain_of_one}
use Rattle.checks.proofs.ClashAnswers.{beside_none, beside_some}
use Rattle.checks.proofs.Searches.{none_not_some, some_injective, Found, first_found, whenever_some}
use Rattle.checks.proofs.Tests.{cycles_legal_iff, plan_legal_iff}
use Rattle.book.specs.Scan.{outcome_of}
use Rattle.book.proofs.Outcomes.{answered_by_refusal, answered_by_done, refused_found}
use Rattle.lattice.proofs.TestMeanings.{suits_test_none_iff}
use Rattle.finder.specs.Clashing.{met_at, single_test, suits_outcome, suits_positions}
use Rattle.std.specs.Prelude.{Option as Optional, Some, None}

-- An answer tells what the search found.
at_not_nowhere : {c : Clash} → Some c ≡ None → ⊥
at_not_nowhere e = let z : ◌≡◌ {A = ℕ} 0 1 = cc in omega arith

module _ {met : Optional Clash} where
  pub at_found : {c : Clash} (o : Option Clash) → met ≡ met_at o → met ≡ Some c → o ≡ some c
  unfolding met_at
  at_found none answer here = absurd (at_not_nowhere (sym here ∙ answer))
  at_found (some d) answer here = cc

  pub nowhere_found : (o : Option Clash) → met ≡ met_at o → met ≡ None → o ≡ none
  unfolding met_at
  nowhere_found none answer nowhere = refl
  nowhere_found (some d) answer nowhere = absurd (at_not_nowhere (sym answer ∙ nowhere))

  -- of a clash for r it has the first two positions
  pub at_clash :
      {c : Clash} (o : Option LongClash) → met ≡ met_at (map shortened o) → met ≡ Some c
      → (l : LongClash) × (o ≡ some l) × (c ≡ shortened l)
  at_clash none answer here = absurd (none_not_some (at_found none answer here))
  at_clash (some l) answer here = (l, refl, some_injective (sym (at_found (some (shortened l)) answer here)))

  pub nowhere_clash : (o : Option LongClash) → met ≡ met_at (map shortened o) → met ≡ None → o ≡ none
  nowhere_clash none answer nowhere = refl
  nowhere_clash (some l) answer nowhere = absurd (none_not_some (sym (nowhere_found (some (shortened l)) answer nowhere)))

-- The clash for r of a pattern begins with a position of it, and goes on with the first r of its followers.
module _
    (r : ℕ) (p : Plan) (n : ℕ) (t : List Pixel) {l : LongClash} (found : clash_in_for r p n t ≡ some l) {c : Clash} (is : c ≡ shortened l) where
  abbrev from : ℕ → LongClash
  from e = record { pattern = n; positions = e ∷ take r (followers p t e) }

  begins : (c.earlier < length t) × (l.positions ≡ c.earlier ∷ take r (followers p t c.earlier))
  unfolding clash_in_for shortened
  begins =
      let f : Found 0 (length t) (λ e. whenever (leb r (length (followers p t e))) (from e)) l = first_found 0 (length t) _ l found in
      let clash_is : from f.where_is ≡ l = (whenever_some (leb r (length (followers p t f.where_is))) _ l f.here).1 in
      let first : c.earlier ≡ f.where_is = ap (λ (c : Clash). c.earlier) (is ∙ ap shortened (sym clash_is)) in
      (omega (arith, f.below, first), rw first (sym (ap (λ (l : LongClash). l.positions) clash_is)))

  pub begins_below : c.earlier < length t
  begins_below = begins.0

  -- so the positions of its class are those of the clash
  pub class_is_clash :
      {positions : List ℕ} → positions ≡ over_start (c.earlier ∷ take r (followers p t c.earlier)) (replicate 9 0) → positions ≡ places (some l)
  unfolding places
  class_is_clash placed = placed ∙ sym (ap (λ (es : List ℕ). over_start es (replicate 9 0)) begins.1)

-- The tests of a pattern, r and a plan by themselves find nothing exactly where each is legal.
pub record SingleLegal (p : Plan) (t : Pattern) (r : ℕ) : Type 0 where
  pub least : 1 ≤ t.used
  pub most : t.used ≤ 64
  pub cycles_least : 1 ≤ r
  pub cycles_most : r ≤ 8
  pub plan : is_plan p ≡ true

pub single_legal_iff : (p : Plan) (t : Pattern) (r : ℕ) → (single_test p t r ≡ none) ↔ SingleLegal p t r
unfolding single_test
single_legal_iff p t r =
    Iff.trans (test_before (count_legal_iff 64 t.used 0) (test_before (cycles_legal_iff r) (last_test (plan_legal_iff p)))).iff (
      λ h. record { least = h.0.0; most = h.0.1; cycles_least = h.1.0.0; cycles_most = h.1.0.1; plan = (is_plan_iff p).1 h.1.1 },
      λ h. ((h.least, h.most), ((h.cycles_least, h.cycles_most), (is_plan_iff p).0 h.plan)),
    )

-- Whether a plan suits a pattern, with the positions of the clash: what these tests found, then what the search found.
module _ (p : Plan) (n : ℕ) (t : Pattern) (r : ℕ) where
  abbrev Told : Result Unit Refusal → List ℕ → Type 0
  Told outcome positions = (outcome ≡ suits_outcome p n t r) × (positions ≡ suits_positions p n t r)

  pub refused_first : {outcome : Result Unit Refusal} {f : Refusal} → outcome ≡ outcome_of (single_test p t r) → outcome ≡ Err f → Told outcome (replicate 9 0)
  unfolding suits_outcome suits_positions places
  refused_first {f} answer refused =
      let found : single_test p t r ≡ some f = refused_found (single_test p t r) answer refused in (
        refused ∙ answered_by_refusal _ f (chain_refuses (single_test p t r) (suits_test r p n t ∷ []) f found),
        sym (beside_some (single_test p t r) (clash_in_for r p n (pixels t)) f found),
      )

  module _ (passed : single_test p t r ≡ none) where
    pub only_10 : suits_outcome p n t r ≡ outcome_of (suits_test r p n t)
    unfolding suits_outcome
    only_10 = ap outcome_of (chain_goes_on (single_test p t r) (suits_test r p n t ∷ []) passed ∙ chain_of_one (suits_test r p n t))

    pub only_clash : suits_positions p n t r ≡ places (clash_in_for r p n (pixels t))
    unfolding suits_positions
    only_clash = beside_none (single_test p t r) (clash_in_for r p n (pixels t)) passed

    pub suits_clash : (l : LongClash) → clash_in_for r p n (pixels t) ≡ some l → Told (Err (Unsuited (shortened l))) (places (some l))
    unfolding suits_test
    suits_clash l e =
        let found : suits_test r p n t ≡ some (Unsuited (shortened l)) = rw (e, suits_test) in (
          answered_by_refusal (suits_test r p n t) _ found ∙ sym only_10,
          ap places (sym e) ∙ sym only_clash,
        )

    pub suits_done : clash_in_for r p n (pixels t) ≡ none → Told (Ok tt) (replicate 9 0)
    unfolding places
    suits_done e = (
      answered_by_done (suits_test r p n t) ((suits_test_none_iff r p n t).1 e) ∙ sym only_10,
      ap places (sym e) ∙ sym only_clash,
    )
