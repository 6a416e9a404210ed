-- What a plan's methods answer: by 11 and 12, the first tests of a call on a picture, and by 14 of one pixel.
-- Assumes nothing.
use Prim.Native.Nat.{ℕ}
use mathlib.Core.Path.{◌≡◌, refl, sym, ◌∙◌, ap}
use mathlib.Core.Bool.{Bool, true, false, not, ◌&&◌}
use mathlib.Core.Option.{Option, none, some}
use mathlib.Core.List.{List, [], ◌∷◌}
use borrow.Author.Tests.{not-true, not-false}
use Rattle.scope.specs.Search.{whenever, first_of, every}
use Rattle.scope.specs.Plans.{Pixel, at, is_plan}
use Rattle.scope.specs.Banks.{inside}
use Rattle.scope.specs.Numbers.{is_side, plan_test, sides_test, outside_test}
use Rattle.scope.specs.Calls.{answered, address_test}
use Rattle.scope.specs.declared.Plan.{Plan}
use Rattle.scope.specs.declared.Refusal.{Refusal}
use Rattle.std.specs.Prelude.{Result, Ok, Err}
use Rattle.scope.specs.declared.formulas.Layout.{Layout}
use Rattle.scope.specs.declared.formulas.Spot.{Spot}
use Rattle.scope.specs.declared.Refusal.TheVariants.{NotPlan, Sides, Outside}
use Rattle.scope.proofs.Chains.{whenever_none, none_whenever, some_whenever, chain_none_iff, chain_refuses, chain_goes_on, chain_of_one}
use Rattle.scope.proofs.Chains.{tests_as_one, gives_value, gives_refusal, done_found_nothing}

-- the code asks `!r` for a test t whose value r a callee gave
pub fails : {r t : Bool} → r ≡ t → not r ≡ true → t ≡ false
fails {r} e h = sym e ∙ not-true r h

pub holds : {r t : Bool} → r ≡ t → not r ≡ false → t ≡ true
holds {r} e h = sym e ∙ not-false r h

-- a test that demands b
module _ (b : Bool) (r : Refusal) where
  pub demand_met : b ≡ true → whenever (not b) r ≡ none
  demand_met e = none_whenever (not b) r (ap not e)

  pub demand_fails : b ≡ false → whenever (not b) r ≡ some r
  demand_fails e = some_whenever (not b) r (ap not e)

  demanded : whenever (not b) r ≡ none → b ≡ true
  demanded e = not-false b (whenever_none (not b) r e)

-- 11 and 12
module _ (p : Plan) (W H : ℕ) where
  abbrev pub picture_tests : Option Refusal
  picture_tests = first_of (plan_test p ∷ sides_test W H ∷ [])

  -- by the plan and the sides
  pub no_plan_lem : is_plan p ≡ false → picture_tests ≡ some NotPlan
  unfolding plan_test
  no_plan_lem e = chain_refuses _ (sides_test W H ∷ []) NotPlan (demand_fails (is_plan p) NotPlan e)

  module _ (plan : is_plan p ≡ true) where
    past_plan : picture_tests ≡ sides_test W H
    unfolding plan_test
    past_plan =
        chain_goes_on _ (sides_test W H ∷ []) (demand_met (is_plan p) NotPlan plan) ∙ chain_of_one (sides_test W H)

    pub no_sides : is_side W && is_side H ≡ false → picture_tests ≡ some Sides
    unfolding sides_test
    no_sides e = past_plan ∙ demand_fails (is_side W && is_side H) Sides e

    pub both_pass : is_side W && is_side H ≡ true → picture_tests ≡ none
    unfolding sides_test
    both_pass e = past_plan ∙ demand_met (is_side W && is_side H) Sides e

  pub both_passed : picture_tests ≡ none → (is_plan p ≡ true) × (is_side W && is_side H ≡ true)
  unfolding plan_test sides_test
  both_passed e =
      let (plan, sides) = (chain_none_iff (plan_test p) (sides_test W H ∷ [])).0 e in
      (demanded (is_plan p) NotPlan plan, demanded (is_side W && is_side H) Sides (sym (chain_of_one (sides_test W H)) ∙ sides))

  -- what a call that begins with them answers
  module _ {A : Type 0} (refused : Refusal → A) (x : A) (rest : List (Option Refusal)) where
    abbrev answer : A
    answer = answered (first_of (plan_test p ∷ sides_test W H ∷ rest)) refused x

    as_one : first_of (plan_test p ∷ sides_test W H ∷ rest) ≡ first_of (picture_tests ∷ rest)
    as_one = tests_as_one [] (plan_test p ∷ sides_test W H ∷ []) rest

    pub refused_first : {r : Refusal} → picture_tests ≡ some r → refused r ≡ answer
    refused_first {r} e = gives_refusal (as_one ∙ chain_refuses picture_tests rest r e) refused x

    pub past_first : picture_tests ≡ none → answer ≡ answered (first_of rest) refused x
    past_first e = ap (λ (t : Option Refusal). answered t refused x) (as_one ∙ chain_goes_on picture_tests rest e)

-- 14
every_one : {A : Type 0} (f : A → Bool) (x : A) → every f (x ∷ []) ≡ f x
unfolding every
every_one f x = by_value (f x)
  where
    by_value : (b : Bool) → elim b [ true ↦ true | false ↦ false ] ≡ b
    by_value true = refl
    by_value false = refl

pub outside_one : (W H : ℕ) (v : Pixel) → outside_test W H (v ∷ []) ≡ whenever (not (inside W H v)) Outside
unfolding outside_test
outside_one W H v = ap (λ (b : Bool). whenever (not b) Outside) (every_one (inside W H) v)

-- 11, 12 and 14
module _ (p : Plan) (W H : ℕ) (v : Pixel) where
  as_two : address_test p W H v ≡ first_of (picture_tests p W H ∷ outside_test W H (v ∷ []) ∷ [])
  as_two = tests_as_one [] (plan_test p ∷ sides_test W H ∷ []) (outside_test W H (v ∷ []) ∷ [])

  one_left : first_of (outside_test W H (v ∷ []) ∷ []) ≡ whenever (not (inside W H v)) Outside
  one_left = chain_of_one (outside_test W H (v ∷ [])) ∙ outside_one W H v

  pub pixel_refused_first : {r : Refusal} → picture_tests p W H ≡ some r → address_test p W H v ≡ some r
  pixel_refused_first {r} e = as_two ∙ chain_refuses (picture_tests p W H) (outside_test W H (v ∷ []) ∷ []) r e

  module _ (passed : picture_tests p W H ≡ none) where
    past_picture : address_test p W H v ≡ whenever (not (inside W H v)) Outside
    past_picture = as_two ∙ chain_goes_on (picture_tests p W H) (outside_test W H (v ∷ []) ∷ []) passed ∙ one_left

    pub pixel_outside : inside W H v ≡ false → address_test p W H v ≡ some Outside
    pixel_outside e = past_picture ∙ demand_fails (inside W H v) Outside e

    pub pixel_passes : inside W H v ≡ true → address_test p W H v ≡ none
    pixel_passes e = past_picture ∙ demand_met (inside W H v) Outside e

  pub pixel_passed : address_test p W H v ≡ none → (is_plan p ≡ true) × (is_side W && is_side H ≡ true) × (inside W H v ≡ true)
  pixel_passed e =
      let (picture, pixel) = (chain_none_iff (picture_tests p W H) (outside_test W H (v ∷ []) ∷ [])).0 (sym as_two ∙ e) in
      let (plan, sides) = both_passed p W H picture in
      (plan, sides, demanded (inside W H v) Outside (sym one_left ∙ pixel))

  abbrev pub pixel_outcome : Result Unit Refusal
  pixel_outcome = answered (address_test p W H v) Err (Ok tt)

  pub pixel_done : {o : Result Unit Refusal} → o ≡ pixel_outcome → o ≡ Ok tt
      → (is_plan p ≡ true) × (is_side W && is_side H ≡ true) × (inside W H v ≡ true)
  pixel_done is e = pixel_passed (done_found_nothing (address_test p W H v) is e)

-- What a layout and a spot are: 11 and 12 are passed, and 14
pub layout_passes : (l : Layout) → picture_tests l.tested.plan l.w l.h ≡ none
layout_passes l = both_pass l.tested.plan l.w l.h l.tested.is l.sides

pub spot_passes : (s : Spot) → address_test s.layout.tested.plan s.layout.w s.layout.h (at s.i s.j) ≡ none
spot_passes s = let l = s.layout in pixel_passes l.tested.plan l.w l.h (at s.i s.j) (layout_passes l) s.there

-- What a call by the three answers: the refusal that they found for u, which it was handed for v, or the value of a spot.
module _ {A X : Type 0} (refused : Refusal → A) (given : X → A) (f : Plan → ℕ → ℕ → Pixel → X) where
  abbrev told : Plan → ℕ → ℕ → Pixel → A
  told p W H v = answered (address_test p W H v) refused (given (f p W H v))

  pub refusal_told :
      (p : Plan) (W H : ℕ) {v u : Pixel} → u ≡ v → {r : Refusal} → address_test p W H u ≡ some r → refused r ≡ told p W H v
  refusal_told p W H {v} same e = gives_refusal (rw same at e) refused (given (f p W H v))

  pub value_told :
      (s : Spot) {p : Plan} {W H : ℕ} {v u : Pixel} → u ≡ v
      → (s.layout.tested.plan ≡ p) × (s.layout.w ≡ W) × (s.layout.h ≡ H) × (at s.i s.j ≡ u)
      → {x : X} → x ≡ f s.layout.tested.plan s.layout.w s.layout.h (at s.i s.j) → given x ≡ told p W H v
  value_told s same (plan, width, height, pixel) e =
      rw (← same, ← plan, ← width, ← height, ← pixel) (gives_value (spot_passes s) refused (ap given e))
