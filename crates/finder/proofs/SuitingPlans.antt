-- Plans of which a test holds. A search makes its plans of a, b and d, so the test is asked of the plan that is made of these.
-- Assumes nothing.
use Prim.Native.Nat.{ℕ, ◌*◌, ◌≤◌, ◌<◌}
use native.Mathlib.Nat.{one-le-mul, mul-le-mul_left, mul-le-mul_right}
use native.Mathlib.Omega.{arith}
use mathlib.Core.Path.{◌≡◌, refl, sym, ◌∙◌}
use mathlib.Core.Bool.{Bool, true}
use mathlib.Core.List.{List}
use Rattle.scope.specs.Plans.{Pixel, plan, banks, suits_all}
use Rattle.scope.specs.Finding.{suitable}
use Rattle.scope.specs.Cycles.{suits_all_for, suitable_for}
use Rattle.scope.specs.promises.Meaning.{IsPlan}
use Rattle.scope.specs.declared.Plan.{Plan}

-- the plan that a search makes of p's numbers
abbrev pub made : Plan → Plan
made p = plan p.a p.b p.d

-- p is a plan, but for the limit on its banks, and the test holds of it
pub record Suiting (test : Plan → Bool) (p : Plan) : Type 0 where
  pub a_least : 1 ≤ p.a
  pub d_least : 1 ≤ p.d
  pub b_below : p.b < p.a
  pub holds : test (made p) ≡ true

-- it has a bank
pub suiting_banks : (test : Plan → Bool) (p : Plan) → Suiting test p → 1 ≤ banks p
unfolding banks
suiting_banks test p s = one-le-mul s.a_least s.d_least

-- numbers in range make a plan
pub made_is_plan : (a b d : ℕ) → 1 ≤ a → 1 ≤ d → b < a → a * d ≤ 1024 → IsPlan (plan a b d)
unfolding plan banks
made_is_plan a b d a_least d_least b_below most =
    record { a_least = a_least; d_least = d_least; b_below = b_below; most = most }

-- and neither a nor d is above 1024
pub a_most : (a d : ℕ) → 1 ≤ d → a * d ≤ 1024 → a ≤ 1024
a_most a d d_least most = omega (arith, mul-le-mul_left a d_least)

pub d_most : (a d : ℕ) → 1 ≤ a → a * d ≤ 1024 → d ≤ 1024
d_most a d a_least most = omega (arith, mul-le-mul_right d a_least)

-- The test goes by a, b and d, as the finder's tests do.
abbrev ByNumbers : (Plan → Bool) → Type 0
ByNumbers test = (p : Plan) → test (made p) ≡ test p

pub suitable_by_numbers : (ts : List (List Pixel)) → ByNumbers (suitable ts)
unfolding plan suits_all
suitable_by_numbers ts p = refl

pub suitable_for_by_numbers : (r : ℕ) (ts : List (List Pixel)) → ByNumbers (suitable_for r ts)
unfolding plan suits_all_for
suitable_for_by_numbers r ts p = refl

module _ (test : Plan → Bool) (by_numbers : ByNumbers test) where
  pub suiting_passes : (p : Plan) → Suiting test p → test p ≡ true
  suiting_passes p s = sym (by_numbers p) ∙ s.holds

  -- A plan that passes is a suiting plan, with whatever number of banks.
  pub passes_suiting : (p : Plan) → 1 ≤ p.a → 1 ≤ p.d → p.b < p.a → test p ≡ true → Suiting test p
  passes_suiting p a_least d_least b_below passes =
      record { a_least = a_least; d_least = d_least; b_below = b_below; holds = by_numbers p ∙ passes }

  pub plan_suiting : (q : Plan) → IsPlan q → test q ≡ true → Suiting test q
  plan_suiting q l = passes_suiting q l.a_least l.d_least l.b_below
