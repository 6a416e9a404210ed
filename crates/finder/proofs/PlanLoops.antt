-- What a loop over plans answers at the first plan that it finds and at its end, for any tests of plans.
-- Assumes nothing.
use Rattle.std.specs.Prelude.{Result, Ok, Err}
use Prim.Native.Nat.{ℕ, ◌+◌, ◌*◌, ◌/◌, ◌%◌, min, ◌≤◌, ◌<◌}
use native.Mathlib.Nat.{div-add-mod'}
use native.Mathlib.Omega.{arith}
use native.Mathlib.Decide.{dec_lt, ℕ_discrete}
use mathlib.Core.Path.{◌≡◌, refl, sym, ◌∙◌, ap, subst}
use mathlib.Core.Bool.{Bool}
use mathlib.Core.Option.{Option, none, some}
use Rattle.scope.specs.Search.{first, whenever}
use Rattle.scope.specs.Plans.{plan}
use Rattle.scope.specs.Finding.{trial, first_with}
use Rattle.scope.specs.Calls.{found}
use Rattle.scope.specs.declared.Plan.{Plan}
use Rattle.scope.specs.declared.Refusal.{Refusal}
use Rattle.checks.proofs.Searches.{found_first, none_first}
use Rattle.finder.specs.Searching.{least_below, Searched}
use Rattle.finder.proofs.CountSearch.{trial_is, trial_outside, trial_undivided}
use Rattle.finder.proofs.Narrowing.{SoFar, none_so_far, replaced, kept, best_is_first}
use Rattle.finder.proofs.FindAnswers.{plan_found, none_found}

-- the answer of a search that found nothing
abbrev pub no_plan : Result Plan Refusal
no_plan = Err Refusal.NoPlan

-- the answer for what a search found
found_some : {p : Plan} {o : Option Plan} → o ≡ some p → Ok p ≡ found o
unfolding found
found_some e = sym (ap found e)

found_none : {o : Option Plan} → o ≡ none → no_plan ≡ found o
unfolding found
found_none e = sym (ap found e)

-- what holds for each of some tests holds for fewer
pub searched_by :
    {Tests Fewer : (Plan → Bool) → Type 0} {searched : (Plan → Bool) → Option Plan} {r : Result Plan Refusal}
    → ((test : Plan → Bool) → Fewer test → Tests test) → Searched Tests searched r → Searched Fewer searched r
searched_by among s = record { is = λ test t. s.is test (among test t) }

-- A search by number: the numbers from k on and below e give nothing.
pub record NoneFrom (Tests : (Plan → Bool) → Type 0) (f : (Plan → Bool) → ℕ → Option Plan) (k e : ℕ) : Type 0 where
  pub each : (c : ℕ) → k ≤ c → c < e → Searched Tests (λ test. f test c) no_plan

module _ {Tests : (Plan → Bool) → Type 0} (f : (Plan → Bool) → ℕ → Option Plan) where
  pub none_yet : (k : ℕ) → NoneFrom Tests f k k
  none_yet k = record { each = λ c p q. absurd (omega arith) }

  -- nor does e, which was turned down
  pub one_more_none :
      (k e : ℕ) {r : Result Plan Refusal} {x : Refusal} → NoneFrom Tests f k e → Searched Tests (λ test. f test e) r → r ≡ Err x
      → NoneFrom Tests f k (e + 1)
  one_more_none k e before here refused = record { each = λ c p q. by_place c p q (ℕ_discrete c e) }
    where
      by_place : (c : ℕ) → k ≤ c → c < e + 1 → Dec (c ≡ e) → Searched Tests (λ test. f test c) no_plan
      by_place c p q (yes d) = record { is = λ test t. found_none (ap (f test) d ∙ none_found (f test e) (here.is test t) refused) }
      by_place c p q (no d) = before.each c p (omega arith)

  -- the first number that gives a plan
  pub found_at :
      (k n e : ℕ) {r : Result Plan Refusal} {p : Plan} → NoneFrom Tests f k e → k ≤ e → e < k + n → Searched Tests (λ test. f test e) r
      → r ≡ Ok p → Searched Tests (λ test. first k n (f test)) r
  found_at k n e {p} before from below here is_plan_lem =
      record {
        is = λ test t.
            is_plan_lem ∙ found_some (found_first k n (f test) p (record {
              where_is = e;
              from = from;
              below = below;
              here = plan_found (f test e) (here.is test t) is_plan_lem;
              before = λ c u v. none_found (f test c) ((before.each c u v).is test t) refl;
            }));
      }

  pub found_nowhere : (k n e : ℕ) → NoneFrom Tests f k e → k + n ≤ e → Searched Tests (λ test. first k n (f test)) no_plan
  found_nowhere k n e before all =
      record {
        is = λ test t.
            found_none (none_first k n (f test) (λ c u v. none_found (f test c) ((before.each c u (omega arith)).is test t) refl));
      }

module _ {Tests : (Plan → Bool) → Type 0} where
  -- A plan on trial is found exactly if the tests hold of it; x is what each of them says.
  pub trial_gives :
      {a b d : ℕ} {x : Bool} → 1 ≤ d → b < a → ((test : Plan → Bool) → Tests test → test (plan a b d) ≡ x)
      → Searched Tests (λ test. trial test (a * d) b d) (found (whenever x (plan a b d)))
  trial_gives {a} {b} {d} d_least b_below says =
      record {
        is = λ test t.
            ap (λ (y : Bool). found (whenever y (plan a b d))) (sym (says test t)) ∙ ap found (sym (trial_is test a b d d_least b_below));
      }

  -- No plan with this a has a b from a on: the b's below m and a are all the b's below m.
  pub none_below :
      (a d m e : ℕ) → 1 ≤ d → e ≡ min m a → NoneFrom Tests (λ test b. trial test (a * d) b d) 0 e
      → NoneFrom Tests (λ test b. trial test (a * d) b d) 0 m
  none_below a d m e d_least end before = record { each = λ b p q. by_b b q (dec_lt b a) }
    where
      by_b : (b : ℕ) → b < m → Dec (b < a) → Searched Tests (λ test. trial test (a * d) b d) no_plan
      by_b b q (yes k) = before.each b (omega arith) (omega arith)
      by_b b q (no k) = record { is = λ test t. found_none (trial_outside test a b d d_least (omega arith)) }

  -- For a d that divides n the search over b is made; for any other it finds nothing.
  pub divisor_searched :
      (n d m : ℕ) {r : Result Plan Refusal} → n % d ≡ 0 → Searched Tests (λ test. least_below test (n / d * d) d m) r
      → Searched Tests (λ test. least_below test n d m) r
  divisor_searched n d m {r} divides s =
      let whole : n / d * d ≡ n = omega (arith, divides, div-add-mod' n d) in
      subst (λ (k : ℕ). Searched Tests (λ test. least_below test k d m) r) whole s

  pub no_divisor_none : (n d m : ℕ) → (n % d ≡ 0 → ⊥) → Searched Tests (λ test. least_below test n d m) no_plan
  unfolding least_below
  no_divisor_none n d m h =
      record { is = λ test t. found_none (none_first 0 m (λ b. trial test n b d) (λ b p q. trial_undivided test n b d h)) }

-- The best plan of n banks with d from 1 to e, and the b below which a next one is looked for.
pub record BestIn (Tests : (Plan → Bool) → Type 0) (n e : ℕ) (best : Result Plan Refusal) (below : ℕ) : Type 0 where
  pub found_so_far : (test : Plan → Bool) → Tests test → (o : Option Plan) × (best ≡ found o) × SoFar test n e below o

module _ {Tests : (Plan → Bool) → Type 0} (n : ℕ) where
  pub none_best : BestIn Tests n 0 no_plan n
  unfolding found
  none_best = record { found_so_far = λ test t. (none, refl, none_so_far test n) }

  -- the next d: a plan with a smaller b replaces the best one, else that one stays
  module _ (e : ℕ) {best r : Result Plan Refusal} {below : ℕ} (before : BestIn Tests n e best below)
      (here : Searched Tests (λ test. least_below test n (e + 1) below) r) where
    pub best_replaced : {p : Plan} → r ≡ Ok p → BestIn Tests n (e + 1) (Ok p) p.b
    unfolding found
    best_replaced {p} is_plan_lem =
        record {
          found_so_far = λ test t.
              let (o, is, so_far) = before.found_so_far test t in
              let h = plan_found (least_below test n (e + 1) below) (here.is test t) is_plan_lem in
              (some p, refl, replaced test n e below o p so_far h);
        }

    pub best_stays : {x : Refusal} → r ≡ Err x → BestIn Tests n (e + 1) best below
    best_stays refused =
        record {
          found_so_far = λ test t.
              let (o, is, so_far) = before.found_so_far test t in
              let h = none_found (least_below test n (e + 1) below) (here.is test t) refused in
              (o, is, kept test n e below o so_far h);
        }

  -- once every d was looked at
  pub best_at_end :
      {e : ℕ} {best : Result Plan Refusal} {below : ℕ} → BestIn Tests n e best below → e ≡ n → Searched Tests (λ test. first_with test n) best
  best_at_end {e} {best} {below} before all =
      record {
        is = λ test t.
            let (o, is, so_far) = before.found_so_far test t in
            is ∙ ap found (best_is_first test n below o (subst (λ (k : ℕ). SoFar test n k below o) all so_far));
      }
