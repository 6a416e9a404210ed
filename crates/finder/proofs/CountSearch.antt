-- What the search among the plans with n banks gives: of those of which the test holds the one that comes before all others, if
-- there is one. This and Narrowing.antt, by which the code's loops over d and b go, is all that depends on the order among equal N.
-- Assumes nothing.
use Prim.Native.Nat.{ℕ, ◌*◌, ◌/◌, ◌%◌, ◌≤◌, ◌<◌}
use native.Mathlib.Nat.{mul-mod_left, mul-div_cancel, div-add-mod', mul-le-mul_left, mul-le-mul_right}
use native.Mathlib.Omega.{arith}
use native.Mathlib.Decide.{dec_lt}
use mathlib.Core.Path.{◌≡◌, refl, sym, ◌∙◌, subst}
use mathlib.Core.Bool.{Bool, ◌&&◌}
use mathlib.Core.Option.{none, some}
use lib.Dec.{ltb, eqb}
use Rattle.integers.proofs.Comparisons.{eqb_iff, eqb_false_iff, ltb_iff, ltb_false_iff, and_iff}
use Rattle.scope.specs.Search.{whenever}
use Rattle.scope.specs.Plans.{plan, banks}
use Rattle.scope.specs.Finding.{Before, trial, least_d, first_with}
use Rattle.scope.specs.declared.Plan.{Plan}
use Rattle.checks.proofs.Searches.{Found, first_found, first_none, whenever_none, whenever_some, true-not-false}
use Rattle.finder.proofs.SuitingPlans.{made, Suiting}

-- p is the search's own plan, suits and has n banks, and comes before every other such plan
pub record FirstWith (test : Plan → Bool) (n : ℕ) (p : Plan) : Type 0 where
  pub is_made : made p ≡ p
  pub itself : Suiting test p
  pub count : banks p ≡ n
  pub before : (q : Plan) → Suiting test q → banks q ≡ n → Before p q

module _ (test : Plan → Bool) where
  -- For a × d banks and a b below a the trial is that of a, b, d.
  pub trial_is : (a b d : ℕ) → 1 ≤ d → b < a → trial test (a * d) b d ≡ whenever (test (plan a b d)) (plan a b d)
  unfolding trial
  trial_is a b d d_least b_below =
      rw (trial, mul-div_cancel a d_least, (eqb_iff ((a * d) % d) 0).1 (mul-mod_left a d), (ltb_iff b a).1 b_below) refl

  -- With a b from a on, and with a d that does not divide n, it fails.
  pub trial_outside : (a b d : ℕ) → 1 ≤ d → a ≤ b → trial test (a * d) b d ≡ none
  unfolding trial
  trial_outside a b d d_least above =
      rw (trial, mul-div_cancel a d_least, (eqb_iff ((a * d) % d) 0).1 (mul-mod_left a d), (ltb_false_iff b a).1 above) refl

  pub trial_undivided : (n b d : ℕ) → (n % d ≡ 0 → ⊥) → trial test n b d ≡ none
  unfolding trial
  trial_undivided n b d h = rw (trial, (eqb_false_iff (n % d) 0).1 h) refl

  -- A suiting plan passes it.
  pub trial_none : (n : ℕ) (q : Plan) → Suiting test q → banks q ≡ n → trial test n q.b q.d ≡ none → ⊥
  unfolding banks
  trial_none n q s m e =
      let none_made : whenever (test (made q)) (made q) ≡ none =
      sym (trial_is q.a q.b q.d s.d_least s.b_below) ∙ (rw (m) e) in
      true-not-false (sym s.holds ∙ whenever_none (test (made q)) (made q) none_made)

  -- A plan that passes the trial is the search's own and suits, with n banks and these b and d.
  pub record Tried (n b d : ℕ) (p : Plan) : Type 0 where
    pub is_made : made p ≡ p
    pub itself : Suiting test p
    pub count : banks p ≡ n
    pub b_is : p.b ≡ b
    pub d_is : p.d ≡ d

  pub trial_some : (n b d : ℕ) (p : Plan) → 1 ≤ d → trial test n b d ≡ some p → Tried n b d p
  unfolding trial plan banks
  trial_some n b d p d_least e =
      let w = whenever_some (eqb (n % d) 0 && ltb b (n / d) && test (plan (n / d) b d)) (plan (n / d) b d) p e in
      let passed = (and_iff _ _ (and_iff _ _ (eqb_iff (n % d) 0) (ltb_iff b (n / d))) (λ h. h, λ h. h)).0 w.0 in
      subst (Tried n b d) w.1
      (record {
        is_made = refl;
        itself = record { a_least = omega (arith, passed.0.1); d_least = d_least; b_below = passed.0.1; holds = passed.1 };
        count = omega (arith, passed.0.0, div-add-mod' n d);
        b_is = refl;
        d_is = refl;
      })

  -- neither b nor d of a suiting plan is above its count
  pub d_within : (n : ℕ) (q : Plan) → Suiting test q → banks q ≡ n → q.d ≤ n
  unfolding banks
  d_within n q s m = omega (arith, m, mul-le-mul_right q.d s.a_least)

  pub b_within : (n : ℕ) (q : Plan) → Suiting test q → banks q ≡ n → q.b < n
  unfolding banks
  b_within n q s m = omega (arith, m, s.b_below, mul-le-mul_left q.a s.d_least)

  -- the search over d for one b
  least_d_none : (n : ℕ) (q : Plan) → Suiting test q → banks q ≡ n → least_d test n q.b ≡ none → ⊥
  unfolding least_d
  least_d_none n q s m e =
      trial_none n q s m (first_none 1 n (trial test n q.b) e q.d s.d_least (omega (arith, d_within n q s m)))

  -- A plan that the search finds comes first among those with n banks.
  pub first_with_some : (n : ℕ) (p : Plan) → first_with test n ≡ some p → FirstWith test n p
  unfolding first_with least_d
  first_with_some n p e =
      record {
        is_made = r.is_made;
        itself = r.itself;
        count = r.count;
        before = λ q s m.
            record {
              least_b = not_before q s m (dec_lt q.b t.where_is);
              then_d = λ same. not_sooner q s m same (dec_lt q.d u.where_is);
            };
      }
    where
      t : Found 0 n (least_d test n) p
      t = first_found 0 n (least_d test n) p e

      u : Found 1 n (trial test n t.where_is) p
      u = first_found 1 n (trial test n t.where_is) p t.here

      r : Tried n t.where_is u.where_is p
      r = trial_some n t.where_is u.where_is p u.from u.here

      not_before : (q : Plan) → Suiting test q → banks q ≡ n → Dec (q.b < t.where_is) → p.b ≤ q.b
      not_before q s m (yes k) = absurd (least_d_none n q s m (t.before q.b (omega arith) k))
      not_before q s m (no k) = omega (arith, r.b_is)

      not_sooner : (q : Plan) → Suiting test q → banks q ≡ n → p.b ≡ q.b → Dec (q.d < u.where_is) → p.d ≤ q.d
      not_sooner q s m same (yes k) =
          absurd (trial_none n q s m (rw (sym same ∙ r.b_is) (u.before q.d s.d_least k)))
      not_sooner q s m same (no k) = omega (arith, r.d_is)

  -- It finds none only where no suiting plan has n banks.
  pub first_with_none : (n : ℕ) → first_with test n ≡ none → (q : Plan) → Suiting test q → banks q ≡ n → ⊥
  unfolding first_with
  first_with_none n e q s m =
      least_d_none n q s m (first_none 0 n (least_d test n) e q.b (omega arith) (omega (arith, b_within n q s m)))
