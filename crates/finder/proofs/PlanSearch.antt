-- What the search of plans gives, for any test: of the plans of which it holds the one with least count, which comes before all
-- others with this count, if there is one within the limit.
-- Assumes nothing.
use Prim.Native.Nat.{ℕ, ◌/◌, ◌%◌, ◌≤◌, ◌<◌}
use native.Mathlib.Omega.{arith}
use native.Mathlib.Decide.{dec_lt}
use mathlib.Core.Path.{◌≡◌, refl, ◌∙◌, ap, subst}
use mathlib.Core.Bool.{Bool, true, false, ◌&&◌}
use mathlib.Core.Option.{Option, none, some}
use mathlib.Core.List.{List}
use lib.Dec.{ltb, eqb}
use Rattle.integers.proofs.Comparisons.{ltb_false_iff}
use Rattle.scope.specs.Search.{whenever}
use Rattle.scope.specs.Plans.{Pixel, plan, banks}
use Rattle.scope.specs.Finding.{Before, trial, least_d, first_with, least_of, suitable, least_plan, least_count_of, least_count}
use Rattle.scope.specs.promises.Meaning.{IsPlan}
use Rattle.scope.specs.declared.Plan.{Plan}
use Rattle.checks.proofs.Searches.{Found, first_found, first_none, first_same}
use Rattle.finder.proofs.SuitingPlans.{made, Suiting, suiting_banks, made_is_plan}
use Rattle.finder.proofs.CountSearch.{FirstWith, first_with_some, first_with_none}

-- p is the search's own plan, of all suiting plans it has the least count, and among equal counts it comes first
pub record Least (test : Plan → Bool) (p : Plan) : Type 0 where
  pub is_made : made p ≡ p
  pub itself : Suiting test p
  pub least_count_lem : (q : Plan) → Suiting test q → banks p ≤ banks q
  pub before : (q : Plan) → Suiting test q → banks q ≡ banks p → Before p q

-- within a legal limit it is a plan
pub least_is_plan : (test : Plan → Bool) (p : Plan) → Least test p → banks p ≤ 1024 → IsPlan p
unfolding banks
least_is_plan test p l most =
    subst IsPlan l.is_made
    (made_is_plan p.a p.b p.d l.itself.a_least l.itself.d_least l.itself.b_below most)

module _ (test : Plan → Bool) where
  -- A plan that the search finds is the least of all suiting plans, and within the limit.
  pub least_plan_some : (limit : ℕ) (p : Plan) → least_of test limit ≡ some p → Least test p × (banks p ≤ limit)
  unfolding least_of
  least_plan_some limit p e = (
    record {
      is_made = r.is_made;
      itself = r.itself;
      least_count_lem = λ q s. not_before q s (dec_lt (banks q) t.where_is);
      before = λ q s m. r.before q s (m ∙ r.count);
    },
    omega (arith, t.below, r.count),
  )
    where
      t : Found 1 limit (first_with test) p
      t = first_found 1 limit (first_with test) p e

      r : FirstWith test t.where_is p
      r = first_with_some test t.where_is p t.here

      not_before : (q : Plan) → Suiting test q → Dec (banks q < t.where_is) → banks p ≤ banks q
      not_before q s (yes u) =
          absurd (first_with_none test (banks q) (t.before (banks q) (suiting_banks test q s) u) q s refl)
      not_before q s (no u) = omega (arith, r.count)

  -- It finds none exactly where each suiting plan has more banks than the limit.
  pub least_plan_none : (limit : ℕ) → least_of test limit ≡ none → (q : Plan) → Suiting test q → limit < banks q
  unfolding least_of
  least_plan_none limit e q s = by_order (dec_lt limit (banks q))
    where
      by_order : Dec (limit < banks q) → limit < banks q
      by_order (yes u) = u
      by_order (no u) =
          absurd (first_with_none test (banks q)
          (first_none 1 limit (first_with test) e (banks q) (suiting_banks test q s) (omega arith)) q s refl)

  pub none_least_plan : (limit : ℕ) → ((q : Plan) → Suiting test q → limit < banks q) → least_of test limit ≡ none
  none_least_plan limit h = by_found (least_of test limit) refl
    where
      by_found : (o : Option Plan) → least_of test limit ≡ o → least_of test limit ≡ none
      by_found none e = e
      by_found (some p) e = let r = least_plan_some limit p e in absurd (omega (arith, h p r.0.itself, r.1))

  -- A suiting plan within the limit: the search finds one.
  pub some_least_plan : (limit : ℕ) (q : Plan) → Suiting test q → banks q ≤ limit → (p : Plan) × (least_of test limit ≡ some p)
  some_least_plan limit q s h = by_found (least_of test limit) refl
    where
      by_found : (o : Option Plan) → least_of test limit ≡ o → (p : Plan) × (least_of test limit ≡ some p)
      by_found none e = absurd (omega (arith, least_plan_none limit e q s))
      by_found (some p) e = (p, e)

  -- The least count is the N of the plan that the search finds at limit 1024; a suiting plan within it has at least as many banks.
  pub count_is : (p : Plan) → least_of test 1024 ≡ some p → least_count_of test ≡ banks p
  unfolding least_count_of
  count_is p h = rw (h, least_count_of)

  pub count_at_most : (q : Plan) → Suiting test q → banks q ≤ 1024 → least_count_of test ≤ banks q
  count_at_most q s most =
      let (p, e) = some_least_plan 1024 q s most in
      omega (arith, (least_plan_some 1024 p e).0.least_count_lem q s, count_is p e)

-- so is that of the finder's own test
pub least_count_is : (ts : List (List Pixel)) (p : Plan) → least_plan ts 1024 ≡ some p → least_count ts ≡ banks p
unfolding least_count
least_count_is ts p = count_is (suitable ts) p

-- Two tests that say the same of each plan make the same search.
module _ (f g : Plan → Bool) (same : (a b d : ℕ) → 1 ≤ d → b < a → f (plan a b d) ≡ g (plan a b d)) where
  trial_same : (n b d : ℕ) → 1 ≤ d → trial f n b d ≡ trial g n b d
  unfolding trial
  trial_same n b d d_least = ap (λ (x : Bool). whenever x (plan (n / d) b d)) (by_test (dec_lt b (n / d)))
    where
      by_test : Dec (b < n / d) → eqb (n % d) 0 && ltb b (n / d) && f (plan (n / d) b d) ≡ eqb (n % d) 0 && ltb b (n / d) && g (plan (n / d) b d)
      by_test (yes h) = ap (λ (x : Bool). eqb (n % d) 0 && ltb b (n / d) && x) (same (n / d) b d d_least h)
      by_test (no h) = rw ((ltb_false_iff b (n / d)).1 (omega arith)) (off (eqb (n % d) 0) (f (plan (n / d) b d)) (g (plan (n / d) b d)))
        where
          off : (x y z : Bool) → x && false && y ≡ x && false && z
          off true y z = refl
          off false y z = refl

  pub search_same : (limit : ℕ) → least_of f limit ≡ least_of g limit
  unfolding least_of first_with least_d
  search_same limit =
      first_same 1 limit (first_with f) (first_with g) (λ n _ _.
      first_same 0 n (least_d f n) (least_d g n) (λ b _ _.
      first_same 1 n (trial f n b) (trial g n b) (λ d d_least _. trial_same n b d d_least)))
