-- Document 01, "Finding and checking": what the finder looks for, what a clash is, and how large a plan can be.
-- Assumes nothing.
use Rattle.std.specs.Prelude.{ℕ, suc, ◌+◌, ◌-◌, ◌/◌, ◌%◌, max, ◌≤◌, ◌≡◌, Bool, ◌&&◌, ltb, eqb, pos, nat_abs, length, get_or}
use Rattle.std.proofs.Math.Option.{Option, none, some}
use mathlib.Core.List.{List, [], map, flat_map, foldr}
use Rattle.scope.specs.Search.{first, whenever}
use Rattle.scope.specs.Plans.{Pixel, at, minus, differences, plan, banks, lattice_test, suits_all}
use Rattle.scope.specs.declared.Plan.{Plan}
use Rattle.scope.specs.declared.Clash.{Clash}

-- Card 1: "Among plans of equal least N, take the least b, then the least d." Of two plans with equal N, p comes before q: q's b is
-- not smaller, and where it is the same, q's d is not smaller
pub record Before (p q : Plan) : Type 0 where
  pub least_b : p.b ≤ q.b
  pub then_d : p.b ≡ q.b → p.d ≤ q.d

-- The search takes any test of plans.
-- The plan with n banks and these b and d, if there is one and the test holds of it: d divides n, and b is below a = n/d
unfoldable pub trial : (Plan → Bool) → ℕ → ℕ → ℕ → Option Plan
unfolding whenever plan
trial test n b d = whenever (eqb (n % d) 0 && ltb b (n / d) && test (plan (n / d) b d)) (plan (n / d) b d)

-- of those with n banks and this b, the one with "the least d"
unfoldable pub least_d : (Plan → Bool) → ℕ → ℕ → Option Plan
unfolding first trial
least_d test n b = first 1 n (trial test n b)

-- of those with n banks, the one with "the least b, then the least d"
unfoldable pub first_with : (Plan → Bool) → ℕ → Option Plan
unfolding first least_d
first_with test n = first 0 n (least_d test n)

-- of all, the one with least N, from 1 to the limit
unfoldable pub least_of : (Plan → Bool) → ℕ → Option Plan
unfolding first first_with
least_of test limit = first 1 limit (first_with test)

-- the finder's test: the plan suits each pattern
abbrev pub suitable : List (List Pixel) → Plan → Bool
suitable ts = λ p. suits_all p ts

-- "It gives the suiting plan with least N", N from 1 to the limit; Card 1: "Among plans of equal least N, take the least b, then the
-- least d"
abbrev pub least_plan : List (List Pixel) → ℕ → Option Plan
least_plan ts limit = least_of (suitable ts) limit

-- the N of the plan that the search finds by a test. "So limit 1024 is always enough", and `none` does not occur for a legal book
unfoldable pub least_count_of : (Plan → Bool) → ℕ
unfolding least_of banks
least_count_of test = elim (least_of test 1024) [ none ↦ 1024 | some p ↦ banks p ]

-- "the least count": the N of that plan
unfoldable pub least_count : List (List Pixel) → ℕ
unfolding least_count_of suits_all
least_count ts = least_count_of (suitable ts)

-- "w is 1 plus the greatest column difference and h is 1 plus the greatest row difference (1 where there is no difference)"
-- With p - q a pattern has q - p, so the greatest is the greatest without sign
unfoldable pub greatest : List ℕ → ℕ
greatest = foldr max 0

unfoldable pub box_width : List (List Pixel) → ℕ
unfolding greatest flat_map differences
box_width ts = 1 + greatest (map (λ v. nat_abs v.column) (flat_map differences ts))

unfoldable pub box_height : List (List Pixel) → ℕ
unfolding greatest flat_map differences
box_height ts = 1 + greatest (map (λ v. nat_abs v.row) (flat_map differences ts))

-- the pixel at a position of a pattern
abbrev pub pixel_in : List Pixel → ℕ → Pixel
pixel_in t e = get_or t e (at (pos 0) (pos 0))

-- "two pixels whose difference is in the lattice": those at positions e and l
unfoldable pub together : Plan → List Pixel → ℕ → ℕ → Bool
unfolding lattice_test minus at
together p t e l = lattice_test p (minus (pixel_in t l) (pixel_in t e))

-- such a pair in pattern n
unfoldable pub meeting : Plan → List Pixel → ℕ → ℕ → ℕ → Option Clash
unfolding whenever together
meeting p t n e l = whenever (together p t e l) (record { pattern = n; earlier = e; later = l })

-- "the one with the least earlier position, then the least later one", in pattern n
unfoldable pub clash_in : Plan → ℕ → List Pixel → Option Clash
unfolding first meeting
clash_in p n t = first 0 (length t) λ e. first (suc e) (length t - suc e) (meeting p t n e)

-- "the lowest pattern number that has one"
unfoldable pub clash : Plan → List (List Pixel) → Option Clash
unfolding first clash_in
clash p ts = first 0 (length ts) λ n. clash_in p n (get_or ts n [])
