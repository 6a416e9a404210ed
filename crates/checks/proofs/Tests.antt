-- What each test of a call means: it finds nothing exactly where its condition does not hold.
-- Assumes nothing.
use Prim.Native.Nat.{ℕ, ◌*◌, ◌/◌, ◌%◌, ◌≤◌, ◌<◌}
use mathlib.Core.Path.{◌≡◌, ap}
use mathlib.Core.Logic.Iff
use mathlib.Core.Logic.{◌↔◌}
use mathlib.Core.Bool.{true, not, ◌&&◌, ◌||◌}
use mathlib.Core.Option.{none}
use mathlib.Core.List.{List}
use lib.Dec.{leb, ltb, eqb}
use lib.IntN.{nat_abs}
use Rattle.integers.specs.Gcd.{Multiple}
use Rattle.integers.proofs.Integers.{size_zero}
use Rattle.integers.proofs.Divisions.{no_remainder_iff}
use Rattle.integers.proofs.Comparisons.{leb_iff, leb_false_iff, ltb_false_iff, eqb_iff, eqb_false_iff, and_iff, or_false_iff, not_iff}
use Rattle.scope.specs.Search.{every}
use Rattle.scope.specs.Plans.{Pixel, banks, is_plan, determinant, determinant_size}
use Rattle.scope.specs.Banks.{inside, depth_of, pixel_of}
use Rattle.scope.specs.Numbers.{limit_test, cycles_test, dependent_test, large_test, plan_test, is_side, sides_test, memory_test, sums_test, outside_test}
use Rattle.scope.specs.Numbers.{bank_test, cell_test, output_test, number_test, is_ring, ring_test}
use Rattle.scope.specs.promises.Meaning.{IsPlan, IsSide, Inside, AllInside, IsCycles, Independent, RingAllowed}
use Rattle.scope.specs.declared.Plan.{Plan}
use Rattle.scope.specs.declared.Refusal.TheVariants.{Limit, Dependent, Large, NotPlan, Sides, Memory}
use Rattle.scope.specs.declared.Refusal.TheVariants.{Outside, Cell, Output, NoPattern, Ring, Cycles}
use Rattle.scope.proofs.PlanFacts.{is_plan_iff, are_sides_iff, inside_iff}
use Rattle.checks.proofs.Searches.{every_holds, holds_every}
use Rattle.checks.proofs.Booleans.{refuses_iff, demands_iff}

-- 6: the limit is 1 to 1024
pub limit_legal_iff : (limit : ℕ) → (limit_test limit ≡ none) ↔ ((1 ≤ limit) × (limit ≤ 1024))
unfolding limit_test
limit_legal_iff limit = demands_iff (leb 1 limit && leb limit 1024) Limit (and_iff _ _ (leb_iff 1 limit) (leb_iff limit 1024))

-- 20: r is 1 to 8
pub cycles_legal_iff : (r : ℕ) → (cycles_test r ≡ none) ↔ IsCycles r
unfolding cycles_test
cycles_legal_iff r = demands_iff (leb 1 r && leb r 8) Cycles (and_iff _ _ (leb_iff 1 r) (leb_iff r 8))

-- 8: the vectors are independent
pub independent_iff : (x y : Pixel) → (dependent_test x y ≡ none) ↔ Independent x y
unfolding dependent_test determinant_size
independent_iff x y =
    refuses_iff (eqb (determinant_size x y) 0) Dependent
    (Iff.trans (eqb_false_iff (determinant_size x y) 0) (Iff.not (size_zero (determinant x y), ap nat_abs)))

-- 9: the determinant's size is at most 1024
pub size_within_iff : (x y : Pixel) → (large_test x y ≡ none) ↔ (determinant_size x y ≤ 1024)
unfolding large_test
size_within_iff x y = refuses_iff (ltb 1024 (determinant_size x y)) Large (ltb_false_iff 1024 (determinant_size x y))

-- 11: a plan as defined
pub plan_legal_iff : (p : Plan) → (plan_test p ≡ none) ↔ IsPlan p
unfolding plan_test
plan_legal_iff p = demands_iff (is_plan p) NotPlan (is_plan_iff p)

-- 12: both sides are 1 to 4096
pub sides_legal_iff : (W H : ℕ) → (sides_test W H ≡ none) ↔ (IsSide W × IsSide H)
unfolding sides_test
sides_legal_iff W H = demands_iff (is_side W && is_side H) Sides (are_sides_iff W H)

-- 13: the memory has N × depth words
pub memory_enough_iff : (p : Plan) (W H words : ℕ) → (memory_test p W H words ≡ none) ↔ (banks p * depth_of p W H ≤ words)
unfolding memory_test
memory_enough_iff p W H words =
    refuses_iff (ltb words (banks p * depth_of p W H)) Memory (ltb_false_iff words (banks p * depth_of p W H))

-- 13 too: the sums have N entries
pub sums_enough_iff : (p : Plan) (entries : ℕ) → (sums_test p entries ≡ none) ↔ (banks p ≤ entries)
unfolding sums_test
sums_enough_iff p entries = refuses_iff (ltb entries (banks p)) Memory (ltb_false_iff entries (banks p))

-- 14: every pixel is inside the picture
pub all_inside_iff : (W H : ℕ) (vs : List Pixel) → (outside_test W H vs ≡ none) ↔ AllInside W H vs
unfolding outside_test
all_inside_iff W H vs =
    demands_iff (every (inside W H) vs) Outside (
      λ e v m. (inside_iff W H v).0 (every_holds (inside W H) vs e v m),
      λ h. holds_every (inside W H) vs (λ v m. (inside_iff W H v).1 (h v m)),
    )

-- 15: the bank is below N; the address is below the depth and their pixel is inside
pub bank_below_iff : (p : Plan) (k : ℕ) → (bank_test p k ≡ none) ↔ (k < banks p)
unfolding bank_test
bank_below_iff p k = refuses_iff (leb (banks p) k) Cell (leb_false_iff (banks p) k)

pub cell_legal_iff :
    (p : Plan) (W H k i : ℕ) → (cell_test p W H k i ≡ none)
    ↔ ((k < banks p) × (i < depth_of p W H) × Inside W H (pixel_of p W H k i))
unfolding cell_test
cell_legal_iff p W H k i =
    refuses_iff (leb (banks p) k || leb (depth_of p W H) i || not (inside W H (pixel_of p W H k i))) Cell
    (Iff.trans
    (or_false_iff _ _ (or_false_iff _ _ (leb_false_iff (banks p) k) (leb_false_iff (depth_of p W H) i))
    (not_iff _ (inside_iff W H (pixel_of p W H k i))))
    (λ t. (t.0.0, t.0.1, t.1), λ t. ((t.0, t.1), t.2)))

-- 16: the output has room
pub output_enough_iff : (n room : ℕ) → (output_test n room ≡ none) ↔ (n ≤ room)
unfolding output_test
output_enough_iff n room = refuses_iff (ltb room n) Output (ltb_false_iff room n)

-- 17: the book has a pattern of that number
pub number_in_book_iff : (count n : ℕ) → (number_test count n ≡ none) ↔ (n < count)
unfolding number_test
number_in_book_iff count n = refuses_iff (leb count n) NoPattern (leb_false_iff count n)

-- 18: a divides W, d divides H, and a divides b × (H/d)
multiple_iff : (n g : ℕ) → (eqb (n % g) 0 ≡ true) ↔ Multiple g n
multiple_iff n g = Iff.trans (eqb_iff (n % g) 0) (no_remainder_iff n g)

pub ring_allowed_iff : (p : Plan) (W H : ℕ) → (ring_test p W H ≡ none) ↔ RingAllowed p W H
unfolding ring_test is_ring
ring_allowed_iff p W H =
    Iff.trans
    (demands_iff (is_ring p W H) Ring
    (and_iff _ _ (and_iff _ _ (multiple_iff W p.a) (multiple_iff H p.d))
    (multiple_iff (p.b * (H / p.d)) p.a))) (
      λ h. record { w_multiple = h.0.0; h_multiple = h.0.1; shift_multiple = h.1 },
      λ h. ((h.w_multiple, h.h_multiple), h.shift_multiple),
    )
