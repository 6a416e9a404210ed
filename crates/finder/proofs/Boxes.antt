-- The box of a book's differences: w and h are 1 plus the greatest column and row difference, the plan w, 0, h suits, and
-- of a legal book neither is above 32.
-- Assumes nothing.
use Prim.Native.Nat.{ℕ, zero, suc, ◌+◌, ◌*◌, ◌≤◌, ◌<◌, max}
use mathlib.Core.Path.{◌≡◌, refl, sym, ◌∙◌, ap, subst}
use mathlib.Core.Logic.{◌⊎◌, inl, inr}
use mathlib.Core.Bool.{true}
use mathlib.Core.List.Memᴰ
use mathlib.Core.List.{List, [], ◌∷◌, map, flat_map, Memᴰ}
use native.Mathlib.Omega.{arith}
use native.Mathlib.Nat.{le-max_left, le-max_right, max-eq_left, max-eq_right, mul-le-mul}
use native.Mathlib.Decide.{dec_lt}
use lib.IntN.{ℤ, pos, negsuc, nat_abs, ◌*ℤ◌, ◌-ℤ◌}
use lib.Dec.{leb→le}
use lib.Signed.{◌≤ℤ◌}
use Rattle.integers.proofs.Integers.{size_of_product, size_zero}
use Rattle.integers.proofs.Ring.{ring, reify}
use Rattle.integers.proofs.Polynomials.{no_difference}
use Rattle.integers.proofs.Order.{le_by, of_le}
use Rattle.scope.specs.Plans.{Pixel, minus, differences, plan, banks, pixels, pattern_at, patterns, InLattice, suits_all}
use Rattle.scope.specs.Finding.{greatest, box_width, box_height}
use Rattle.scope.specs.promises.Meaning.{InRange, IsPattern, IsBook}
use Rattle.scope.specs.promises.PlanPromises.{BoxIsGreatest}
use Rattle.scope.specs.declared.Pattern.{Pattern}
use Rattle.scope.specs.declared.Book.{Book}
use Rattle.scope.specs.declared.Plan.{Plan}
use Rattle.lattice.proofs.Suits.{suits_means, suits_all_iff, DifferenceIn, mem_differences, differences_mem}
use Rattle.checks.proofs.Patterns.{same_coordinates, mem_patterns, pattern_in_range}
use Rattle.checks.proofs.Lists.{mem-map, map-mem, flat_map_mem, mem_flat_map}

-- no entry is above the greatest, and it is an entry or 0
greatest_at_least : (ns : List ℕ) (n : ℕ) → Memᴰ n ns → n ≤ greatest ns
unfolding greatest
greatest_at_least [] n m = absurd (Memᴰ.not-nil m)
greatest_at_least (k ∷ ns) n m = by_place (Memᴰ.cases_cons m) (greatest_at_least ns n)
  where
    by_place : (n ≡ k) ⊎ Memᴰ n ns → (Memᴰ n ns → n ≤ greatest ns) → n ≤ max k (greatest ns)
    by_place (inl e) later = omega (arith, e, le-max_left k (greatest ns))
    by_place (inr t) later = omega (arith, later t, le-max_right k (greatest ns))

greatest_is_entry : (ns : List ℕ) → (greatest ns ≡ 0) ⊎ Memᴰ (greatest ns) ns
unfolding greatest
greatest_is_entry [] = inl refl
greatest_is_entry (k ∷ ns) = by_order (dec_lt k (greatest ns)) (greatest_is_entry ns)
  where
    by_order :
        Dec (k < greatest ns) → (greatest ns ≡ 0) ⊎ Memᴰ (greatest ns) ns
        → (max k (greatest ns) ≡ 0) ⊎ Memᴰ (max k (greatest ns)) (k ∷ ns)
    by_order (no h) later = inr (Memᴰ.head (max-eq_left (omega arith)))
    by_order (yes h) (inl e) = absurd (omega arith)
    by_order (yes h) (inr m) =
        inr (subst (λ n. Memᴰ n (k ∷ ns)) (sym (max-eq_right (omega arith))) (Memᴰ.tail m))

-- 1 plus the greatest of some size of the differences
module _ (size : Pixel → ℕ) (vs : List Pixel) where
  side_at_least : (v : Pixel) → Memᴰ v vs → 1 + size v ≤ 1 + greatest (map size vs)
  side_at_least v m = omega (arith, greatest_at_least (map size vs) (size v) (map-mem size m))

  abbrev Reached : Type 0
  Reached = (1 + greatest (map size vs) ≡ 1) ⊎ ((v : Pixel) × Memᴰ v vs × (1 + greatest (map size vs) ≡ 1 + size v))

  side_is_reached : Reached
  side_is_reached = by_entry (greatest_is_entry (map size vs))
    where
      by_entry : (greatest (map size vs) ≡ 0) ⊎ Memᴰ (greatest (map size vs)) (map size vs) → Reached
      by_entry (inl e) = inl (omega arith)
      by_entry (inr m) = let (v, k, e) = mem-map size vs m in inr (v, k, omega (arith, e))

  side_at_most : (n : ℕ) → ((v : Pixel) → Memᴰ v vs → size v < n) → 0 < n → 1 + greatest (map size vs) ≤ n
  side_at_most n below h = by_reached side_is_reached
    where
      by_reached : Reached → 1 + greatest (map size vs) ≤ n
      by_reached (inl e) = omega arith
      by_reached (inr (v, m, e)) = omega (arith, e, below v m)

-- The width and the height of the box are at least 1 plus each difference, and are reached by one or are 1.
pub box_is_greatest : BoxIsGreatest
unfolding box_width box_height
box_is_greatest ts =
    record {
      columns = side_at_least (λ v. nat_abs v.column) (flat_map differences ts);
      rows = side_at_least (λ v. nat_abs v.row) (flat_map differences ts);
      widest = side_is_reached (λ v. nat_abs v.column) (flat_map differences ts);
      highest = side_is_reached (λ v. nat_abs v.row) (flat_map differences ts);
    }

-- a multiple of n that is smaller than n is 0
small_multiple_is_zero : (z k : ℤ) (n : ℕ) → z ≡ k *ℤ pos n → nat_abs z < n → z ≡ pos 0
small_multiple_is_zero z k n e h = size_zero z (by_size (nat_abs k) (ap nat_abs e ∙ size_of_product k (pos n)))
  where
    by_size : (m : ℕ) → nat_abs z ≡ m * n → nat_abs z ≡ 0
    by_size zero f = omega arith
    by_size (suc m) f = absurd (omega arith)

-- the plan w, 0, h
abbrev pub box : List (List Pixel) → Plan
box ts = plan (box_width ts) 0 (box_height ts)

-- It suits: a difference in its lattice would be 0.
pub box_suits : (ts : List (List Pixel)) → suits_all (box ts) ts ≡ true
unfolding plan box_width box_height minus
box_suits ts = (suits_all_iff p ts).1 (λ t m. (suits_means p (omega arith) (omega arith) t).1 (λ v w. apart t m v w))
  where
    p : Plan
    p = box ts

    apart :
        (t : List Pixel) → Memᴰ t ts → (v w : Pixel) → Memᴰ v t → Memᴰ w t → (v ≡ w → ⊥)
        → InLattice p (minus v w) → ⊥
    apart t k v w in-v in-w other c =
        other (same_coordinates (no_difference same_column) (no_difference same_row))
      where
        d : Memᴰ (minus v w) (flat_map differences ts)
        d = flat_map_mem differences ts t k (differences_mem t v w in-v in-w other)

        same_column : (minus v w).column ≡ pos 0
        same_column =
            small_multiple_is_zero (minus v w).column c.m (box_width ts)
            (c.columns ∙ ring (c.m ∷ c.n ∷ pos (box_width ts) ∷ []) (search reify depth 40 fits 9000) refl)
            (omega (arith, (box_is_greatest ts).columns (minus v w) d))

        same_row : (minus v w).row ≡ pos 0
        same_row =
            small_multiple_is_zero (minus v w).row c.n (box_height ts)
            (c.rows ∙ ring (c.m ∷ c.n ∷ pos (box_height ts) ∷ []) (search reify depth 40 fits 9000) refl)
            (omega (arith, (box_is_greatest ts).rows (minus v w) d))

-- two numbers from -16 to 15 are less than 32 apart
pub range_difference : (y z : ℤ) → InRange y → InRange z → nat_abs (y -ℤ z) < 32
range_difference y z (y-least, y-most) (z-least, z-most) =
    let ρ : List ℤ = y ∷ z ∷ [] in
    size_below (y -ℤ z)
    (le_by ρ (search reify depth 40) (omega (arith, of_le ρ y-least (search reify depth 40), of_le ρ z-most (search reify depth 40))))
    (le_by ρ (search reify depth 40) (omega (arith, of_le ρ y-most (search reify depth 40), of_le ρ z-least (search reify depth 40))))
  where
    size_below : (x : ℤ) → negsuc 30 ≤ℤ x → x ≤ℤ pos 31 → nat_abs x < 32
    size_below (pos n) least most = omega (arith, leb→le n 31 most.le)
    size_below (negsuc n) least most = omega (arith, leb→le n 30 least.le)

-- both coordinates are smaller than 32, without sign
abbrev Small : Pixel → Type 0
Small v = (nat_abs v.column < 32) × (nat_abs v.row < 32)

module _ (book : Book) (legal : IsBook book) where
  -- the differences in a legal book are small
  difference_small : (v : Pixel) → Memᴰ v (flat_map differences (patterns book)) → Small v
  unfolding minus
  difference_small v m = in_list (mem_flat_map differences (patterns book) m)
    where
      in_pattern : (t : Pattern) → IsPattern t → DifferenceIn (pixels t) v → Small v
      in_pattern t legal-t d =
          let (i, j) = pattern_in_range t legal-t d.left_in in
          let (k, l) = pattern_in_range t legal-t d.right_in in
          rw d.is (range_difference _ _ i k, range_difference _ _ j l)

      in_list : (t : List Pixel) × Memᴰ t (patterns book) × Memᴰ v (differences t) → Small v
      in_list (t, k, in_t) =
          let (n, h, is) = mem_patterns book k in
          in_pattern (pattern_at book n) (legal.each n h) (mem_differences (pixels (pattern_at book n)) v (rw is in_t))

  -- "So limit 1024 is always enough": the box is at most 32 by 32.
  pub box_within : banks (box (patterns book)) ≤ 1024
  unfolding box_width box_height plan banks
  box_within =
      mul-le-mul
      (side_at_most (λ v. nat_abs v.column) (flat_map differences (patterns book)) 32 (λ v m. (difference_small v m).0) (omega arith))
      (side_at_most (λ v. nat_abs v.row) (flat_map differences (patterns book)) 32 (λ v m. (difference_small v m).1) (omega arith))
