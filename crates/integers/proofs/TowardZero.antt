-- The machine divides toward zero, so its remainder has the number's sign. The sign of that remainder, -1 or 0, brings both
-- to the floor: the quotient rounded down and the remainder from 0 to d - 1.
-- Assumes nothing.
use Prim.Native.Nat.{ℕ, zero, suc, ◌+◌, ◌-◌, ◌/◌, ◌%◌, ◌≤◌, ◌<◌}
use mathlib.Core.Path.{◌≡◌, refl, sym, ap, ◌∙◌, subst}
use mathlib.Core.List.{[], ◌∷◌}
use native.Mathlib.Omega.{arith}
use native.Mathlib.Nat.{div-add-mod, mod-lt, div-eq_of_lt, div-le_self}
use lib.Dec.{T}
use lib.IntN.{ℤ, pos, negsuc, neg_ℤ, nat_abs, ◌+ℤ◌, ◌*ℤ◌, ◌-ℤ◌}
use lib.Signed.{non_neg, mag, quot_z, rem_z, mag_rem}
use mir.Syntax.{w16, w32}
use mir.Val.{Fits, SFits, to_z, of_z}
use mir.Facts.{to_z-of_z}
use Rattle.integers.specs.Division.{floor_div, floor_mod}
use Rattle.integers.proofs.Integers.{own_parts, same_integer, parts_add, parts_neg, parts_mul, size_of_neg}
use Rattle.integers.proofs.Sizes.{small_fits, size_of_product_at_most}
use Rattle.integers.proofs.Divisions.{quotient_is, remainder_is, remainder_below}
use Rattle.integers.proofs.Ring.{ring, linear, ◌·◌, reify}

-- the sign of a number whose size h exceeds
module _ (h : ℕ) where
  sign_of_pos : (m : ℕ) → m < h → floor_div (pos m) h ≡ pos 0
  unfolding floor_div
  sign_of_pos m k = ap pos (div-eq_of_lt k)

  sign_of_negsuc : (m : ℕ) → m < h → floor_div (negsuc m) h ≡ negsuc 0
  unfolding floor_div
  sign_of_negsuc m k = ap negsuc (div-eq_of_lt k)

small_sign : (r : ℤ) (h : ℕ) → mag r < h → nat_abs (floor_div r h) ≤ 1
small_sign (pos m) h l = rw (sign_of_pos h m l) (omega arith)
small_sign (negsuc m) h l = rw (sign_of_negsuc h m l) (omega arith)

-- r less d times its sign is from 0 to d - 1
record Brought (r s : ℤ) (d : ℕ) : Type 0 where
  rest : ℕ
  below : rest < d
  is : r -ℤ s *ℤ pos d ≡ pos rest

brought : (r : ℤ) (d h : ℕ) → nat_abs r < d → mag r < h → Brought r (floor_div r h) d
brought (pos m) d h k l =
    record { rest = m; below = k; is = rw (sign_of_pos h m l) (ring (pos m ∷ pos d ∷ []) (search reify depth 40 fits 9000) refl) }
brought (negsuc m) d h k l =
    record {
      rest = d - suc m;
      below = omega arith;
      is =
          rw (sign_of_negsuc h m l)
          (same_integer (parts_add (own_parts (negsuc m)) (parts_neg (parts_mul (own_parts (negsuc 0)) (own_parts (pos d)))))
          (own_parts (pos (d - suc m)))
          (omega arith));
    }

toward_zero : (z : ℤ) (d : ℕ) → z ≡ quot_z z (pos d) *ℤ pos d +ℤ rem_z z (pos d)
toward_zero (pos n) d = ap pos (omega (arith, div-add-mod n d))
toward_zero (negsuc n) d =
    same_integer (own_parts (negsuc n))
    (parts_add (parts_mul (parts_neg (own_parts (pos (suc n / d)))) (own_parts (pos d))) (parts_neg (own_parts (pos (suc n % d)))))
    (omega (arith, div-add-mod (suc n) d))

rest_size : (z : ℤ) (d : ℕ) → 0 < d → nat_abs (rem_z z (pos d)) < d
rest_size (pos n) d h = mod-lt n h
rest_size (negsuc n) d h = omega (arith, size_of_neg (pos (suc n % d)), mod-lt (suc n) h)

-- z and d of the machine; h is above z's size
module _ (z : ℤ) (d h : ℕ) (p : 0 < d) (l : mag z < h) where
  abbrev sign : ℤ
  sign = floor_div (rem_z z (pos d)) h

  to_floor : Brought (rem_z z (pos d)) sign d
  to_floor = brought (rem_z z (pos d)) d h (rest_size z d p) (omega (arith, mag_rem z (pos d), l))

  whole : z ≡ (quot_z z (pos d) +ℤ sign) *ℤ pos d +ℤ pos to_floor.rest
  whole =
      linear ((pos 1 · toward_zero z d) ∷ (pos 1 · to_floor.is) ∷ [])
      (ring
      (z ∷ pos d ∷ quot_z z (pos d) ∷ rem_z z (pos d) ∷ sign ∷ pos to_floor.rest ∷ [])
      (search reify depth 40 fits 9000)
      refl)

  pub quotient_to_floor : quot_z z (pos d) +ℤ sign ≡ floor_div z d
  quotient_to_floor = sym (quotient_is d p z (quot_z z (pos d) +ℤ sign) to_floor.rest to_floor.below whole)

  pub remainder_to_floor : rem_z z (pos d) -ℤ sign *ℤ pos d ≡ pos (floor_mod z d)
  remainder_to_floor =
      to_floor.is ∙ ap pos (sym (remainder_is d p z (quot_z z (pos d) +ℤ sign) to_floor.rest to_floor.below whole))

mag_of_neg : (k : ℕ) {n : ℕ} → k ≤ suc n → mag (neg_ℤ (pos k)) ≤ n
mag_of_neg zero h = omega arith
mag_of_neg (suc k) h = omega arith

quotient_size : (z : ℤ) (d : ℕ) → mag (quot_z z (pos d)) ≤ mag z
quotient_size (pos n) d = div-le_self n d
quotient_size (negsuc n) d = mag_of_neg (suc n / d) (div-le_self (suc n) d)

floor_size : (z : ℤ) (d : ℕ) → mag (floor_div z d) ≤ mag z
unfolding floor_div
floor_size (pos n) d = div-le_self n d
floor_size (negsuc n) d = div-le_self n d

-- z and top + 1 as the code reads them, at 32 bits
module _ {z : ℤ} (f : SFits w32 z) {top : ℕ} (t : Fits w16 top) where
  abbrev d : ℕ
  d = top + 1

  abbrev number : ℤ
  number = to_z w32 (of_z w32 z)

  abbrev divisor : ℤ
  divisor = to_z w32 (of_z w32 (to_z w32 top +ℤ pos 1))

  abbrev rest : ℤ
  rest = to_z w32 (of_z w32 (rem_z number divisor))

  pub top_fits : SFits w32 (pos top)
  top_fits = record { sfits = omega (arith, t.fits) }

  divisor_sum : to_z w32 top +ℤ pos 1 ≡ pos (top + 1)
  divisor_sum = ap (λ (y : ℤ). y +ℤ pos 1) (to_z-of_z top_fits)

  pub divisor_fits : SFits w32 (to_z w32 top +ℤ pos 1)
  divisor_fits = subst (SFits w32) (sym divisor_sum) (record { sfits = omega (arith, t.fits) })

  pub divisor_is : divisor ≡ pos (top + 1)
  divisor_is = to_z-of_z divisor_fits ∙ divisor_sum

  pub divides : (0 < of_z w32 (to_z w32 top +ℤ pos 1)) × SFits w32 (quot_z number divisor)
  divides = (
    subst (λ (y : ℤ). 0 < of_z w32 y) (sym divisor_sum) (omega arith),
    rw divisor_is (rw (to_z-of_z f) (record { sfits = omega (arith, quotient_size z d, f.sfits) })),
  )

  pub quotient_read : to_z w32 (of_z w32 (quot_z z (pos d))) ≡ quot_z z (pos d)
  quotient_read = to_z-of_z {w = w32} (record { sfits = omega (arith, quotient_size z d, f.sfits) })

  pub rest_read : to_z w32 (of_z w32 (rem_z z (pos d))) ≡ rem_z z (pos d)
  rest_read = to_z-of_z {w = w32} (record { sfits = omega (arith, mag_rem z (pos d), f.sfits) })

  abbrev sign_of : ℤ
  sign_of = floor_div (rem_z z (pos d)) 2147483648

  -- s is the sign of the remainder
  pub sign_read : {s : ℤ} → s ≡ floor_div rest 2147483648 → to_z w32 (of_z w32 s) ≡ sign_of
  sign_read e =
      rw (rw (divisor_is, to_z-of_z f, rest_read) at e)
      (to_z-of_z {w = w32}
      (record { sfits = omega (arith, floor_size (rem_z z (pos d)) 2147483648, mag_rem z (pos d), f.sfits) }))

  sign_size : nat_abs sign_of ≤ 1
  sign_size = small_sign (rem_z z (pos d)) 2147483648 (omega (arith, mag_rem z (pos d), f.sfits))

  -- the sign times the divisor, taken off the remainder
  pub product_fits : SFits w32 (sign_of *ℤ pos d)
  product_fits =
      small_fits w32 65536 (sign_of *ℤ pos d)
      (omega (arith, size_of_product_at_most 1 65536 sign_of (pos d) sign_size (omega (arith, t.fits))))
      (omega arith)

  abbrev difference : ℤ
  difference = rem_z z (pos d) -ℤ to_z w32 (of_z w32 (sign_of *ℤ pos d))

  difference_is : difference ≡ pos (floor_mod z d)
  difference_is = rw (to_z-of_z product_fits) (remainder_to_floor z d 2147483648 (omega arith) f.sfits)

  pub difference_fits : SFits w32 difference
  difference_fits =
      subst (SFits w32) (sym difference_is) (record { sfits = omega (arith, remainder_below z d (omega arith), t.fits) })

  difference_read : to_z w32 (of_z w32 difference) ≡ pos (floor_mod z d)
  difference_read = to_z-of_z difference_fits ∙ difference_is

  pub unsigned_fits : T (non_neg (to_z w32 (of_z w32 difference))) × Fits w32 (nat_abs (to_z w32 (of_z w32 difference)))
  unsigned_fits =
      subst (λ (y : ℤ). T (non_neg y) × Fits w32 (nat_abs y)) (sym difference_read)
      (tt, record { fits = omega (arith, remainder_below z d (omega arith), t.fits) })

  pub remainder_returned : nat_abs (to_z w32 (of_z w32 difference)) ≡ floor_mod z d
  remainder_returned = ap nat_abs difference_read

  -- the sign added to the quotient
  sum_is : quot_z z (pos d) +ℤ sign_of ≡ floor_div z d
  sum_is = quotient_to_floor z d 2147483648 (omega arith) f.sfits

  pub sum_fits : SFits w32 (quot_z z (pos d) +ℤ sign_of)
  sum_fits = subst (SFits w32) (sym sum_is) (record { sfits = omega (arith, floor_size z d, f.sfits) })

  pub quotient_returned : to_z w32 (of_z w32 (quot_z z (pos d) +ℤ sign_of)) ≡ floor_div z d
  quotient_returned = to_z-of_z sum_fits ∙ sum_is
