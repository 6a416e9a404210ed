-- A signed number of w bits raised by 2^(w - 1), so that it is not negative: what the machine computes at 64 bits, one
-- law over the width, and what the raised number says of the number's sign and size.
-- Assumes nothing.
use Prim.Native.Nat.{ℕ, suc, ◌+◌, ◌-◌, ◌^◌, ◌≤◌, ◌<◌}
use mathlib.Core.Path.{◌≡◌, refl, sym, ap, subst, ◌∙◌}
use native.Mathlib.Omega.{arith}
use lib.Dec.{T, leb, leb→le}
use lib.IntN.{ℤ, pos, negsuc, nat_abs, ◌+ℤ◌}
use lib.Signed.{non_neg, mag}
use mir.Syntax.{Width, w64}
use mir.Val.{Fits, SFits, to_z, of_z, hbits}
use mir.Facts.{to_z-of_z, sfits_widen}
use Rattle.integers.proofs.Integers.{above, below, own_parts, same_integer, same_difference, parts_add}
use Rattle.integers.proofs.Sizes.{small_fits, size_of_sum, fitting_size}

half : Width → ℕ
half w = 2 ^ hbits w

pub raised : Width → ℤ → ℕ
unfolding half
raised w (pos m) = m + half w
raised w (negsuc m) = half w - suc m

raised_is : (w : Width) (z : ℤ) → SFits w z → z +ℤ pos (half w) ≡ pos (raised w z)
unfolding raised
raised_is w (pos m) f = refl
raised_is w (negsuc m) f =
    same_integer (parts_add (own_parts (negsuc m)) (own_parts (pos (half w)))) (own_parts (pos (half w - suc m)))
    (omega (arith, f.sfits))

raised_below : (w : Width) (z : ℤ) → SFits w z → raised w z < half w + half w
unfolding raised
raised_below w (pos m) f = omega (arith, f.sfits)
raised_below w (negsuc m) f = omega (arith, f.sfits)

-- A number that is handed on as its bits is the same number, by the bound of an element or of a result.
pub number_handed : (w : Width) {z : ℤ} → mag z < 2 ^ hbits w → to_z w (of_z w z) ≡ z
number_handed w h = to_z-of_z {w = w} (record { sfits = h })

-- z of w bits, read and widened to v bits, is z; `wide` holds by `tt`
module _ (w v : Width) (wide : T (leb (hbits w) (hbits v))) (z : ℤ) (f : SFits w z) where
  pub widened_fits : SFits v (to_z w (of_z w z))
  widened_fits = subst (SFits v) (sym (to_z-of_z f)) (sfits_widen wide f)

  pub widened_is : to_z v (of_z v (to_z w (of_z w z))) ≡ z
  widened_is = to_z-of_z widened_fits ∙ to_z-of_z f

-- z, widened to 64 bits, raised, and cast to an unsigned number. `wide` and `small` hold by `tt` at 8, 16 and 32 bits
module _ (w : Width) (wide : T (leb (hbits w) (hbits w64))) (small : T (leb (2 ^ hbits w) (2 ^ 31))) (z : ℤ) (f : SFits w z) where
  sum_is : to_z w64 (of_z w64 (to_z w (of_z w z))) +ℤ pos (2 ^ hbits w) ≡ pos (raised w z)
  unfolding half
  sum_is =
      ap (λ (y : ℤ). y +ℤ pos (2 ^ hbits w)) (widened_is w w64 wide z f) ∙ raised_is w z f

  -- no sum with a number up to 2^31 wraps
  pub sum_fits : (h : ℕ) → T (leb h (2 ^ 31)) → SFits w64 (to_z w64 (of_z w64 (to_z w (of_z w z))) +ℤ pos h)
  sum_fits h t =
      subst (λ (y : ℤ). SFits w64 (y +ℤ pos h)) (sym (widened_is w w64 wide z f))
      (small_fits w64 (2 ^ 32) (z +ℤ pos h)
      (omega (
        arith,
        size_of_sum z (pos h),
        fitting_size w z f,
        leb→le (2 ^ hbits w) (2 ^ 31) small,
        leb→le h (2 ^ 31) t,
      ))
      (omega arith))

  abbrev sum : ℤ
  sum = to_z w64 (of_z w64 (to_z w64 (of_z w64 (to_z w (of_z w z))) +ℤ pos (2 ^ hbits w)))

  sum_read : sum ≡ pos (raised w z)
  sum_read = to_z-of_z (sum_fits (2 ^ hbits w) small) ∙ sum_is

  pub unsigned_fits : T (non_neg sum) × Fits w64 (nat_abs sum)
  unfolding half
  unsigned_fits =
      subst (λ (y : ℤ). T (non_neg y) × Fits w64 (nat_abs y)) (sym sum_read)
      (tt, record { fits = omega (arith, raised_below w z f, leb→le (2 ^ hbits w) (2 ^ 31) small) })

  pub raised_right : (pos (nat_abs sum) ≡ z +ℤ pos (2 ^ hbits w)) × (nat_abs sum < 2 ^ hbits w + 2 ^ hbits w)
  unfolding half
  raised_right = (
    ap (λ (y : ℤ). pos (nat_abs y)) sum_read ∙ sym (raised_is w z f),
    subst (λ (y : ℤ). nat_abs y < 2 ^ hbits w + 2 ^ hbits w) (sym sum_read) (raised_below w z f),
  )

-- a function is handed z's bits, which read back as z
pub raised_read : {w : Width} {n : ℕ} {z : ℤ} (h : ℕ) → SFits w z → pos n ≡ to_z w (of_z w z) +ℤ pos h → pos n ≡ z +ℤ pos h
raised_read h f e = e ∙ ap (λ (y : ℤ). y +ℤ pos h) (to_z-of_z f)

-- n is z raised by h. Then z is negative exactly if n is below h
module _ (h n : ℕ) (z : ℤ) (e : pos n ≡ z +ℤ pos h) where
  apart : n + below z ≡ above z + h
  apart =
      omega (arith, same_difference e (own_parts (pos n)) (parts_add (own_parts z) (own_parts (pos h))))

  pub lowered : h ≤ n → z ≡ pos (n - h)
  lowered k = same_integer (own_parts z) (own_parts (pos (n - h))) (omega (arith, apart))

  pub lowered_size : h ≤ n → nat_abs z ≡ n - h
  lowered_size k = ap nat_abs (lowered k)

  pub negative_size : n < h → nat_abs z ≡ h - n
  negative_size k = below_size z apart
    where
      below_size : (y : ℤ) → n + below y ≡ above y + h → nat_abs y ≡ h - n
      below_size (pos m) a = absurd (omega arith)
      below_size (negsuc m) a = omega arith
