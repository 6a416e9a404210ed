-- The size of a sum, a product and a quotient, and that a number of small size fits its width: how code with signed
-- numbers shows that nothing wraps.
-- Assumes nothing.
use Prim.Native.Nat.{ℕ, ◌+◌, ◌*◌, ◌^◌, ◌≤◌, ◌<◌}
use mathlib.Core.Path.{◌≡◌, refl}
use native.Mathlib.Omega.{arith}
use native.Mathlib.Nat.{div-le_self, mul-le-mul}
use lib.IntN.{ℤ, pos, negsuc, neg_ℤ, nat_abs, ◌+ℤ◌, ◌-ℤ◌, ◌*ℤ◌}
use mir.Syntax.{Width, w64}
use mir.Val.{Fits, SFits, hbits}
use Rattle.integers.specs.Division.{floor_div}
use Rattle.integers.proofs.Integers.{Difference, above, below, own_parts, same_difference, parts_add, parts_neg, size_of_neg, size_of_product}

pub small_fits : (w : Width) (n : ℕ) (z : ℤ) → nat_abs z ≤ n → n < 2 ^ hbits w → SFits w z
small_fits w n (pos m) h k = record { sfits = omega arith }
small_fits w n (negsuc m) h k = record { sfits = omega arith }

size_by_parts : (z : ℤ) → nat_abs z ≡ above z + below z
size_by_parts (pos m) = omega arith
size_by_parts (negsuc m) = omega arith

size_at_most : (z : ℤ) (p q : ℕ) → above z + q ≡ p + below z → nat_abs z ≤ p + q
size_at_most (pos m) p q e = omega arith
size_at_most (negsuc m) p q e = omega arith

pub size_of_sum : (x y : ℤ) → nat_abs (x +ℤ y) ≤ nat_abs x + nat_abs y
size_of_sum x y =
    omega (
      arith,
      size_by_parts x,
      size_by_parts y,
      size_at_most (x +ℤ y) (above x + above y) (below x + below y)
          (same_difference refl (own_parts (x +ℤ y)) (parts_add (own_parts x) (own_parts y))),
    )

pub size_of_difference : (x y : ℤ) → nat_abs (x -ℤ y) ≤ nat_abs x + nat_abs y
size_of_difference x y = omega (arith, size_of_sum x (neg_ℤ y), size_of_neg y)

pub size_of_product_at_most : (m n : ℕ) (x y : ℤ) → nat_abs x ≤ m → nat_abs y ≤ n → nat_abs (x *ℤ y) ≤ m * n
size_of_product_at_most m n x y h k = omega (arith, size_of_product x y, mul-le-mul {n₂ = m} {m₂ = n} h k)

-- The product of two numbers of 32 bits fits 64.
pub product_fits_64 : (m n : ℕ) → m < 2 ^ 32 → n < 2 ^ 32 → Fits w64 (m * n)
product_fits_64 m n h k =
    record { fits = omega (arith, mul-le-mul {n₁ = m} {m₁ = n} {n₂ = 4294967295} {m₂ = 4294967295} (omega arith) (omega arith)) }

-- rounding down does not raise the size
pub size_of_quotient : (z : ℤ) (d : ℕ) → nat_abs (floor_div z d) ≤ nat_abs z
unfolding floor_div
size_of_quotient (pos n) d = div-le_self n d
size_of_quotient (negsuc n) d = omega (arith, div-le_self n d)

-- the size of a number that fits w bits
pub fitting_size : (w : Width) (z : ℤ) → SFits w z → nat_abs z ≤ 2 ^ hbits w
fitting_size w (pos m) f = omega (arith, f.sfits)
fitting_size w (negsuc m) f = omega (arith, f.sfits)

-- p - q fits w bits if p < 2^(w - 1) and q ≤ 2^(w - 1)
parts_fit : (w : Width) (z : ℤ) {p q : ℕ} → Difference z p q → p < 2 ^ hbits w → q ≤ 2 ^ hbits w → SFits w z
parts_fit w (pos n) h k l = record { sfits = omega (arith, h.apart) }
parts_fit w (negsuc n) h k l = record { sfits = omega (arith, h.apart) }

-- A number of v bits less one of size at most n fits w bits. (By its size alone 2^(w - 1) would not fit.)
pub difference_fits :
    (v w : Width) (n : ℕ) (x y : ℤ) → SFits v x → nat_abs y ≤ n → 2 ^ hbits v + n ≤ 2 ^ hbits w → SFits w (x -ℤ y)
difference_fits v w n x y f h k =
    parts_fit w (x -ℤ y) (parts_add (own_parts x) (parts_neg (own_parts y)))
    (omega (arith, fitting_parts x f, parts_at_most y h))
    (omega (arith, fitting_parts x f, parts_at_most y h))
  where
    fitting_parts : (x : ℤ) → SFits v x → (above x < 2 ^ hbits v) × (below x ≤ 2 ^ hbits v)
    fitting_parts (pos m) f = (omega (arith, f.sfits), omega arith)
    fitting_parts (negsuc m) f = (omega (arith, f.sfits), omega (arith, f.sfits))

    parts_at_most : (y : ℤ) → nat_abs y ≤ n → (above y ≤ n) × (below y ≤ n)
    parts_at_most (pos m) h = (omega arith, omega arith)
    parts_at_most (negsuc m) h = (omega arith, omega arith)
