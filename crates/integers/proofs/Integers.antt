-- An integer as a difference of two naturals, and by it the laws of ℤ that the library lacks: what is left of each is
-- an identity of naturals. Later files use the laws, or the ring solver made of them, and not the differences.
-- Assumes nothing.
use Prim.Native.Nat.{ℕ, zero, suc, ◌+◌, ◌*◌, ◌-◌, ◌≤◌, ◌<◌}
use mathlib.Core.Path.{◌≡◌, refl, ap, ◌∙◌}
use mathlib.Core.Bool.{Bool, true, false, not, cond}
use native.Mathlib.Omega.{arith}
use lib.Dec.{T, ltb, ltb→lt, nltb→le, le→leb, leb→le}
use lib.IntN.{ℤ, pos, negsuc, neg_ℤ, sub_ℕ, nat_abs, one, ◌+ℤ◌, ◌*ℤ◌, *ℤ_comm, *ℤ-one}
use lib.Signed.{◌≤ℤ◌}

-- z is p - q, said in naturals
abbrev Apart : ℤ → ℕ → ℕ → Type 0
Apart (pos n) p q = n + q ≡ p
Apart (negsuc n) p q = suc n + p ≡ q

pub record Difference (z : ℤ) (p q : ℕ) : Type 0 where
  pub apart : Apart z p q

-- an integer's own two parts, one of which is 0
abbrev pub above : ℤ → ℕ
above (pos n) = n
above (negsuc n) = 0

abbrev pub below : ℤ → ℕ
below (pos n) = 0
below (negsuc n) = suc n

pub own_parts : (z : ℤ) → Difference z (above z) (below z)
own_parts (pos n) = omega arith
own_parts (negsuc n) = omega arith

-- equal differences are of equal integers, and the other way round
pub same_integer : {x y : ℤ} {p q r s : ℕ} → Difference x p q → Difference y r s → p + s ≡ r + q → x ≡ y
same_integer {x = pos a} {y = pos b} h k e = ap pos (omega arith)
same_integer {x = pos a} {y = negsuc b} h k e = absurd (omega arith)
same_integer {x = negsuc a} {y = pos b} h k e = absurd (omega arith)
same_integer {x = negsuc a} {y = negsuc b} h k e = ap negsuc (omega arith)

pub same_difference : {x y : ℤ} {p q r s : ℕ} → x ≡ y → Difference x p q → Difference y r s → p + s ≡ r + q
same_difference {x} {p} {q} {r} {s} e h k = both x h (rw e k)
  where
    both : (z : ℤ) → Difference z p q → Difference z r s → p + s ≡ r + q
    both (pos n) h k = omega arith
    both (negsuc n) h k = omega arith

other_parts : {x : ℤ} {p q : ℕ} (r s : ℕ) → Difference x p q → p + s ≡ r + q → Difference x r s
other_parts {x = pos n} r s h e = omega arith
other_parts {x = negsuc n} r s h e = omega arith

-- the parts of -x, of x + y and of x × y
pub parts_neg : {x : ℤ} {p q : ℕ} → Difference x p q → Difference (neg_ℤ x) q p
parts_neg {x = pos zero} h = omega arith
parts_neg {x = pos (suc n)} h = omega arith
parts_neg {x = negsuc n} h = omega arith

parts_sub : (m n : ℕ) → Difference (sub_ℕ m n) m n
parts_sub m n = either (ltb m n) (ltb→lt m n) (nltb→le m n)
  where
    either : (c : Bool) → (T c → m < n) → (T (not c) → n ≤ m) → Difference (cond c (negsuc (n - suc m)) (pos (m - n))) m n
    either true less more = let h : m < n = less tt in omega arith
    either false less more = let h : n ≤ m = more tt in omega arith

pub parts_add : {x y : ℤ} {p q r s : ℕ} → Difference x p q → Difference y r s → Difference (x +ℤ y) (p + r) (q + s)
parts_add {x = pos m} {y = pos n} h k = omega arith
parts_add {x = pos m} {y = negsuc n} h k = other_parts _ _ (parts_sub m (suc n)) (omega arith)
parts_add {x = negsuc m} {y = pos n} h k = other_parts _ _ (parts_sub n (suc m)) (omega arith)
parts_add {x = negsuc m} {y = negsuc n} h k = omega arith

pub parts_mul :
    {x y : ℤ} {p q r s : ℕ} → Difference x p q → Difference y r s → Difference (x *ℤ y) (p * r + q * s) (p * s + q * r)
parts_mul {x = pos m} {y = pos n} h k = rw (← h.apart, ← k.apart) (omega arith)
parts_mul {x = pos m} {y = negsuc n} h k =
    parts_neg {x = pos (m * suc n)} (rw (← h.apart, ← k.apart) (omega arith))
parts_mul {x = negsuc m} {y = pos n} h k =
    parts_neg {x = pos (suc m * n)} (rw (← h.apart, ← k.apart) (omega arith))
parts_mul {x = negsuc m} {y = negsuc n} h k = rw (← h.apart, ← k.apart) (omega arith)

-- What the ring solver rests on.
module _ (x y z : ℤ) where
  pub product_assoc : x *ℤ y *ℤ z ≡ x *ℤ (y *ℤ z)
  product_assoc =
      same_integer (parts_mul (parts_mul (own_parts x) (own_parts y)) (own_parts z))
      (parts_mul (own_parts x) (parts_mul (own_parts y) (own_parts z)))
      (omega arith)

  pub product_of_sum : x *ℤ (y +ℤ z) ≡ x *ℤ y +ℤ x *ℤ z
  product_of_sum =
      same_integer (parts_mul (own_parts x) (parts_add (own_parts y) (own_parts z)))
      (parts_add (parts_mul (own_parts x) (own_parts y)) (parts_mul (own_parts x) (own_parts z)))
      (omega arith)

  pub sum_times : (x +ℤ y) *ℤ z ≡ x *ℤ z +ℤ y *ℤ z
  sum_times =
      same_integer (parts_mul (parts_add (own_parts x) (own_parts y)) (own_parts z))
      (parts_add (parts_mul (own_parts x) (own_parts z)) (parts_mul (own_parts y) (own_parts z)))
      (omega arith)

  pub sum_swap : x +ℤ (y +ℤ z) ≡ y +ℤ (x +ℤ z)
  sum_swap =
      same_integer (parts_add (own_parts x) (parts_add (own_parts y) (own_parts z)))
      (parts_add (own_parts y) (parts_add (own_parts x) (own_parts z)))
      (omega arith)

  pub product_swap : x *ℤ (y *ℤ z) ≡ y *ℤ (x *ℤ z)
  product_swap =
      same_integer (parts_mul (own_parts x) (parts_mul (own_parts y) (own_parts z)))
      (parts_mul (own_parts y) (parts_mul (own_parts x) (own_parts z)))
      (omega arith)

pub neg_times : (x y : ℤ) → neg_ℤ x *ℤ y ≡ neg_ℤ (x *ℤ y)
neg_times x y =
    same_integer (parts_mul (parts_neg (own_parts x)) (own_parts y))
    (parts_neg (parts_mul (own_parts x) (own_parts y)))
    (omega arith)

pub times_one : (x : ℤ) → x *ℤ pos 1 ≡ x
unfolding one
times_one x = *ℤ-one x

pub one_times : (x : ℤ) → pos 1 *ℤ x ≡ x
one_times x = *ℤ_comm (pos 1) x ∙ times_one x

-- `pos` and `negsuc` keep numbers apart
pub pos_injective : {m n : ℕ} → pos m ≡ pos n → m ≡ n
pos_injective e = cc

pub negsuc_injective : {m n : ℕ} → negsuc m ≡ negsuc n → m ≡ n
negsuc_injective e = cc

-- The size of an integer: of -x, of a product, and that only 0 has size 0.
pub size_of_neg : (x : ℤ) → nat_abs (neg_ℤ x) ≡ nat_abs x
size_of_neg (pos zero) = refl
size_of_neg (pos (suc n)) = refl
size_of_neg (negsuc n) = refl

pub size_of_product : (x y : ℤ) → nat_abs (x *ℤ y) ≡ nat_abs x * nat_abs y
size_of_product (pos m) (pos n) = refl
size_of_product (pos m) (negsuc n) = size_of_neg (pos (m * suc n))
size_of_product (negsuc m) (pos n) = size_of_neg (pos (suc m * n))
size_of_product (negsuc m) (negsuc n) = refl

pub size_zero : (x : ℤ) → nat_abs x ≡ 0 → x ≡ pos 0
size_zero (pos n) e = ap pos e
size_zero (negsuc n) e = absurd (omega arith)

-- x ≤ y in parts, and the other way round.
pub le_by_parts : {x y : ℤ} {p q r s : ℕ} → Difference x p q → Difference y r s → p + s ≤ r + q → x ≤ℤ y
le_by_parts {x = pos m} {y = pos n} h k l = record { le = le→leb m n (omega arith) }
le_by_parts {x = pos m} {y = negsuc n} h k l = absurd (omega arith)
le_by_parts {x = negsuc m} {y = pos n} h k l = record { le = tt }
le_by_parts {x = negsuc m} {y = negsuc n} h k l = record { le = le→leb n m (omega arith) }

pub parts_of_le : {x y : ℤ} {p q r s : ℕ} → x ≤ℤ y → Difference x p q → Difference y r s → p + s ≤ r + q
parts_of_le {x = pos m} {y = pos n} l h k = omega (arith, leb→le m n l.le)
parts_of_le {x = pos m} {y = negsuc n} l h k = absurd l.le
parts_of_le {x = negsuc m} {y = pos n} l h k = omega arith
parts_of_le {x = negsuc m} {y = negsuc n} l h k = omega (arith, leb→le n m l.le)
