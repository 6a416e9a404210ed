-- Floor division and its remainder: they exist, they are the only ones, and what they do to sums and differences.
-- A remainder goes through `division` or `remainder_is`; divisibility through the record `Divides`.
-- Assumes nothing.
use Prim.Native.Nat.{ℕ, zero, suc, ◌+◌, ◌*◌, ◌-◌, ◌/◌, ◌%◌, ◌≤◌, ◌<◌}
use mathlib.Core.Path.{◌≡◌, refl, sym, ap, ◌∙◌}
use mathlib.Core.Logic.Iff
use mathlib.Core.Logic.{◌↔◌}
use mathlib.Core.Bool.{true, false≢true}
use mathlib.Core.List.{[], ◌∷◌}
use native.Mathlib.Omega.{arith}
use native.Mathlib.Nat.{div-add-mod, div-add-mod', mod-lt, mul-mod_left, div-lt_iff_lt-mul}
use borrow.Author.Tests.{eqb-true, eq-eqb}
use lib.IntN.{ℤ, pos, negsuc, nat_abs, pos-ne-negsuc, ◌+ℤ◌, ◌*ℤ◌, ◌-ℤ◌}
use Rattle.integers.specs.Division.{floor_div, floor_mod, ceil_div, divides, same_number, IsDivision, FloorDivision, Divisibility, CeilingDivision, SameNumberMeans}
use Rattle.integers.specs.Gcd.{Multiple}
use Rattle.integers.proofs.Integers.{above, below, own_parts, same_integer, same_difference, parts_add, parts_mul, pos_injective, negsuc_injective, size_of_product}
use Rattle.integers.proofs.Ring.{ring, linear, ◌·◌, reify}
use Rattle.integers.proofs.Digits.{digits_determine}

-- z = q × d + r, with the quotient and the remainder of the definitions, and r is below d
pub division : (z : ℤ) (d : ℕ) → 0 < d → z ≡ floor_div z d *ℤ pos d +ℤ pos (floor_mod z d)
unfolding floor_div floor_mod
division (pos n) d h = ap pos (omega (arith, div-add-mod n d))
division (negsuc n) d h =
    let e : d * (n / d) + n % d ≡ n = div-add-mod n d in
    let l : n % d < d = mod-lt n h in
    same_integer (own_parts (negsuc n))
    (parts_add (parts_mul (own_parts (negsuc (n / d))) (own_parts (pos d))) (own_parts (pos (d - suc (n % d)))))
    (omega arith)

pub remainder_below : (z : ℤ) (d : ℕ) → 0 < d → floor_mod z d < d
unfolding floor_mod
remainder_below (pos n) d h = mod-lt n h
remainder_below (negsuc n) d h = let l : n % d < d = mod-lt n h in omega arith

-- of a number that is not negative they are those of ℕ
pub quotient_of_pos : (n d : ℕ) → floor_div (pos n) d ≡ pos (n / d)
unfolding floor_div
quotient_of_pos n d = refl

pub remainder_of_pos : (n d : ℕ) → floor_mod (pos n) d ≡ n % d
unfolding floor_mod
remainder_of_pos n d = refl

-- there is only one quotient and only one remainder
only_quotient :
    (d : ℕ) (q p : ℤ) (r s : ℕ) → r < d → s < d → q *ℤ pos d +ℤ pos r ≡ p *ℤ pos d +ℤ pos s → q ≡ p
only_quotient d q p r s h k e =
    same_integer (own_parts q) (own_parts p)
    (digits_determine d {k = above q + below p} {l = above p + below q} h k
    (omega (
      arith,
      same_difference e
          (parts_add (parts_mul (own_parts q) (own_parts (pos d))) (own_parts (pos r)))
          (parts_add (parts_mul (own_parts p) (own_parts (pos d))) (own_parts (pos s))),
    ))).0

same_rest : (x : ℤ) (r s : ℕ) → x +ℤ pos r ≡ x +ℤ pos s → r ≡ s
same_rest x r s e =
    omega (arith, same_difference e (parts_add (own_parts x) (own_parts (pos r))) (parts_add (own_parts x) (own_parts (pos s))))

-- a positive factor can be taken off
pub cancel_factor : (d : ℕ) → 0 < d → (x y : ℤ) → x *ℤ pos d ≡ y *ℤ pos d → x ≡ y
cancel_factor d h x y e = only_quotient d x y 0 0 h h (ap (λ z. z +ℤ pos 0) e)

module _ (d : ℕ) (h : 0 < d) where
  -- z = q × d + r with r below d: q and r are the quotient and the remainder
  pub quotient_is : (z q : ℤ) (r : ℕ) → r < d → z ≡ q *ℤ pos d +ℤ pos r → floor_div z d ≡ q
  quotient_is z q r k e =
      only_quotient d (floor_div z d) q (floor_mod z d) r (remainder_below z d h) k (sym (division z d h) ∙ e)

  pub remainder_is : (z q : ℤ) (r : ℕ) → r < d → z ≡ q *ℤ pos d +ℤ pos r → floor_mod z d ≡ r
  remainder_is z q r k e =
      same_rest (q *ℤ pos d) (floor_mod z d) r
      (ap (λ w. w *ℤ pos d +ℤ pos (floor_mod z d)) (sym (quotient_is z q r k e)) ∙ sym (division z d h) ∙ e)

  -- a number from 0 to d - 1 is its own remainder
  pub remainder_of_small : (n : ℕ) → n < d → floor_mod (pos n) d ≡ n
  remainder_of_small n k =
      remainder_is (pos n) (pos 0) n k (ring (pos n ∷ pos d ∷ []) (search reify depth 40 fits 9000) refl)

  -- q × d more gives the same remainder, and q more of the quotient
  shifted_division : (z q : ℤ) → z +ℤ q *ℤ pos d ≡ (floor_div z d +ℤ q) *ℤ pos d +ℤ pos (floor_mod z d)
  shifted_division z q =
      linear ((pos 1 · division z d h) ∷ [])
      (ring (z ∷ q ∷ pos d ∷ floor_div z d ∷ pos (floor_mod z d) ∷ []) (search reify depth 40 fits 9000) refl)

  pub remainder_of_shift : (z q : ℤ) → floor_mod (z +ℤ q *ℤ pos d) d ≡ floor_mod z d
  remainder_of_shift z q =
      remainder_is (z +ℤ q *ℤ pos d) (floor_div z d +ℤ q) (floor_mod z d) (remainder_below z d h) (shifted_division z q)

  -- the remainder of a sum
  pub remainder_of_sum : (x y : ℤ) → floor_mod (x +ℤ y) d ≡ (floor_mod x d + floor_mod y d) % d
  remainder_of_sum x y =
      let s : ℕ = floor_mod x d + floor_mod y d in
      remainder_is (x +ℤ y) (floor_div x d +ℤ floor_div y d +ℤ pos (s / d)) (s % d) (mod-lt s h)
      (linear ((pos 1 · division x d h) ∷ (pos 1 · division y d h) ∷ (negsuc 0 · ap pos (div-add-mod s d)) ∷ [])
      (ring
      (x ∷ y ∷ pos d ∷ floor_div x d ∷ floor_div y d ∷ pos (floor_mod x d) ∷ pos (floor_mod y d) ∷ pos (s / d) ∷ pos (s % d) ∷ [])
      (search reify depth 40 fits 9000)
      refl))

-- z is a multiple of d
pub record Divides (d : ℕ) (z : ℤ) : Type 0 where
  pub times : ℤ
  pub is : z ≡ times *ℤ pos d

-- divisors of naturals are multiples in ℕ, and the other way round
pub divides_multiple : (d n : ℕ) → Divides d (pos n) → Multiple d n
divides_multiple d n w = (nat_abs w.times, ap nat_abs w.is ∙ size_of_product w.times (pos d))

pub multiple_divides : (d n : ℕ) → Multiple d n → Divides d (pos n)
multiple_divides d n (q, e) = record { times = pos q; is = ap pos e }

-- a natural has no remainder exactly if it is a multiple
pub no_remainder_iff : (n d : ℕ) → (n % d ≡ 0) ↔ Multiple d n
no_remainder_iff n d = (λ e. (n / d, omega (arith, div-add-mod' n d, e)), λ (q, e). ap (λ (k : ℕ). k % d) e ∙ mul-mod_left q d)

-- a divisor of a positive number is not above it
pub divisor_at_most : (d n : ℕ) → 0 < n → Divides d (pos n) → d ≤ n
divisor_at_most d n h w = by_times (divides_multiple d n w)
  where
    by_times : Multiple d n → d ≤ n
    by_times (zero, e) = absurd (omega arith)
    by_times (suc q, e) = omega arith

module _ (d : ℕ) (h : 0 < d) where
  -- d divides z exactly if the remainder is 0
  pub remainder_zero_iff_divides : (z : ℤ) → (floor_mod z d ≡ 0) ↔ Divides d z
  remainder_zero_iff_divides z = (there, back)
    where
      there : floor_mod z d ≡ 0 → Divides d z
      there e =
          record {
            times = floor_div z d;
            is =
                linear ((pos 1 · division z d h) ∷ (pos 1 · ap pos e) ∷ [])
                (ring (z ∷ pos d ∷ floor_div z d ∷ pos (floor_mod z d) ∷ []) (search reify depth 40 fits 9000) refl);
          }

      back : Divides d z → floor_mod z d ≡ 0
      back w =
          remainder_is d h z w.times 0 h
          (w.is ∙ ring (pos d ∷ w.times ∷ []) (search reify depth 40 fits 9000) refl)

  -- and then the quotient is the factor
  pub quotient_of_multiple : {z : ℤ} (w : Divides d z) → floor_div z d ≡ w.times
  quotient_of_multiple {z} w =
      quotient_is d h z w.times 0 h (w.is ∙ ring (pos d ∷ w.times ∷ []) (search reify depth 40 fits 9000) refl)

  -- two numbers have the same remainder exactly if d divides their difference
  pub same_remainder_iff_divides : (x y : ℤ) → (floor_mod x d ≡ floor_mod y d) ↔ Divides d (x -ℤ y)
  same_remainder_iff_divides x y = (there, back)
    where
      there : floor_mod x d ≡ floor_mod y d → Divides d (x -ℤ y)
      there e =
          record {
            times = floor_div x d -ℤ floor_div y d;
            is =
                linear ((pos 1 · division x d h) ∷ (negsuc 0 · division y d h) ∷ (pos 1 · ap pos e) ∷ [])
                (ring (x ∷ y ∷ pos d ∷ floor_div x d ∷ floor_div y d ∷ pos (floor_mod x d) ∷ pos (floor_mod y d) ∷ [])
                (search reify depth 40 fits 9000)
                refl);
          }

      back : Divides d (x -ℤ y) → floor_mod x d ≡ floor_mod y d
      back w =
          remainder_is d h x (floor_div y d +ℤ w.times) (floor_mod y d) (remainder_below y d h)
          (linear ((pos 1 · w.is) ∷ (pos 1 · division y d h) ∷ [])
          (ring (x ∷ y ∷ pos d ∷ floor_div y d ∷ w.times ∷ pos (floor_mod y d) ∷ []) (search reify depth 40 fits 9000) refl))

  -- the test `divides` holds exactly if d divides z
  pub divides_iff : (z : ℤ) → (divides d z ≡ true) ↔ Divides d z
  unfolding divides
  divides_iff z = Iff.trans (eqb-true (floor_mod z d) 0, eq-eqb (floor_mod z d) 0) (remainder_zero_iff_divides z)

-- The quotient and the remainder are the only ones; `divides` is divisibility; rounding up; `same_number` is equality.
pub floor_division : FloorDivision
floor_division z d h q r = (there, back)
  where
    there : IsDivision z d q r → (q ≡ floor_div z d) × (r ≡ floor_mod z d)
    there w = (sym (quotient_is d h z q r w.below w.sum), sym (remainder_is d h z q r w.below w.sum))

    back : (q ≡ floor_div z d) × (r ≡ floor_mod z d) → IsDivision z d q r
    back (e, f) =
        record {
          sum = rw (e, f) (division z d h);
          below = rw f (remainder_below z d h);
        }

pub divisibility : Divisibility
divisibility d h z =
    (λ e. let w : Divides d z = (divides_iff d h z).0 e in (w.times, w.is), λ (q, e). (divides_iff d h z).1 (record { times = q; is = e }))

pub ceiling_division : CeilingDivision
unfolding ceil_div
ceiling_division n d h m = (there, back)
  where
    s : ℕ
    s = n + (d - 1)

    there : s / d ≤ m → n ≤ m * d
    there l = omega (arith, (div-lt_iff_lt-mul {x = s} {y = suc m} h).0 (omega arith))

    back : n ≤ m * d → s / d ≤ m
    back l = omega (arith, (div-lt_iff_lt-mul {x = s} {y = suc m} h).1 (omega arith))

pub same_number_means : SameNumberMeans
unfolding same_number
same_number_means (pos m) (pos n) = (λ e. ap pos (eqb-true m n e), λ e. eq-eqb m n (pos_injective e))
same_number_means (pos m) (negsuc n) = (λ e. absurd (false≢true e), λ e. absurd (pos-ne-negsuc m n e))
same_number_means (negsuc m) (pos n) = (λ e. absurd (false≢true e), λ e. absurd (pos-ne-negsuc n m (sym e)))
same_number_means (negsuc m) (negsuc n) = (λ e. ap negsuc (eqb-true m n e), λ e. eq-eqb m n (negsuc_injective e))
