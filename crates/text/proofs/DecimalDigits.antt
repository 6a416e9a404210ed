-- What `decimal` writes is what the library prints, and how many digits that are.
-- Assumes nothing.
use Prim.Native.Nat.{ℕ, zero, suc, ◌+◌, ◌/◌, ◌%◌, ◌^◌, ◌≤◌, ◌<◌}
use native.Mathlib.Omega.{arith}
use native.Mathlib.Nat.{pow-suc}
use mathlib.Core.Path.{◌≡◌, refl, ◌∙◌, ap}
use mathlib.Core.List.{List, [], ◌∷◌, append-nil}
use lib.ListN.{length}
use Rattle.std.specs.Fmt as printed
use Rattle.std.proofs.lemmas.Fmt.{PrependsLastDigit, decimal_from_prepends, length-decimal-le_succ}
use Rattle.scope.specs.Program.{digits, decimal}
use Rattle.text.proofs.Decimal.{by_digits}

-- `digits` puts the last digit before what stands, and goes on with the number without it.
last_first : PrependsLastDigit digits
unfolding digits
last_first = record { one = λ k n acc h. one k n acc h; more = more }
  where
    one : (k n : ℕ) (acc : List ℕ) → n < 10 → digits (suc k) n acc ≡ (48 + n) ∷ acc
    one k n acc h =
        let e : n / 10 ≡ 0 = omega arith in let f : n % 10 ≡ n = omega arith in rw (e, digits) (ap (λ m. (48 + m) ∷ acc) f)

    more : (k n : ℕ) (acc : List ℕ) → 10 ≤ n → digits (suc k) n acc ≡ digits k (n / 10) ((48 + n % 10) ∷ acc)
    more k n acc h = by_quotient (n / 10) refl (omega arith)
      where
        by_quotient : (m : ℕ) → n / 10 ≡ m → 0 < m → digits (suc k) n acc ≡ digits k (n / 10) ((48 + n % 10) ∷ acc)
        by_quotient zero e h = absurd (omega arith)
        by_quotient (suc m) e h = rw (e, digits)

-- The digits of a number of 64 bits.
pub decimal_is_printed : (n : ℕ) → n < 2 ^ 64 → decimal n ≡ printed.decimal n
unfolding decimal
decimal_is_printed n h =
    decimal_from_prepends digits last_first (suc n) n [] h (omega (arith, length-decimal-le_succ n h)) ∙ append-nil (printed.decimal n)

-- A number below 10 to the k, k at least 1, has at most k digits.
pub digits_at_most : (k n : ℕ) → n < 10 ^ suc k → length (decimal n) ≤ suc k
unfolding decimal
digits_at_most k n h =
    omega (
      arith,
      by_digits (λ n rest text. (k : ℕ) → n < 10 ^ suc k → length text ≤ suc k + length rest) one more (suc n) n [] (omega arith) k h,
    )
  where
    one :
        (n : ℕ) (rest : List ℕ) → n / 10 ≡ 0 → (k : ℕ) → n < 10 ^ suc k
        → length ((48 + n % 10) ∷ rest) ≤ suc k + length rest
    one n rest e k h = omega arith

    more :
        (n : ℕ) (rest text : List ℕ) → 0 < n / 10
        → ((k : ℕ) → n / 10 < 10 ^ suc k → length text ≤ suc k + length ((48 + n % 10) ∷ rest))
        → (k : ℕ) → n < 10 ^ suc k → length text ≤ suc k + length rest
    more n rest text h shorter zero small = absurd (omega arith)
    more n rest text h shorter (suc k) small = omega (arith, shorter k (omega (arith, pow-suc 10 (suc k))))
