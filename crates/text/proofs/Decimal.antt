-- What `decimal` writes: digits that tell the number, without a needless 0 in front.
-- Assumes nothing.
use Prim.Native.Nat.{ℕ, zero, suc, ◌+◌, ◌/◌, ◌%◌, ◌≤◌, ◌<◌}
use native.Mathlib.Omega.{arith}
use mathlib.Core.Path.{◌≡◌, refl, ◌∙◌, ap}
use mathlib.Core.Logic.{◌⊎◌, inl, inr}
use mathlib.Core.List.Memᴰ
use mathlib.Core.List.{List, [], ◌∷◌, Memᴰ}
use lib.ListN.{length, get_or}
use Rattle.scope.specs.Program.{digits, decimal}
use Rattle.scope.specs.promises.BookPromises.{number_in, DecimalMeans}

-- What holds of a number of one digit, and of a number if it holds of the number without its last digit in front of that
-- digit, holds of all that `digits` writes, if the steps suffice.
pub by_digits :
    (P : ℕ → List ℕ → List ℕ → Type 0)
    → ((n : ℕ) (rest : List ℕ) → n / 10 ≡ 0 → P n rest ((48 + n % 10) ∷ rest))
    → ((n : ℕ) (rest text : List ℕ) → 0 < n / 10 → P (n / 10) ((48 + n % 10) ∷ rest) text → P n rest text)
    → (steps n : ℕ) (rest : List ℕ) → n < steps → P n rest (digits steps n rest)
unfolding digits
by_digits P one more zero n rest h = absurd (omega arith)
by_digits P one more (suc steps) n rest h = by_quotient (n / 10) refl (by_digits P one more steps)
  where
    by_quotient :
        (m : ℕ) → n / 10 ≡ m
        → ((n : ℕ) (rest : List ℕ) → n < steps → P n rest (digits steps n rest))
        → P n rest (digits (suc steps) n rest)
    by_quotient zero e shorter = rw (e, digits) (one n rest e)
    by_quotient (suc m) e shorter =
        rw (e, digits) (more n rest _ (omega arith) (rw e (shorter (suc m) ((48 + n % 10) ∷ rest) (omega arith))))

digits_tell : (n : ℕ) (rest : List ℕ) → number_in 0 (digits (suc n) n rest) ≡ number_in n rest
unfolding number_in
digits_tell n rest = by_digits (λ n rest text. number_in 0 text ≡ number_in n rest) one more (suc n) n rest (omega arith)
  where
    one : (n : ℕ) (rest : List ℕ) → n / 10 ≡ 0 → number_in 0 ((48 + n % 10) ∷ rest) ≡ number_in n rest
    one n rest e = ap (λ k. number_in k rest) (omega arith)

    more :
        (n : ℕ) (rest text : List ℕ) → 0 < n / 10 → number_in 0 text ≡ number_in (n / 10) ((48 + n % 10) ∷ rest)
        → number_in 0 text ≡ number_in n rest
    more n rest text h e = e ∙ ap (λ k. number_in k rest) (omega arith)

digits_are_some : (n : ℕ) (rest : List ℕ) → 1 ≤ length (digits (suc n) n rest)
digits_are_some n rest =
    by_digits (λ n rest text. 1 ≤ length text) (λ n rest e. omega arith) (λ n rest text h some. some) (suc n) n rest (omega arith)

abbrev Digit : ℕ → Type 0
Digit c = (48 ≤ c) × (c ≤ 57)

abbrev Digits : List ℕ → Type 0
Digits text = (c : ℕ) → Memᴰ c text → Digit c

digits_are_digits : (n : ℕ) (rest : List ℕ) → Digits rest → Digits (digits (suc n) n rest)
digits_are_digits n rest =
    by_digits (λ n rest text. Digits rest → Digits text) (λ n rest e. in_front n rest) more (suc n) n rest (omega arith)
  where
    in_front : (n : ℕ) (rest : List ℕ) → Digits rest → Digits ((48 + n % 10) ∷ rest)
    in_front n rest d c m = by_place (Memᴰ.cases_cons m)
      where
        by_place : (c ≡ 48 + n % 10) ⊎ Memᴰ c rest → Digit c
        by_place (inl e) = omega arith
        by_place (inr m) = d c m

    more : (n : ℕ) (rest text : List ℕ) → 0 < n / 10 → (Digits ((48 + n % 10) ∷ rest) → Digits text) → Digits rest → Digits text
    more n rest text h shorter d = shorter (in_front n rest d)

digits_begin_without_0 : (n : ℕ) (rest : List ℕ) → 0 < n → get_or (digits (suc n) n rest) 0 0 ≡ 48 → ⊥
digits_begin_without_0 n rest =
    by_digits (λ n rest text. 0 < n → get_or text 0 0 ≡ 48 → ⊥) (λ n rest e h z. omega arith)
    (λ n rest text h shorter _. shorter h)
    (suc n) n rest
    (omega arith)

-- `decimal n` is digits that tell n, and begins with 0 only where it is one digit.
pub decimal_means : DecimalMeans
unfolding decimal number_in
decimal_means =
    record {
      tells = λ n. digits_tell n [];
      some_digit = λ n. digits_are_some n [];
      digit = λ n. digits_are_digits n [] (λ c m. absurd (Memᴰ.not-nil m));
      no_zero_first = only_zero;
    }
  where
    only_zero : (n : ℕ) → get_or (decimal n) 0 0 ≡ 48 → length (decimal n) ≡ 1
    only_zero zero e = refl
    only_zero (suc n) e = absurd (digits_begin_without_0 (suc n) [] (omega arith) e)
