-- A natural number in two digits, k × D + u with u below D.
-- Assumes nothing.
use Prim.Native.Nat.{ℕ, ◌+◌, ◌*◌, ◌/◌, ◌%◌, ◌<◌}
use mathlib.Core.Path.{◌≡◌, sym, ◌∙◌, ap}
use native.Mathlib.Omega.{arith}
use native.Mathlib.Nat.{mul-le-mul_right, mul-add-div_right, mul-add-mod_self_right, div-eq_of_lt, mod-eq_of_lt, add-zero}

-- the upper digit is the quotient by D, the lower one the remainder
pub upper_digit : (k D u : ℕ) → u < D → (k * D + u) / D ≡ k
upper_digit k D u h = mul-add-div_right {m = D} (omega arith) k u ∙ rw (div-eq_of_lt h) (add-zero k)

pub lower_digit : (k D u : ℕ) → u < D → (k * D + u) % D ≡ u
lower_digit k D u h = mul-add-mod_self_right k D u ∙ mod-eq_of_lt h

-- a number has only one pair of digits
pub digits_determine : (D : ℕ) {k l u v : ℕ} → u < D → v < D → k * D + u ≡ l * D + v → (k ≡ l) × (u ≡ v)
digits_determine D {k} {l} {u} {v} h g e = (
  sym (upper_digit k D u h) ∙ ap (λ (n : ℕ). n / D) e ∙ upper_digit l D v g,
  sym (lower_digit k D u h) ∙ ap (λ (n : ℕ). n % D) e ∙ lower_digit l D v g,
)

-- with an upper digit below K it is below K × D
pub digits_below : (K D : ℕ) {k u : ℕ} → k < K → u < D → k * D + u < K * D
digits_below K D h g = omega (arith, mul-le-mul_right D h)
