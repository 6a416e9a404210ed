-- The greatest common divisor, "worked out by the falling remainders of Euclid".
-- Assumes nothing.
use Rattle.std.specs.Prelude.{ℕ, zero, suc, ◌*◌, ◌%◌, ◌≡◌}

-- at most the given number of steps, each of them gcd(a, b) = gcd(b, a mod b)
unfoldable pub gcd_steps : ℕ → ℕ → ℕ → ℕ
gcd_steps zero a b = a
gcd_steps (suc steps) a zero = a
gcd_steps (suc steps) a (suc b) = gcd_steps steps (suc b) (a % suc b)

-- the second number falls at each step, so b + 1 steps reach 0
unfoldable pub gcd : ℕ → ℕ → ℕ
unfolding gcd_steps
gcd a b = gcd_steps (suc b) a b

-- Promises. The steps never run out: gcd is Euclid's rule.
pub record EuclidsRule : Type 0 where
  pub stop : (a : ℕ) → gcd a 0 ≡ a
  pub step : (a b : ℕ) → gcd a (suc b) ≡ gcd (suc b) (a % suc b)

-- n is a multiple of g
abbrev pub Multiple : ℕ → ℕ → Type 0
Multiple g n = (q : ℕ) × (n ≡ q * g)

-- gcd a b divides a and b, and every common divisor divides it
pub record GcdIsGreatest : Type 0 where
  pub left : (a b : ℕ) → Multiple (gcd a b) a
  pub right : (a b : ℕ) → Multiple (gcd a b) b
  pub greatest : (a b g : ℕ) → Multiple g a → Multiple g b → Multiple g (gcd a b)
