-- Quotients rounded up.
-- Assumes nothing.
use Prim.Native.Nat.{ℕ, ◌+◌, ◌*◌, ◌-◌, ◌≤◌}
use mathlib.Core.Path.{◌≡◌}
use native.Mathlib.Omega.{arith}
use native.Mathlib.Nat.{le-mul_of_pos_right, div-mul-le_self, mul-le-mul}
use Rattle.integers.specs.Division.{ceil_div}
use Rattle.integers.proofs.Divisions.{ceiling_division}

-- n/k rounded up is not above n
pub ceiling_at_most : (n k : ℕ) → 1 ≤ k → ceil_div n k ≤ n
ceiling_at_most n k h = (ceiling_division n k h n).1 (le-mul_of_pos_right {m = k} n h)

-- the blocks of k that n needs are less than n + k long
pub blocks_at_most : (n k : ℕ) → ceil_div n k * k ≤ n + (k - 1)
unfolding ceil_div
blocks_at_most n k = div-mul-le_self (n + (k - 1)) k

-- what `rounded_up` asks of a side n and a divisor k
abbrev pub Rounds : ℕ → ℕ → Type 0
Rounds n k = (n ≤ 4096) × (1 ≤ k) × (k ≤ 1024)

-- two such results, and their product
pub rounded_at_most : (n k : ℕ) {m : ℕ} → Rounds n k → m ≡ ceil_div n k → m ≤ 4096
rounded_at_most n k h e = rw e (omega (arith, ceiling_at_most n k h.1, h.0))

pub product_at_most : (m n : ℕ) → m ≤ 4096 → n ≤ 4096 → m * n ≤ 16777216
product_at_most m n h l = mul-le-mul {n₁ = m} {m₁ = n} {n₂ = 4096} {m₂ = 4096} h l
