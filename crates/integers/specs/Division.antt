-- Whole numbers divided by a positive one, rounded down, as document 01 rounds: "q rounded down", "0 ≤ r < d", "the remainder from 0 to a - 1".
-- Assumes nothing.
use Rattle.std.specs.Prelude.{ℕ, suc, ◌+◌, ◌-◌, ◌*◌, ◌/◌, ◌%◌, ◌≤◌, ◌<◌, ◌≡◌, ◌↔◌, Bool, true, false, eqb, ℤ, pos, negsuc, ◌+ℤ◌, ◌*ℤ◌}

-- z/d rounded down; `negsuc n` is -(n + 1)
unfoldable pub floor_div : ℤ → ℕ → ℤ
floor_div (pos n) d = pos (n / d)
floor_div (negsuc n) d = negsuc (n / d)

-- z mod d, the remainder from 0 to d - 1
unfoldable pub floor_mod : ℤ → ℕ → ℕ
floor_mod (pos n) d = n % d
floor_mod (negsuc n) d = d - suc (n % d)

-- n/d rounded up
unfoldable pub ceil_div : ℕ → ℕ → ℕ
ceil_div n d = (n + (d - 1)) / d

-- d divides z
unfoldable pub divides : ℕ → ℤ → Bool
unfolding floor_mod
divides d z = eqb (floor_mod z d) 0

-- the same whole number
unfoldable pub same_number : ℤ → ℤ → Bool
same_number (pos m) (pos n) = eqb m n
same_number (pos m) (negsuc n) = false
same_number (negsuc m) (pos n) = false
same_number (negsuc m) (negsuc n) = eqb m n

-- Promises. z = q × d + r with 0 ≤ r < d has exactly one q and r, and they are floor_div z d and floor_mod z d.
pub record IsDivision (z : ℤ) (d : ℕ) (q : ℤ) (r : ℕ) : Type 0 where
  pub sum : z ≡ q *ℤ pos d +ℤ pos r
  pub below : r < d

abbrev pub FloorDivision : Type 0
FloorDivision = (z : ℤ) (d : ℕ) → 0 < d → (q : ℤ) (r : ℕ) → IsDivision z d q r ↔ ((q ≡ floor_div z d) × (r ≡ floor_mod z d))

-- `divides` is divisibility
abbrev pub Divisibility : Type 0
Divisibility = (d : ℕ) → 0 < d → (z : ℤ) → (divides d z ≡ true) ↔ ((q : ℤ) × (z ≡ q *ℤ pos d))

-- `ceil_div n d` is the least m with n ≤ m × d
abbrev pub CeilingDivision : Type 0
CeilingDivision = (n d : ℕ) → 0 < d → (m : ℕ) → (ceil_div n d ≤ m) ↔ (n ≤ m * d)

-- `same_number` is equality
abbrev pub SameNumberMeans : Type 0
SameNumberMeans = (y z : ℤ) → (same_number y z ≡ true) ↔ (y ≡ z)
