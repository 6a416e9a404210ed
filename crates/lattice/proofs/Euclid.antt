-- Euclid's falling remainders on the rows of two vectors lead to a basis of the same lattice whose second row is 0.
-- Assumes nothing.
use Prim.Native.Nat.{ℕ, zero, suc, ◌%◌, ◌<◌}
use mathlib.Core.Path.{◌≡◌, refl, ap, ◌∙◌}
use mathlib.Core.List.{[], ◌∷◌}
use native.Mathlib.Omega.{arith}
use native.Mathlib.Nat.{mod-lt}
use lib.IntN.{ℤ, pos, negsuc, neg_ℤ, nat_abs, ◌+ℤ◌, ◌*ℤ◌, ◌-ℤ◌}
use Rattle.integers.specs.Division.{floor_div, floor_mod}
use Rattle.integers.specs.Gcd.{gcd}
use Rattle.integers.proofs.Ring.{ring, linear, ◌·◌, reify}
use Rattle.integers.proofs.Divisions.{division, remainder_of_pos}
use Rattle.integers.proofs.Bezout.{euclids_rule}
use Rattle.scope.specs.Plans.{Pixel, minus, times, upright, falling}
use Rattle.lattice.proofs.Bases.{SameBasis, same_basis_itself, same_basis_then, unit_gives_basis}

-- v is s times x, where s is 1 or -1, and its row is the size of x's row
record Signed (x v : Pixel) : Type 0 where
  sign : ℤ
  unit : sign *ℤ sign ≡ pos 1
  columns : v.column ≡ sign *ℤ x.column
  rows : v.row ≡ sign *ℤ x.row
  row_size : v.row ≡ pos (nat_abs x.row)

upright_is_signed : (x : Pixel) → Signed x (upright x)
unfolding upright times
upright_is_signed x = at_row x.column x.row
  where
    at_row : (i j : ℤ) → Signed (record { column = i; row = j }) (upright (record { column = i; row = j }))
    at_row i (pos n) =
        record {
          sign = pos 1;
          unit = refl;
          columns = ring (i ∷ []) (search reify depth 40 fits 9000) refl;
          rows = ring (pos n ∷ []) (search reify depth 40 fits 9000) refl;
          row_size = refl;
        }
    at_row i (negsuc n) = record { sign = negsuc 0; unit = refl; columns = refl; rows = refl; row_size = ap pos (omega arith) }

pub upright_row : (x : Pixel) → (upright x).row ≡ pos (nat_abs x.row)
upright_row x = (upright_is_signed x).row_size

-- upright vectors have the lattice of the given ones
upright_gives_basis : (x y : Pixel) → SameBasis x y (upright x) (upright y)
upright_gives_basis x y = signed (upright_is_signed x) (upright_is_signed y)
  where
    signed : {v w : Pixel} → Signed x v → Signed y w → SameBasis x y v w
    signed h k =
        unit_gives_basis
        (record { m = s; n = pos 0; columns = h.columns ∙ first x.column y.column; rows = h.rows ∙ first x.row y.row })
        (record { m = pos 0; n = t; columns = k.columns ∙ second x.column y.column; rows = k.rows ∙ second x.row y.row })
        crossed
      where
        s : ℤ
        s = h.sign

        t : ℤ
        t = k.sign

        first : (i j : ℤ) → s *ℤ i ≡ s *ℤ i +ℤ pos 0 *ℤ j
        first i j = ring (i ∷ j ∷ s ∷ []) (search reify depth 40 fits 9000) refl

        second : (i j : ℤ) → t *ℤ j ≡ pos 0 *ℤ i +ℤ t *ℤ j
        second i j = ring (i ∷ j ∷ t ∷ []) (search reify depth 40 fits 9000) refl

        crossed : (s *ℤ t -ℤ pos 0 *ℤ pos 0) *ℤ (s *ℤ t -ℤ pos 0 *ℤ pos 0) ≡ pos 1
        crossed =
            linear ((t *ℤ t · h.unit) ∷ (pos 1 · k.unit) ∷ []) (ring (s ∷ t ∷ []) (search reify depth 40 fits 9000) refl)

-- the next pair of Euclid's steps
step_gives_basis : (x y : Pixel) (q : ℤ) → SameBasis x y y (minus x (times q y))
unfolding minus times
step_gives_basis x y q =
    unit_gives_basis
    (record { m = pos 0; n = pos 1; columns = second x.column y.column; rows = second x.row y.row })
    (record { m = pos 1; n = neg_ℤ q; columns = reduced x.column y.column; rows = reduced x.row y.row })
    (ring (q ∷ []) (search reify depth 40 fits 9000) refl)
  where
    second : (i j : ℤ) → j ≡ pos 0 *ℤ i +ℤ pos 1 *ℤ j
    second i j = ring (i ∷ j ∷ []) (search reify depth 40 fits 9000) refl

    reduced : (i j : ℤ) → i -ℤ q *ℤ j ≡ pos 1 *ℤ i +ℤ neg_ℤ q *ℤ j
    reduced i j = ring (i ∷ j ∷ q ∷ []) (search reify depth 40 fits 9000) refl

-- a basis of the lattice of x and y whose first vector is v, with row g, and whose second has row 0
pub record Reduced (x y v : Pixel) (g : ℕ) : Type 0 where
  pub w : Pixel
  pub basis : SameBasis x y v w
  pub row : v.row ≡ pos g
  pub level : w.row ≡ pos 0

-- the way of the pair s, t after a step from x, y to it
after : {x y s t v : Pixel} {g : ℕ} → SameBasis x y s t → Reduced s t v g → Reduced x y v g
after h k = record { w = k.w; basis = same_basis_then h k.basis; row = k.row; level = k.level }

-- the next vector of Euclid's steps, where y's row is n
unfoldable pub next : Pixel → Pixel → ℕ → Pixel
next x y n = minus x (times (floor_div x.row n) y)

-- Euclid's steps stop where y's row is 0, and else take a multiple of y off x
pub falling_stops : (steps : ℕ) (x y : Pixel) → nat_abs y.row ≡ 0 → falling (suc steps) x y ≡ x
unfolding falling
falling_stops steps x y e = rw (e, falling)

pub falling_goes :
    (steps : ℕ) (x y : Pixel) (r : ℕ) → nat_abs y.row ≡ suc r
    → falling (suc steps) x y ≡ falling steps y (next x y (suc r))
unfolding falling next
falling_goes steps x y r e = rw (e, falling)

-- What becomes of x and y, upright with rows m and n: n = 0
stop_reduces :
    (steps : ℕ) (x y : Pixel) (m : ℕ) → x.row ≡ pos m → y.row ≡ pos 0 → Reduced x y (falling (suc steps) x y) (gcd m 0)
stop_reduces steps x y m e f =
    rw (falling_stops steps x y (ap nat_abs f), euclids_rule.stop m)
    (record { w = y; basis = same_basis_itself; row = e; level = f })

-- and n > 0, where the next vector's row is the remainder
module _ (x y : Pixel) (m r : ℕ) (e : x.row ≡ pos m) (f : y.row ≡ pos (suc r)) where
  pub next_row : (next x y (suc r)).row ≡ pos (m % suc r)
  unfolding next minus times
  next_row =
      linear
      ((pos 1 · division x.row (suc r) (omega arith))
      ∷ (neg_ℤ (floor_div x.row (suc r)) · f)
      ∷ (pos 1 · ap pos (ap (λ z. floor_mod z (suc r)) e ∙ remainder_of_pos m (suc r)))
      ∷ [])
      (ring
      (x.row ∷ y.row ∷ floor_div x.row (suc r) ∷ pos (suc r) ∷ pos (floor_mod x.row (suc r)) ∷ pos (m % suc r) ∷ [])
      (search reify depth 40 fits 9000)
      refl)

  step_reduces :
      (steps : ℕ) → Reduced y (next x y (suc r)) (falling steps y (next x y (suc r))) (gcd (suc r) (m % suc r))
      → Reduced x y (falling (suc steps) x y) (gcd m (suc r))
  unfolding next
  step_reduces steps h =
      rw (falling_goes steps x y r (ap nat_abs f), euclids_rule.step m r)
      (after (step_gives_basis x y (floor_div x.row (suc r))) h)

pub remainder_in_steps : (steps m r : ℕ) → suc r < suc steps → m % suc r < steps
remainder_in_steps steps m r l = omega (arith, mod-lt m {m = suc r} (omega arith))

-- with more steps than the second row, the falling remainders reduce two upright vectors
falling_reduces :
    (steps : ℕ) (x y : Pixel) (m n : ℕ) → x.row ≡ pos m → y.row ≡ pos n → n < steps → Reduced x y (falling steps x y) (gcd m n)
falling_reduces zero x y m n e f l = absurd (omega arith)
falling_reduces (suc steps) x y m zero e f l = stop_reduces steps x y m e f
falling_reduces (suc steps) x y m (suc r) e f l =
    step_reduces x y m r e f steps
    (falling_reduces steps y (next x y (suc r)) (suc r) (m % suc r) f (next_row x y m r e f) (remainder_in_steps steps m r l))

-- Euclid's steps on any two vectors, made upright
pub euclid_reduces :
    (x y : Pixel)
    → Reduced x y (falling (suc (nat_abs y.row)) (upright x) (upright y)) (gcd (nat_abs x.row) (nat_abs y.row))
euclid_reduces x y =
    after (upright_gives_basis x y)
    (falling_reduces (suc (nat_abs y.row)) (upright x) (upright y) (nat_abs x.row) (nat_abs y.row) (upright_row x)
    (upright_row y)
    (omega arith))
