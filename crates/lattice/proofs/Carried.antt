-- Euclid's falling remainders with the columns carried along modulo a: the column that they lead to depends modulo a
-- only on the two columns modulo a, and steps to spare change nothing.
-- Assumes nothing.
use Prim.Native.Nat.{ℕ, zero, suc, ◌+◌, ◌*◌, ◌-◌, ◌/◌, ◌%◌, ◌≤◌, ◌<◌}
use mathlib.Core.Path.{◌≡◌, refl, sym, ap, ◌∙◌}
use mathlib.Core.List.{[], ◌∷◌}
use native.Mathlib.Omega.{arith}
use lib.IntN.{ℤ, pos, neg_ℤ, nat_abs, ◌+ℤ◌, ◌*ℤ◌, ◌-ℤ◌}
use Rattle.integers.specs.Division.{floor_div, floor_mod}
use Rattle.integers.proofs.Ring.{ring, linear, ◌·◌, reify}
use Rattle.integers.proofs.Divisions.{Divides, same_remainder_iff_divides}
use Rattle.integers.proofs.Divisions.{remainder_below, remainder_of_pos, remainder_of_small, remainder_of_shift}
use Rattle.scope.specs.Plans.{Pixel, at, minus, times, upright, falling}
use Rattle.lattice.proofs.Euclid.{next, next_row, upright_row, falling_stops, falling_goes, remainder_in_steps}

-- v and w both have row n, and the same column modulo a
record Alike (a n : ℕ) (v w : Pixel) : Type 0 where
  left_row : v.row ≡ pos n
  right_row : w.row ≡ pos n
  columns : floor_mod v.column a ≡ floor_mod w.column a

module _ (a : ℕ) (positive : 0 < a) where
  -- u - p w and v - q z are congruent where u and v, p and q, w and z are
  difference_alike :
      (p q : ℤ) → p ≡ q → (u v w z : ℤ) → floor_mod u a ≡ floor_mod v a → floor_mod w a ≡ floor_mod z a
      → floor_mod (u -ℤ p *ℤ w) a ≡ floor_mod (v -ℤ q *ℤ z) a
  difference_alike p q e u v w z h k =
      let s : Divides a (u -ℤ v) = (same_remainder_iff_divides a positive u v).0 h in
      let t : Divides a (w -ℤ z) = (same_remainder_iff_divides a positive w z).0 k in
      (same_remainder_iff_divides a positive (u -ℤ p *ℤ w) (v -ℤ q *ℤ z)).1
      (record {
        times = s.times -ℤ p *ℤ t.times;
        is =
            linear ((pos 1 · s.is) ∷ (neg_ℤ p · t.is) ∷ (neg_ℤ z · e) ∷ [])
            (ring (u ∷ v ∷ w ∷ z ∷ p ∷ q ∷ s.times ∷ t.times ∷ pos a ∷ []) (search reify depth 40 fits 9000) refl);
      })

  -- one step
  next_alike :
      {m r : ℕ} {u v w z : Pixel} → Alike a m u v → Alike a (suc r) w z
      → Alike a (m % suc r) (next u w (suc r)) (next v z (suc r))
  unfolding next minus times
  next_alike {m} {r} {u} {v} {w} {z} h k =
      record {
        left_row = next_row u w m r h.left_row k.left_row;
        right_row = next_row v z m r h.right_row k.right_row;
        columns =
            difference_alike (floor_div u.row (suc r)) (floor_div v.row (suc r))
            (ap (λ (y : ℤ). floor_div y (suc r)) (h.left_row ∙ sym h.right_row))
            u.column
            v.column
            w.column
            z.column
            h.columns
            k.columns;
      }

  -- all the steps
  falling_alike :
      (steps more : ℕ) (u v w z : Pixel) (m n : ℕ) → Alike a m u v → Alike a n w z → n < steps → n < more
      → floor_mod (falling steps u w).column a ≡ floor_mod (falling more v z).column a
  falling_alike zero more u v w z m n h k l g = absurd (omega arith)
  falling_alike (suc steps) zero u v w z m n h k l g = absurd (omega arith)
  falling_alike (suc steps) (suc more) u v w z m zero h k l g =
      rw (falling_stops steps u w (ap nat_abs k.left_row), falling_stops more v z (ap nat_abs k.right_row)) h.columns
  falling_alike (suc steps) (suc more) u v w z m (suc r) h k l g =
      rw (falling_goes steps u w r (ap nat_abs k.left_row), falling_goes more v z r (ap nat_abs k.right_row))
      (falling_alike steps more w z (next u w (suc r)) (next v z (suc r)) (suc r) (m % suc r) k (next_alike h k)
      (remainder_in_steps steps m r l)
      (remainder_in_steps more m r g))

  -- a column modulo a is congruent to the column
  reduced_alike : (n : ℕ) (v : Pixel) → v.row ≡ pos n → Alike a n v (at (pos (floor_mod v.column a)) (pos n))
  unfolding at
  reduced_alike n v e =
      record {
        left_row = e;
        right_row = refl;
        columns = sym (remainder_of_small a positive (floor_mod v.column a) (remainder_below v.column a positive));
      }

  -- two vectors made upright, their columns reduced modulo a first
  pub falling_of_upright :
      (x y : Pixel) (i m j n : ℕ) → i ≡ floor_mod (upright x).column a → m ≡ nat_abs x.row
      → j ≡ floor_mod (upright y).column a → n ≡ nat_abs y.row
      → floor_mod (falling (suc n) (at (pos i) (pos m)) (at (pos j) (pos n))).column a
      ≡ floor_mod (falling (suc (nat_abs y.row)) (upright x) (upright y)).column a
  falling_of_upright x y i m j n i-is m-is j-is n-is =
      rw (i-is, m-is, j-is, n-is)
      (sym
      (falling_alike (suc (nat_abs y.row)) (suc (nat_abs y.row)) (upright x) _ (upright y) _ (nat_abs x.row) (nat_abs y.row)
      (reduced_alike (nat_abs x.row) (upright x) (upright_row x))
      (reduced_alike (nat_abs y.row) (upright y) (upright_row y))
      (omega arith)
      (omega arith)))

  -- k times y off x, by numbers that are not negative
  taken_off : (k x y : ℕ) → y ≤ a → floor_mod (pos x -ℤ pos k *ℤ pos y) a ≡ (x + k * (a - y)) % a
  taken_off k x y h =
      sym (remainder_of_shift a positive (pos x -ℤ pos k *ℤ pos y) (pos k))
      ∙ ap (λ (z : ℤ). floor_mod z a) sum_is
      ∙ remainder_of_pos (x + k * (a - y)) a
    where
      parts : a - y + y ≡ a
      parts = omega arith

      sum_is : pos x -ℤ pos k *ℤ pos y +ℤ pos k *ℤ pos a ≡ pos (x + k * (a - y))
      sum_is =
          linear ((neg_ℤ (pos k) · ap pos parts) ∷ [])
          (ring (pos x ∷ pos k ∷ pos y ∷ pos a ∷ pos (a - y) ∷ []) (search reify depth 40 fits 9000) refl)

  -- the steps of the code: x and y are columns below a, p and q rows
  pub column_stops : (x p y : ℕ) → x < a → floor_mod (falling 1 (at (pos x) (pos p)) (at (pos y) (pos 0))).column a ≡ x
  unfolding at
  column_stops x p y h = rw (falling_stops 0 (at (pos x) (pos p)) (at (pos y) (pos 0)) refl) (remainder_of_small a positive x h)

  pub column_goes :
      (x p y q : ℕ) → 0 < q → y ≤ a
      → floor_mod (falling (suc q) (at (pos x) (pos p)) (at (pos y) (pos q))).column a
      ≡ floor_mod
      (falling (suc (p % q)) (at (pos y) (pos q)) (at (pos ((x + p / q * (a - y)) % a)) (pos (p % q)))).column
      a
  unfolding at next minus times floor_div
  column_goes x p y zero l h = absurd (omega (arith, l))
  column_goes x p y (suc r) l h =
      rw (falling_goes (suc r) v w r refl, ← (taken_off (p / suc r) x y h))
      (falling_alike (suc r) (suc (p % suc r)) w w (next v w (suc r)) _ (suc r) (p % suc r)
      (record { left_row = refl; right_row = refl; columns = refl })
      (reduced_alike (p % suc r) (next v w (suc r)) (next_row v w p r refl refl))
      (remainder_in_steps (suc r) p r (omega arith))
      (omega arith))
    where
      v : Pixel
      v = at (pos x) (pos p)

      w : Pixel
      w = at (pos y) (pos (suc r))
