-- Hits are the marked cells of a plan's lattice past the cell of vector 0: which cells of a row the lattice has, and that the
-- finder's searches of the rows find a hit exactly if there is one.
-- Assumes nothing.
use Prim.Native.Nat.{ℕ, zero, suc, ◌+◌, ◌-◌, ◌*◌, ◌/◌, ◌%◌, ◌≤◌, ◌<◌}
use native.Mathlib.Omega.{arith}
use native.Mathlib.Nat.{mod-le, mod-mod, zero-mod, zero-div, add-mod_right}
use mathlib.Core.Path.{◌≡◌, refl, sym, ◌∙◌, ap, subst}
use mathlib.Core.Logic.Iff
use mathlib.Core.Logic.{◌↔◌, ◌⊎◌, inl, inr, ⊎_elim}
use mathlib.Core.Bool.{Bool, true, not, ◌&&◌}
use mathlib.Core.List.{List, [], ◌∷◌}
use lib.IntN.{pos, ◌*ℤ◌, ◌-ℤ◌}
use borrow.Author.Tests.{not-true}
use Rattle.integers.specs.Division.{floor_mod}
use Rattle.integers.proofs.Comparisons.{eqb_iff, and_iff}
use Rattle.integers.proofs.Integers.{same_integer, own_parts, parts_add, parts_neg}
use Rattle.integers.proofs.Ring.{ring, reify}
use Rattle.integers.proofs.Divisions.{Divides, divides_iff, divisor_at_most, no_remainder_iff, multiple_divides}
use Rattle.integers.proofs.Divisions.{remainder_zero_iff_divides, same_remainder_iff_divides}
use Rattle.scope.specs.Plans.{plan, lattice_test}
use Rattle.scope.specs.declared.Plan.{Plan}
use Rattle.checks.proofs.Searches.{fails_iff}
use Rattle.finder.specs.Table.{row_marked, rows_marked}
use Rattle.finder.proofs.RowTests.{Marked, row_start, row_marked_iff, rows_marked_iff}
use Rattle.finder.proofs.MarkedCells.{Cell, number, vector}

-- s, s + a, .. are the numbers from s with the remainder of s
module _ (a : ℕ) (a_least : 0 < a) where
  from_start_iff : (s x : ℕ) → s ≤ x → ((x - s) % a ≡ 0) ↔ (x % a ≡ s % a)
  unfolding floor_mod
  from_start_iff s x h =
      Iff.trans (remainder_zero_iff_divides a a_least (pos (x - s)))
      (subst (λ z. Divides a z ↔ (x % a ≡ s % a)) (sym difference) (Iff.symm (same_remainder_iff_divides a a_least (pos x) (pos s))))
    where
      difference : pos (x - s) ≡ pos x -ℤ pos s
      difference =
          same_integer (own_parts (pos (x - s))) (parts_add (own_parts (pos x)) (parts_neg (own_parts (pos s)))) (omega arith)

  -- from the remainder of n on they are all that have it
  remainder_iff : (n x : ℕ) → (x % a ≡ n % a) ↔ ((n % a ≤ x) × ((x - n % a) % a ≡ 0))
  remainder_iff n x = (there, λ (h, e). (from_start_iff (n % a) x h).0 e ∙ mod-mod n a)
    where
      there : x % a ≡ n % a → (n % a ≤ x) × ((x - n % a) % a ≡ 0)
      there e = let h : n % a ≤ x = omega (arith, mod-le x a) in (h, (from_start_iff (n % a) x h).1 (e ∙ sym (mod-mod n a)))

  -- above n they start at n + a
  above_iff : (n x : ℕ) → ((n < x) × (x % a ≡ n % a)) ↔ ((n + a ≤ x) × ((x - (n + a)) % a ≡ 0))
  above_iff n x = (there, λ (h, e). (omega arith, (from_start_iff (n + a) x h).0 e ∙ add-mod_right n a))
    where
      there : (n < x) × (x % a ≡ n % a) → (n + a ≤ x) × ((x - (n + a)) % a ≡ 0)
      there (h, e) =
          let multiple = (no_remainder_iff (x - n) a).0 ((from_start_iff n x (omega arith)).1 e) in
          let k : n + a ≤ x = omega (arith, divisor_at_most a (x - n) (omega arith) (multiple_divides a (x - n) multiple)) in
          (k, (from_start_iff (n + a) x k).1 (e ∙ sym (add-mod_right n a)))

  -- x - 31 - b × q is a multiple of a
  column_divides_iff : (x b q : ℕ) → Divides a (pos x -ℤ pos 31 -ℤ pos b *ℤ pos q) ↔ (x % a ≡ (31 + b * q) % a)
  unfolding floor_mod
  column_divides_iff x b q =
      subst (λ z. Divides a z ↔ (x % a ≡ (31 + b * q) % a)) difference
      (Iff.symm (same_remainder_iff_divides a a_least (pos x) (pos (31 + b * q))))
    where
      difference : pos x -ℤ pos (31 + b * q) ≡ pos x -ℤ pos 31 -ℤ pos b *ℤ pos q
      difference = ring (pos x ∷ pos b ∷ pos q ∷ []) (search reify depth 40 fits 9000) refl

-- The lattice has the vector of a cell exactly if d divides its row, and its place is 31 + b × (row/d) modulo a.
lattice_row_iff :
    (a b d : ℕ) → 0 < a → (c : Cell) → (lattice_test (plan a b d) (vector c) ≡ true)
    ↔ ((c.j % d ≡ 0) × (c.x % a ≡ row_start a b d c.j))
unfolding lattice_test plan
lattice_row_iff a b d a_least c =
    and_iff _ _ (eqb_iff (c.j % d) 0)
    (Iff.trans (divides_iff a a_least (pos c.x -ℤ pos 31 -ℤ pos b *ℤ pos (c.j / d)))
    (column_divides_iff a a_least c.x b (c.j / d)))

-- a marked cell of the lattice, past the cell of vector 0
pub record Hit (marks : List ℕ) (p : Plan) : Type 0 where
  pub cell : Cell
  pub ahead : 31 < number cell
  pub in_lattice : lattice_test p (vector cell) ≡ true
  pub marked : Marked marks cell.j cell.x

-- The rows are looked through for the hits, row 0 from its first lattice point right of vector 0.
module _ (marks : List ℕ) (a b d : ℕ) (a_least : 0 < a) where
  row_0_start : row_start a b d 0 ≡ 31 % a
  row_0_start = rw (zero-div d) (ap (λ (n : ℕ). n % a) (omega arith))

  hit_of_row : row_marked marks a 0 (31 + a) ≡ true → Hit marks (plan a b d)
  hit_of_row e =
      let (x, x_below, (from, m)) = (row_marked_iff marks a 0 (31 + a)).0 e in
      let (past, same) = (above_iff a a_least 31 x).1 from in
      let c : Cell = record { j = 0; x = x; j_below = omega arith; x_below = x_below } in
      record {
        cell = c;
        ahead = omega arith;
        in_lattice = (lattice_row_iff a b d a_least c).1 (zero-mod d, same ∙ sym row_0_start);
        marked = m;
      }

  hit_of_rows : rows_marked marks a b d ≡ true → Hit marks (plan a b d)
  hit_of_rows e =
      let (j, j_below, ((least, multiple), row)) = (rows_marked_iff marks a b d).0 e in
      let (x, x_below, (from, m)) = (row_marked_iff marks a j (row_start a b d j)).0 row in
      let c : Cell = record { j = j; x = x; j_below = j_below; x_below = x_below } in
      record {
        cell = c;
        ahead = omega arith;
        in_lattice = (lattice_row_iff a b d a_least c).1 (multiple, (remainder_iff a a_least (31 + b * (j / d)) x).1 from);
        marked = m;
      }

  abbrev Seen : Type 0
  Seen = (row_marked marks a 0 (31 + a) ≡ true) ⊎ (rows_marked marks a b d ≡ true)

  hit_is_seen : Hit marks (plan a b d) → Seen
  hit_is_seen h =
      let c = h.cell in
      by_row c.j c.x c.j_below c.x_below h.ahead ((lattice_row_iff a b d a_least c).0 h.in_lattice) h.marked
    where
      by_row :
          (j x : ℕ) → j < 32 → x < 63 → 31 < 63 * j + x → (j % d ≡ 0) × (x % a ≡ row_start a b d j)
          → Marked marks j x → Seen
      by_row zero x j_below x_below ahead (multiple, same) m =
          inl ((row_marked_iff marks a 0 (31 + a)).1 (x, x_below, ((above_iff a a_least 31 x).0 (omega arith, same ∙ row_0_start), m)))
      by_row (suc j) x j_below x_below ahead (multiple, same) m =
          let s : ℕ = 31 + b * (suc j / d) in
          let row = (row_marked_iff marks a (suc j) (s % a)).1 (x, x_below, ((remainder_iff a a_least s x).0 same, m)) in
          inr ((rows_marked_iff marks a b d).1 (suc j, j_below, ((omega arith, multiple), row)))

  pub no_hit_iff : (not (row_marked marks a 0 (31 + a)) && not (rows_marked marks a b d) ≡ true) ↔ (Hit marks (plan a b d) → ⊥)
  no_hit_iff =
      Iff.trans (and_iff _ _ (not_true_iff _) (not_true_iff _)) (there, λ h. (λ e. h (hit_of_row e), λ e. h (hit_of_rows e)))
    where
      not_true_iff : (t : Bool) → (not t ≡ true) ↔ (t ≡ true → ⊥)
      not_true_iff t = Iff.trans (not-true t, ap not) (fails_iff t)

      there : (row_marked marks a 0 (31 + a) ≡ true → ⊥) × (rows_marked marks a b d ≡ true → ⊥) → Hit marks (plan a b d) → ⊥
      there (row, rows) h = ⊎_elim row rows (hit_is_seen h)
