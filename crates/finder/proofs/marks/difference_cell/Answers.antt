-- `finder::marks::difference_cell` meets its contract.
-- Assumes nothing.
use Prim.Native.Nat.{◌+◌, ◌*◌}
use native.Mathlib.Omega.{arith}
use mathlib.Core.Path.{◌≡◌, sym, ap₂, ◌∙◌}
use lib.IntN.{ℤ, pos, negsuc, nat_abs, ◌+ℤ◌, ◌-ℤ◌}
use lib.Signed.{◌≤ℤ◌}
use mir.Syntax.{w8, w16}
use mir.Val.{SFits, to_z, of_z}
use Rattle.std.proofs.lemmas.Int.{ints}
use Rattle.scope.specs.Plans.{at, minus}
use Rattle.finder.specs.Table.{table_cell}
use Rattle.finder.proofs.Marking.{column_far, row_far, both_near}
use Rattle.finder.proofs.marks.difference_cell.Goals.{then-column-ltminus31-via-then-column-ltminus31, then-column-ltminus31-via-else-column-ltminus31+then-column-gt31}
use Rattle.finder.proofs.marks.difference_cell.Goals.{then-row-lt0-via-then-row-lt0, then-row-lt0-via-else-row-lt0+then-row-gt31}
use Rattle.finder.proofs.marks.difference_cell.Goals as goal

-- x - y, as the machine has it
abbrev difference : ℤ → ℤ → ℤ
difference x y =
    to_z w16 (of_z w16 (to_z w16 (of_z w16 (to_z w8 (of_z w8 x))) -ℤ to_z w16 (of_z w16 (to_z w8 (of_z w8 y)))))

difference-is : (x y : ℤ) → SFits w8 x → SFits w8 y → difference x y ≡ x -ℤ y
difference-is x y f g = omega (arith, ints, f.sfits, g.sfits)

raised-is : (x y : ℤ) → SFits w8 x → SFits w8 y → to_z w16 (of_z w16 (difference x y +ℤ pos 31)) ≡ x -ℤ y +ℤ pos 31
raised-is x y f g = omega (arith, ints, f.sfits, g.sfits)

-- the cell of (i, j) - (x, y)
module _ (i j x y : ℤ) where
  column-outside :
      ((negsuc 30 ≤ℤ (i -ℤ x)) × ((i -ℤ x) ≤ℤ pos 31) → ⊥) → 2016 ≡ table_cell (minus (at i j) (at x y))
  unfolding minus at
  column-outside h = column_far (minus (at i j) (at x y)) h

  row-outside :
      ((pos 0 ≤ℤ (j -ℤ y)) × ((j -ℤ y) ≤ℤ pos 31) → ⊥) → 2016 ≡ table_cell (minus (at i j) (at x y))
  unfolding minus at
  row-outside h = row_far (minus (at i j) (at x y)) h

  both-inside :
      {m n : ℤ} → m ≡ j -ℤ y → n ≡ i -ℤ x +ℤ pos 31 → (negsuc 30 ≤ℤ (i -ℤ x)) × ((i -ℤ x) ≤ℤ pos 31)
      → (pos 0 ≤ℤ (j -ℤ y)) × ((j -ℤ y) ≤ℤ pos 31) → 63 * nat_abs m + nat_abs n ≡ table_cell (minus (at i j) (at x y))
  unfolding minus at
  both-inside e f h k =
      ap₂ (λ (m n : ℤ). 63 * nat_abs m + nat_abs n) e f ∙ sym (both_near (minus (at i j) (at x y)) h k)

pub returns-then-column-ltminus31 : goal.returns-then-column-ltminus31
returns-then-column-ltminus31 c =
    let a = c.args in
    column-outside a.i a.j a.x a.y
    (elim c.then-column-ltminus31.branch [
      | then-column-ltminus31-via-then-column-ltminus31 w ↦ λ r. omega (arith, ints, w.if-column-ltminus31.true, r.0)
      | then-column-ltminus31-via-else-column-ltminus31+then-column-gt31 w ↦ λ r. omega (arith, ints, w.if-column-gt31.true, r.1)
    ])

pub returns-then-row-lt0 : goal.returns-then-row-lt0
returns-then-row-lt0 c =
    let a = c.args in
    row-outside a.i a.j a.x a.y
    (elim c.then-row-lt0.branch [
      | then-row-lt0-via-then-row-lt0 w ↦ λ r. omega (arith, ints, w.if-row-lt0.true, r.0)
      | then-row-lt0-via-else-row-lt0+then-row-gt31 w ↦ λ r. omega (arith, ints, w.if-row-gt31.true, r.1)
    ])

pub returns : goal.returns
returns c =
    let a = c.args in
    let f = c.ranges in
    both-inside a.i a.j a.x a.y (difference-is a.j a.y f.j f.y) (raised-is a.i a.x f.i f.x) (omega (arith, ints), omega (arith, ints))
    (omega (arith, ints), omega (arith, ints))
