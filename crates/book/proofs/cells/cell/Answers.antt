-- `book::cells::cell` meets its contract.
-- Assumes nothing.
use Prim.Native.Nat.{◌+◌, ◌*◌}
use native.Mathlib.Omega.{arith}
use mathlib.Core.Path.{◌≡◌, sym, ap₂, ◌∙◌}
use lib.IntN.{ℤ, pos, nat_abs, ◌+ℤ◌}
use mir.Syntax.{w8}
use mir.Val.{SFits, to_z, of_z}
use Rattle.std.proofs.lemmas.Int.{ints}
use Rattle.scope.specs.Plans.{at}
use Rattle.scope.specs.promises.Meaning.{InRange}
use Rattle.book.specs.Scan.{cell_of}
use Rattle.book.proofs.Window.{cell_beside, cell_above, cell_inside}
use Rattle.book.proofs.cells.cell.Goals.{then-i-ltminus16-via-then-i-ltminus16, then-i-ltminus16-via-else-i-ltminus16+then-i-gt15}
use Rattle.book.proofs.cells.cell.Goals.{then-j-ltminus16-via-then-j-ltminus16, then-j-ltminus16-via-else-j-ltminus16+then-j-gt15}
use Rattle.book.proofs.cells.cell.Goals as goal

-- a coordinate's distance from -16, as the machine has it
offset-read : (z : ℤ) → SFits w8 z → InRange z → to_z w8 (of_z w8 (to_z w8 (of_z w8 z) +ℤ pos 16)) ≡ z +ℤ pos 16
offset-read z f r = omega (arith, ints, f.sfits, r.0, r.1)

column-outside : (i j : ℤ) → (InRange i → ⊥) → 1024 ≡ cell_of (at i j)
unfolding at
column-outside i j h = sym (cell_beside (at i j) h)

row-outside : (i j : ℤ) → InRange i → (InRange j → ⊥) → 1025 ≡ cell_of (at i j)
unfolding at
row-outside i j a h = sym (cell_above (at i j) a h)

both-inside :
    {m n : ℤ} (i j : ℤ) → m ≡ j +ℤ pos 16 → n ≡ i +ℤ pos 16 → InRange i → InRange j
    → 32 * nat_abs m + nat_abs n ≡ cell_of (at i j)
unfolding at
both-inside i j e f a b = ap₂ (λ (m n : ℤ). 32 * nat_abs m + nat_abs n) e f ∙ sym (cell_inside (at i j) a b)

pub returns-then-i-ltminus16 : goal.returns-then-i-ltminus16
returns-then-i-ltminus16 c =
    let a = c.args in
    column-outside a.i a.j
    (elim c.then-i-ltminus16.branch [
      | then-i-ltminus16-via-then-i-ltminus16 w ↦ λ r. omega (arith, ints, w.if-i-ltminus16.true, r.0)
      | then-i-ltminus16-via-else-i-ltminus16+then-i-gt15 w ↦ λ r. omega (arith, ints, w.if-i-gt15.true, r.1)
    ])

pub returns-then-j-ltminus16 : goal.returns-then-j-ltminus16
returns-then-j-ltminus16 c =
    let a = c.args in
    row-outside a.i a.j (omega (arith, ints), omega (arith, ints))
    (elim c.then-j-ltminus16.branch [
      | then-j-ltminus16-via-then-j-ltminus16 w ↦ λ r. omega (arith, ints, w.if-j-ltminus16.true, r.0)
      | then-j-ltminus16-via-else-j-ltminus16+then-j-gt15 w ↦ λ r. omega (arith, ints, w.if-j-gt15.true, r.1)
    ])

pub returns : goal.returns
returns c =
    let a = c.args in
    let f = c.ranges in
    let r : InRange a.i = (omega (arith, ints), omega (arith, ints)) in
    let s : InRange a.j = (omega (arith, ints), omega (arith, ints)) in
    both-inside a.i a.j (offset-read a.j f.j s) (offset-read a.i f.i r) r s
