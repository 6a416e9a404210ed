-- `book::cells::pixel_outcome` meets its contract: the cell tells whether column and row are in range, its position's entry
-- whether it comes after the pixels before it, and the entries before whether one of them has it.
-- Assumes nothing.
use Prim.Native.Nat.{ℕ, ◌<◌}
use native.Mathlib.Omega.{arith}
use mathlib.Core.Path.{◌≡◌, sym, ◌∙◌, ap₂}
use lib.IntN.{ℤ}
use mir.Syntax.{w8}
use mir.Val.{SFits, to_z, of_z}
use mir.Facts.{to_z-of_z}
use Rattle.scope.specs.Plans.{Pixel, at}
use Rattle.book.specs.Scan.{cell_of}
use Rattle.book.proofs.Window.{cell_at_most}
use Rattle.book.proofs.PixelTests.{column_tested, row_tested, new_tested, repeat_tested, lower_tested}
use Rattle.book.proofs.cells.pixel_outcome.Goals as goal

-- the cell of the numbers handed over is that of the pixel
cell-is :
    {k : ℕ} {x y : ℤ} →
    k ≡ cell_of (at (to_z w8 (of_z w8 x)) (to_z w8 (of_z w8 y))) → SFits w8 x → SFits w8 y → k ≡ cell_of (at x y)
cell-is e a b = e ∙ ap₂ (λ (i j : ℤ). cell_of (at i j)) (to_z-of_z a) (to_z-of_z b)

-- a cell that is neither of the two outside is one of the window's
inside : {k : ℕ} (v : Pixel) → k ≡ cell_of v → (k ≡ 1024 → ⊥) → (k ≡ 1025 → ⊥) → k < 1024
inside {k} v e a b = omega (arith, e, cell_at_most v, a, b)

pub returns-then-k-eq1024 : goal.returns-then-k-eq1024
returns-then-k-eq1024 c = column_tested (cell-is c.cell-k.ensures c.ranges.x c.ranges.y) c.if-k-eq1024.true

pub returns-then-k-eq1025 : goal.returns-then-k-eq1025
returns-then-k-eq1025 c = row_tested (cell-is c.cell-k.ensures c.ranges.x c.ranges.y) c.if-k-eq1025.true

pub overflow_add-least : goal.overflow_add-least
overflow_add-least c =
    omega (arith, inside _ (cell-is c.cell-k.ensures c.ranges.x c.ranges.y) c.if-k-eq1024.false c.if-k-eq1025.false)

pub returns-then-least-e : goal.returns-then-least-e
returns-then-least-e c =
    let k = cell-is c.cell-k.ensures c.ranges.x c.ranges.y in
    new_tested k c.requires.1 (inside _ k c.if-k-eq1024.false c.if-k-eq1025.false) c.if-least-e.true

pub overflow_add-k : goal.overflow_add-k
overflow_add-k c =
    omega (arith, inside _ (cell-is c.cell-k.ensures c.ranges.x c.ranges.y) c.if-k-eq1024.false c.if-k-eq1025.false)

pub returns-then-is_among : goal.returns-then-is_among
returns-then-is_among c =
    let k = cell-is c.cell-k.ensures c.ranges.x c.ranges.y in
    repeat_tested k (inside _ k c.if-k-eq1024.false c.if-k-eq1025.false) (sym c.is_among.ensures ∙ c.if-is_among.true)

pub returns : goal.returns
returns c =
    let k = cell-is c.cell-k.ensures c.ranges.x c.ranges.y in
    lower_tested k (inside _ k c.if-k-eq1024.false c.if-k-eq1025.false) c.if-least-e.false
    (sym c.is_among.ensures ∙ c.if-is_among.false)
