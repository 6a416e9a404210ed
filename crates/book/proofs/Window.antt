-- The window of a pattern's pixels, columns and rows from -16 to 15: which cell a pixel has, and that cells ascend as pixels do by
-- row, then column.
-- Assumes nothing.
use Prim.Native.Nat.{ℕ, ◌+◌, ◌*◌, ◌≤◌, ◌<◌}
use native.Mathlib.Omega.{arith}
use native.Mathlib.Decide.{ℕ_discrete}
use mathlib.Core.Path.{◌≡◌, refl, sym, ◌∙◌}
use mathlib.Core.Bool.{Bool, true, false}
use mathlib.Core.List.{List, [], ◌∷◌}
use lib.IntN.{ℤ, pos, negsuc, nat_abs, ◌+ℤ◌}
use lib.Signed.{◌≤ℤ◌, ◌<ℤ◌}
use Rattle.integers.proofs.Ring.{reify}
use Rattle.integers.proofs.Order.{le_by, lt_by, eq_by, of_le, of_eq}
use Rattle.scope.specs.Plans.{Pixel}
use Rattle.scope.specs.Numbers.{small}
use Rattle.scope.specs.promises.Meaning.{InRange, Lower}
use Rattle.checks.proofs.Searches.{true-not-false, not_true_is_false}
use Rattle.checks.proofs.Patterns.{same_coordinates}
use Rattle.checks.proofs.BookTests.{small_iff}
use Rattle.book.specs.Scan.{cell_of}

-- A coordinate's distance from -16.
abbrev pub offset : ℤ → ℕ
offset z = nat_abs (z +ℤ pos 16)

not_negative : (z : ℤ) → pos 0 ≤ℤ z → pos (nat_abs z) ≡ z
not_negative (pos n) h = refl
not_negative (negsuc n) h = absurd h.le

module _ (z : ℤ) (r : InRange z) where
  pub offset_is : pos (offset z) ≡ z +ℤ pos 16
  offset_is =
      not_negative (z +ℤ pos 16)
      (le_by (z ∷ []) (search reify depth 40) (omega (arith, of_le (z ∷ []) r.0 (search reify depth 40))))

  pub offset_below : offset z < 32
  offset_below =
      let ρ : List ℤ = pos (offset z) ∷ z ∷ [] in
      omega (arith, of_eq ρ offset_is (search reify depth 40), of_le ρ r.1 (search reify depth 40))

offset_injective : (y z : ℤ) → InRange y → InRange z → offset y ≡ offset z → y ≡ z
offset_injective y z r s e =
    let ρ : List ℤ = pos (offset y) ∷ pos (offset z) ∷ y ∷ z ∷ [] in
    eq_by ρ (search reify depth 40)
    (omega (arith, of_eq ρ (offset_is y r) (search reify depth 40), of_eq ρ (offset_is z s) (search reify depth 40)))

offset_ascends : (y z : ℤ) → InRange y → InRange z → offset y < offset z → y <ℤ z
offset_ascends y z r s e =
    let ρ : List ℤ = pos (offset y) ∷ pos (offset z) ∷ y ∷ z ∷ [] in
    lt_by ρ (search reify depth 40)
    (omega (arith, of_eq ρ (offset_is y r) (search reify depth 40), of_eq ρ (offset_is z s) (search reify depth 40)))

-- A pixel's cell.
not_small : (z : ℤ) → (InRange z → ⊥) → small z ≡ false
not_small z h = not_true_is_false (small z) (λ s. h ((small_iff z).0 s))

module _ (v : Pixel) where
  pub cell_beside : (InRange v.column → ⊥) → cell_of v ≡ 1024
  unfolding cell_of
  cell_beside h = rw (not_small v.column h)

  pub cell_above : InRange v.column → (InRange v.row → ⊥) → cell_of v ≡ 1025
  unfolding cell_of
  cell_above c h = rw ((small_iff v.column).1 c, not_small v.row h)

  pub cell_inside : InRange v.column → InRange v.row → cell_of v ≡ 32 * offset v.row + offset v.column
  unfolding cell_of
  cell_inside c r = rw ((small_iff v.column).1 c, (small_iff v.row).1 r)

-- where a pixel is, and its cell
data Placed (v : Pixel) : Type 0 where
  beside : (InRange v.column → ⊥) → cell_of v ≡ 1024 → Placed v
  above : InRange v.column → (InRange v.row → ⊥) → cell_of v ≡ 1025 → Placed v
  inside : InRange v.column → InRange v.row → cell_of v < 1024 → Placed v

placed : (v : Pixel) → Placed v
placed v = by_column (small v.column) refl (small v.row) refl
  where
    by_column : (b : Bool) → small v.column ≡ b → (d : Bool) → small v.row ≡ d → Placed v
    by_column false s d t =
        let h : InRange v.column → ⊥ = λ c. true-not-false (sym ((small_iff v.column).1 c) ∙ s) in
        beside h (cell_beside v h)
    by_column true s false t =
        let c = (small_iff v.column).0 s in
        let h : InRange v.row → ⊥ = λ r. true-not-false (sym ((small_iff v.row).1 r) ∙ t) in
        above c h (cell_above v c h)
    by_column true s true t =
        let c = (small_iff v.column).0 s in
        let r = (small_iff v.row).0 t in
        inside c r (omega (arith, cell_inside v c r, offset_below v.column c, offset_below v.row r))

pub cell_at_most : (v : Pixel) → cell_of v ≤ 1025
cell_at_most v = by_place (placed v)
  where
    by_place : Placed v → cell_of v ≤ 1025
    by_place (beside h is) = omega arith
    by_place (above c h is) = omega arith
    by_place (inside c r is) = omega arith

-- What a cell tells of its pixel.
module _ (v : Pixel) where
  pub column_outside : cell_of v ≡ 1024 → InRange v.column → ⊥
  column_outside is = by_place (placed v)
    where
      by_place : Placed v → InRange v.column → ⊥
      by_place (beside f d) = f
      by_place (above c f d) = absurd (omega arith)
      by_place (inside c r d) = absurd (omega arith)

  pub row_outside : cell_of v ≡ 1025 → InRange v.column × (InRange v.row → ⊥)
  row_outside is = by_place (placed v)
    where
      by_place : Placed v → InRange v.column × (InRange v.row → ⊥)
      by_place (beside f d) = absurd (omega arith)
      by_place (above c f d) = (c, f)
      by_place (inside c r d) = absurd (omega arith)

  pub in_window : cell_of v < 1024 → InRange v.column × InRange v.row
  in_window is = by_place (placed v)
    where
      by_place : Placed v → InRange v.column × InRange v.row
      by_place (beside f d) = absurd (omega arith)
      by_place (above c f d) = absurd (omega arith)
      by_place (inside c r d) = (c, r)

-- In the window each pixel has a cell of its own, and the lower pixel the lower cell.
pub cell_injective : (v w : Pixel) → cell_of v < 1024 → cell_of v ≡ cell_of w → v ≡ w
cell_injective v w h e =
    let (c, r) = in_window v h in
    let (d, s) = in_window w (omega arith) in
    let p = cell_inside v c r in
    let q = cell_inside w d s in
    let x = offset_below v.column c in
    let y = offset_below w.column d in
    same_coordinates (offset_injective v.column w.column c d (omega arith))
    (offset_injective v.row w.row r s (omega arith))

pub lower_by_cell : (v w : Pixel) → cell_of v < 1024 → cell_of w < 1024 → cell_of v < cell_of w → Lower v w
lower_by_cell v w h k less = by_rows (in_window v h) (in_window w k) (ℕ_discrete (offset v.row) (offset w.row))
  where
    by_rows :
        InRange v.column × InRange v.row → InRange w.column × InRange w.row → Dec (offset v.row ≡ offset w.row)
        → Lower v w
    by_rows (c, r) (d, s) (yes e) =
        Lower.by_column (offset_injective v.row w.row r s e)
        (offset_ascends v.column w.column c d (omega (arith, cell_inside v c r, cell_inside w d s)))
    by_rows (c, r) (d, s) (no e) =
        Lower.by_row
        (offset_ascends v.row w.row r s
        (omega (arith, cell_inside v c r, cell_inside w d s, offset_below v.column c, offset_below w.column d)))
