-- The table of differences: which cell a vector has, by its coordinates, and that marking keeps the table's length.
-- Assumes nothing.
use Prim.Native.Nat.{ℕ, zero, suc, ◌+◌, ◌*◌, ◌≤◌}
use native.Mathlib.Omega.{arith}
use mathlib.Core.Path.{◌≡◌, refl, sym, ◌∙◌}
use mathlib.Core.Logic.Iff
use mathlib.Core.Logic.{◌↔◌}
use mathlib.Core.Bool.{Bool, true, false, false≢true}
use mathlib.Core.List.{List}
use lib.IntN.{ℤ, pos, negsuc, nat_abs, ◌+ℤ◌}
use lib.Signed.{◌≤ℤ◌}
use lib.ListN.{length, length-set, length-replicate}
use Rattle.std.proofs.lemmas.Int.{ints}
use Rattle.integers.proofs.Sizes.{size_of_sum}
use Rattle.integers.proofs.Comparisons.{leb_iff, and_iff}
use Rattle.scope.specs.Plans.{Pixel, pattern_at}
use Rattle.scope.specs.declared.Pattern.{Pattern}
use Rattle.scope.specs.declared.Book.{Book}
use Rattle.checks.proofs.Searches.{not_true_is_false}
use Rattle.finder.specs.Table.{is_row, in_half, table_cell, mark_from, mark_pattern, mark_book}

-- which cell a vector has
row_at_most : (z : ℤ) → is_row z ≡ true → nat_abs z ≤ 31
unfolding is_row
row_at_most (pos n) h = (leb_iff n 31).0 h
row_at_most (negsuc n) h = absurd (false≢true h)

module _ (v : Pixel) where
  pub in_half_iff : (in_half v ≡ true) ↔ ((nat_abs v.column ≤ 31) × (is_row v.row ≡ true))
  unfolding in_half
  in_half_iff = and_iff _ _ (leb_iff (nat_abs v.column) 31) (λ h. h, λ h. h)

  pub cell_outside : in_half v ≡ false → table_cell v ≡ 2016
  unfolding table_cell
  cell_outside h = rw h

  pub cell_inside : in_half v ≡ true → table_cell v ≡ 63 * nat_abs v.row + nat_abs (v.column +ℤ pos 31)
  unfolding table_cell
  cell_inside h = rw h

  pub cell_below : table_cell v ≤ 2016
  cell_below = by_half (in_half v) refl
    where
      by_half : (b : Bool) → in_half v ≡ b → table_cell v ≤ 2016
      by_half false h = omega (arith, cell_outside h)
      by_half true h =
          let (near, row) = in_half_iff.0 h in
          omega (arith, cell_inside h, near, row_at_most v.row row, size_of_sum v.column (pos 31))

-- the cell of a vector by comparisons of its coordinates
column_near : (z : ℤ) → (nat_abs z ≤ 31) ↔ ((negsuc 30 ≤ℤ z) × (z ≤ℤ pos 31))
column_near (pos n) = (λ h. (omega (arith, ints), omega (arith, ints)), λ h. omega (arith, ints, h.1))
column_near (negsuc n) = (λ h. (omega (arith, ints), omega (arith, ints)), λ h. omega (arith, ints, h.0))

row_near : (z : ℤ) → (is_row z ≡ true) ↔ ((pos 0 ≤ℤ z) × (z ≤ℤ pos 31))
unfolding is_row
row_near (pos n) =
    Iff.trans (leb_iff n 31) (λ h. (omega (arith, ints), omega (arith, ints)), λ h. omega (arith, ints, h.1))
row_near (negsuc n) = (λ h. absurd (false≢true h), λ h. absurd (omega (arith, ints, h.0)))

-- a coordinate is from -31, or from 0, to 31
module _ (v : Pixel) where
  near_iff : (in_half v ≡ true) ↔ (((negsuc 30 ≤ℤ v.column) × (v.column ≤ℤ pos 31)) × ((pos 0 ≤ℤ v.row) × (v.row ≤ℤ pos 31)))
  near_iff = Iff.trans (in_half_iff v) (Iff.and (column_near v.column) (row_near v.row))

  pub column_far : ((negsuc 30 ≤ℤ v.column) × (v.column ≤ℤ pos 31) → ⊥) → 2016 ≡ table_cell v
  column_far h = sym (cell_outside v (not_true_is_false (in_half v) (λ t. h (near_iff.0 t).0)))

  pub row_far : ((pos 0 ≤ℤ v.row) × (v.row ≤ℤ pos 31) → ⊥) → 2016 ≡ table_cell v
  row_far h = sym (cell_outside v (not_true_is_false (in_half v) (λ t. h (near_iff.0 t).1)))

  pub both_near :
      (negsuc 30 ≤ℤ v.column) × (v.column ≤ℤ pos 31) → (pos 0 ≤ℤ v.row) × (v.row ≤ℤ pos 31)
      → table_cell v ≡ 63 * nat_abs v.row + nat_abs (v.column +ℤ pos 31)
  both_near h k = cell_inside v (near_iff.1 (h, k))

-- Marking keeps the table's length.
pub length_mark_from : (t : Pattern) (e l : ℕ) (marks : List ℕ) → length (mark_from t e l marks) ≡ length marks
unfolding mark_from
length_mark_from t e zero marks = refl
length_mark_from t e (suc l) marks = length-set (mark_from t e l marks) _ 1 ∙ length_mark_from t e l marks

pub length_mark_pattern : (t : Pattern) (e : ℕ) (marks : List ℕ) → length (mark_pattern t e marks) ≡ length marks
unfolding mark_pattern
length_mark_pattern t zero marks = refl
length_mark_pattern t (suc e) marks =
    length_mark_from t e t.used (mark_pattern t e marks) ∙ length_mark_pattern t e marks

pub length_mark_book : (book : Book) (n : ℕ) → length (mark_book book n) ≡ 2017
unfolding mark_book
length_mark_book book zero = length-replicate {A = ℕ} 2017 0
length_mark_book book (suc n) =
    length_mark_pattern (pattern_at book n) (pattern_at book n).used (mark_book book n) ∙ length_mark_book book n
