-- What the finder's code goes by for r above 1 (document 02, Card 4), where it counts the pixels to a bank: the pixels of a book as
-- cells of the window, and what a cell's column and row add to its bank.
-- Assumes nothing.
use Rattle.std.specs.Prelude.{ℕ, zero, suc, ◌+◌, ◌*◌, ◌/◌, ◌%◌, min, ◌≤◌, ◌<◌, ◌≡◌, ◌⊎◌, Bool, cond, List, ltb, pos, length, get_or}
use Rattle.std.proofs.Math.Option.{none}
use Rattle.scope.specs.Search.{gather}
use Rattle.scope.specs.Plans.{Pixel, at, pixel_at, pattern_at, patterns}
use Rattle.scope.specs.Numbers.{record_test}
use Rattle.scope.specs.Cycles.{suitable_for}
use Rattle.scope.specs.declared.Pattern.{Pattern}
use Rattle.scope.specs.declared.Book.{Book}
use Rattle.scope.specs.declared.Plan.{Plan}
use Rattle.book.specs.Scan.{cell_of}
use Rattle.finder.specs.Table.{TestOf}

-- A pattern's 65 entries: its pixel count, then the cells of its pixels, then 0
unfoldable pub pattern_entry : Pattern → ℕ → ℕ
unfolding cell_of pixel_at
pattern_entry t zero = t.used
pattern_entry t (suc e) = cond (ltb e t.used) (cell_of (pixel_at t e)) 0

-- the entries of a book's patterns one after the other, then 0
unfoldable pub cells_of : Book → List ℕ
unfolding gather pattern_entry pattern_at
cells_of book = gather 0 1040 λ k. cond (ltb k (65 * book.count)) (pattern_entry (pattern_at book (k / 65)) (k % 65)) 0

-- After m steps the first m entries of t stand at number n, and all others are as they were
pub record EntriesPut (t : Pattern) (n m : ℕ) (before after : List ℕ) : Type 0 where
  pub size : length after ≡ length before
  pub own : (e : ℕ) → e < m → get_or after (65 * n + e) 0 ≡ pattern_entry t e
  pub others : (k : ℕ) → (k < 65 * n) ⊎ (65 * n + m ≤ k) → get_or after k 0 ≡ get_or before k 0

-- the pixel of a cell, raised by 16, so that neither coordinate is negative
unfoldable pub cell_pixel : ℕ → Pixel
unfolding at
cell_pixel k = at (pos (k % 32)) (pos (k / 32 % 32))

-- the pattern that the entries have at number n, of at most 64 pixels
unfoldable pub pattern_in : List ℕ → ℕ → List Pixel
unfolding gather cell_pixel
pattern_in cells n = gather 0 (min (get_or cells (65 * n) 0) 64) λ e. cell_pixel (get_or cells (65 * n + suc e) 0)

-- Under a plan a, b, d column c is in lane c mod a,
unfoldable pub lanes_of : ℕ → List ℕ
unfolding gather
lanes_of a = gather 0 32 λ c. c % a

-- row j begins at bank (j mod d) × a,
unfoldable pub bases_of : ℕ → ℕ → List ℕ
unfolding gather
bases_of a d = gather 0 32 λ j. (j % d) * a

-- and it moves the lanes by x: that is -b × (j/d) modulo a
pub record Shift (a b d j x : ℕ) : Type 0 where
  pub below : x < a
  pub times : ℕ
  pub is : x + b * (j / d) ≡ times * a

pub record ShiftsOf (a b d : ℕ) (shifts : List ℕ) : Type 0 where
  pub size : length shifts ≡ 32
  pub each : (j : ℕ) → j < 32 → Shift a b d j (get_or shifts j 0)

-- test is the test for r of a book whose cells these are
pub record CellTest (r : ℕ) (cells : List ℕ) (test : Plan → Bool) : Type 0 where
  pub book : Book
  pub legal : record_test book ≡ none
  pub entries : cells ≡ cells_of book
  pub is : test ≡ suitable_for r (patterns book)

-- The finder goes by a book's marks for r = 1, and by its cells for any other r.
pub record TestFor (r : ℕ) (marks cells : List ℕ) (test : Plan → Bool) : Type 0 where
  pub by_marks : r ≡ 1 → TestOf marks test
  pub by_cells : (r ≡ 1 → ⊥) → CellTest r cells test
