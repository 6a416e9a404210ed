-- What the finder's code goes by: a table of a book's differences in the upper half window, rows 0 to 31 and columns -31 to 31,
-- and which of its cells a plan's lattice has. A lattice has -v with v, so the rows below 0 are not looked at.
-- Assumes nothing.
use Rattle.std.specs.Prelude.{ℕ, zero, suc, ◌+◌, ◌-◌, ◌*◌, ◌/◌, ◌%◌, ◌≡◌, Bool, false, cond, ◌&&◌, List, leb, eqb, ℤ, pos, negsuc, nat_abs, ◌+ℤ◌, get_or, set, replicate}
use Rattle.std.proofs.Math.Option.{none}
use Rattle.scope.specs.Search.{some_below}
use Rattle.scope.specs.Plans.{Pixel, minus, pixel_at, pattern_at, patterns}
use Rattle.scope.specs.Cycles.{suitable_for}
use Rattle.scope.specs.Numbers.{record_test}
use Rattle.scope.specs.declared.Pattern.{Pattern}
use Rattle.scope.specs.declared.Book.{Book}
use Rattle.scope.specs.declared.Plan.{Plan}

-- 0 ≤ z ≤ 31
unfoldable pub is_row : ℤ → Bool
is_row (pos n) = leb n 31
is_row (negsuc n) = false

unfoldable pub in_half : Pixel → Bool
unfolding is_row
in_half v = leb (nat_abs v.column) 31 && is_row v.row

-- a vector's cell, 63 to a row; the last, 2016, is that of every vector outside
unfoldable pub table_cell : Pixel → ℕ
unfolding in_half
table_cell v = cond (in_half v) (63 * nat_abs v.row + nat_abs (v.column +ℤ pos 31)) 2016

-- the table after the differences of the first l pixels of a pattern and its pixel e are marked
unfoldable pub mark_from : Pattern → ℕ → ℕ → List ℕ → List ℕ
unfolding table_cell minus pixel_at
mark_from t e zero marks = marks
mark_from t e (suc l) marks = set (mark_from t e l marks) (table_cell (minus (pixel_at t l) (pixel_at t e))) 1

-- after those of all its pixels and its first e
unfoldable pub mark_pattern : Pattern → ℕ → List ℕ → List ℕ
unfolding mark_from
mark_pattern t zero marks = marks
mark_pattern t (suc e) marks = mark_from t e t.used (mark_pattern t e marks)

-- the table of the first n patterns of a book
unfoldable pub mark_book : Book → ℕ → List ℕ
unfolding mark_pattern pattern_at
mark_book book zero = replicate 2017 0
mark_book book (suc n) = mark_pattern (pattern_at book n) (pattern_at book n).used (mark_book book n)

-- a cell s, s + a, .. of row j is marked
unfoldable pub row_marked : List ℕ → ℕ → ℕ → ℕ → Bool
unfolding some_below
row_marked marks a j s =
    some_below 63 λ x. leb s x && eqb ((x - s) % a) 0 && eqb (get_or marks (63 * j + x) 0) 1

-- a lattice point of the plan a, b, d in the rows 1 to 31 is marked: in row q × d these are the cells of the columns b × q + m × a
unfoldable pub rows_marked : List ℕ → ℕ → ℕ → ℕ → Bool
unfolding some_below row_marked
rows_marked marks a b d =
    some_below 32 λ j. leb 1 j && eqb (j % d) 0 && row_marked marks a j ((31 + b * (j / d)) % a)

-- test is the test for r = 1 of a book whose table this is
pub record TestOf (marks : List ℕ) (test : Plan → Bool) : Type 0 where
  pub book : Book
  pub legal : record_test book ≡ none
  pub table : marks ≡ mark_book book book.count
  pub is : test ≡ suitable_for 1 (patterns book)
