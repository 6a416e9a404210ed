-- What the code goes by: a test's answer, the entry for a pattern's number, and the cells of a pattern's pixels in the window.
-- The laws in proofs/ lead from them to the definitions of `scope`.
-- Assumes nothing.
use Rattle.std.specs.Prelude.{ℕ, suc, ◌+◌, ◌*◌, ◌<◌, ◌≡◌, List, Bool, cond, ltb, eqb, pos, nat_abs, ◌+ℤ◌, length, get_or, Result, Ok, Err}
use Rattle.std.proofs.Math.Option.{Option}
use Rattle.scope.specs.Search.{some_below}
use Rattle.scope.specs.Plans.{Pixel}
use Rattle.scope.specs.Numbers.{small, pixel_test}
use Rattle.scope.specs.Calls.{answered}
use Rattle.scope.specs.declared.Refusal.{Refusal}

-- what a test says, as an answer
abbrev pub outcome_of : Option Refusal → Result Unit Refusal
outcome_of t = answered t Err (Ok tt)

-- the number of the entry that stands for pattern n: n, or the last one where there is none
abbrev pub entry_number : ℕ → ℕ
entry_number n = cond (ltb n 16) n 15

-- a pixel's cell, 0 to 1023, in the window of columns and rows from -16 to 15, row by row, so that cells ascend as pixels do by
-- row, then column; 1024 where the column is outside, else 1025 where the row is
unfoldable pub cell_of : Pixel → ℕ
unfolding small
cell_of v =
    cond (small v.column)
    (cond (small v.row) (32 * nat_abs (v.row +ℤ pos 16) + nat_abs (v.column +ℤ pos 16)) 1025)
    1024

-- k is one of the entries 1 to e
unfoldable pub is_among : List ℕ → ℕ → ℕ → Bool
unfolding some_below
is_among least e k = some_below e λ l. eqb (get_or least (l + 1) 0) k

-- the pixels before position e are in the window and their cells ascend; of 65 entries the first is 0, and each up to e is one
-- more than the cell of the pixel before it: the least that a pixel may have there
pub record Passed (least : List ℕ) (pixel : ℕ → Pixel) (e : ℕ) : Type 0 where
  pub size : length least ≡ 65
  pub first : get_or least 0 0 ≡ 0
  pub next : (l : ℕ) → l < e → get_or least (l + 1) 0 ≡ suc (cell_of (pixel l))
  pub inside : (l : ℕ) → l < e → cell_of (pixel l) < 1024
  pub ascend : (l m : ℕ) → l < m → m < e → cell_of (pixel l) < cell_of (pixel m)

-- the pixel v at position e was tested by the cells of the pixels before it, whatever these are: the outcome is that of its
-- tests, and where they find nothing the entries go on with its own
pub record Tested (i j e : ℕ) (v : Pixel) (least after : List ℕ) (outcome : Result Unit Refusal) : Type 0 where
  pub answer : (pixel : ℕ → Pixel) → Passed least pixel e → pixel e ≡ v → outcome ≡ outcome_of (pixel_test i j pixel e)
  pub passed : (pixel : ℕ → Pixel) → Passed least pixel e → pixel e ≡ v → outcome ≡ Ok tt → Passed after pixel (e + 1)
