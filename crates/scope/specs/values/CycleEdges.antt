-- Rows of document 02, Card 4, worked out from its sentences: numbers that pass a test, classes, plans that suit for r, and cycles.
-- They refuse wrong edits of the definitions.
-- Assumes nothing.
use Rattle.std.specs.Prelude.{ℕ, ◌%◌, refl, Bool, true, false, List, [], ◌∷◌, map, leb, eqb, ℤ, pos, get_or}
use Rattle.scope.specs.Search.{gather, picked}
use Rattle.scope.specs.Plans.{Pixel, at, plan}
use Rattle.scope.specs.Numbers.{Answer}
use Rattle.scope.specs.Cycles.{class_of, suits_for, suits_all_for, cycle_of, cycles, followers}
use Rattle.scope.specs.values.Rows.{Row, Hold, row, is, neg, px, one, two, three_and_three, gap, square, cross}
use Rattle.scope.specs.declared.Plan.{Plan}

-- The pixels of row 0 with these columns, and with the columns from 0 to n - 1; the pattern of a book of one.
unfoldable pub in_row : List ℕ → List Pixel
unfolding px
in_row columns = map (λ i. px i 0) columns

unfoldable pub strip : ℕ → List Pixel
unfolding gather px
strip n = gather 0 n λ i. px i 0

unfoldable pub only : List (List Pixel) → List Pixel
only ts = get_or ts 0 []

-- Patterns of two classes under plan 2, 0, 1, which are the even columns and the odd ones. Their positions:
-- crossed: 0, 4, 5 and 1, 2, 3; the class that begins sooner goes on later
-- few_first: 0, 1 and 2, 3, 4
-- between: 0, 3 and 1, 2, 4
-- longest: 0, 1, 3, 4, 6 and 2, 5
unfoldable pub crossed : List Pixel
unfolding in_row
crossed = in_row (0 ∷ 1 ∷ 3 ∷ 5 ∷ 6 ∷ 8 ∷ [])

unfoldable pub few_first : List Pixel
unfolding in_row
few_first = in_row (0 ∷ 2 ∷ 3 ∷ 5 ∷ 7 ∷ [])

unfoldable pub between : List Pixel
unfolding in_row
between = in_row (0 ∷ 1 ∷ 3 ∷ 4 ∷ 5 ∷ [])

unfoldable pub longest : List Pixel
unfolding in_row
longest = in_row (0 ∷ 2 ∷ 3 ∷ 4 ∷ 6 ∷ 7 ∷ 8 ∷ [])

-- Patterns with negative coordinates: the banks are 2, 3, 2, 1, 2 under plan 2, 1, 2, and 9, 9, 10, 9, 9 under plan 6, 4, 2.
unfoldable pub below : List Pixel
unfolding px at neg
below = at (neg 1) (neg 1) ∷ at (pos 0) (neg 1) ∷ at (pos 1) (neg 1) ∷ at (neg 1) (pos 0) ∷ px 0 1 ∷ []

unfoldable pub slanted : List Pixel
unfolding px at neg
slanted = at (pos 1) (neg 3) ∷ at (neg 1) (neg 1) ∷ at (pos 0) (neg 1) ∷ at (pos 5) (neg 1) ∷ px 3 1 ∷ []

-- Picked numbers: none of none, all, none, and those at either end, in the middle, and apart.
picks : List Row
unfolding row is picked
picks =
    row (is (picked 3 0 λ n. true)) (is [])
    ∷ row (is (picked 2 4 λ n. true)) (is (2 ∷ 3 ∷ 4 ∷ 5 ∷ []))
    ∷ row (is (picked 1 3 λ n. false)) (is [])
    ∷ row (is (picked 0 6 λ n. eqb (n % 2) 1)) (is (1 ∷ 3 ∷ 5 ∷ []))
    ∷ row (is (picked 3 5 λ n. eqb (n % 3) 0)) (is (3 ∷ 6 ∷ []))
    ∷ row (is (picked 4 4 λ n. leb 6 n)) (is (6 ∷ 7 ∷ []))
    ∷ row (is (picked 4 4 λ n. leb n 5)) (is (4 ∷ 5 ∷ []))
    ∷ []

picks_hold : Hold picks
unfolding picks
picks_hold = refl

-- Classes: a pixel is in its own; positions that are not neighbours; the same class from each of its pixels; no sum is taken for a
-- difference, as that of (1,0) and (2,0) under plan 3, 0, 1; negative coordinates.
classes : List Row
unfolding row is class_of plan one only square cross in_row crossed below slanted
classes =
    row (is (class_of (plan 1 0 1) one 0)) (is (0 ∷ []))
    ∷ row (is (class_of (plan 2 0 1) (in_row (0 ∷ 1 ∷ 2 ∷ [])) 0)) (is (0 ∷ 2 ∷ []))
    ∷ row (is (class_of (plan 2 0 1) (in_row (0 ∷ 1 ∷ 2 ∷ [])) 1)) (is (1 ∷ []))
    ∷ row (is (class_of (plan 2 0 1) (in_row (0 ∷ 1 ∷ 2 ∷ [])) 2)) (is (0 ∷ 2 ∷ []))
    ∷ row (is (class_of (plan 3 0 1) (in_row (0 ∷ 1 ∷ 2 ∷ [])) 1)) (is (1 ∷ []))
    ∷ row (is (class_of (plan 3 0 1) (in_row (1 ∷ 2 ∷ 4 ∷ 5 ∷ [])) 0)) (is (0 ∷ 2 ∷ []))
    ∷ row (is (class_of (plan 3 0 1) (in_row (1 ∷ 2 ∷ 4 ∷ 5 ∷ [])) 3)) (is (1 ∷ 3 ∷ []))
    ∷ row (is (class_of (plan 2 1 1) (only square) 0)) (is (0 ∷ 3 ∷ []))
    ∷ row (is (class_of (plan 2 1 1) (only square) 2)) (is (1 ∷ 2 ∷ []))
    ∷ row (is (class_of (plan 1 0 2) (only cross) 0)) (is (0 ∷ 4 ∷ []))
    ∷ row (is (class_of (plan 1 0 2) (only cross) 3)) (is (1 ∷ 2 ∷ 3 ∷ []))
    ∷ row (is (class_of (plan 2 0 1) crossed 0)) (is (0 ∷ 4 ∷ 5 ∷ []))
    ∷ row (is (class_of (plan 2 0 1) crossed 2)) (is (1 ∷ 2 ∷ 3 ∷ []))
    ∷ row (is (class_of (plan 2 1 2) below 0)) (is (0 ∷ 2 ∷ 4 ∷ []))
    ∷ row (is (class_of (plan 2 1 2) below 3)) (is (3 ∷ []))
    ∷ row (is (class_of (plan 6 4 2) slanted 4)) (is (0 ∷ 1 ∷ 3 ∷ 4 ∷ []))
    ∷ row (is (class_of (plan 6 4 2) slanted 2)) (is (2 ∷ []))
    ∷ []

classes_hold : Hold classes
unfolding classes
classes_hold = refl

-- The later positions of a class.
following : List Row
unfolding row is followers plan in_row crossed longest below slanted
following =
    row (is (followers (plan 1 0 1) (in_row (0 ∷ 1 ∷ 2 ∷ [])) 0)) (is (1 ∷ 2 ∷ []))
    ∷ row (is (followers (plan 1 0 1) (in_row (0 ∷ 1 ∷ 2 ∷ [])) 1)) (is (2 ∷ []))
    ∷ row (is (followers (plan 1 0 1) (in_row (0 ∷ 1 ∷ 2 ∷ [])) 2)) (is [])
    ∷ row (is (followers (plan 2 0 1) crossed 0)) (is (4 ∷ 5 ∷ []))
    ∷ row (is (followers (plan 2 0 1) crossed 1)) (is (2 ∷ 3 ∷ []))
    ∷ row (is (followers (plan 2 0 1) longest 1)) (is (3 ∷ 4 ∷ 6 ∷ []))
    ∷ row (is (followers (plan 2 0 1) longest 2)) (is (5 ∷ []))
    ∷ row (is (followers (plan 2 1 2) below 2)) (is (4 ∷ []))
    ∷ row (is (followers (plan 6 4 2) slanted 0)) (is (1 ∷ 3 ∷ 4 ∷ []))
    ∷ []

following_hold : Hold following
unfolding following
following_hold = refl

-- 1 if a plan suits for r, else 0: at r = 1, 2, 3 and 4 of a pattern, and at r = 1, 2 and 3 of a book.
bit : Bool → ℕ
bit true = 1
bit false = 0

suits_at : Plan → List Pixel → Answer (List ℤ)
unfolding is bit gather suits_for
suits_at p t = is (gather 1 4 λ r. bit (suits_for r p t))

suits_all_at : Plan → List (List Pixel) → Answer (List ℤ)
unfolding is bit gather suits_all_for
suits_all_at p ts = is (gather 1 3 λ r. bit (suits_all_for r p ts))

-- A class of r pixels suits for r, one of r + 1 does not: the greatest class has one pixel more than the row has zeros.
suiting : List Row
unfolding row is suits_at plan one two only gap square cross in_row
suiting =
    row (suits_at (plan 1 0 1) one) (is (1 ∷ 1 ∷ 1 ∷ 1 ∷ []))
    ∷ row (suits_at (plan 1 0 1) two) (is (0 ∷ 1 ∷ 1 ∷ 1 ∷ []))
    ∷ row (suits_at (plan 2 0 1) two) (is (1 ∷ 1 ∷ 1 ∷ 1 ∷ []))
    ∷ row (suits_at (plan 1 0 1) (in_row (0 ∷ 1 ∷ 2 ∷ []))) (is (0 ∷ 0 ∷ 1 ∷ 1 ∷ []))
    ∷ row (suits_at (plan 2 0 1) (in_row (0 ∷ 1 ∷ 2 ∷ []))) (is (0 ∷ 1 ∷ 1 ∷ 1 ∷ []))
    ∷ row (suits_at (plan 3 0 1) (in_row (0 ∷ 1 ∷ 2 ∷ []))) (is (1 ∷ 1 ∷ 1 ∷ 1 ∷ []))
    ∷ row (suits_at (plan 2 0 1) (only gap)) (is (0 ∷ 1 ∷ 1 ∷ 1 ∷ []))
    ∷ row (suits_at (plan 4 0 1) (only gap)) (is (1 ∷ 1 ∷ 1 ∷ 1 ∷ []))
    ∷ row (suits_at (plan 1 0 1) (only square)) (is (0 ∷ 0 ∷ 0 ∷ 1 ∷ []))
    ∷ row (suits_at (plan 2 1 1) (only square)) (is (0 ∷ 1 ∷ 1 ∷ 1 ∷ []))
    ∷ row (suits_at (plan 2 0 2) (only square)) (is (1 ∷ 1 ∷ 1 ∷ 1 ∷ []))
    ∷ row (suits_at (plan 1 0 1) (only cross)) (is (0 ∷ 0 ∷ 0 ∷ 0 ∷ []))
    ∷ row (suits_at (plan 2 1 1) (only cross)) (is (0 ∷ 0 ∷ 0 ∷ 1 ∷ []))
    ∷ row (suits_at (plan 2 0 1) (only cross)) (is (0 ∷ 0 ∷ 1 ∷ 1 ∷ []))
    ∷ row (suits_at (plan 3 1 1) (only cross)) (is (0 ∷ 1 ∷ 1 ∷ 1 ∷ []))
    ∷ row (suits_at (plan 5 2 1) (only cross)) (is (1 ∷ 1 ∷ 1 ∷ 1 ∷ []))
    ∷ []

suiting_hold : Hold suiting
unfolding suiting
suiting_hold = refl

-- The greatest class need not be the first, nor the last; negative coordinates; 8 and 9 pixels at r = 7 and 8.
suiting_further : List Row
unfolding row is suits_at bit suits_for plan crossed few_first longest below slanted strip
suiting_further =
    row (suits_at (plan 2 0 1) crossed) (is (0 ∷ 0 ∷ 1 ∷ 1 ∷ []))
    ∷ row (suits_at (plan 2 0 1) few_first) (is (0 ∷ 0 ∷ 1 ∷ 1 ∷ []))
    ∷ row (suits_at (plan 2 0 1) longest) (is (0 ∷ 0 ∷ 0 ∷ 0 ∷ []))
    ∷ row (suits_at (plan 2 1 2) below) (is (0 ∷ 0 ∷ 1 ∷ 1 ∷ []))
    ∷ row (suits_at (plan 6 4 2) slanted) (is (0 ∷ 0 ∷ 0 ∷ 1 ∷ []))
    ∷ row (is (bit (suits_for 7 (plan 1 0 1) (strip 8)) ∷ bit (suits_for 8 (plan 1 0 1) (strip 8)) ∷ bit (suits_for 8 (plan 1 0 1) (strip 9)) ∷ [])) (is (0 ∷ 1 ∷ 0 ∷ []))
    ∷ []

suiting_further_hold : Hold suiting_further
unfolding suiting_further
suiting_further_hold = refl

-- A book: each pattern counts, the first and the last, and pixels of different patterns are not counted together.
suiting_books : List Row
unfolding row is suits_all_at plan one two three_and_three in_row px
suiting_books =
    row (suits_all_at (plan 1 0 1) three_and_three) (is (0 ∷ 0 ∷ 1 ∷ []))
    ∷ row (suits_all_at (plan 2 0 1) three_and_three) (is (0 ∷ 0 ∷ 1 ∷ []))
    ∷ row (suits_all_at (plan 1 0 2) three_and_three) (is (0 ∷ 0 ∷ 1 ∷ []))
    ∷ row (suits_all_at (plan 2 1 1) three_and_three) (is (0 ∷ 1 ∷ 1 ∷ []))
    ∷ row (suits_all_at (plan 3 1 1) three_and_three) (is (1 ∷ 1 ∷ 1 ∷ []))
    ∷ row (suits_all_at (plan 3 0 1) three_and_three) (is (0 ∷ 0 ∷ 1 ∷ []))
    ∷ row (suits_all_at (plan 1 0 1) (one ∷ two ∷ [])) (is (0 ∷ 1 ∷ 1 ∷ []))
    ∷ row (suits_all_at (plan 1 0 1) (two ∷ one ∷ [])) (is (0 ∷ 1 ∷ 1 ∷ []))
    ∷ row (suits_all_at (plan 1 0 1) (one ∷ two ∷ one ∷ [])) (is (0 ∷ 1 ∷ 1 ∷ []))
    ∷ row (suits_all_at (plan 1 0 1) (one ∷ (px 2 0 ∷ []) ∷ [])) (is (1 ∷ 1 ∷ 1 ∷ []))
    ∷ []

suiting_books_hold : Hold suiting_books
unfolding suiting_books
suiting_books_hold = refl

-- Cycles: one bank for all; banks that alternate; all 0 where the plan suits for 1; banks that come back after others; negative
-- coordinates.
cycles_of : List Row
unfolding row is cycles cycle_of plan one only square cross in_row crossed longest below slanted strip
cycles_of =
    row (is (cycles (plan 1 0 1) one)) (is (0 ∷ []))
    ∷ row (is (cycles (plan 1 0 1) (in_row (0 ∷ 1 ∷ 2 ∷ [])))) (is (0 ∷ 1 ∷ 2 ∷ []))
    ∷ row (is (cycles (plan 1 0 1) (only cross))) (is (0 ∷ 1 ∷ 2 ∷ 3 ∷ 4 ∷ []))
    ∷ row (is (cycles (plan 1 0 1) (strip 8))) (is (0 ∷ 1 ∷ 2 ∷ 3 ∷ 4 ∷ 5 ∷ 6 ∷ 7 ∷ []))
    ∷ row (is (cycles (plan 2 0 1) (in_row (0 ∷ 1 ∷ 2 ∷ 3 ∷ 4 ∷ 5 ∷ [])))) (is (0 ∷ 0 ∷ 1 ∷ 1 ∷ 2 ∷ 2 ∷ []))
    ∷ row (is (cycles (plan 2 0 1) (in_row (0 ∷ 1 ∷ 2 ∷ [])))) (is (0 ∷ 0 ∷ 1 ∷ []))
    ∷ row (is (cycles (plan 3 0 1) (in_row (0 ∷ 1 ∷ 2 ∷ [])))) (is (0 ∷ 0 ∷ 0 ∷ []))
    ∷ row (is (cycles (plan 5 2 1) (only cross))) (is (0 ∷ 0 ∷ 0 ∷ 0 ∷ 0 ∷ []))
    ∷ row (is (cycles (plan 3 1 1) (only cross))) (is (0 ∷ 0 ∷ 0 ∷ 1 ∷ 1 ∷ []))
    ∷ row (is (cycles (plan 2 1 1) (only cross))) (is (0 ∷ 1 ∷ 0 ∷ 2 ∷ 3 ∷ []))
    ∷ row (is (cycles (plan 1 0 2) (only square))) (is (0 ∷ 1 ∷ 0 ∷ 1 ∷ []))
    ∷ row (is (cycles (plan 2 0 1) (only square))) (is (0 ∷ 0 ∷ 1 ∷ 1 ∷ []))
    ∷ row (is (cycles (plan 2 0 2) (only square))) (is (0 ∷ 0 ∷ 0 ∷ 0 ∷ []))
    ∷ row (is (cycles (plan 2 0 1) crossed)) (is (0 ∷ 0 ∷ 1 ∷ 2 ∷ 1 ∷ 2 ∷ []))
    ∷ row (is (cycles (plan 2 0 1) longest)) (is (0 ∷ 1 ∷ 0 ∷ 2 ∷ 3 ∷ 1 ∷ 4 ∷ []))
    ∷ row (is (cycles (plan 2 1 2) below)) (is (0 ∷ 0 ∷ 1 ∷ 0 ∷ 2 ∷ []))
    ∷ row (is (cycles (plan 6 4 2) slanted)) (is (0 ∷ 1 ∷ 0 ∷ 2 ∷ 3 ∷ []))
    ∷ row (is (cycle_of (plan 2 0 1) crossed 0 ∷ cycle_of (plan 2 0 1) crossed 3 ∷ cycle_of (plan 2 0 1) crossed 4 ∷ cycle_of (plan 2 0 1) crossed 5 ∷ [])) (is (0 ∷ 2 ∷ 1 ∷ 2 ∷ []))
    ∷ []

cycles_of_hold : Hold cycles_of
unfolding cycles_of
cycles_of_hold = refl
