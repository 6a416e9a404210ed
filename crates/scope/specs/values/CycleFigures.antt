-- The least plan for r and the least count for r (document 02, Card 4) of document 01's patterns, at r = 1, 2, 3 and more; ties; the
-- limit.
-- Assumes nothing.
use Rattle.std.specs.Prelude.{ℕ, refl, List, [], ◌∷◌, ℤ, pos}
use Rattle.scope.specs.Plans.{Pixel, at}
use Rattle.scope.specs.Finding.{least_of}
use Rattle.scope.specs.Numbers.{Answer}
use Rattle.scope.specs.Cycles.{suits_all_for, least_plan_for, least_count_for}
use Rattle.scope.specs.values.Rows.{Row, Hold, row, is, searched, neg, px, one, two, three, three_and_three, gap, square, cross, six_pairs}
use Rattle.scope.specs.values.CycleEdges.{strip}

-- The least plan for r within a limit: a, b, d, or nothing. The limit is small, so that the search soon ends where a wrong edit
-- leaves no plan that suits.
least_for : ℕ → List (List Pixel) → ℕ → Answer (List ℤ)
unfolding searched least_of suits_all_for
least_for r ts limit = searched (least_plan_for r ts limit)

-- Document 01's patterns at r = 1: the plans of its figures, and of two pixels.
figures_for1 : List Row
unfolding row is least_for one two three three_and_three gap square cross six_pairs
figures_for1 =
    row (least_for 1 (one ∷ []) 6) (is (1 ∷ 0 ∷ 1 ∷ []))
    ∷ row (least_for 1 (two ∷ []) 6) (is (2 ∷ 0 ∷ 1 ∷ []))
    ∷ row (least_for 1 three 6) (is (3 ∷ 0 ∷ 1 ∷ []))
    ∷ row (least_for 1 three_and_three 6) (is (3 ∷ 1 ∷ 1 ∷ []))
    ∷ row (least_for 1 gap 6) (is (4 ∷ 0 ∷ 1 ∷ []))
    ∷ row (least_for 1 square 6) (is (2 ∷ 0 ∷ 2 ∷ []))
    ∷ row (least_for 1 cross 6) (is (5 ∷ 2 ∷ 1 ∷ []))
    ∷ row (least_for 1 six_pairs 6) (is (2 ∷ 0 ∷ 2 ∷ []))
    ∷ []

figures_for1_hold : Hold figures_for1
unfolding figures_for1
figures_for1_hold = refl

-- The same at r = 2.
figures_for2 : List Row
unfolding row is least_for one two three three_and_three gap square cross six_pairs
figures_for2 =
    row (least_for 2 (one ∷ []) 6) (is (1 ∷ 0 ∷ 1 ∷ []))
    ∷ row (least_for 2 (two ∷ []) 6) (is (1 ∷ 0 ∷ 1 ∷ []))
    ∷ row (least_for 2 three 6) (is (2 ∷ 0 ∷ 1 ∷ []))
    ∷ row (least_for 2 three_and_three 6) (is (2 ∷ 1 ∷ 1 ∷ []))
    ∷ row (least_for 2 gap 6) (is (2 ∷ 0 ∷ 1 ∷ []))
    ∷ row (least_for 2 square 6) (is (2 ∷ 0 ∷ 1 ∷ []))
    ∷ row (least_for 2 cross 6) (is (3 ∷ 1 ∷ 1 ∷ []))
    ∷ row (least_for 2 six_pairs 6) (is (1 ∷ 0 ∷ 1 ∷ []))
    ∷ []

figures_for2_hold : Hold figures_for2
unfolding figures_for2
figures_for2_hold = refl

-- The same at r = 3, the square and the cross at 4 and 5 too, and 8 and 9 pixels at r = 8.
figures_for3 : List Row
unfolding row is least_for one two three three_and_three gap square cross six_pairs strip
figures_for3 =
    row (least_for 3 (one ∷ []) 6) (is (1 ∷ 0 ∷ 1 ∷ []))
    ∷ row (least_for 3 (two ∷ []) 6) (is (1 ∷ 0 ∷ 1 ∷ []))
    ∷ row (least_for 3 three 6) (is (1 ∷ 0 ∷ 1 ∷ []))
    ∷ row (least_for 3 three_and_three 6) (is (1 ∷ 0 ∷ 1 ∷ []))
    ∷ row (least_for 3 gap 6) (is (1 ∷ 0 ∷ 1 ∷ []))
    ∷ row (least_for 3 square 6) (is (2 ∷ 0 ∷ 1 ∷ []))
    ∷ row (least_for 3 cross 6) (is (2 ∷ 0 ∷ 1 ∷ []))
    ∷ row (least_for 3 six_pairs 6) (is (1 ∷ 0 ∷ 1 ∷ []))
    ∷ row (least_for 4 square 6) (is (1 ∷ 0 ∷ 1 ∷ []))
    ∷ row (least_for 4 cross 6) (is (2 ∷ 0 ∷ 1 ∷ []))
    ∷ row (least_for 5 cross 6) (is (1 ∷ 0 ∷ 1 ∷ []))
    ∷ row (least_for 8 (strip 8 ∷ []) 6) (is (1 ∷ 0 ∷ 1 ∷ []))
    ∷ row (least_for 8 (strip 9 ∷ []) 6) (is (2 ∷ 0 ∷ 1 ∷ []))
    ∷ []

figures_for3_hold : Hold figures_for3
unfolding figures_for3
figures_for3_hold = refl

-- Plans of equal least N for r, with the same ties. These are all that suit for r, row by row:
-- (1, 0, 2), (2, 1, 1), at r = 2
-- (1, 0, 3), (3, 1, 1), (3, 2, 1), at r = 2
-- (1, 0, 2), (2, 1, 1), at r = 3
-- (3, 2, 1), at r = 2
-- The last two have more banks than pixels over r, rounded up: 3 and not 2.
ties_for : List Row
unfolding row is least_for px
ties_for =
    row (least_for 2 ((px 0 0 ∷ px 2 0 ∷ px 0 1 ∷ []) ∷ []) 6) (is (1 ∷ 0 ∷ 2 ∷ []))
    ∷ row (least_for 2 ((px 0 0 ∷ px 2 0 ∷ px 0 1 ∷ px 0 2 ∷ []) ∷ []) 6) (is (1 ∷ 0 ∷ 3 ∷ []))
    ∷ row (least_for 3 ((px 0 0 ∷ px 2 0 ∷ px 0 1 ∷ px 2 1 ∷ []) ∷ []) 6) (is (1 ∷ 0 ∷ 2 ∷ []))
    ∷ row (least_for 2 ((px 0 0 ∷ px 1 0 ∷ px 2 0 ∷ px 0 1 ∷ px 1 1 ∷ px 1 2 ∷ []) ∷ []) 6) (is (3 ∷ 2 ∷ 1 ∷ []))
    ∷ row (least_for 2 ((px 0 0 ∷ px 2 0 ∷ px 4 0 ∷ []) ∷ []) 6) (is (3 ∷ 0 ∷ 1 ∷ []))
    ∷ row (least_for 3 ((px 0 0 ∷ px 2 0 ∷ px 0 2 ∷ px 2 2 ∷ []) ∷ []) 6) (is (3 ∷ 0 ∷ 1 ∷ []))
    ∷ []

ties_for_hold : Hold ties_for
unfolding ties_for
ties_for_hold = refl

-- None within the limit, and the limit itself.
limits_for : List Row
unfolding row is least_for two three cross
limits_for =
    row (least_for 1 (two ∷ []) 1) (is [])
    ∷ row (least_for 2 (two ∷ []) 1) (is (1 ∷ 0 ∷ 1 ∷ []))
    ∷ row (least_for 2 three 1) (is [])
    ∷ row (least_for 2 three 2) (is (2 ∷ 0 ∷ 1 ∷ []))
    ∷ row (least_for 3 three 1) (is (1 ∷ 0 ∷ 1 ∷ []))
    ∷ row (least_for 2 cross 2) (is [])
    ∷ row (least_for 2 cross 3) (is (3 ∷ 1 ∷ 1 ∷ []))
    ∷ row (least_for 1 cross 4) (is [])
    ∷ row (least_for 1 cross 5) (is (5 ∷ 2 ∷ 1 ∷ []))
    ∷ []

limits_for_hold : Hold limits_for
unfolding limits_for
limits_for_hold = refl

-- The least count for r: the N of that plan. Columns -12, 0, 12 are in one class up to N = 4. There is no row at r = 1: the search
-- goes up to 1024, and is long where a wrong edit leaves no plan that suits.
counts_for : List Row
unfolding row is least_count_for one three_and_three gap square cross px at neg
counts_for =
    row (is (least_count_for 2 (one ∷ []) ∷ least_count_for 3 (one ∷ []) ∷ [])) (is (1 ∷ 1 ∷ []))
    ∷ row (is (least_count_for 2 gap ∷ least_count_for 3 gap ∷ [])) (is (2 ∷ 1 ∷ []))
    ∷ row (is (least_count_for 2 square ∷ least_count_for 3 square ∷ least_count_for 4 square ∷ [])) (is (2 ∷ 2 ∷ 1 ∷ []))
    ∷ row (is (least_count_for 2 cross ∷ least_count_for 3 cross ∷ least_count_for 4 cross ∷ least_count_for 5 cross ∷ [])) (is (3 ∷ 2 ∷ 2 ∷ 1 ∷ []))
    ∷ row (is (least_count_for 2 three_and_three ∷ least_count_for 3 three_and_three ∷ [])) (is (2 ∷ 1 ∷ []))
    ∷ row (is (least_count_for 2 ((px 0 0 ∷ px 2 0 ∷ px 0 1 ∷ []) ∷ []) ∷ least_count_for 3 ((px 0 0 ∷ px 2 0 ∷ px 0 1 ∷ []) ∷ []) ∷ [])) (is (2 ∷ 1 ∷ []))
    ∷ row (is (least_count_for 2 ((at (neg 12) (pos 0) ∷ px 0 0 ∷ px 12 0 ∷ []) ∷ []) ∷ least_count_for 3 ((at (neg 12) (pos 0) ∷ px 0 0 ∷ px 12 0 ∷ []) ∷ []) ∷ [])) (is (5 ∷ 1 ∷ []))
    ∷ []

counts_for_hold : Hold counts_for
unfolding counts_for
counts_for_hold = refl
