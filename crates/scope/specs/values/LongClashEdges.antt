-- Rows on the clash for r of document 02, Card 4: the r + 1 positions that come first, in a pattern and in a book.
-- Assumes nothing.
use Rattle.std.specs.Prelude.{refl, List, [], ◌∷◌}
use Rattle.scope.specs.Plans.{plan}
use Rattle.scope.specs.Cycles.{clash_in_for, clash_for}
use Rattle.scope.specs.values.Rows.{Row, Hold, row, is, long_clash, px, one, two, three_and_three, square, cross}
use Rattle.scope.specs.values.CycleEdges.{in_row, strip, only, crossed, few_first, between, longest, below, slanted}

-- The clash in a pattern, behind its number, or nothing: a class of r pixels is none, and of a class with more than r + 1 the first
-- r + 1 are told. Positions that are not neighbours.
long_clashes : List Row
unfolding row is long_clash clash_in_for plan two only square cross in_row longest strip
long_clashes =
    row (long_clash (clash_in_for 1 (plan 1 0 1) 0 two)) (is (0 ∷ 0 ∷ 1 ∷ []))
    ∷ row (long_clash (clash_in_for 2 (plan 1 0 1) 0 two)) (is [])
    ∷ row (long_clash (clash_in_for 1 (plan 2 0 1) 4 (in_row (0 ∷ 1 ∷ 2 ∷ [])))) (is (4 ∷ 0 ∷ 2 ∷ []))
    ∷ row (long_clash (clash_in_for 2 (plan 2 0 1) 4 (in_row (0 ∷ 1 ∷ 2 ∷ [])))) (is [])
    ∷ row (long_clash (clash_in_for 2 (plan 1 0 1) 4 (in_row (0 ∷ 1 ∷ 2 ∷ [])))) (is (4 ∷ 0 ∷ 1 ∷ 2 ∷ []))
    ∷ row (long_clash (clash_in_for 3 (plan 1 0 1) 4 (in_row (0 ∷ 1 ∷ 2 ∷ [])))) (is [])
    ∷ row (long_clash (clash_in_for 3 (plan 1 0 1) 1 (only square))) (is (1 ∷ 0 ∷ 1 ∷ 2 ∷ 3 ∷ []))
    ∷ row (long_clash (clash_in_for 4 (plan 1 0 1) 1 (only square))) (is [])
    ∷ row (long_clash (clash_in_for 1 (plan 1 0 2) 0 (only cross))) (is (0 ∷ 0 ∷ 4 ∷ []))
    ∷ row (long_clash (clash_in_for 2 (plan 1 0 2) 0 (only cross))) (is (0 ∷ 1 ∷ 2 ∷ 3 ∷ []))
    ∷ row (long_clash (clash_in_for 3 (plan 1 0 2) 0 (only cross))) (is [])
    ∷ row (long_clash (clash_in_for 2 (plan 1 0 1) 0 (only cross))) (is (0 ∷ 0 ∷ 1 ∷ 2 ∷ []))
    ∷ row (long_clash (clash_in_for 1 (plan 5 2 1) 0 (only cross))) (is [])
    ∷ row (long_clash (clash_in_for 1 (plan 2 0 1) 2 longest)) (is (2 ∷ 0 ∷ 1 ∷ []))
    ∷ row (long_clash (clash_in_for 2 (plan 2 0 1) 2 longest)) (is (2 ∷ 0 ∷ 1 ∷ 3 ∷ []))
    ∷ row (long_clash (clash_in_for 3 (plan 2 0 1) 2 longest)) (is (2 ∷ 0 ∷ 1 ∷ 3 ∷ 4 ∷ []))
    ∷ row (long_clash (clash_in_for 4 (plan 2 0 1) 2 longest)) (is (2 ∷ 0 ∷ 1 ∷ 3 ∷ 4 ∷ 6 ∷ []))
    ∷ row (long_clash (clash_in_for 5 (plan 2 0 1) 2 longest)) (is [])
    ∷ row (long_clash (clash_in_for 8 (plan 1 0 1) 0 (strip 8))) (is [])
    ∷ row (long_clash (clash_in_for 8 (plan 1 0 1) 0 (strip 9))) (is (0 ∷ 0 ∷ 1 ∷ 2 ∷ 3 ∷ 4 ∷ 5 ∷ 6 ∷ 7 ∷ 8 ∷ []))
    ∷ []

long_clashes_hold : Hold long_clashes
unfolding long_clashes
long_clashes_hold = refl

-- Of two classes the one whose first position is less, whatever follows; a class of r pixels before one of r + 1, and around it;
-- negative coordinates.
long_clash_orders : List Row
unfolding row is long_clash clash_in_for plan crossed few_first between below slanted only square
long_clash_orders =
    row (long_clash (clash_in_for 1 (plan 2 1 1) 0 (only square))) (is (0 ∷ 0 ∷ 3 ∷ []))
    ∷ row (long_clash (clash_in_for 1 (plan 2 0 1) 0 crossed)) (is (0 ∷ 0 ∷ 4 ∷ []))
    ∷ row (long_clash (clash_in_for 2 (plan 2 0 1) 0 crossed)) (is (0 ∷ 0 ∷ 4 ∷ 5 ∷ []))
    ∷ row (long_clash (clash_in_for 3 (plan 2 0 1) 0 crossed)) (is [])
    ∷ row (long_clash (clash_in_for 1 (plan 2 0 1) 3 few_first)) (is (3 ∷ 0 ∷ 1 ∷ []))
    ∷ row (long_clash (clash_in_for 2 (plan 2 0 1) 3 few_first)) (is (3 ∷ 2 ∷ 3 ∷ 4 ∷ []))
    ∷ row (long_clash (clash_in_for 3 (plan 2 0 1) 3 few_first)) (is [])
    ∷ row (long_clash (clash_in_for 1 (plan 2 0 1) 0 between)) (is (0 ∷ 0 ∷ 3 ∷ []))
    ∷ row (long_clash (clash_in_for 2 (plan 2 0 1) 0 between)) (is (0 ∷ 1 ∷ 2 ∷ 4 ∷ []))
    ∷ row (long_clash (clash_in_for 2 (plan 2 1 2) 0 below)) (is (0 ∷ 0 ∷ 2 ∷ 4 ∷ []))
    ∷ row (long_clash (clash_in_for 3 (plan 2 1 2) 0 below)) (is [])
    ∷ row (long_clash (clash_in_for 3 (plan 6 4 2) 0 slanted)) (is (0 ∷ 0 ∷ 1 ∷ 3 ∷ 4 ∷ []))
    ∷ row (long_clash (clash_in_for 4 (plan 6 4 2) 0 slanted)) (is [])
    ∷ []

long_clash_orders_hold : Hold long_clash_orders
unfolding long_clash_orders
long_clash_orders_hold = refl

-- The clash of a book: the lowest pattern that has one, though the positions in a later one come first; pattern 0 suits, or only the
-- last does not; none.
long_clash_books : List Row
unfolding row is long_clash clash_for plan one two three_and_three crossed few_first between longest px
long_clash_books =
    row (long_clash (clash_for 1 (plan 1 0 1) (one ∷ two ∷ []))) (is (1 ∷ 0 ∷ 1 ∷ []))
    ∷ row (long_clash (clash_for 2 (plan 1 0 1) (one ∷ two ∷ []))) (is [])
    ∷ row (long_clash (clash_for 1 (plan 3 0 1) three_and_three)) (is (1 ∷ 0 ∷ 1 ∷ []))
    ∷ row (long_clash (clash_for 2 (plan 2 0 1) three_and_three)) (is (1 ∷ 0 ∷ 1 ∷ 2 ∷ []))
    ∷ row (long_clash (clash_for 2 (plan 1 0 1) three_and_three)) (is (0 ∷ 0 ∷ 1 ∷ 2 ∷ []))
    ∷ row (long_clash (clash_for 3 (plan 1 0 1) three_and_three)) (is [])
    ∷ row (long_clash (clash_for 2 (plan 2 1 1) three_and_three)) (is [])
    ∷ row (long_clash (clash_for 1 (plan 2 1 1) three_and_three)) (is (0 ∷ 0 ∷ 2 ∷ []))
    ∷ row (long_clash (clash_for 1 (plan 1 0 1) (one ∷ (px 2 0 ∷ []) ∷ []))) (is [])
    ∷ row (long_clash (clash_for 2 (plan 2 0 1) (few_first ∷ crossed ∷ []))) (is (0 ∷ 2 ∷ 3 ∷ 4 ∷ []))
    ∷ row (long_clash (clash_for 2 (plan 2 0 1) (crossed ∷ few_first ∷ []))) (is (0 ∷ 0 ∷ 4 ∷ 5 ∷ []))
    ∷ row (long_clash (clash_for 2 (plan 2 0 1) (one ∷ between ∷ crossed ∷ []))) (is (1 ∷ 1 ∷ 2 ∷ 4 ∷ []))
    ∷ row (long_clash (clash_for 3 (plan 2 0 1) (crossed ∷ two ∷ longest ∷ []))) (is (2 ∷ 0 ∷ 1 ∷ 3 ∷ 4 ∷ []))
    ∷ row (long_clash (clash_for 5 (plan 2 0 1) (crossed ∷ two ∷ longest ∷ []))) (is [])
    ∷ []

long_clash_books_hold : Hold long_clash_books
unfolding long_clash_books
long_clash_books_hold = refl
