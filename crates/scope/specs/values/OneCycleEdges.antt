-- Rows of the calls as they were without r, with which Card 4 compares those for r = 1: document 01's figures, and what its sentences
-- say of a clash, of a fetch and of the order of their checks.
-- Assumes nothing.
use Rattle.std.specs.Prelude.{ℕ, refl, true, false, List, [], ◌∷◌, ℤ, pos}
use Rattle.scope.specs.Plans.{Pixel, at, plan}
use Rattle.scope.specs.Books.{book_of}
use Rattle.scope.specs.Numbers.{Answer, of_verdict}
use Rattle.scope.specs.promises.OneCyclePromises.{find_before, fewest_before, check_before, fetch_before}
use Rattle.scope.specs.values.Rows.{Row, Hold, row, is, refused, clashes, values, planned, counted, case_of, neg, px, one, two, down, three, three_and_three, gap, square, cross, six_pairs, up_to}

-- The finder and the least count.
found : List (List Pixel) → ℕ → Answer (List ℤ)
unfolding planned find_before book_of
found ts limit = planned (find_before (book_of ts) limit)

finding : List Row
unfolding row is refused counted found fewest_before book_of one down three three_and_three gap square cross six_pairs
finding =
    row (found (one ∷ []) 6) (is (1 ∷ 0 ∷ 1 ∷ []))
    ∷ row (found three 6) (is (3 ∷ 0 ∷ 1 ∷ []))
    ∷ row (found three_and_three 6) (is (3 ∷ 1 ∷ 1 ∷ []))
    ∷ row (found square 6) (is (2 ∷ 0 ∷ 2 ∷ []))
    ∷ row (found cross 6) (is (5 ∷ 2 ∷ 1 ∷ []))
    ∷ row (found gap 6) (is (4 ∷ 0 ∷ 1 ∷ []))
    ∷ row (found gap 3) (refused 7 0)
    ∷ row (found six_pairs 6) (is (2 ∷ 0 ∷ 2 ∷ []))
    ∷ row (found (one ∷ []) 0) (refused 6 0)
    ∷ row (found (down ∷ []) 0) (refused 19 0)
    ∷ row (counted (fewest_before (book_of gap))) (is (4 ∷ []))
    ∷ row (counted (fewest_before (book_of (down ∷ [])))) (refused 19 0)
    ∷ []

finding_hold : Hold finding
unfolding finding
finding_hold = refl

-- The check: the surplus; the first clash of the lowest pattern, the verdict's own case; 8 and 9, and a book's number before them.
judged : List (List Pixel) → Pixel → Pixel → Answer (List ℤ)
unfolding values check_before book_of
judged ts x y =
    values (λ c. pos c.plan.a ∷ pos c.plan.b ∷ pos c.plan.d ∷ pos c.surplus ∷ []) (of_verdict (check_before (book_of ts) x y))

checking : List Row
unfolding row is refused clashes judged check_before book_of case_of one two down cross px at neg
checking =
    row (judged cross (at (neg 5) (pos 0)) (at (pos 3) (neg 1))) (is (5 ∷ 2 ∷ 1 ∷ 0 ∷ []))
    ∷ row (judged (two ∷ []) (px 3 0) (px 1 2)) (is (3 ∷ 1 ∷ 2 ∷ 4 ∷ []))
    ∷ row (judged (two ∷ []) (px 1 0) (px 0 1)) (clashes 0 0 1)
    ∷ row (judged (one ∷ (px 0 0 ∷ px 1 0 ∷ px 2 1 ∷ []) ∷ []) (px 5 0) (px 2 1)) (clashes 1 0 2)
    ∷ row (judged ((px 0 0 ∷ px 1 0 ∷ px 3 0 ∷ px 4 0 ∷ []) ∷ two ∷ []) (px 2 0) (px 0 1)) (clashes 0 0 3)
    ∷ row (is (case_of (check_before (book_of (two ∷ [])) (px 1 0) (px 0 1)) ∷ [])) (is (2 ∷ []))
    ∷ row (judged (two ∷ []) (px 2 1) (px 4 2)) (refused 8 0)
    ∷ row (judged (two ∷ []) (px 1 0) (px 0 2000)) (refused 9 0)
    ∷ row (judged (down ∷ []) (px 2 1) (px 4 2)) (refused 19 0)
    ∷ []

checking_hold : Hold checking
unfolding checking
checking_hold = refl

-- The fetches. Under 2, 0, 1 a picture of 2 by 2 has the words 1, 3 in row 0 and 2, 4 in row 1.
fetching : List Row
unfolding row is refused clashes counted fetch_before book_of up_to plan one two down px at neg
fetching =
    row (is (fetch_before false (book_of (two ∷ [])) (plan 2 0 1) 2 2 (up_to 4) 0 (px 0 1) (8 ∷ 8 ∷ 8 ∷ [])).content) (is (2 ∷ 4 ∷ 8 ∷ []))
    ∷ row (counted (fetch_before false (book_of (two ∷ [])) (plan 2 0 1) 2 2 (up_to 4) 0 (px 0 1) (8 ∷ 8 ∷ 8 ∷ [])).answer) (is (2 ∷ []))
    ∷ row (is (fetch_before true (book_of (two ∷ [])) (plan 2 0 1) 2 2 (up_to 4) 0 (at (neg 1) (neg 1)) (8 ∷ 8 ∷ 8 ∷ [])).content) (is (4 ∷ 2 ∷ 8 ∷ []))
    ∷ row (is (fetch_before false (book_of (two ∷ one ∷ [])) (plan 1 0 1) 2 2 (up_to 4) 1 (px 1 1) (8 ∷ [])).content) (is (4 ∷ []))
    ∷ row (counted (fetch_before false (book_of (one ∷ two ∷ [])) (plan 1 0 1) 2 2 (up_to 4) 1 (px 9 9) []).answer) (clashes 1 0 1)
    ∷ row (is (fetch_before false (book_of (one ∷ two ∷ [])) (plan 1 0 1) 2 2 (up_to 4) 1 (px 0 0) (8 ∷ 8 ∷ [])).content) (is (8 ∷ 8 ∷ []))
    ∷ row (counted (fetch_before false (book_of (one ∷ [])) (plan 2 0 1) 2 2 (up_to 4) 1 (px 0 0) []).answer) (refused 17 0)
    ∷ row (counted (fetch_before false (book_of (two ∷ [])) (plan 1 0 1) 2 2 (up_to 3) 1 (px 0 0) []).answer) (refused 13 0)
    ∷ row (counted (fetch_before true (book_of (down ∷ [])) (plan 0 0 1) 0 0 [] 0 (px 0 0) []).answer) (refused 19 0)
    ∷ []

fetching_hold : Hold fetching
unfolding fetching
fetching_hold = refl
