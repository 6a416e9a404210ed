-- Rows of document 02, Card 4, on the calls that take r, worked out from its sentences: the finder, the least count, the check
-- and the nine places beside its verdict, the fetches, and demand 3's list. CycleOrderEdges.antt has the cycles, and the order of
-- the checks of a fetch.
-- Assumes nothing.
use Rattle.std.specs.Prelude.{ℕ, refl, false, ℤ, pos, replicate}
use mathlib.Core.List.{List, [], ◌∷◌, ◌++◌, map, flat_map}
use Rattle.scope.specs.Plans.{Pixel, at, plan}
use Rattle.scope.specs.Books.{book_of}
use Rattle.scope.specs.Numbers.{Answer, of_verdict}
use Rattle.scope.specs.Calls.{fewest, check, lent}
use Rattle.scope.specs.promises.Demand as Demand
use Rattle.scope.specs.values.Rows.{Row, Hold, row, is, refused, clashes, crowds, values, counted, case_of, neg, px, one, two, down, three, three_and_three, square, cross, finds_for, checks_for, fetch_answer_for, fetched_for, ring_answer_for, ring_fetched_for, replied}
use Rattle.scope.specs.values.CycleEdges.{strip, crossed, few_first, between}
use Rattle.scope.specs.declared.Plan.{Plan}

-- Two pixels at one place, and a pixel out of range: 4 and 3.
unfoldable pub twice : List Pixel
unfolding px
twice = px 0 0 ∷ px 0 0 ∷ []

unfoldable pub wide : List Pixel
unfolding px
wide = px 16 0 ∷ []

-- The finder at r = 1, 2, 7 and 8. Eight pixels in a row are one class under 1, 0, 1; nine have five and four under 2, 0, 1. The
-- pixels of two patterns are not counted together.
finding_for : List Row
unfolding row is refused finds_for two three strip
finding_for =
    row (finds_for 1 (two ∷ []) 2) (is (2 ∷ 0 ∷ 1 ∷ []))
    ∷ row (finds_for 2 (two ∷ []) 2) (is (1 ∷ 0 ∷ 1 ∷ []))
    ∷ row (finds_for 1 (two ∷ []) 1) (refused 7 0)
    ∷ row (finds_for 7 (strip 8 ∷ []) 1) (refused 7 0)
    ∷ row (finds_for 8 (strip 8 ∷ []) 1) (is (1 ∷ 0 ∷ 1 ∷ []))
    ∷ row (finds_for 8 (strip 9 ∷ []) 1) (refused 7 0)
    ∷ row (finds_for 8 (strip 9 ∷ []) 2) (is (2 ∷ 0 ∷ 1 ∷ []))
    ∷ row (finds_for 2 (two ∷ two ∷ []) 1) (is (1 ∷ 0 ∷ 1 ∷ []))
    ∷ row (finds_for 2 (two ∷ three) 1) (refused 7 0)
    ∷ []

finding_for_hold : Hold finding_for
unfolding finding_for
finding_for_hold = refl

-- 20 after 2, 3, 4, 19 and 6, and before 7: at r = 0 no plan suits, and ten pixels have none of one bank at r = 9.
finding_orders : List Row
unfolding row refused finds_for one down twice wide strip
finding_orders =
    row (finds_for 0 (one ∷ []) 1) (refused 20 0)
    ∷ row (finds_for 9 (strip 10 ∷ []) 1) (refused 20 0)
    ∷ row (finds_for 9 (one ∷ []) 1) (refused 20 0)
    ∷ row (finds_for 0xffff_ffff (one ∷ []) 1) (refused 20 0)
    ∷ row (finds_for 0 (one ∷ []) 0) (refused 6 0)
    ∷ row (finds_for 9 (one ∷ []) 1025) (refused 6 0)
    ∷ row (finds_for 0 [] 0) (refused 2 0)
    ∷ row (finds_for 0 [] 1) (refused 2 0)
    ∷ row (finds_for 9 (wide ∷ []) 1) (refused 3 0)
    ∷ row (finds_for 0 (twice ∷ []) 1) (refused 4 0)
    ∷ row (finds_for 0 (down ∷ []) 1) (refused 19 0)
    ∷ row (finds_for 9 (down ∷ []) 0) (refused 19 0)
    ∷ []

finding_orders_hold : Hold finding_orders
unfolding finding_orders
finding_orders_hold = refl

-- The least count for r, and 20 after 2, 3, 4 and 19.
counting : List Row
unfolding row is refused counted fewest book_of one down three twice wide
counting =
    row (counted (fewest (book_of three) 1)) (is (3 ∷ []))
    ∷ row (counted (fewest (book_of three) 2)) (is (2 ∷ []))
    ∷ row (counted (fewest (book_of three) 3)) (is (1 ∷ []))
    ∷ row (counted (fewest (book_of three) 8)) (is (1 ∷ []))
    ∷ row (counted (fewest (book_of three) 9)) (refused 20 0)
    ∷ row (counted (fewest (book_of []) 0)) (refused 2 0)
    ∷ row (counted (fewest (book_of (wide ∷ [])) 9)) (refused 3 0)
    ∷ row (counted (fewest (book_of (twice ∷ [])) 0)) (refused 4 0)
    ∷ row (counted (fewest (book_of (down ∷ [])) 9)) (refused 19 0)
    ∷ row (counted (fewest (book_of (one ∷ [])) 0)) (refused 20 0)
    ∷ []

counting_hold : Hold counting
unfolding counting
counting_hold = refl

-- The least count at the edge of r.
counting_edge : List Row
unfolding row is counted fewest book_of strip
counting_edge =
    row (counted (fewest (book_of (strip 8 ∷ [])) 8)) (is (1 ∷ []))
    ∷ row (counted (fewest (book_of (strip 9 ∷ [])) 8)) (is (2 ∷ []))
    ∷ []

counting_edge_hold : Hold counting_edge
unfolding counting_edge
counting_edge_hold = refl

-- The surplus against the least for r: of the cross, 5, 3, 2 and 1 at r = 1, 2, 3 and 5, of the two patterns 3, 2 and 1.
surpluses : List Row
unfolding row is checks_for two three_and_three cross px at neg
surpluses =
    row (checks_for 1 cross (at (neg 5) (pos 0)) (at (pos 3) (neg 1))) (is (5 ∷ 2 ∷ 1 ∷ 0 ∷ []))
    ∷ row (checks_for 2 cross (at (neg 5) (pos 0)) (at (pos 3) (neg 1))) (is (5 ∷ 2 ∷ 1 ∷ 2 ∷ []))
    ∷ row (checks_for 3 cross (at (neg 5) (pos 0)) (at (pos 3) (neg 1))) (is (5 ∷ 2 ∷ 1 ∷ 3 ∷ []))
    ∷ row (checks_for 5 cross (at (neg 5) (pos 0)) (at (pos 3) (neg 1))) (is (5 ∷ 2 ∷ 1 ∷ 4 ∷ []))
    ∷ row (checks_for 2 three_and_three (px 3 0) (px 1 1)) (is (3 ∷ 1 ∷ 1 ∷ 1 ∷ []))
    ∷ row (checks_for 3 three_and_three (px 3 0) (px 1 1)) (is (3 ∷ 1 ∷ 1 ∷ 2 ∷ []))
    ∷ row (checks_for 2 (two ∷ []) (px 1 0) (px 0 1)) (is (1 ∷ 0 ∷ 1 ∷ 0 ∷ []))
    ∷ row (checks_for 2 (two ∷ two ∷ []) (px 1 0) (px 0 1)) (is (1 ∷ 0 ∷ 1 ∷ 0 ∷ []))
    ∷ []

surpluses_hold : Hold surpluses
unfolding surpluses
surpluses_hold = refl

-- The check's clash: r + 1 positions, up to nine, of the lowest pattern that has one. The pixels of two patterns are not one class.
clashing : List Row
unfolding row is crowds checks_for one two three three_and_three square strip crossed few_first between px
clashing =
    row (checks_for 1 (two ∷ []) (px 1 0) (px 0 1)) (crowds 0 (0 ∷ 1 ∷ []))
    ∷ row (checks_for 2 (crossed ∷ []) (px 2 0) (px 0 1)) (crowds 0 (0 ∷ 4 ∷ 5 ∷ []))
    ∷ row (checks_for 2 (few_first ∷ []) (px 2 0) (px 0 1)) (crowds 0 (2 ∷ 3 ∷ 4 ∷ []))
    ∷ row (checks_for 3 square (px 1 0) (px 0 1)) (crowds 0 (0 ∷ 1 ∷ 2 ∷ 3 ∷ []))
    ∷ row (checks_for 8 (strip 8 ∷ []) (px 1 0) (px 0 1)) (is (1 ∷ 0 ∷ 1 ∷ 0 ∷ []))
    ∷ row (checks_for 8 (strip 9 ∷ []) (px 1 0) (px 0 1)) (crowds 0 (0 ∷ 1 ∷ 2 ∷ 3 ∷ 4 ∷ 5 ∷ 6 ∷ 7 ∷ 8 ∷ []))
    ∷ row (checks_for 1 (one ∷ (px 2 0 ∷ []) ∷ []) (px 1 0) (px 0 1)) (is (1 ∷ 0 ∷ 1 ∷ 0 ∷ []))
    ∷ row (checks_for 2 three_and_three (px 1 0) (px 0 1)) (crowds 0 (0 ∷ 1 ∷ 2 ∷ []))
    ∷ row (checks_for 2 three_and_three (px 2 0) (px 0 1)) (crowds 1 (0 ∷ 1 ∷ 2 ∷ []))
    ∷ row (checks_for 2 (two ∷ between ∷ crossed ∷ []) (px 2 0) (px 0 1)) (crowds 1 (1 ∷ 2 ∷ 4 ∷ []))
    ∷ []

clashing_hold : Hold clashing
unfolding clashing
clashing_hold = refl

-- 20 after 2, 3, 4 and 19, and before 8, 9 and 10; 8 and 9 before 10 at r = 2.
checking_orders : List Row
unfolding row refused checks_for two down three twice wide px
checking_orders =
    row (checks_for 0 (two ∷ []) (px 2 1) (px 4 2)) (refused 20 0)
    ∷ row (checks_for 9 (two ∷ []) (px 32 0) (px 0 33)) (refused 20 0)
    ∷ row (checks_for 0 (two ∷ []) (px 1 0) (px 0 1)) (refused 20 0)
    ∷ row (checks_for 9 (two ∷ []) (px 1 0) (px 0 1)) (refused 20 0)
    ∷ row (checks_for 2 three (px 1 0) (px 2 0)) (refused 8 0)
    ∷ row (checks_for 2 three (px 1 0) (px 0 2000)) (refused 9 0)
    ∷ row (checks_for 0 [] (px 2 1) (px 4 2)) (refused 2 0)
    ∷ row (checks_for 9 (wide ∷ []) (px 2 1) (px 4 2)) (refused 3 0)
    ∷ row (checks_for 0 (twice ∷ []) (px 2 1) (px 4 2)) (refused 4 0)
    ∷ row (checks_for 9 (down ∷ []) (px 32 0) (px 0 33)) (refused 19 0)
    ∷ []

checking_orders_hold : Hold checking_orders
unfolding checking_orders
checking_orders_hold = refl

-- The nine places beside the verdict: r + 1 positions, then 0; of a surplus and of a refusal 0. The clash in the verdict itself has
-- the first two of them, and is the verdict's own case.
of_crossed : ℕ → Answer (List ℤ)
unfolding values check book_of two crossed px
of_crossed r = values (λ c. []) (of_verdict (check (book_of (two ∷ crossed ∷ [])) r (px 2 0) (px 0 1)).verdict)

places : List Row
unfolding row is clashes of_crossed case_of check book_of two three strip crossed px
places =
    row (is (check (book_of three) 1 (px 1 0) (px 0 1)).positions) (is (0 ∷ 1 ∷ replicate 7 0))
    ∷ row (is (check (book_of (two ∷ crossed ∷ [])) 2 (px 2 0) (px 0 1)).positions) (is (0 ∷ 4 ∷ 5 ∷ replicate 6 0))
    ∷ row (is (check (book_of (strip 9 ∷ [])) 8 (px 1 0) (px 0 1)).positions) (is (0 ∷ 1 ∷ 2 ∷ 3 ∷ 4 ∷ 5 ∷ 6 ∷ 7 ∷ 8 ∷ []))
    ∷ row (is (check (book_of three) 3 (px 1 0) (px 0 1)).positions) (is (replicate 9 0))
    ∷ row (is (check (book_of three) 2 (px 1 0) (px 2 0)).positions) (is (replicate 9 0))
    ∷ row (is (check (book_of (strip 10 ∷ [])) 9 (px 1 0) (px 0 1)).positions) (is (replicate 9 0))
    ∷ row (of_crossed 2) (clashes 1 0 4)
    ∷ row (is (case_of (check (book_of (two ∷ crossed ∷ [])) 2 (px 2 0) (px 0 1)).verdict ∷ [])) (is (2 ∷ []))
    ∷ row (is (case_of (check (book_of (two ∷ crossed ∷ [])) 3 (px 2 0) (px 0 1)).verdict ∷ [])) (is (1 ∷ []))
    ∷ []

places_hold : Hold places
unfolding places
places_hold = refl

-- Fetch: words of one bank are given at r = 2, and at r = 1 are not; 10 for its own pattern only, with that pattern's number. Under
-- 2, 0, 1 a picture of 3 by 1 has the words 1, 3, 2, and one of 9 by 1 has 1 to 5 in the even columns and 6 to 9 in the odd ones.
fetching_for : List Row
unfolding row is crowds plan px two three crossed fetch_answer_for fetched_for
fetching_for =
    row (fetched_for 2 (two ∷ []) (plan 1 0 1) 2 2 4 0 (px 0 1) (8 ∷ 8 ∷ 8 ∷ [])) (is (3 ∷ 4 ∷ 8 ∷ []))
    ∷ row (fetch_answer_for 2 (two ∷ []) (plan 1 0 1) 2 2 4 0 (px 0 1) (8 ∷ 8 ∷ 8 ∷ [])) (is (2 ∷ []))
    ∷ row (fetched_for 1 (two ∷ []) (plan 1 0 1) 2 2 4 0 (px 0 1) (8 ∷ 8 ∷ 8 ∷ [])) (is (8 ∷ 8 ∷ 8 ∷ []))
    ∷ row (fetch_answer_for 1 (two ∷ []) (plan 1 0 1) 2 2 4 0 (px 0 1) (8 ∷ 8 ∷ 8 ∷ [])) (crowds 0 (0 ∷ 1 ∷ []))
    ∷ row (fetched_for 2 three (plan 2 0 1) 3 1 4 0 (px 0 0) (8 ∷ 8 ∷ 8 ∷ [])) (is (1 ∷ 3 ∷ 2 ∷ []))
    ∷ row (fetch_answer_for 2 three (plan 1 0 1) 3 1 3 0 (px 0 0) (8 ∷ 8 ∷ 8 ∷ [])) (crowds 0 (0 ∷ 1 ∷ 2 ∷ []))
    ∷ row (fetched_for 2 three (plan 1 0 1) 3 1 3 0 (px 0 0) (8 ∷ 8 ∷ 8 ∷ [])) (is (8 ∷ 8 ∷ 8 ∷ []))
    ∷ row (fetched_for 3 three (plan 1 0 1) 3 1 3 0 (px 0 0) (8 ∷ 8 ∷ 8 ∷ [])) (is (1 ∷ 2 ∷ 3 ∷ []))
    ∷ row (fetched_for 2 (three ++ (two ∷ [])) (plan 1 0 1) 3 1 3 1 (px 1 0) (8 ∷ 8 ∷ 8 ∷ [])) (is (2 ∷ 3 ∷ 8 ∷ []))
    ∷ row (fetch_answer_for 2 (two ∷ three) (plan 1 0 1) 3 1 3 1 (px 0 0) (8 ∷ 8 ∷ 8 ∷ [])) (crowds 1 (0 ∷ 1 ∷ 2 ∷ []))
    ∷ row (fetch_answer_for 2 (crossed ∷ []) (plan 2 0 1) 9 1 10 0 (px 0 0) (replicate 6 8)) (crowds 0 (0 ∷ 4 ∷ 5 ∷ []))
    ∷ row (fetched_for 3 (crossed ∷ []) (plan 2 0 1) 9 1 10 0 (px 0 0) (replicate 6 8)) (is (1 ∷ 6 ∷ 7 ∷ 8 ∷ 4 ∷ 5 ∷ []))
    ∷ []

fetching_for_hold : Hold fetching_for
unfolding fetching_for
fetching_for_hold = refl

-- The same of a ring fetch, past the right edge. Under 2, 0, 1 a picture of 4 by 2 has in row 0 the words 1, 5, 2, 6.
ring_fetching_for : List Row
unfolding row is crowds plan px two three ring_answer_for ring_fetched_for
ring_fetching_for =
    row (ring_fetched_for 2 (two ∷ []) (plan 1 0 1) 2 2 4 0 (px 1 1) (8 ∷ 8 ∷ 8 ∷ [])) (is (4 ∷ 3 ∷ 8 ∷ []))
    ∷ row (ring_answer_for 2 (two ∷ []) (plan 1 0 1) 2 2 4 0 (px 1 1) (8 ∷ 8 ∷ 8 ∷ [])) (is (2 ∷ []))
    ∷ row (ring_fetched_for 1 (two ∷ []) (plan 1 0 1) 2 2 4 0 (px 1 1) (8 ∷ 8 ∷ 8 ∷ [])) (is (8 ∷ 8 ∷ 8 ∷ []))
    ∷ row (ring_answer_for 1 (two ∷ []) (plan 1 0 1) 2 2 4 0 (px 1 1) (8 ∷ 8 ∷ 8 ∷ [])) (crowds 0 (0 ∷ 1 ∷ []))
    ∷ row (ring_fetched_for 2 three (plan 2 0 1) 4 2 8 0 (px 3 0) (8 ∷ 8 ∷ 8 ∷ [])) (is (6 ∷ 1 ∷ 5 ∷ []))
    ∷ row (ring_answer_for 2 (two ∷ three) (plan 1 0 1) 3 1 3 1 (px 0 0) (8 ∷ 8 ∷ 8 ∷ [])) (crowds 1 (0 ∷ 1 ∷ 2 ∷ []))
    ∷ []

ring_fetching_for_hold : Hold ring_fetching_for
unfolding ring_fetching_for
ring_fetching_for_hold = refl

-- Three pixels in a row on 3 by 1 at r = 2, with the finder's plan for it and with another, and at r = 9.
cycled : ℕ → Plan → Demand.Setting
unfolding book_of three
cycled r p = record { book = book_of three; r = r; plan = p; W = 3; H = 1 }

stores : List Demand.Call
unfolding px
stores = Demand.write (Demand.store (px 0 0) 5) ∷ Demand.write (Demand.store (px 1 0) 6) ∷ Demand.write (Demand.store (px 2 0) 7) ∷ []

fetches : List Demand.Call
unfolding px
fetches =
    Demand.read (Demand.fetch false 0 (px 0 0) (3 ∷ 3 ∷ 3 ∷ 3 ∷ [])) ∷ Demand.read (Demand.fetch false 0 (px 1 0) (3 ∷ []))
    ∷ Demand.read (Demand.fetch false 1 (px 0 0) (3 ∷ [])) ∷ Demand.read (Demand.fetch false 0 (px 0 0) (3 ∷ [])) ∷ []

-- What they reply: words, 14, 17 and 16; at r = 9 each fetch 20; under 1, 0, 1 each of pattern 0 its 10 with the clash. The conditions
-- tell the same. The words come from the banks 0, 1, 0 in the cycles 0, 0, 1.
lists : List Row
unfolding row is plan cycled stores fetches replied flat_map Demand.replies Demand.reply_due Demand.banks_read Demand.cycles_read
lists =
    row (is (flat_map replied (Demand.replies (cycled 2 (plan 2 0 1)) (lent (replicate 4 0) (0 ∷ 0 ∷ [])) (stores ++ fetches)))) (is (0 ∷ 0 ∷ 0 ∷ 0 ∷ 3 ∷ 5 ∷ 6 ∷ 7 ∷ 3 ∷ 14 ∷ 3 ∷ 17 ∷ 3 ∷ 16 ∷ 3 ∷ []))
    ∷ row (is (flat_map replied (map (Demand.reply_due (cycled 2 (plan 2 0 1)) (lent (replicate 4 0) (0 ∷ 0 ∷ [])) stores) fetches))) (is (0 ∷ 3 ∷ 5 ∷ 6 ∷ 7 ∷ 3 ∷ 14 ∷ 3 ∷ 17 ∷ 3 ∷ 16 ∷ 3 ∷ []))
    ∷ row (is (flat_map replied (Demand.replies (cycled 9 (plan 2 0 1)) (lent (replicate 4 0) (0 ∷ 0 ∷ [])) (stores ++ fetches)))) (is (0 ∷ 0 ∷ 0 ∷ 20 ∷ 3 ∷ 3 ∷ 3 ∷ 3 ∷ 20 ∷ 3 ∷ 20 ∷ 3 ∷ 20 ∷ 3 ∷ []))
    ∷ row (is (flat_map replied (map (Demand.reply_due (cycled 9 (plan 2 0 1)) (lent (replicate 4 0) (0 ∷ 0 ∷ [])) stores) fetches))) (is (20 ∷ 3 ∷ 3 ∷ 3 ∷ 3 ∷ 20 ∷ 3 ∷ 20 ∷ 3 ∷ 20 ∷ 3 ∷ []))
    ∷ row (is (flat_map replied (Demand.replies (cycled 2 (plan 1 0 1)) (lent (replicate 3 0) []) fetches))) (is (10 ∷ 0 ∷ 0 ∷ 1 ∷ 2 ∷ 3 ∷ 3 ∷ 3 ∷ 3 ∷ 10 ∷ 0 ∷ 0 ∷ 1 ∷ 2 ∷ 3 ∷ 17 ∷ 3 ∷ 10 ∷ 0 ∷ 0 ∷ 1 ∷ 2 ∷ 3 ∷ []))
    ∷ row (is (flat_map replied (map (Demand.reply_due (cycled 2 (plan 1 0 1)) (lent (replicate 3 0) []) []) fetches))) (is (10 ∷ 0 ∷ 0 ∷ 1 ∷ 2 ∷ 3 ∷ 3 ∷ 3 ∷ 3 ∷ 10 ∷ 0 ∷ 0 ∷ 1 ∷ 2 ∷ 3 ∷ 17 ∷ 3 ∷ 10 ∷ 0 ∷ 0 ∷ 1 ∷ 2 ∷ 3 ∷ []))
    ∷ row (is (flat_map (Demand.banks_read (cycled 2 (plan 2 0 1))) (stores ++ fetches))) (is (0 ∷ 1 ∷ 0 ∷ 1 ∷ 0 ∷ 1 ∷ 0 ∷ 1 ∷ 0 ∷ []))
    ∷ row (is (flat_map (Demand.cycles_read (cycled 2 (plan 2 0 1))) (stores ++ fetches))) (is (0 ∷ 0 ∷ 1 ∷ 0 ∷ 0 ∷ 1 ∷ 0 ∷ 0 ∷ 1 ∷ []))
    ∷ []

lists_hold : Hold lists
unfolding lists
lists_hold = refl
