-- Rows of document 02, Card 4, worked out from its sentences: the call that writes cycles, the nine places beside what a fetch and it
-- count, and inputs of theirs that break two conditions, so that the order of the checks tells.
-- Assumes nothing.
use Rattle.std.specs.Prelude.{ℕ, refl, List, [], ◌∷◌, ◌++◌, ℤ, replicate}
use Rattle.scope.specs.Plans.{Pixel, plan}
use Rattle.scope.specs.Books.{book_of}
use Rattle.scope.specs.Numbers.{Answer}
use Rattle.scope.specs.Calls.{fetch, ring_fetch, write_cycles}
use Rattle.scope.specs.values.Rows.{Row, Hold, row, is, refused, clashes, crowds, counted, fetched_by, px, one, two, down, three, cycles_answer, cycles_left, up_to, fetch_answer_for, ring_answer_for}
use Rattle.scope.specs.values.CycleEdges.{strip, crossed, below}
use Rattle.scope.specs.values.CallCycleEdges.{twice, wide}
use Rattle.scope.specs.declared.Plan.{Plan}
use Rattle.scope.specs.declared.Book.{Book}

-- A book of one pattern whose record has a second one, of three pixels in a row, unused.
unused_three : Book
unfolding book_of one three
unused_three = record { patterns = (book_of (one ∷ three)).patterns; count = 1 }

-- The cycles at the start of the output, the rest unchanged, and how many: room for more, exact room, and one byte too little. A plan
-- that suits for less than r; one that suits for 1, also the largest; the edge of r; another pattern, where the first would clash;
-- banks that come back after others; negative coordinates.
writing : List Row
unfolding row is refused plan two three strip crossed below cycles_answer cycles_left
writing =
    row (cycles_left 2 three (plan 2 0 1) 0 (9 ∷ 9 ∷ 9 ∷ 9 ∷ 9 ∷ [])) (is (0 ∷ 0 ∷ 1 ∷ 9 ∷ 9 ∷ []))
    ∷ row (cycles_answer 2 three (plan 2 0 1) 0 (9 ∷ 9 ∷ 9 ∷ 9 ∷ 9 ∷ [])) (is (3 ∷ []))
    ∷ row (cycles_left 2 three (plan 2 0 1) 0 (9 ∷ 9 ∷ 9 ∷ [])) (is (0 ∷ 0 ∷ 1 ∷ []))
    ∷ row (cycles_answer 2 three (plan 2 0 1) 0 (9 ∷ 9 ∷ 9 ∷ [])) (is (3 ∷ []))
    ∷ row (cycles_left 2 three (plan 2 0 1) 0 (9 ∷ 9 ∷ [])) (is (9 ∷ 9 ∷ []))
    ∷ row (cycles_answer 2 three (plan 2 0 1) 0 (9 ∷ 9 ∷ [])) (refused 16 0)
    ∷ row (cycles_left 3 three (plan 1 0 1) 0 (9 ∷ 9 ∷ 9 ∷ [])) (is (0 ∷ 1 ∷ 2 ∷ []))
    ∷ row (cycles_left 3 three (plan 2 0 1) 0 (9 ∷ 9 ∷ 9 ∷ [])) (is (0 ∷ 0 ∷ 1 ∷ []))
    ∷ row (cycles_left 1 three (plan 3 0 1) 0 (9 ∷ 9 ∷ 9 ∷ [])) (is (0 ∷ 0 ∷ 0 ∷ []))
    ∷ row (cycles_left 1 (two ∷ []) (plan 1024 0 1) 0 (9 ∷ 9 ∷ [])) (is (0 ∷ 0 ∷ []))
    ∷ row (cycles_left 8 (strip 8 ∷ []) (plan 1 0 1) 0 (replicate 9 9)) (is (0 ∷ 1 ∷ 2 ∷ 3 ∷ 4 ∷ 5 ∷ 6 ∷ 7 ∷ 9 ∷ []))
    ∷ row (cycles_left 2 (three ++ (two ∷ [])) (plan 1 0 1) 1 (9 ∷ 9 ∷ 9 ∷ [])) (is (0 ∷ 1 ∷ 9 ∷ []))
    ∷ row (cycles_answer 2 (three ++ (two ∷ [])) (plan 1 0 1) 1 (9 ∷ 9 ∷ 9 ∷ [])) (is (2 ∷ []))
    ∷ row (cycles_left 3 (crossed ∷ []) (plan 2 0 1) 0 (replicate 6 9)) (is (0 ∷ 0 ∷ 1 ∷ 2 ∷ 1 ∷ 2 ∷ []))
    ∷ row (cycles_left 3 (below ∷ []) (plan 2 1 2) 0 (replicate 5 9)) (is (0 ∷ 0 ∷ 1 ∷ 0 ∷ 2 ∷ []))
    ∷ []

writing_hold : Hold writing
unfolding writing
writing_hold = refl

-- Each refusal of the cycles by itself, and the output as it was. 10 for its own pattern only, with that pattern's number.
not_written : List Row
unfolding row is refused crowds plan one two down three strip twice wide cycles_answer cycles_left
not_written =
    row (cycles_answer 2 [] (plan 1 0 1) 0 (9 ∷ 9 ∷ [])) (refused 2 0)
    ∷ row (cycles_answer 2 (wide ∷ []) (plan 1 0 1) 0 (9 ∷ 9 ∷ [])) (refused 3 0)
    ∷ row (cycles_answer 2 (twice ∷ []) (plan 1 0 1) 0 (9 ∷ 9 ∷ [])) (refused 4 0)
    ∷ row (cycles_answer 2 (down ∷ []) (plan 1 0 1) 0 (9 ∷ 9 ∷ [])) (refused 19 0)
    ∷ row (cycles_left 2 (down ∷ []) (plan 1 0 1) 0 (9 ∷ 9 ∷ [])) (is (9 ∷ 9 ∷ []))
    ∷ row (cycles_answer 0 (one ∷ []) (plan 1 0 1) 0 (9 ∷ 9 ∷ [])) (refused 20 0)
    ∷ row (cycles_answer 9 (two ∷ []) (plan 1 0 1) 0 (9 ∷ 9 ∷ [])) (refused 20 0)
    ∷ row (cycles_left 9 (two ∷ []) (plan 1 0 1) 0 (9 ∷ 9 ∷ [])) (is (9 ∷ 9 ∷ []))
    ∷ row (cycles_answer 2 (two ∷ []) (plan 2 2 1) 0 (9 ∷ 9 ∷ [])) (refused 11 0)
    ∷ row (cycles_left 2 (two ∷ []) (plan 2 2 1) 0 (9 ∷ 9 ∷ [])) (is (9 ∷ 9 ∷ []))
    ∷ row (cycles_answer 2 (two ∷ []) (plan 1 0 1) 1 (9 ∷ 9 ∷ [])) (refused 17 0)
    ∷ row (cycles_left 2 (two ∷ []) (plan 1 0 1) 1 (9 ∷ 9 ∷ [])) (is (9 ∷ 9 ∷ []))
    ∷ row (cycles_answer 2 three (plan 1 0 1) 0 (9 ∷ 9 ∷ 9 ∷ [])) (crowds 0 (0 ∷ 1 ∷ 2 ∷ []))
    ∷ row (cycles_left 2 three (plan 1 0 1) 0 (9 ∷ 9 ∷ 9 ∷ [])) (is (9 ∷ 9 ∷ 9 ∷ []))
    ∷ row (cycles_answer 2 (two ∷ three) (plan 1 0 1) 1 (9 ∷ 9 ∷ 9 ∷ [])) (crowds 1 (0 ∷ 1 ∷ 2 ∷ []))
    ∷ row (cycles_answer 1 (two ∷ []) (plan 1 0 1) 0 (9 ∷ 9 ∷ [])) (crowds 0 (0 ∷ 1 ∷ []))
    ∷ row (cycles_answer 8 (strip 9 ∷ []) (plan 1 0 1) 0 (replicate 9 9)) (crowds 0 (0 ∷ 1 ∷ 2 ∷ 3 ∷ 4 ∷ 5 ∷ 6 ∷ 7 ∷ 8 ∷ []))
    ∷ []

not_written_hold : Hold not_written
unfolding not_written
not_written_hold = refl

-- Two conditions at once: 2, 3, 4, 19, 20, 11, 17, 10, 16. Plan 1, 1, 1 is none, and has all three pixels in one class.
writing_orders : List Row
unfolding row refused crowds plan one two down three strip twice wide unused_three write_cycles fetched_by cycles_answer
writing_orders =
    row (cycles_answer 0 [] (plan 0 0 1) 1 []) (refused 2 0)
    ∷ row (cycles_answer 9 (wide ∷ []) (plan 0 0 1) 1 []) (refused 3 0)
    ∷ row (cycles_answer 0 (twice ∷ []) (plan 0 0 1) 1 []) (refused 4 0)
    ∷ row (cycles_answer 9 (down ∷ []) (plan 0 0 1) 1 []) (refused 19 0)
    ∷ row (cycles_answer 0 (two ∷ []) (plan 0 0 1) 0 []) (refused 20 0)
    ∷ row (cycles_answer 9 (two ∷ []) (plan 1 0 1) 1 []) (refused 20 0)
    ∷ row (cycles_answer 9 (strip 10 ∷ []) (plan 1 0 1) 0 []) (refused 20 0)
    ∷ row (cycles_answer 2 (two ∷ []) (plan 1 1 1) 1 []) (refused 11 0)
    ∷ row (cycles_answer 2 three (plan 1 1 1) 0 []) (refused 11 0)
    ∷ row (fetched_by 2 (write_cycles unused_three 2 (plan 1 0 1) 1 []).answer) (refused 17 0)
    ∷ row (cycles_answer 2 three (plan 1 0 1) 0 []) (crowds 0 (0 ∷ 1 ∷ 2 ∷ []))
    ∷ row (cycles_answer 2 (two ∷ []) (plan 1 0 1) 0 []) (refused 16 0)
    ∷ []

writing_orders_hold : Hold writing_orders
unfolding writing_orders
writing_orders_hold = refl

-- The nine places beside what is counted: r + 1 positions of a clash, then 0; of a value, and of a refusal before or after 10, all 0.
-- The clash in the refusal itself has the first two of them. `crossed` has the classes 0, 4, 5 and 1, 2, 3.
fetch_places : ℕ → List (List Pixel) → Plan → ℕ → ℕ → Answer (List ℤ)
unfolding is fetch book_of up_to px
fetch_places r ts p W n = is (fetch (book_of ts) r p W 1 (up_to 10) n (px 0 0) []).answer.positions

ring_places : ℕ → List (List Pixel) → Plan → ℕ → ℕ → Answer (List ℤ)
unfolding is ring_fetch book_of up_to px
ring_places r ts p W n = is (ring_fetch (book_of ts) r p W 1 (up_to 10) n (px 0 0) []).answer.positions

cycles_places : ℕ → List (List Pixel) → Plan → ℕ → List ℕ → Answer (List ℤ)
unfolding is write_cycles book_of
cycles_places r ts p n out = is (write_cycles (book_of ts) r p n out).answer.positions

places_of_fetches : List Row
unfolding row is clashes counted plan px two three strip crossed unused_three book_of up_to fetch fetch_places ring_places
places_of_fetches =
    row (fetch_places 2 (two ∷ crossed ∷ []) (plan 2 0 1) 9 1) (is (0 ∷ 4 ∷ 5 ∷ replicate 6 0))
    ∷ row (fetch_places 8 (strip 9 ∷ []) (plan 1 0 1) 9 0) (is (0 ∷ 1 ∷ 2 ∷ 3 ∷ 4 ∷ 5 ∷ 6 ∷ 7 ∷ 8 ∷ []))
    ∷ row (fetch_places 9 (strip 10 ∷ []) (plan 1 0 1) 10 0) (is (replicate 9 0))
    ∷ row (fetch_places 2 three (plan 1 1 1) 3 0) (is (replicate 9 0))
    ∷ row (is (fetch unused_three 2 (plan 1 0 1) 3 1 (up_to 3) 1 (px 0 0) []).answer.positions) (is (replicate 9 0))
    ∷ row (fetch_places 3 three (plan 1 0 1) 3 0) (is (replicate 9 0))
    ∷ row (is (fetch (book_of (two ∷ [])) 2 (plan 1 0 1) 2 1 (up_to 2) 0 (px 0 0) (8 ∷ 8 ∷ [])).answer.positions) (is (replicate 9 0))
    ∷ row (ring_places 2 (two ∷ crossed ∷ []) (plan 2 0 1) 9 1) (is (0 ∷ 4 ∷ 5 ∷ replicate 6 0))
    ∷ row (ring_places 9 (strip 10 ∷ []) (plan 1 0 1) 10 0) (is (replicate 9 0))
    ∷ row (counted (fetch (book_of (two ∷ crossed ∷ [])) 2 (plan 2 0 1) 9 1 (up_to 10) 1 (px 0 0) []).answer.counted) (clashes 1 0 4)
    ∷ []

places_of_fetches_hold : Hold places_of_fetches
unfolding places_of_fetches
places_of_fetches_hold = refl

places_of_cycles : List Row
unfolding row is clashes counted plan two three strip crossed unused_three book_of write_cycles cycles_places
places_of_cycles =
    row (cycles_places 2 (two ∷ crossed ∷ []) (plan 2 0 1) 1 []) (is (0 ∷ 4 ∷ 5 ∷ replicate 6 0))
    ∷ row (cycles_places 8 (strip 9 ∷ []) (plan 1 0 1) 0 []) (is (0 ∷ 1 ∷ 2 ∷ 3 ∷ 4 ∷ 5 ∷ 6 ∷ 7 ∷ 8 ∷ []))
    ∷ row (cycles_places 9 (strip 10 ∷ []) (plan 1 0 1) 0 []) (is (replicate 9 0))
    ∷ row (cycles_places 2 three (plan 1 1 1) 0 []) (is (replicate 9 0))
    ∷ row (is (write_cycles unused_three 2 (plan 1 0 1) 1 []).answer.positions) (is (replicate 9 0))
    ∷ row (cycles_places 3 three (plan 1 0 1) 0 []) (is (replicate 9 0))
    ∷ row (cycles_places 3 three (plan 1 0 1) 0 (9 ∷ 9 ∷ 9 ∷ [])) (is (replicate 9 0))
    ∷ row (counted (write_cycles (book_of (two ∷ crossed ∷ [])) 2 (plan 2 0 1) 1 []).answer.counted) (clashes 1 0 4)
    ∷ []

places_of_cycles_hold : Hold places_of_cycles
unfolding places_of_cycles
places_of_cycles_hold = refl

-- A fetch that breaks two conditions: 2, 3, 4, 19, 20, 11, 12, 13, 17, 10, 14, 16. 5000 is no side, and needs more memory than there
-- is.
fetch_orders_for : List Row
unfolding row refused crowds plan px one two down three strip twice wide unused_three up_to fetch fetched_by fetch_answer_for
fetch_orders_for =
    row (fetch_answer_for 0 [] (plan 0 0 1) 0 0 0 0 (px 0 0) []) (refused 2 0)
    ∷ row (fetch_answer_for 9 (wide ∷ []) (plan 0 0 1) 0 0 0 0 (px 0 0) []) (refused 3 0)
    ∷ row (fetch_answer_for 0 (twice ∷ []) (plan 0 0 1) 0 0 0 0 (px 0 0) []) (refused 4 0)
    ∷ row (fetch_answer_for 9 (down ∷ []) (plan 0 0 1) 0 0 0 0 (px 0 0) []) (refused 19 0)
    ∷ row (fetch_answer_for 0 (one ∷ []) (plan 0 0 1) 0 0 0 0 (px 0 0) []) (refused 20 0)
    ∷ row (fetch_answer_for 9 (one ∷ []) (plan 1 0 1) 5000 1 0 0 (px 0 0) []) (refused 20 0)
    ∷ row (fetch_answer_for 9 (one ∷ []) (plan 2 0 1) 2 2 3 0 (px 0 0) []) (refused 20 0)
    ∷ row (fetch_answer_for 0 (one ∷ []) (plan 2 0 1) 2 2 4 1 (px 0 0) []) (refused 20 0)
    ∷ row (fetch_answer_for 9 (strip 10 ∷ []) (plan 1 0 1) 10 1 10 0 (px 9 9) []) (refused 20 0)
    ∷ row (fetch_answer_for 2 three (plan 1 1 1) 2 2 4 0 (px 9 9) []) (refused 11 0)
    ∷ row (fetch_answer_for 2 three (plan 1 0 1) 0 1 0 0 (px 9 9) []) (refused 12 0)
    ∷ row (fetch_answer_for 2 three (plan 1 0 1) 2 2 3 0 (px 9 9) []) (refused 13 0)
    ∷ row (fetched_by 2 (fetch unused_three 2 (plan 1 0 1) 2 2 (up_to 4) 1 (px 9 9) []).answer) (refused 17 0)
    ∷ row (fetch_answer_for 2 three (plan 1 0 1) 2 2 4 0 (px 9 9) []) (crowds 0 (0 ∷ 1 ∷ 2 ∷ []))
    ∷ row (fetch_answer_for 2 (two ∷ []) (plan 1 0 1) 2 2 4 0 (px 1 1) []) (refused 14 0)
    ∷ row (fetch_answer_for 2 (two ∷ []) (plan 1 0 1) 2 2 4 0 (px 0 1) (8 ∷ [])) (refused 16 0)
    ∷ []

fetch_orders_for_hold : Hold fetch_orders_for
unfolding fetch_orders_for
fetch_orders_for_hold = refl

-- And a ring fetch, with 18 in the place of 14.
ring_orders_for : List Row
unfolding row is refused crowds plan px one two down three strip unused_three up_to ring_fetch fetched_by ring_answer_for
ring_orders_for =
    row (ring_answer_for 9 (down ∷ []) (plan 0 0 1) 0 0 0 0 (px 0 0) []) (refused 19 0)
    ∷ row (ring_answer_for 0 (one ∷ []) (plan 0 0 1) 0 0 0 0 (px 0 0) []) (refused 20 0)
    ∷ row (ring_answer_for 9 (one ∷ []) (plan 1 0 1) 5000 1 0 0 (px 0 0) []) (refused 20 0)
    ∷ row (ring_answer_for 9 (one ∷ []) (plan 2 0 1) 2 2 3 0 (px 0 0) []) (refused 20 0)
    ∷ row (ring_answer_for 0 (one ∷ []) (plan 2 0 1) 2 2 4 1 (px 0 0) []) (refused 20 0)
    ∷ row (ring_answer_for 9 (strip 10 ∷ []) (plan 1 0 1) 10 1 10 0 (px 9 9) []) (refused 20 0)
    ∷ row (ring_answer_for 2 three (plan 1 1 1) 2 2 4 0 (px 9 9) []) (refused 11 0)
    ∷ row (fetched_by 2 (ring_fetch unused_three 2 (plan 1 0 1) 2 2 (up_to 4) 1 (px 9 9) []).answer) (refused 17 0)
    ∷ row (ring_answer_for 2 three (plan 1 0 2) 3 3 12 0 (px 0 0) []) (crowds 0 (0 ∷ 1 ∷ 2 ∷ []))
    ∷ row (ring_answer_for 2 three (plan 2 0 1) 3 2 8 0 (px 0 0) []) (refused 18 0)
    ∷ row (ring_answer_for 2 (two ∷ []) (plan 1 0 1) 2 2 4 0 (px 9 9) (8 ∷ [])) (refused 16 0)
    ∷ row (ring_answer_for 2 (two ∷ []) (plan 1 0 1) 2 2 4 0 (px 9 9) (8 ∷ 8 ∷ [])) (is (2 ∷ []))
    ∷ []

ring_orders_for_hold : Hold ring_orders_for
unfolding ring_orders_for
ring_orders_for_hold = refl
