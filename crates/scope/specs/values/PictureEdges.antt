-- Rows beyond document 01's figures for the calls on a picture, worked out from its sentences: what is lent, and
-- inputs that break two conditions, so that the order of the checks tells. They refuse must-fail edits.
-- Assumes nothing.
use Rattle.std.specs.Prelude.{ℕ, refl, false, ℤ, pos}
use mathlib.Core.List.{List, [], ◌∷◌, ◌++◌, map, flat_map}
use Rattle.scope.specs.Plans.{Pixel, at, plan}
use Rattle.scope.specs.Books.{book_of}
use Rattle.scope.specs.Numbers.{Answer}
use Rattle.scope.specs.Calls.{check, depth, address, locate, lent, store, load, clear, sum, fetch, ring_fetch, fill_records}
use Rattle.scope.specs.code.Words.{word}
use Rattle.scope.specs.promises.Demand as Demand
use Rattle.scope.specs.values.Rows.{Row, Hold, row, is, refused, clashes, counted, fetched_by, loaded, located, done, records, neg, px, one, two, down, gap, finds, checks, up_to, fetched_for, fetch_answer_for, ring_fetched_for, ring_answer_for, replied}
use Rattle.scope.specs.declared.Plan.{Plan}
use Rattle.scope.specs.declared.Book.{Book}
use Rattle.scope.specs.declared.PixelRecord.{PixelRecord}

-- Plan 2, 0, 1 on 2 by 2 has depth 2: (0,0), (0,1), (1,0), (1,1) are the words 0, 1, 2, 3. The memory holds 1, 2, 3, ..; r is 1.
fetched : List (List Pixel) → Plan → ℕ → ℕ → ℕ → ℕ → Pixel → List ℕ → Answer (List ℤ)
unfolding fetched_for
fetched = fetched_for 1

fetch_answer : List (List Pixel) → Plan → ℕ → ℕ → ℕ → ℕ → Pixel → List ℕ → Answer (List ℤ)
unfolding fetch_answer_for
fetch_answer = fetch_answer_for 1

ring_fetched : List (List Pixel) → Plan → ℕ → ℕ → ℕ → ℕ → Pixel → List ℕ → Answer (List ℤ)
unfolding ring_fetched_for
ring_fetched = ring_fetched_for 1

ring_answer : List (List Pixel) → Plan → ℕ → ℕ → ℕ → ℕ → Pixel → List ℕ → Answer (List ℤ)
unfolding ring_answer_for
ring_answer = ring_answer_for 1

-- a book of one pattern whose record has a second one, unused
unused_two : Book
unfolding book_of one two
unused_two = record { patterns = (book_of (one ∷ two ∷ [])).patterns; count = 1 }

record_at : ℕ → ℕ → PixelRecord
record_at i j = record { column = pos i; row = pos j; bank = 3; address = 9 }

-- two pixels in a row, whose plan of least N is 2, 0, 1, on 2 by 2
setting : Demand.Setting
unfolding book_of two plan
setting = record { book = book_of (two ∷ []); r = 1; plan = plan 2 0 1; W = 2; H = 2 }

-- the same with its pixels in the other order, by which only a fetch is turned down
falling : Demand.Setting
unfolding book_of down plan
falling = record { book = book_of (down ∷ []); r = 1; plan = plan 2 0 1; W = 2; H = 2 }

calls : List Demand.Call
unfolding px
calls =
    Demand.write (Demand.store (px 1 0) 5) ∷ Demand.write (Demand.store (px 1 1) 6) ∷ Demand.write (Demand.store (px 2 0) 7) ∷ Demand.write (Demand.clear 2) ∷ Demand.write (Demand.store (px 0 1) 8)
    ∷ Demand.read (Demand.fetch false 0 (px 0 1) []) ∷ Demand.write (Demand.clear 1) ∷ Demand.write (Demand.store (px 1 1) 9) ∷ []

-- and two reads to make after them
reads : List Demand.Call
unfolding px
reads = Demand.read (Demand.load (px 0 1)) ∷ Demand.read (Demand.fetch false 0 (px 0 1) (3 ∷ 3 ∷ 3 ∷ [])) ∷ []

-- The word of a pixel; store, load, clear and sum.
storing : List Row
unfolding row is refused done counted loaded word store load clear sum plan px up_to
storing =
    row (counted (word (plan 5 2 1) 7 4 (px 2 3))) (is (14 ∷ []))
    ∷ row (counted (word (plan 5 2 1) 7 4 (px 7 3))) (refused 14 0)
    ∷ row (is (store (plan 2 0 1) 2 2 (lent (up_to 5) (up_to 3)) (px 1 0) 9).content.memory) (is (1 ∷ 2 ∷ 9 ∷ 4 ∷ 5 ∷ []))
    ∷ row (done (store (plan 2 0 1) 2 2 (lent (up_to 5) (up_to 3)) (px 1 0) 9).answer) (is [])
    ∷ row (is (store (plan 2 0 1) 2 2 (lent (up_to 5) (up_to 3)) (px 2 0) 9).content.memory) (is (1 ∷ 2 ∷ 3 ∷ 4 ∷ 5 ∷ []))
    ∷ row (loaded (load (plan 2 0 1) 2 2 (up_to 4) (px 1 0))) (is (3 ∷ []))
    ∷ row (is (clear (plan 2 0 1) 2 2 (lent (up_to 5) (up_to 3)) 1).content.memory) (is (1 ∷ 2 ∷ 0 ∷ 0 ∷ 5 ∷ []))
    ∷ row (is (clear (plan 2 0 1) 2 2 (lent (up_to 5) (up_to 3)) 2).content.memory) (is (1 ∷ 2 ∷ 3 ∷ 4 ∷ 5 ∷ []))
    ∷ row (done (clear (plan 2 0 1) 2 2 (lent (up_to 5) (up_to 3)) 2).answer) (refused 15 0)
    ∷ row (counted (sum (plan 2 0 1) 2 2 (up_to 5) 1)) (is (7 ∷ []))
    ∷ row (counted (sum (plan 1 0 1) 3 1 (up_to 4) 0)) (is (6 ∷ []))
    ∷ row (counted (sum (plan 2 0 1) 2 2 (up_to 6) 2)) (refused 15 0)
    ∷ row (loaded (load (plan 2 0 1) 2 2 (up_to 4) (px 2 0))) (refused 14 0)
    ∷ []

storing_hold : Hold storing
unfolding storing
storing_hold = refl

-- Fetch: another pattern, a plan with a surplus, too little room, 10 for its own pattern only.
fetching : List Row
unfolding row is clashes plan one two px fetched fetch_answer
fetching =
    row (fetched (two ∷ []) (plan 2 0 1) 2 2 4 0 (px 0 1) (8 ∷ 8 ∷ 8 ∷ [])) (is (2 ∷ 4 ∷ 8 ∷ []))
    ∷ row (fetched (one ∷ two ∷ []) (plan 2 0 1) 2 2 4 1 (px 0 1) (8 ∷ 8 ∷ [])) (is (2 ∷ 4 ∷ []))
    ∷ row (fetch_answer (one ∷ two ∷ []) (plan 2 0 1) 2 2 4 1 (px 0 1) (8 ∷ 8 ∷ [])) (is (2 ∷ []))
    ∷ row (fetched (two ∷ []) (plan 3 0 1) 2 2 6 0 (px 0 1) (8 ∷ 8 ∷ 8 ∷ [])) (is (2 ∷ 4 ∷ 8 ∷ []))
    ∷ row (fetched (two ∷ []) (plan 2 0 1) 2 2 4 0 (px 0 1) (8 ∷ [])) (is (8 ∷ []))
    ∷ row (fetched (two ∷ one ∷ []) (plan 1 0 1) 2 2 4 1 (px 1 1) (8 ∷ [])) (is (4 ∷ []))
    ∷ row (fetch_answer (two ∷ one ∷ []) (plan 1 0 1) 2 2 4 0 (px 0 0) (8 ∷ 8 ∷ [])) (clashes 0 0 1)
    ∷ row (fetch_answer (one ∷ two ∷ []) (plan 1 0 1) 2 2 4 1 (px 0 0) (8 ∷ 8 ∷ [])) (clashes 1 0 1)
    ∷ row (fetched ((px 0 0 ∷ px 0 1 ∷ []) ∷ []) (plan 1 0 2) 2 2 4 0 (px 1 0) (8 ∷ 8 ∷ [])) (is (2 ∷ 4 ∷ []))
    ∷ []

fetching_hold : Hold fetching
unfolding fetching
fetching_hold = refl

-- Ring fetch: past the edges on either side, W and H that differ, H no multiple of N, W none of a. (More: RingEdges.)
ring_fetching : List Row
unfolding row is refused plan two px at neg ring_fetched ring_answer
ring_fetching =
    row (ring_fetched (two ∷ []) (plan 2 0 1) 2 2 4 0 (at (neg 1) (neg 1)) (8 ∷ 8 ∷ 8 ∷ [])) (is (4 ∷ 2 ∷ 8 ∷ []))
    ∷ row (ring_fetched (two ∷ []) (plan 2 0 1) 2 4 8 0 (px 1 6) (8 ∷ 8 ∷ [])) (is (7 ∷ 3 ∷ []))
    ∷ row (ring_answer (two ∷ []) (plan 2 0 1) 2 4 8 0 (px 1 6) (8 ∷ 8 ∷ [])) (is (2 ∷ []))
    ∷ row (ring_answer (two ∷ []) (plan 2 0 1) 2 3 8 0 (px 0 0) (8 ∷ 8 ∷ [])) (is (2 ∷ []))
    ∷ row (ring_answer (two ∷ []) (plan 2 0 1) 3 2 8 0 (px 0 0) (8 ∷ 8 ∷ [])) (refused 18 0)
    ∷ row (ring_answer (two ∷ []) (plan 2 0 1) 2 2 4 0 (px 0 0) (8 ∷ [])) (refused 16 0)
    ∷ row (ring_fetched (two ∷ []) (plan 2 0 1) 2 3 8 0 (px 0 0) (8 ∷ 8 ∷ [])) (is (1 ∷ 4 ∷ []))
    ∷ row (ring_fetched (two ∷ []) (plan 2 0 1) 3 2 8 0 (px 0 0) (8 ∷ 8 ∷ [])) (is (8 ∷ 8 ∷ []))
    ∷ []

ring_fetching_hold : Hold ring_fetching
unfolding ring_fetching
ring_fetching_hold = refl

-- The nine places beside an answer: the positions of a clash, then 0; of a value and of another refusal 0. Under plan 2, 0, 1
-- the second and the third pixel of `gap` have one bank.
clash_positions : List Row
unfolding row is plan two gap px book_of up_to check fetch ring_fetch
clash_positions =
    row (is (check (book_of gap) 1 (px 2 0) (px 0 1)).positions) (is (1 ∷ 2 ∷ 0 ∷ 0 ∷ 0 ∷ 0 ∷ 0 ∷ 0 ∷ 0 ∷ []))
    ∷ row (is (check (book_of (two ∷ [])) 1 (px 2 0) (px 0 1)).positions) (is (0 ∷ 0 ∷ 0 ∷ 0 ∷ 0 ∷ 0 ∷ 0 ∷ 0 ∷ 0 ∷ []))
    ∷ row (is (check (book_of gap) 1 (px 2 0) (px 2 0)).positions) (is (0 ∷ 0 ∷ 0 ∷ 0 ∷ 0 ∷ 0 ∷ 0 ∷ 0 ∷ 0 ∷ []))
    ∷ row (is (fetch (book_of gap) 1 (plan 2 0 1) 4 1 (up_to 4) 0 (px 0 0) []).answer.positions) (is (1 ∷ 2 ∷ 0 ∷ 0 ∷ 0 ∷ 0 ∷ 0 ∷ 0 ∷ 0 ∷ []))
    ∷ row (is (fetch (book_of (two ∷ [])) 1 (plan 2 0 1) 2 2 (up_to 4) 0 (px 0 1) (8 ∷ 8 ∷ [])).answer.positions) (is (0 ∷ 0 ∷ 0 ∷ 0 ∷ 0 ∷ 0 ∷ 0 ∷ 0 ∷ 0 ∷ []))
    ∷ row (is (fetch (book_of (two ∷ [])) 1 (plan 2 0 1) 2 2 (up_to 4) 0 (px 1 1) []).answer.positions) (is (0 ∷ 0 ∷ 0 ∷ 0 ∷ 0 ∷ 0 ∷ 0 ∷ 0 ∷ 0 ∷ []))
    ∷ row (is (ring_fetch (book_of gap) 1 (plan 2 0 1) 4 2 (up_to 8) 0 (px 0 0) []).answer.positions) (is (1 ∷ 2 ∷ 0 ∷ 0 ∷ 0 ∷ 0 ∷ 0 ∷ 0 ∷ 0 ∷ []))
    ∷ []

clash_positions_hold : Hold clash_positions
unfolding clash_positions
clash_positions_hold = refl

-- The record list: filled whole, or not at all.
filling : List Row
unfolding row is refused done records fill_records plan record_at
filling =
    row (records (fill_records (plan 5 2 1) 7 4 (record_at 6 3 ∷ record_at 1 0 ∷ record_at 5 1 ∷ [])).content) (is (6 ∷ 3 ∷ 0 ∷ 7 ∷ 1 ∷ 0 ∷ 1 ∷ 0 ∷ 5 ∷ 1 ∷ 3 ∷ 3 ∷ []))
    ∷ row (records (fill_records (plan 5 2 1) 7 4 (record_at 6 3 ∷ record_at 1 0 ∷ record_at 5 1 ∷ record_at 0 2 ∷ record_at 4 3 ∷ [])).content) (is (6 ∷ 3 ∷ 0 ∷ 7 ∷ 1 ∷ 0 ∷ 1 ∷ 0 ∷ 5 ∷ 1 ∷ 3 ∷ 3 ∷ 0 ∷ 2 ∷ 1 ∷ 4 ∷ 4 ∷ 3 ∷ 3 ∷ 6 ∷ []))
    ∷ row (records (fill_records (plan 5 2 1) 7 4 (record_at 6 3 ∷ record_at 7 3 ∷ [])).content) (is (6 ∷ 3 ∷ 3 ∷ 9 ∷ 7 ∷ 3 ∷ 3 ∷ 9 ∷ []))
    ∷ row (done (fill_records (plan 5 2 1) 7 4 (record_at 6 3 ∷ record_at 7 3 ∷ [])).answer) (refused 14 0)
    ∷ []

filling_hold : Hold filling
unfolding filling
filling_hold = refl

-- Demand 3's list: what the memory holds after the calls, what they and the reads reply, and the words last stored.
lists : List Row
unfolding row is px setting falling calls reads replied flat_map Demand.run Demand.replies Demand.last_stored
lists =
    row (is (Demand.run setting (lent (0 ∷ 0 ∷ 0 ∷ 0 ∷ 4 ∷ []) (0 ∷ 0 ∷ [])) calls).memory) (is (0 ∷ 8 ∷ 0 ∷ 9 ∷ 4 ∷ []))
    ∷ row (is (flat_map replied (Demand.replies setting (lent (0 ∷ 0 ∷ 0 ∷ 0 ∷ 4 ∷ []) (0 ∷ 0 ∷ [])) (calls ++ reads)))) (is (0 ∷ 0 ∷ 14 ∷ 15 ∷ 0 ∷ 16 ∷ 0 ∷ 0 ∷ 0 ∷ 8 ∷ 0 ∷ 2 ∷ 8 ∷ 9 ∷ 3 ∷ []))
    ∷ row (is (map (Demand.last_stored setting (record { words = 5; entries = 2 }) calls) (px 1 0 ∷ px 0 1 ∷ px 1 1 ∷ px 2 0 ∷ []))) (is (0 ∷ 8 ∷ 9 ∷ 0 ∷ []))
    ∷ row (is (flat_map replied (Demand.replies falling (lent (0 ∷ 0 ∷ 0 ∷ 0 ∷ []) []) reads))) (is (0 ∷ 0 ∷ 19 ∷ 3 ∷ 3 ∷ 3 ∷ []))
    ∷ []

lists_hold : Hold lists
unfolding lists
lists_hold = refl

-- Two conditions at once: the one that document 01 tests first is given. 5000 is no side, and needs more memory than there is.
orders : List Row
unfolding row refused finds checks done counted loaded located depth address word locate load clear fill_records plan px up_to record_at store sum
orders =
    row (counted (depth (plan 0 0 1) 0 0)) (refused 11 0)
    ∷ row (counted (address (plan 0 0 1) 0 0 (px 0 0))) (refused 11 0)
    ∷ row (counted (address (plan 5 2 1) 0 4 (px 9 9))) (refused 12 0)
    ∷ row (counted (word (plan 0 0 1) 0 0 (px 0 0))) (refused 11 0)
    ∷ row (counted (word (plan 5 2 1) 0 4 (px 9 9))) (refused 12 0)
    ∷ row (located (locate (plan 0 0 1) 0 0 0 0)) (refused 11 0)
    ∷ row (located (locate (plan 5 2 1) 0 4 9 9)) (refused 12 0)
    ∷ row (loaded (load (plan 0 0 1) 0 0 [] (px 0 0))) (refused 11 0)
    ∷ row (loaded (load (plan 1 0 1) 5000 1 [] (px 0 0))) (refused 12 0)
    ∷ row (loaded (load (plan 2 0 1) 2 2 (up_to 3) (px 2 0))) (refused 13 0)
    ∷ row (done (clear (plan 0 0 1) 0 0 (lent [] []) 9).answer) (refused 11 0)
    ∷ row (done (clear (plan 1 0 1) 5000 1 (lent [] []) 9).answer) (refused 12 0)
    ∷ row (done (clear (plan 2 0 1) 2 2 (lent (up_to 3) (up_to 2)) 2).answer) (refused 13 0)
    ∷ row (done (fill_records (plan 0 0 1) 0 0 (record_at 9 9 ∷ [])).answer) (refused 11 0)
    ∷ row (done (fill_records (plan 5 2 1) 0 4 (record_at 9 9 ∷ [])).answer) (refused 12 0)
    ∷ row (done (store (plan 0 0 1) 0 0 (lent [] []) (px 0 0) 9).answer) (refused 11 0)
    ∷ row (done (store (plan 1 0 1) 5000 1 (lent [] []) (px 0 0) 9).answer) (refused 12 0)
    ∷ row (done (store (plan 2 0 1) 2 2 (lent (up_to 3) (up_to 2)) (px 9 9) 9).answer) (refused 13 0)
    ∷ row (counted (sum (plan 0 0 1) 0 0 [] 9)) (refused 11 0)
    ∷ row (counted (sum (plan 1 0 1) 5000 1 [] 9)) (refused 12 0)
    ∷ row (counted (sum (plan 2 0 1) 2 2 (up_to 3) 2)) (refused 13 0)
    ∷ []

orders_hold : Hold orders
unfolding orders
orders_hold = refl

-- The same for a fetch.
fetch_orders : List Row
unfolding row refused clashes plan one two down px fetch_answer fetch unused_two fetched_by
fetch_orders =
    row (fetch_answer [] (plan 0 0 1) 0 0 0 0 (px 0 0) []) (refused 2 0)
    ∷ row (fetch_answer (down ∷ []) (plan 0 0 1) 0 0 0 0 (px 0 0) []) (refused 19 0)
    ∷ row (fetch_answer (one ∷ []) (plan 0 0 1) 0 0 0 0 (px 0 0) []) (refused 11 0)
    ∷ row (fetch_answer (one ∷ []) (plan 1 0 1) 5000 1 0 0 (px 0 0) []) (refused 12 0)
    ∷ row (fetch_answer (one ∷ []) (plan 2 0 1) 2 2 3 1 (px 0 0) []) (refused 13 0)
    ∷ row (fetch_answer (two ∷ []) (plan 1 0 1) 2 2 4 0 (px 9 9) []) (clashes 0 0 1)
    ∷ row (fetch_answer (two ∷ []) (plan 2 0 1) 2 2 4 0 (px 1 1) []) (refused 14 0)
    ∷ row (fetch_answer (two ∷ []) (plan 1 1 1) 2 2 4 0 (px 9 9) []) (refused 11 0)
    ∷ row (fetch_answer (two ∷ []) (plan 1 0 1) 0 1 0 0 (px 0 0) []) (refused 12 0)
    ∷ row (fetch_answer (two ∷ []) (plan 1 0 1) 2 2 3 0 (px 9 9) []) (refused 13 0)
    ∷ row (fetched_by 1 (fetch unused_two 1 (plan 1 0 1) 2 2 (up_to 4) 1 (px 9 9) []).answer) (refused 17 0)
    ∷ []

fetch_orders_hold : Hold fetch_orders
unfolding fetch_orders
fetch_orders_hold = refl

-- And for a ring fetch.
ring_orders : List Row
unfolding row refused clashes plan one two down px ring_answer ring_fetch unused_two fetched_by
ring_orders =
    row (ring_answer [] (plan 0 0 1) 0 0 0 0 (px 0 0) []) (refused 2 0)
    ∷ row (ring_answer (down ∷ []) (plan 0 0 1) 0 0 0 0 (px 0 0) []) (refused 19 0)
    ∷ row (ring_answer (one ∷ []) (plan 0 0 1) 0 0 0 0 (px 0 0) []) (refused 11 0)
    ∷ row (ring_answer (one ∷ []) (plan 1 0 1) 5000 1 0 0 (px 0 0) []) (refused 12 0)
    ∷ row (ring_answer (one ∷ []) (plan 2 0 1) 2 2 3 1 (px 0 0) []) (refused 13 0)
    ∷ row (ring_answer ((px 0 0 ∷ px 2 0 ∷ []) ∷ []) (plan 2 0 1) 3 2 9 0 (px 0 0) []) (clashes 0 0 1)
    ∷ row (ring_answer (two ∷ []) (plan 2 0 1) 3 2 9 0 (px 0 0) []) (refused 18 0)
    ∷ row (ring_answer (two ∷ []) (plan 1 1 1) 2 2 4 0 (px 0 0) []) (refused 11 0)
    ∷ row (ring_answer (two ∷ []) (plan 1 0 1) 0 1 0 0 (px 0 0) []) (refused 12 0)
    ∷ row (ring_answer (one ∷ []) (plan 2 0 1) 4097 1 0 0 (px 0 0) []) (refused 12 0)
    ∷ row (ring_answer (two ∷ []) (plan 1 0 1) 2 2 3 0 (px 0 0) []) (refused 13 0)
    ∷ row (ring_answer (one ∷ []) (plan 2 0 1) 3 2 0 0 (px 0 0) []) (refused 13 0)
    ∷ row (fetched_by 1 (ring_fetch unused_two 1 (plan 1 0 1) 2 2 (up_to 4) 1 (px 0 0) []).answer) (refused 17 0)
    ∷ row (fetched_by 1 (ring_fetch unused_two 1 (plan 2 0 1) 3 2 (up_to 9) 1 (px 0 0) []).answer) (refused 17 0)
    ∷ []

ring_orders_hold : Hold ring_orders
unfolding ring_orders
ring_orders_hold = refl
