-- Document 01, "Figures to agree with": the starred figures and the examples of the table of refusals, row by row, the figures
-- that document 02 changes or adds, those of its Cards 4 to 6 worked out by hand, and the one theorem that checks the
-- definitions on them by computation. The other files of this folder have more rows.
-- Card 1: "The 2 by 2 square of pixels moves from 4, 2, 1 to 2, 0, 2; the other figures in document 01 are unaffected."
-- Assumes nothing.
use Rattle.std.specs.Prelude.{refl, List, [], ◌∷◌, ◌++◌, replicate, pos}
use Rattle.scope.specs.Plans.{at, plan}
use Rattle.scope.specs.Calls.{read_book, normal, find, bank, depth, address, locate, lent, store, load, clear, sum, make_sums, read_sum}
use Rattle.scope.specs.Program.{ascii, program_text}
use Rattle.scope.specs.values.Rows.{Row, Hold, row, is, refused, clashes, crowds, planned, counted, loaded, located, done, neg, px, one, two, three, three_and_three, gap, square, cross, five_pixels, six_pairs, finds, finds_for, reads, checks, checks_for, fetches, rings, ring_answer_for, ring_fetched_for, cycles_answer, cycles_left, up_to}

starred : List Row
unfolding row is refused finds planned counted located normal bank depth address locate plan one three three_and_three gap square cross six_pairs px at neg
starred =
    row (finds (one ∷ []) 1024) (is (1 ∷ 0 ∷ 1 ∷ []))
    ∷ row (finds three 1024) (is (3 ∷ 0 ∷ 1 ∷ []))
    ∷ row (finds three_and_three 1024) (is (3 ∷ 1 ∷ 1 ∷ []))
    ∷ row (finds square 1024) (is (2 ∷ 0 ∷ 2 ∷ []))
    ∷ row (finds cross 1024) (is (5 ∷ 2 ∷ 1 ∷ []))
    ∷ row (finds gap 1024) (is (4 ∷ 0 ∷ 1 ∷ []))
    ∷ row (finds gap 3) (refused 7 0)
    ∷ row (finds six_pairs 1024) (is (2 ∷ 0 ∷ 2 ∷ []))
    ∷ row (planned (normal (px 4 2) (px 2 4))) (is (6 ∷ 4 ∷ 2 ∷ []))
    ∷ row (planned (normal (at (neg 5) (pos 0)) (at (pos 3) (neg 1)))) (is (5 ∷ 2 ∷ 1 ∷ []))
    ∷ row (counted (bank (plan 6 4 2) (at (neg 1) (neg 1)))) (is (9 ∷ []))
    ∷ row (counted (depth (plan 5 2 1) 7 4)) (is (8 ∷ []))
    ∷ row (counted (bank (plan 5 2 1) (px 6 3))) (is (0 ∷ []))
    ∷ row (counted (address (plan 5 2 1) 7 4 (px 6 3))) (is (7 ∷ []))
    ∷ row (located (locate (plan 5 2 1) 7 4 4 1)) (refused 15 0)
    ∷ []

-- the column "Example" of the table, in its order, with the places
examples : List Row
unfolding row is refused clashes reads finds planned counted loaded located normal checks bank depth load address locate fetches rings plan one two px
examples =
    row (reads []) (refused 1 0)
    ∷ row (reads (0 ∷ [])) (refused 2 0)
    ∷ row (reads (1 ∷ 1 ∷ 0x10 ∷ 0 ∷ [])) (refused 3 2)
    ∷ row (reads (1 ∷ 2 ∷ 0 ∷ 0 ∷ 0 ∷ 0 ∷ [])) (refused 4 4)
    ∷ row (reads (1 ∷ 1 ∷ 0 ∷ 0 ∷ 0 ∷ [])) (refused 5 4)
    ∷ row (finds (one ∷ []) 0) (refused 6 0)
    ∷ row (finds (two ∷ []) 1) (refused 7 0)
    ∷ row (planned (normal (px 2 1) (px 4 2))) (refused 8 0)
    ∷ row (planned (normal (px 32 0) (px 0 33))) (refused 9 0)
    ∷ row (checks (two ∷ []) (px 1 0) (px 0 1)) (clashes 0 0 1)
    ∷ row (counted (bank (plan 0 0 1) (px 0 0))) (refused 11 0)
    ∷ row (counted (depth (plan 5 2 1) 0 4)) (refused 12 0)
    ∷ row (loaded (load (plan 5 2 1) 7 4 [] (px 0 0))) (refused 13 0)
    ∷ row (counted (address (plan 5 2 1) 7 4 (px 7 0))) (refused 14 0)
    ∷ row (located (locate (plan 5 2 1) 7 4 5 0)) (refused 15 0)
    ∷ row (fetches (one ∷ []) 7 4 0 []) (refused 16 0)
    ∷ row (fetches (one ∷ []) 7 4 1 (0 ∷ [])) (refused 17 0)
    ∷ row (rings (one ∷ []) 7 5 0 (0 ∷ [])) (refused 18 0)
    ∷ []

-- Document 02, Card 3: "The five-pixel figure becomes 01 05 00 FF FF 00 00 00 01 00 00 01, with the same output." Document 01 had
-- these pixels in another order, which is now refused by 19 at the first byte of its second pixel.
card3 : List Row
unfolding row is refused reads planned find read_book program_text ascii five_pixels
card3 =
    row (is (program_text five_pixels)) (is (ascii "banks 5\nplan 5 2 1\n"))
    ∷ row (planned (find (read_book five_pixels).book 1 1024)) (is (5 ∷ 2 ∷ 1 ∷ []))
    ∷ row (reads (1 ∷ 5 ∷ 0 ∷ 0 ∷ 0xff ∷ 0 ∷ 1 ∷ 0 ∷ 0 ∷ 0xff ∷ 0 ∷ 1 ∷ [])) (refused 19 4)
    ∷ []

-- Document 02, Card 4, at r above 1 and at the edges of r. By hand:
-- Three in a row are one class under 1, 0, 1, and two and one under 2, 0, 1.
-- The cross has classes of 2, 2 and 1 under 3, 1, 1, by i - j modulo 3; 3, 0, 1 puts three in column 0, 1, 0, 3 three in row 0. Under
-- 2, 0, 1 it has three even columns and two odd ones.
-- The square has two pixels to a column, and four in all.
-- Of the two patterns 2, 0, 1 puts the upright one into one class and 1, 0, 2 the level one; 2, 1, 1 has two and one of each.
-- Plan 5, 2, 1 has the cross's least count at r = 1, and 5 - 3 and 5 - 2 banks too many at r = 2 and 3.
-- Under 3, 1, 1 the cross has the banks 1, 2, 0, 1, 2: the last two come a second time.
card4 : List Row
unfolding row is refused crowds finds_for checks_for cycles_answer cycles_left plan px at neg three three_and_three gap square cross
card4 =
    row (finds_for 3 three 1024) (is (1 ∷ 0 ∷ 1 ∷ []))
    ∷ row (finds_for 2 three 1024) (is (2 ∷ 0 ∷ 1 ∷ []))
    ∷ row (finds_for 2 cross 1024) (is (3 ∷ 1 ∷ 1 ∷ []))
    ∷ row (finds_for 3 cross 1024) (is (2 ∷ 0 ∷ 1 ∷ []))
    ∷ row (finds_for 2 square 1024) (is (2 ∷ 0 ∷ 1 ∷ []))
    ∷ row (finds_for 4 square 1024) (is (1 ∷ 0 ∷ 1 ∷ []))
    ∷ row (finds_for 2 three_and_three 1024) (is (2 ∷ 1 ∷ 1 ∷ []))
    ∷ row (finds_for 0 three 4) (refused 20 0)
    ∷ row (finds_for 1 three 1024) (is (3 ∷ 0 ∷ 1 ∷ []))
    ∷ row (finds_for 8 three 1024) (is (1 ∷ 0 ∷ 1 ∷ []))
    ∷ row (finds_for 9 three 4) (refused 20 0)
    ∷ row (finds_for 2 three 1) (refused 7 0)
    ∷ row (checks_for 2 three (px 1 0) (px 0 1)) (crowds 0 (0 ∷ 1 ∷ 2 ∷ []))
    ∷ row (checks_for 1 cross (px 5 0) (px 2 1)) (is (5 ∷ 2 ∷ 1 ∷ 0 ∷ []))
    ∷ row (checks_for 2 cross (px 5 0) (px 2 1)) (is (5 ∷ 2 ∷ 1 ∷ 2 ∷ []))
    ∷ row (checks_for 3 cross (px 5 0) (px 2 1)) (is (5 ∷ 2 ∷ 1 ∷ 3 ∷ []))
    ∷ row (cycles_answer 2 cross (plan 3 1 1) 0 (7 ∷ 7 ∷ 7 ∷ 7 ∷ 7 ∷ 7 ∷ [])) (is (5 ∷ []))
    ∷ row (cycles_left 2 cross (plan 3 1 1) 0 (7 ∷ 7 ∷ 7 ∷ 7 ∷ 7 ∷ 7 ∷ [])) (is (0 ∷ 0 ∷ 0 ∷ 1 ∷ 1 ∷ 7 ∷ []))
    ∷ []

-- Document 02, Card 5: "W = 12 and H = 6, and with plan 6, 0, 2" the ring fetch is served; "Its example stays, as 5 does not divide 7"
-- (18 in the table above). The memory holds 1, 2, 3, .. By hand:
-- The square at (11, 5) is (11, 5), (0, 5), (11, 0), (0, 0). Their banks are 11, 6, 5, 0 and their addresses 5, 4, 1, 0, at depth 6.
-- Then one part of the condition fails alone: a and W, d and H, a and b × (H/d), each beside sides that are served.
-- 6, 0, 2 would be served on 2 by 6 if W and H were exchanged, and 2, 0, 3 not on 2 by 3 if d had to divide W.
-- Last come sides far below N = 64 and N = 1024.
card5 : List Row
unfolding row is refused ring_answer_for ring_fetched_for plan px one square
card5 =
    row (ring_answer_for 1 square (plan 6 0 2) 12 6 72 0 (px 11 5) (8 ∷ 8 ∷ 8 ∷ 8 ∷ 8 ∷ [])) (is (4 ∷ []))
    ∷ row (ring_fetched_for 1 square (plan 6 0 2) 12 6 72 0 (px 11 5) (8 ∷ 8 ∷ 8 ∷ 8 ∷ 8 ∷ [])) (is (72 ∷ 41 ∷ 32 ∷ 1 ∷ 8 ∷ []))
    ∷ row (ring_answer_for 1 (one ∷ []) (plan 5 2 1) 7 5 50 0 (px 0 0) (8 ∷ [])) (refused 18 0)
    ∷ row (ring_answer_for 1 (one ∷ []) (plan 4 2 2) 8 4 32 0 (px 0 0) (8 ∷ [])) (is (1 ∷ []))
    ∷ row (ring_answer_for 1 (one ∷ []) (plan 4 2 2) 6 4 32 0 (px 0 0) (8 ∷ [])) (refused 18 0)
    ∷ row (ring_answer_for 1 (one ∷ []) (plan 4 2 2) 8 5 48 0 (px 0 0) (8 ∷ [])) (refused 18 0)
    ∷ row (ring_answer_for 1 (one ∷ []) (plan 4 2 2) 8 6 48 0 (px 0 0) (8 ∷ [])) (refused 18 0)
    ∷ row (ring_answer_for 1 (one ∷ []) (plan 6 0 2) 2 6 36 0 (px 0 0) (8 ∷ [])) (refused 18 0)
    ∷ row (ring_answer_for 1 (one ∷ []) (plan 6 0 2) 6 2 12 0 (px 0 0) (8 ∷ [])) (is (1 ∷ []))
    ∷ row (ring_answer_for 1 (one ∷ []) (plan 2 0 3) 2 3 6 0 (px 0 0) (8 ∷ [])) (is (1 ∷ []))
    ∷ row (ring_answer_for 1 (one ∷ []) (plan 8 4 8) 8 16 128 0 (px 0 0) (8 ∷ [])) (is (1 ∷ []))
    ∷ row (ring_answer_for 1 (one ∷ []) (plan 8 4 8) 8 8 64 0 (px 0 0) (8 ∷ [])) (refused 18 0)
    ∷ row (ring_fetched_for 1 square (plan 32 0 32) 32 32 1024 0 (px 31 31) (8 ∷ 8 ∷ 8 ∷ 8 ∷ [])) (is (1024 ∷ 993 ∷ 32 ∷ 1 ∷ []))
    ∷ []

-- Card 6. Plan 2, 0, 1 on 2 by 2 has the words of bank 0, then those of bank 1: 1, 2 and 3, 4. With the sums 3, 7 and an entry past N: a
-- store of 9 at (1, 0) over the word 3, one of 3 over itself, a clear of bank 1, and the sums made afresh from 5, 6. A bank of two words
-- passes 2^16, and one of 69,632 words passes 2^32. Sums that start wrong, at 0 with a word 3 or at 2^64 - 1, go below 0 or past 2^64 and
-- are told modulo 2^64.
card6 : List Row
unfolding row is refused done counted store clear sum make_sums read_sum plan px up_to
card6 =
    row (is (store (plan 2 0 1) 2 2 (lent (up_to 4) (3 ∷ 7 ∷ 8 ∷ [])) (px 1 0) 9).content.sums) (is (3 ∷ 13 ∷ 8 ∷ []))
    ∷ row (is (store (plan 2 0 1) 2 2 (lent (up_to 4) (3 ∷ 7 ∷ 8 ∷ [])) (px 1 0) 3).content.sums) (is (3 ∷ 7 ∷ 8 ∷ []))
    ∷ row (is (clear (plan 2 0 1) 2 2 (lent (up_to 4) (3 ∷ 7 ∷ 8 ∷ [])) 1).content.sums) (is (3 ∷ 0 ∷ 8 ∷ []))
    ∷ row (is (make_sums (plan 2 0 1) 2 2 (lent (up_to 4) (5 ∷ 6 ∷ 8 ∷ []))).content.sums) (is (3 ∷ 7 ∷ 8 ∷ []))
    ∷ row (is (make_sums (plan 2 0 1) 2 2 (lent (up_to 4) (5 ∷ 6 ∷ 8 ∷ []))).content.memory) (is (1 ∷ 2 ∷ 3 ∷ 4 ∷ []))
    ∷ row (counted (read_sum (plan 2 0 1) (3 ∷ 7 ∷ 8 ∷ []) 1)) (is (7 ∷ []))
    ∷ row (counted (read_sum (plan 2 0 1) (3 ∷ 7 ∷ 8 ∷ []) 2)) (refused 15 0)
    ∷ row (counted (read_sum (plan 2 0 1) (3 ∷ []) 0)) (refused 13 0)
    ∷ row (is (store (plan 1 0 1) 2 1 (lent (1 ∷ 65535 ∷ []) (65536 ∷ [])) (px 0 0) 65535).content.sums) (is (131070 ∷ []))
    ∷ row (counted (sum (plan 1 0 1) 2 1 (65535 ∷ 65535 ∷ []) 0)) (is (131070 ∷ []))
    ∷ row (is (store (plan 2 0 1) 2 2 (lent (up_to 4) (0 ∷ 0 ∷ [])) (px 1 0) 0).content.sums) (is (0 ∷ 0xFFFF_FFFF_FFFF_FFFD ∷ []))
    ∷ row (is (store (plan 2 0 1) 2 2 (lent (up_to 4) (0 ∷ 0 ∷ [])) (px 1 0) 5).content.sums) (is (0 ∷ 2 ∷ []))
    ∷ row (is (store (plan 2 0 1) 2 2 (lent (up_to 4) (0 ∷ 0xFFFF_FFFF_FFFF_FFFF ∷ [])) (px 1 0) 5).content.sums) (is (0 ∷ 1 ∷ []))
    ∷ row (done (store (plan 2 0 1) 2 2 (lent (up_to 4) (3 ∷ [])) (px 2 0) 9).answer) (refused 13 0)
    ∷ row (is (make_sums (plan 1 0 1) 4096 17 (lent (replicate 69632 65535) (0 ∷ []))).content.sums) (is (4563333120 ∷ []))
    ∷ []

figures : List Row
unfolding starred examples card3 card4 card5 card6
figures = starred ++ examples ++ card3 ++ card4 ++ card5 ++ card6

figures_hold : Hold figures
unfolding figures
figures_hold = refl
