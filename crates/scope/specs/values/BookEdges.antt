-- Rows beyond document 01's figures for books, plans and the program, worked out from its sentences: both edges of
-- each range, and what is written. They refuse must-fail edits. A list to a subject, so that a refusal names the value.
-- Assumes nothing.
use Rattle.std.specs.Prelude.{ℕ, ◌/◌, ◌%◌, refl, pos, take, replicate}
use mathlib.Core.List.{List, [], ◌∷◌, ◌++◌, map, flat_map}
use Rattle.scope.specs.Search.{gather}
use Rattle.scope.specs.Plans.{Pixel, at, plan, pattern_at}
use Rattle.scope.specs.Finding.{box_width, box_height}
use Rattle.scope.specs.Books.{book_of}
use Rattle.scope.specs.Numbers.{value}
use Rattle.scope.specs.Calls.{read_book, pattern_part, part_place, record_outcome, part_outcome, write_book, normal, find, fewest, check, bank, depth, address, locate}
use Rattle.scope.specs.Program.{ascii, decimal, program_text}
use Rattle.scope.specs.values.Rows.{Row, Hold, row, is, refused, clashes, planned, counted, located, done, neg, px, one, two, gap, three_and_three, cross, five_pixels, finds, reads, writes, checks, case_of}

-- The book of two patterns of three pixels.
book33 : List ℕ
book33 = 2 ∷ 3 ∷ 0 ∷ 0 ∷ 1 ∷ 0 ∷ 2 ∷ 0 ∷ 3 ∷ 0 ∷ 0 ∷ 0 ∷ 1 ∷ 0 ∷ 2 ∷ []

block : ℕ → List (List Pixel)
unfolding gather px
block n = gather 0 n (λ i. px (i % 16) (i / 16)) ∷ []

-- Limits 1 and 1025; 0, 1, 16 and 17 patterns, 0 pixels.
counts : List Row
unfolding row is refused finds one
counts =
    row (finds (one ∷ []) 1) (is (1 ∷ 0 ∷ 1 ∷ []))
    ∷ row (finds (one ∷ []) 1025) (refused 6 0)
    ∷ row (finds [] 1) (refused 2 0)
    ∷ row (finds ([] ∷ []) 1) (refused 2 0)
    ∷ row (finds (replicate 16 one) 1) (is (1 ∷ 0 ∷ 1 ∷ []))
    ∷ row (finds (replicate 17 one) 1) (refused 2 0)
    ∷ []

counts_hold : Hold counts
unfolding counts
counts_hold = refl

-- The least count: that of figures, and of records that are no book.
least_counts : List Row
unfolding row is refused counted fewest book_of gap cross px
least_counts =
    row (counted (fewest (book_of gap) 1)) (is (4 ∷ []))
    ∷ row (counted (fewest (book_of cross) 1)) (is (5 ∷ []))
    ∷ row (counted (fewest (book_of []) 1)) (refused 2 0)
    ∷ row (counted (fewest (book_of ((px 16 0 ∷ []) ∷ [])) 1)) (refused 3 0)
    ∷ row (counted (fewest (book_of ((px 0 0 ∷ px 0 0 ∷ []) ∷ [])) 1)) (refused 4 0)
    ∷ []

least_counts_hold : Hold least_counts
unfolding least_counts
least_counts_hold = refl

-- Plans of equal least N: the least b, then the least d. These are all that suit, row by row:
-- (2, 0, 1), (1, 0, 2)
-- (4, 2, 1), (2, 1, 2)
-- (6, 1, 1), (6, 2, 1), (3, 1, 2), (3, 2, 2)
-- (6, 2, 1), (6, 4, 1), (3, 1, 2), (3, 2, 2)
ties : List Row
unfolding row is finds px
ties =
    row (finds ((px 0 0 ∷ px 1 1 ∷ []) ∷ []) 1024) (is (2 ∷ 0 ∷ 1 ∷ []))
    ∷ row (finds (map (λ v. px 0 0 ∷ v ∷ []) (px 3 0 ∷ px 0 1 ∷ px 2 2 ∷ [])) 1024) (is (2 ∷ 1 ∷ 2 ∷ []))
    ∷ row (finds ((px 3 0 ∷ px 0 1 ∷ px 2 1 ∷ px 0 2 ∷ []) ∷ []) 1024) (is (6 ∷ 1 ∷ 1 ∷ []))
    ∷ row (finds ((px 0 0 ∷ px 1 1 ∷ px 3 1 ∷ px 0 2 ∷ []) ∷ []) 1024) (is (3 ∷ 1 ∷ 2 ∷ []))
    ∷ []

ties_hold : Hold ties
unfolding ties
ties_hold = refl

-- and for the 3 by 3 block (9, 3, 1), (9, 6, 1), (3, 0, 3), (3, 1, 3), (3, 2, 3)
ties_of_block : List Row
unfolding row is finds gather px
ties_of_block = row (finds (gather 0 9 (λ i. px (i % 3) (i / 3)) ∷ []) 1024) (is (3 ∷ 0 ∷ 3 ∷ [])) ∷ []

ties_of_block_hold : Hold ties_of_block
unfolding ties_of_block
ties_of_block_hold = refl

-- Coordinates -17, -16, 15, 16, and a repeat, in a record.
coordinates : List Row
unfolding row refused writes one px at neg
coordinates =
    row (writes ((at (pos 15) (neg 16) ∷ at (neg 16) (pos 15) ∷ []) ∷ []) []) (refused 16 0)
    ∷ row (writes ((px 16 0 ∷ []) ∷ []) []) (refused 3 0)
    ∷ row (writes ((at (pos 0) (neg 17) ∷ []) ∷ []) []) (refused 3 0)
    ∷ row (writes (one ∷ (px 0 0 ∷ px 1 0 ∷ px 1 0 ∷ []) ∷ []) []) (refused 4 0)
    ∷ []

coordinates_hold : Hold coordinates
unfolding coordinates
coordinates_hold = refl

-- The reader: numbers and places.
reading : List Row
unfolding row is refused reads
reading =
    row (reads (1 ∷ 2 ∷ 0x0f ∷ 0xf0 ∷ 0xf0 ∷ 0x0f ∷ [])) (is [])
    ∷ row (reads (1 ∷ 1 ∷ 0 ∷ 0xef ∷ [])) (refused 3 3)
    ∷ row (reads (1 ∷ 1 ∷ 0x10 ∷ 0x10 ∷ [])) (refused 3 2)
    ∷ row (reads (1 ∷ 1 ∷ 0x10 ∷ [])) (refused 1 3)
    ∷ row (reads (1 ∷ [])) (refused 1 1)
    ∷ row (reads (2 ∷ 1 ∷ 0 ∷ 0 ∷ [])) (refused 1 4)
    ∷ row (reads (2 ∷ 1 ∷ 0 ∷ 0 ∷ 65 ∷ [])) (refused 2 4)
    ∷ row (reads (17 ∷ [])) (refused 2 0)
    ∷ row (reads (1 ∷ 3 ∷ 0 ∷ 0 ∷ 1 ∷ 0 ∷ 1 ∷ 0 ∷ [])) (refused 4 6)
    ∷ row (reads (1 ∷ 1 ∷ [])) (refused 1 2)
    ∷ row (reads (2 ∷ 1 ∷ 0 ∷ 0 ∷ 2 ∷ 1 ∷ 0 ∷ 0x10 ∷ 0 ∷ [])) (refused 3 7)
    ∷ row (reads (2 ∷ 1 ∷ 0 ∷ 0 ∷ 2 ∷ 1 ∷ 0 ∷ 0 ∷ 0x10 ∷ [])) (refused 3 8)
    ∷ row (reads (2 ∷ 1 ∷ 0 ∷ 0 ∷ 2 ∷ 1 ∷ 0 ∷ 1 ∷ 0 ∷ [])) (refused 4 7)
    ∷ []

reading_hold : Hold reading
unfolding reading
reading_hold = refl

-- Two conditions at once: the one that document 01 tests first is given, "in book order" and "left to right".
book_orders : List Row
unfolding row refused finds checks writes reads two px
book_orders =
    row (finds [] 0) (refused 2 0)
    ∷ row (finds (replicate 17 (px 16 0 ∷ [])) 1) (refused 2 0)
    ∷ row (checks [] (px 2 1) (px 4 2)) (refused 2 0)
    ∷ row (checks [] (px 32 0) (px 0 33)) (refused 2 0)
    ∷ row (checks (two ∷ []) (px 1 0) (px 0 2000)) (refused 9 0)
    ∷ row (checks (two ∷ []) (px 2 1) (px 4 2)) (refused 8 0)
    ∷ row (writes (two ∷ [] ∷ []) []) (refused 2 0)
    ∷ row (writes ((px 16 0 ∷ []) ∷ [] ∷ []) []) (refused 3 0)
    ∷ row (writes ((px 0 0 ∷ px 0 0 ∷ px 16 0 ∷ []) ∷ []) []) (refused 4 0)
    ∷ row (reads (1 ∷ 1 ∷ 0x10 ∷ 0 ∷ 0 ∷ [])) (refused 3 2)
    ∷ row (reads (1 ∷ 2 ∷ 0x10 ∷ 0 ∷ [])) (refused 3 2)
    ∷ row (reads (1 ∷ 3 ∷ 0 ∷ 0 ∷ 0 ∷ 0 ∷ 0x10 ∷ 0 ∷ [])) (refused 4 4)
    ∷ []

book_orders_hold : Hold book_orders
unfolding book_orders
book_orders_hold = refl

-- What was read, and a pattern's part of the bytes.
parts : List Row
unfolding row is refused planned find read_book done pattern_part part_place record_outcome part_outcome book33 pattern_at px book_of
parts =
    row (planned (find (read_book book33).book 1 1024)) (is (3 ∷ 1 ∷ 1 ∷ []))
    ∷ row (is (pattern_part book33 1)) (is (0 ∷ 0 ∷ 0 ∷ 1 ∷ 0 ∷ 2 ∷ []))
    ∷ row (is (pattern_part book33 2)) (is [])
    ∷ row (is (part_place book33 0 ∷ part_place book33 1 ∷ part_place book33 2 ∷ [])) (is (2 ∷ 9 ∷ 0 ∷ []))
    ∷ row (is (part_place (3 ∷ 1 ∷ 0 ∷ 0 ∷ 1 ∷ 0 ∷ 0 ∷ 1 ∷ 0 ∷ 0 ∷ []) 2 ∷ [])) (is (8 ∷ []))
    ∷ row (done (record_outcome (read_book book33).book)) (is [])
    ∷ row (done (record_outcome (book_of ((px 0 0 ∷ px 0 0 ∷ []) ∷ [])))) (refused 4 0)
    ∷ row (done (part_outcome book33 2)) (refused 17 0)
    ∷ row (done (part_outcome (book33 ++ (0 ∷ [])) 2)) (refused 5 15)
    ∷ row (is (pattern_part (1 ∷ 1 ∷ 3 ∷ 4 ∷ 0 ∷ []) 0)) (is [])
    ∷ row (value (take 3 (pattern_at (read_book (1 ∷ 1 ∷ 3 ∷ 4 ∷ [])).book 0).columns)) (is (3 ∷ 0 ∷ 0 ∷ []))
    ∷ row (value (take 3 (pattern_at (read_book (1 ∷ 1 ∷ 3 ∷ 4 ∷ [])).book 0).rows)) (is (4 ∷ 0 ∷ 0 ∷ []))
    ∷ row (is ((pattern_at (read_book (1 ∷ 1 ∷ 3 ∷ 4 ∷ [])).book 1).used ∷ (read_book (1 ∷ 1 ∷ 3 ∷ 4 ∷ 0 ∷ [])).book.count ∷ [])) (is (0 ∷ 0 ∷ []))
    ∷ []

parts_hold : Hold parts
unfolding parts
parts_hold = refl

-- The writer: just enough room, more, and too little.
writing : List Row
unfolding row is writes write_book book_of cross five_pixels
writing =
    row (writes cross (replicate 12 7)) (is (12 ∷ []))
    ∷ row (is (write_book (book_of cross) (replicate 13 7)).content) (is (five_pixels ++ (7 ∷ [])))
    ∷ row (is (write_book (book_of cross) (replicate 11 7)).content) (is (replicate 11 7))
    ∷ []

writing_hold : Hold writing
unfolding writing
writing_hold = refl

-- The program. The last two rows are document 01's "banks 5", "plan 5 2 1" and "refused 1", each letter in ASCII.
programs : List Row
unfolding row is program_text ascii five_pixels flat_map decimal
programs =
    row (is (program_text five_pixels)) (is (ascii "banks 5\nplan 5 2 1\n"))
    ∷ row (is (program_text [])) (is (ascii "refused 1\n"))
    ∷ row (is (program_text (6 ∷ flat_map (λ v. 2 ∷ 0 ∷ 0 ∷ v) ((0 ∷ 1 ∷ []) ∷ (1 ∷ 1 ∷ []) ∷ (2 ∷ 1 ∷ []) ∷ (0xff ∷ 1 ∷ []) ∷ (1 ∷ 2 ∷ []) ∷ (1 ∷ 0 ∷ []) ∷ [])))) (is (ascii "banks 4\nplan 2 0 2\n"))
    ∷ row (is (program_text (1 ∷ 1 ∷ 0x10 ∷ 0 ∷ []))) (is (ascii "refused 3\n"))
    ∷ row (is (decimal 1024 ++ decimal 0)) (is (ascii "10240"))
    ∷ row (is (ascii "banks 5\nplan 5 2 1\n")) (is (98 ∷ 97 ∷ 110 ∷ 107 ∷ 115 ∷ 32 ∷ 53 ∷ 10 ∷ 112 ∷ 108 ∷ 97 ∷ 110 ∷ 32 ∷ 53 ∷ 32 ∷ 50 ∷ 32 ∷ 49 ∷ 10 ∷ []))
    ∷ row (is (program_text [])) (is (114 ∷ 101 ∷ 102 ∷ 117 ∷ 115 ∷ 101 ∷ 100 ∷ 32 ∷ 49 ∷ 10 ∷ []))
    ∷ []

programs_hold : Hold programs
unfolding programs
programs_hold = refl

-- Nine patterns (0,0), (i,0), i from 1 to 9, need 10 banks.
ten_banks : List Row
unfolding row is program_text ascii gather flat_map
ten_banks = row (is (program_text (9 ∷ flat_map (λ i. 2 ∷ 0 ∷ 0 ∷ i ∷ 0 ∷ []) (gather 1 9 λ i. i)))) (is (ascii "banks 10\nplan 10 0 1\n")) ∷ []

ten_banks_hold : Hold ten_banks
unfolding ten_banks
ten_banks_hold = refl

-- The sides w and h of the box that bounds N.
boxes : List Row
unfolding row is box_width box_height gap three_and_three one px
boxes =
    row (is (box_width gap ∷ box_height gap ∷ [])) (is (4 ∷ 1 ∷ []))
    ∷ row (is (box_width three_and_three ∷ box_height three_and_three ∷ [])) (is (3 ∷ 3 ∷ []))
    ∷ row (is (box_width ((px 0 0 ∷ px 1 4 ∷ []) ∷ one ∷ []) ∷ box_height ((px 0 0 ∷ px 1 4 ∷ []) ∷ one ∷ []) ∷ [])) (is (2 ∷ 5 ∷ []))
    ∷ row (is (box_width (one ∷ []) ∷ box_height (one ∷ []) ∷ [])) (is (1 ∷ 1 ∷ []))
    ∷ []

boxes_hold : Hold boxes
unfolding boxes
boxes_hold = refl

-- Determinants of size 1024, 1025 and 0, and negative rows.
normal_forms : List Row
unfolding row is refused planned normal px at neg
normal_forms =
    row (planned (normal (px 32 0) (px 0 32))) (is (32 ∷ 0 ∷ 32 ∷ []))
    ∷ row (planned (normal (px 25 0) (px 0 41))) (refused 9 0)
    ∷ row (planned (normal (at (neg 32768) (neg 32768)) (at (pos 32767) (pos 32767)))) (refused 8 0)
    ∷ row (planned (normal (at (neg 3) (neg 6)) (at (pos 1) (pos 4)))) (is (3 ∷ 2 ∷ 2 ∷ []))
    ∷ []

normal_forms_hold : Hold normal_forms
unfolding normal_forms
normal_forms_hold = refl

-- Plans at both edges of their range, sides 0, 1, 4096, 4097.
plan_limits : List Row
unfolding row is refused counted bank depth plan px at neg
plan_limits =
    row (counted (bank (plan 1024 1023 1) (px 0 0))) (is (0 ∷ []))
    ∷ row (counted (bank (plan 1025 0 1) (px 0 0))) (refused 11 0)
    ∷ row (counted (bank (plan 32 0 32) (at (neg 1) (neg 1)))) (is (1023 ∷ []))
    ∷ row (counted (bank (plan 32 0 33) (px 0 0))) (refused 11 0)
    ∷ row (counted (bank (plan 5 5 1) (px 0 0))) (refused 11 0)
    ∷ row (counted (bank (plan 5 0 0) (px 0 0))) (refused 11 0)
    ∷ row (counted (depth (plan 1 0 1) 4096 4096)) (is (16777216 ∷ []))
    ∷ row (counted (depth (plan 1 0 1) 4097 1)) (refused 12 0)
    ∷ row (counted (depth (plan 1 0 1) 1 4097)) (refused 12 0)
    ∷ row (counted (depth (plan 1 0 1) 1 0)) (refused 12 0)
    ∷ []

plan_limits_hold : Hold plan_limits
unfolding plan_limits
plan_limits_hold = refl

-- Plan 6, 4, 2 on 7 by 5 has C = 2 and depth 6; (6,4) has q = 2, r = 0.
layout : List Row
unfolding row is refused counted located bank depth address locate plan px
layout =
    row (counted (depth (plan 6 4 2) 7 5)) (is (6 ∷ []))
    ∷ row (counted (bank (plan 6 4 2) (px 6 4))) (is (4 ∷ []))
    ∷ row (counted (address (plan 6 4 2) 7 5 (px 6 4))) (is (5 ∷ []))
    ∷ row (located (locate (plan 6 4 2) 7 5 4 5)) (is (6 ∷ 4 ∷ []))
    ∷ row (located (locate (plan 6 4 2) 7 5 4 6)) (refused 15 0)
    ∷ row (located (locate (plan 5 2 1) 7 4 0 7)) (is (6 ∷ 3 ∷ []))
    ∷ []

layout_hold : Hold layout
unfolding layout
layout_hold = refl

-- A surplus, and clashes; the verdict's three cases.
case_of_two : Pixel → Pixel → ℕ
unfolding case_of check book_of two
case_of_two x y = case_of (check (book_of (two ∷ [])) 1 x y).verdict

verdicts : List Row
unfolding row is clashes checks case_of_two one two px
verdicts =
    row (checks (two ∷ []) (px 3 0) (px 1 2)) (is (3 ∷ 1 ∷ 2 ∷ 4 ∷ []))
    ∷ row (checks (one ∷ (px 0 0 ∷ px 1 0 ∷ px 2 1 ∷ []) ∷ []) (px 5 0) (px 2 1)) (clashes 1 0 2)
    ∷ row (checks ((px 0 0 ∷ px 1 0 ∷ px 3 0 ∷ px 4 0 ∷ []) ∷ two ∷ []) (px 2 0) (px 0 1)) (clashes 0 0 3)
    ∷ row (is (case_of_two (px 2 0) (px 0 1) ∷ case_of_two (px 1 0) (px 0 2) ∷ case_of_two (px 2 0) (px 1 0) ∷ [])) (is (1 ∷ 2 ∷ 3 ∷ []))
    ∷ []

verdicts_hold : Hold verdicts
unfolding verdicts
verdicts_hold = refl

-- 64 and 65 pixels.
blocks : List Row
unfolding row refused writes block
blocks =
    row (writes (block 64) []) (refused 16 0)
    ∷ row (writes (block 65) []) (refused 2 0)
    ∷ []

blocks_hold : Hold blocks
unfolding blocks
blocks_hold = refl
