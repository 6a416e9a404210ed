-- Rows of document 02, Card 3, beyond its figures: 19 at both edges, with its place, beside each other condition of a book, and
-- in each call that takes a book record or a book's bytes. PictureEdges.antt has the fetches.
-- Assumes nothing.
use Rattle.std.specs.Prelude.{refl, List, [], ◌∷◌}
use Rattle.scope.specs.Books.{book_of}
use Rattle.scope.specs.Calls.{pattern_part, part_place, record_outcome, part_outcome, fewest}
use Rattle.scope.specs.Program.{ascii, program_text}
use Rattle.scope.specs.values.Rows.{Row, Hold, row, is, refused, counted, done, px, down, finds, reads, writes, checks}

-- 19 with its place: the same row and the next column is taken, the same row and a lower column is not, nor a row lower
-- by one; a row higher by one is, whatever the column; the first pixel of a pattern always is. Each pixel is compared with the
-- one just before it.
ascending : List Row
unfolding row is refused reads
ascending =
    row (reads (1 ∷ 2 ∷ 0 ∷ 0 ∷ 1 ∷ 0 ∷ [])) (is [])
    ∷ row (reads (1 ∷ 2 ∷ 1 ∷ 0 ∷ 0 ∷ 0 ∷ [])) (refused 19 4)
    ∷ row (reads (1 ∷ 2 ∷ 0 ∷ 1 ∷ 5 ∷ 0 ∷ [])) (refused 19 4)
    ∷ row (reads (1 ∷ 2 ∷ 5 ∷ 0 ∷ 0 ∷ 1 ∷ [])) (is [])
    ∷ row (reads (1 ∷ 2 ∷ 0x0f ∷ 0xf0 ∷ 0xf0 ∷ 0xf1 ∷ [])) (is [])
    ∷ row (reads (1 ∷ 2 ∷ 0xf0 ∷ 0xf1 ∷ 0x0f ∷ 0xf0 ∷ [])) (refused 19 4)
    ∷ row (reads (1 ∷ 2 ∷ 0 ∷ 0 ∷ 0xff ∷ 0 ∷ [])) (refused 19 4)
    ∷ row (reads (1 ∷ 2 ∷ 0 ∷ 0 ∷ 0 ∷ 0xff ∷ [])) (refused 19 4)
    ∷ row (reads (1 ∷ 1 ∷ 0xf0 ∷ 0xf0 ∷ [])) (is [])
    ∷ row (reads (2 ∷ 1 ∷ 5 ∷ 5 ∷ 1 ∷ 0 ∷ 0 ∷ [])) (is [])
    ∷ row (reads (1 ∷ 3 ∷ 0 ∷ 0 ∷ 2 ∷ 0 ∷ 1 ∷ 0 ∷ [])) (refused 19 6)
    ∷ row (reads (2 ∷ 1 ∷ 0 ∷ 0 ∷ 2 ∷ 1 ∷ 0 ∷ 0 ∷ 0 ∷ [])) (refused 19 7)
    ∷ []

ascending_hold : Hold ascending
unfolding ascending
ascending_hold = refl

-- 19 beside another condition of the book: 3 and 4 come before it, 1 where the pixel's bytes are not there; an earlier pixel's 19
-- comes before a later one's 3 and 4, a later pattern's 2, and 5.
ascending_orders : List Row
unfolding row refused reads
ascending_orders =
    row (reads (1 ∷ 3 ∷ 0 ∷ 0 ∷ 1 ∷ 0 ∷ 0 ∷ 0 ∷ [])) (refused 4 6)
    ∷ row (reads (1 ∷ 2 ∷ 0 ∷ 0 ∷ 0x10 ∷ 0xff ∷ [])) (refused 3 4)
    ∷ row (reads (1 ∷ 2 ∷ 0 ∷ 0 ∷ 0 ∷ 0xef ∷ [])) (refused 3 5)
    ∷ row (reads (1 ∷ 2 ∷ 1 ∷ 0 ∷ 0 ∷ [])) (refused 1 5)
    ∷ row (reads (1 ∷ 3 ∷ 1 ∷ 0 ∷ 0 ∷ 0 ∷ 0x10 ∷ 0 ∷ [])) (refused 19 4)
    ∷ row (reads (1 ∷ 3 ∷ 1 ∷ 0 ∷ 0 ∷ 0 ∷ 0 ∷ 0 ∷ [])) (refused 19 4)
    ∷ row (reads (2 ∷ 2 ∷ 1 ∷ 0 ∷ 0 ∷ 0 ∷ 0 ∷ [])) (refused 19 4)
    ∷ row (reads (1 ∷ 2 ∷ 1 ∷ 0 ∷ 0 ∷ 0 ∷ 7 ∷ [])) (refused 19 4)
    ∷ []

ascending_orders_hold : Hold ascending_orders
unfolding ascending_orders
ascending_orders_hold = refl

-- 19 of the other calls that take a book, at place 0 of a record, and before 6, 8, 9, 16 and 17.
ascending_calls : List Row
unfolding row is refused counted done finds fewest checks writes record_outcome pattern_part part_outcome part_place program_text ascii down book_of px
ascending_calls =
    row (finds (down ∷ []) 0) (refused 19 0)
    ∷ row (counted (fewest (book_of (down ∷ [])) 1)) (refused 19 0)
    ∷ row (checks (down ∷ []) (px 2 1) (px 4 2)) (refused 19 0)
    ∷ row (checks (down ∷ []) (px 32 0) (px 0 33)) (refused 19 0)
    ∷ row (writes (down ∷ []) []) (refused 19 0)
    ∷ row (done (record_outcome (book_of (down ∷ [])))) (refused 19 0)
    ∷ row (done (record_outcome (book_of ((px 0 0 ∷ px 1 0 ∷ px 0 0 ∷ []) ∷ [])))) (refused 4 0)
    ∷ row (done (record_outcome (book_of ((px 1 0 ∷ px 0 16 ∷ []) ∷ [])))) (refused 3 0)
    ∷ row (done (part_outcome (1 ∷ 2 ∷ 1 ∷ 0 ∷ 0 ∷ 0 ∷ []) 1)) (refused 19 4)
    ∷ row (is (part_place (1 ∷ 2 ∷ 1 ∷ 0 ∷ 0 ∷ 0 ∷ []) 0 ∷ pattern_part (1 ∷ 2 ∷ 1 ∷ 0 ∷ 0 ∷ 0 ∷ []) 0)) (is (0 ∷ []))
    ∷ row (is (program_text (1 ∷ 2 ∷ 1 ∷ 0 ∷ 0 ∷ 0 ∷ []))) (is (ascii "refused 19\n"))
    ∷ []

ascending_calls_hold : Hold ascending_calls
unfolding ascending_calls
ascending_calls_hold = refl
