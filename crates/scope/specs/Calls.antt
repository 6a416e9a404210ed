-- Every call of document 01: the checks that concern it, in the order "book 1-5, 6, 8, 9, 11, 12, 13, 17, then 10, 18, 14,
-- 15, 16, with 7 last", its answer, and the final content of what it was lent. "buffers and lists stay unchanged" on a refusal.
-- Document 02, Card 3: 19 is tested among the checks of the book, "wherever a book is taken". Card 4: "20, r outside 1 to 8, just
-- after 6". Card 6: 13 is tested for the sums too, by the calls that are lent them.
-- Assumes nothing.
use Rattle.std.specs.Prelude.{ℕ, ◌+◌, ◌-◌, Bool, true, false, List, [], ◌∷◌, map, length, get_or, Result, Ok, Err, ℤ}
use Rattle.std.proofs.Math.Option.{Option, none, some}
use Rattle.scope.specs.Search.{first_of}
use Rattle.scope.specs.Plans.{Pixel, plus, pixels, patterns, pattern_at, banks, normal_form}
use Rattle.scope.specs.Finding.{least_of}
use Rattle.scope.specs.Cycles.{LongClash, shortened, suits_all_for, least_plan_for, least_count_for, cycles, clash_in_for, clash_for}
use Rattle.scope.specs.Banks.{bank_of, address_of, depth_of, pixel_of, word_in, after_store, after_clear, bank_sum, sums_after_store, sums_after_clear, fresh_sums, over_start, wrapped}
use Rattle.scope.specs.Books.{byte, start, part_in, book_in, book_of, book_bytes}
use Rattle.scope.specs.Numbers.{bytes_test, record_test, limit_test, cycles_test, dependent_test, large_test, suits_test, plan_test, sides_test, memory_test, sums_test, outside_test, bank_test, cell_test, output_test, number_test, ring_test, places}
use Rattle.scope.specs.declared.Plan.{Plan}
use Rattle.scope.specs.declared.Book.{Book}
use Rattle.scope.specs.declared.Pattern.{Pattern}
use Rattle.scope.specs.declared.PixelRecord.{PixelRecord}
use Rattle.scope.specs.declared.Refusal.{Refusal}
use Rattle.scope.specs.declared.Verdict.{Verdict}
use Rattle.scope.specs.declared.Reading.{Reading}
use Rattle.scope.specs.declared.CheckAnswer.{CheckAnswer}
use Rattle.scope.specs.declared.FetchAnswer.{FetchAnswer}

-- "Where none of them holds, the call is not turned down": the value, or the refusal.
unfoldable pub answered : {A : Type 0} → Option Refusal → (Refusal → A) → A → A
answered none refused x = x
answered (some r) refused x = refused r

-- A call's answer with the final content of what it was lent, which on a refusal is the old content.
pub record After (A B : Type 0) : Type 0 where
  pub answer : A
  pub content : B

unfoldable pub changed : {A B : Type 0} → Option Refusal → (Refusal → A) → B → A → B → After A B
changed none refused old x new = record { answer = x; content = new }
changed (some r) refused old x new = record { answer = refused r; content = old }

-- Read a book's bytes into a record: 1 to 5, 19. On a refusal the record is that of no pattern.
unfoldable pub read_book : List ℕ → Reading
unfolding answered bytes_test book_in book_of
read_book s =
    answered (bytes_test s) (λ r. record { book = book_of []; outcome = Err r })
    (record { book = book_in s; outcome = Ok tt })

-- A pattern's part of the bytes: 1 to 5, 19, 17. "on a refusal the part is empty, and a second call with the same input gives
-- the number and place"
unfoldable pub part_test : List ℕ → ℕ → Option Refusal
unfolding first_of bytes_test number_test byte
part_test s n = first_of (bytes_test s ∷ number_test (byte s 0) n ∷ [])

unfoldable pub pattern_part : List ℕ → ℕ → List ℕ
unfolding answered part_test part_in
pattern_part s n = answered (part_test s n) (λ r. []) (part_in s n)

unfoldable pub part_outcome : List ℕ → ℕ → Result Unit Refusal
unfolding answered part_test
part_outcome s n = answered (part_test s n) Err (Ok tt)

-- "the part of the book where they stand": where it begins, the first pixel's place; an empty part is at the start
unfoldable pub part_place : List ℕ → ℕ → ℕ
unfolding answered part_test start
part_place s n = answered (part_test s n) (λ r. 0) (start s n + 1)

-- "A call given a book record tests 2, 3, 4 in book order", and 19: that test by itself
unfoldable pub record_outcome : Book → Result Unit Refusal
unfolding answered record_test
record_outcome book = answered (record_test book) Err (Ok tt)

-- Write a record, and tell how many bytes: 2, 3, 4, 19, "the writer then 16".
unfoldable pub write_book : Book → List ℕ → After (Result ℕ Refusal) (List ℕ)
unfolding changed first_of record_test output_test book_bytes over_start
write_book book out =
    changed (first_of (record_test book ∷ output_test (length (book_bytes book)) (length out) ∷ [])) Err out
    (Ok (length (book_bytes book)))
    (over_start (book_bytes book) out)

-- The normal form of two vectors: "the call for it refuses by 8 and 9".
unfoldable pub normal : Pixel → Pixel → Result Plan Refusal
unfolding answered first_of dependent_test large_test normal_form
normal x y =
    answered (first_of (dependent_test x y ∷ large_test x y ∷ [])) Err (Ok (normal_form x y))

-- Find for r: 2, 3, 4, 19, 6, 20, "with 7 last".
unfoldable pub find_test : Book → ℕ → ℕ → Option Refusal
unfolding first_of record_test limit_test cycles_test
find_test book r limit = first_of (record_test book ∷ limit_test limit ∷ cycles_test r ∷ [])

unfoldable pub found : Option Plan → Result Plan Refusal
found none = Err Refusal.NoPlan
found (some p) = Ok p

unfoldable pub find : Book → ℕ → ℕ → Result Plan Refusal
unfolding answered find_test found least_of suits_all_for patterns
find book r limit = answered (find_test book r limit) Err (found (least_plan_for r (patterns book) limit))

-- The tests of a book and r: 2, 3, 4, 19, 20.
unfoldable pub book_test : Book → ℕ → Option Refusal
unfolding first_of record_test cycles_test
book_test book r = first_of (record_test book ∷ cycles_test r ∷ [])

-- "the least for that r" of a book: 2, 3, 4, 19, 20.
unfoldable pub fewest : Book → ℕ → Result ℕ Refusal
unfolding answered book_test least_count_for patterns
fewest book r = answered (book_test book r) Err (Ok (least_count_for r (patterns book)))

-- "10 also carries its clash": its positions, where the tests before 10 found nothing
unfoldable pub clash_beside : Option Refusal → Option LongClash → List ℕ
unfolding answered places
clash_beside before c = answered before (λ f. places none) (places c)

-- Check a supplier's vectors for r: 2, 3, 4, 19, 20, 8, 9, then the clash, which is 10. "the normal form together with the surplus",
-- "counted against the least for that r", "or a clash, or a refusal"
unfoldable pub check_test : Book → ℕ → Pixel → Pixel → Option Refusal
unfolding first_of book_test dependent_test large_test
check_test book r x y = first_of (book_test book r ∷ dependent_test x y ∷ large_test x y ∷ [])

unfoldable pub judged : ℕ → List (List Pixel) → Plan → Verdict
unfolding clash_for shortened banks least_count_for
judged r ts p =
    elim (clash_for r p ts) [
      | some c ↦ Verdict.Clashes (shortened c)
      | none ↦ Verdict.Suits (record { plan = p; surplus = banks p - least_count_for r ts })
    ]

unfoldable pub check : Book → ℕ → Pixel → Pixel → CheckAnswer
unfolding answered check_test judged patterns normal_form clash_beside clash_for
check book r x y =
    record {
      verdict = answered (check_test book r x y) Verdict.Refused (judged r (patterns book) (normal_form x y));
      positions = clash_beside (check_test book r x y) (clash_for r (normal_form x y) (patterns book));
    }

-- The bank of a pixel: 11.
unfoldable pub bank : Plan → Pixel → Result ℕ Refusal
unfolding answered plan_test bank_of
bank p v = answered (plan_test p) Err (Ok (bank_of p v))

-- The depth: 11, 12.
unfoldable pub depth : Plan → ℕ → ℕ → Result ℕ Refusal
unfolding answered first_of plan_test sides_test depth_of
depth p W H = answered (first_of (plan_test p ∷ sides_test W H ∷ [])) Err (Ok (depth_of p W H))

-- The address of a pixel: 11, 12, 14.
abbrev pub address_test : Plan → ℕ → ℕ → Pixel → Option Refusal
address_test p W H v = first_of (plan_test p ∷ sides_test W H ∷ outside_test W H (v ∷ []) ∷ [])

unfoldable pub address : Plan → ℕ → ℕ → Pixel → Result ℕ Refusal
unfolding answered first_of plan_test sides_test outside_test address_of
address p W H v = answered (address_test p W H v) Err (Ok (address_of p W H v))

-- The reverse map, of bank k and address i: 11, 12, 15.
unfoldable pub locate : Plan → ℕ → ℕ → ℕ → ℕ → Result (ℤ × ℤ) Refusal
unfolding answered first_of plan_test sides_test cell_test pixel_of
locate p W H k i =
    answered (first_of (plan_test p ∷ sides_test W H ∷ cell_test p W H k i ∷ [])) Err
    (Ok ((pixel_of p W H k i).column, (pixel_of p W H k i).row))

-- The tests that every call on a picture begins with: 11, 12, 13. `words` is the memory's length.
unfoldable pub picture_test : Plan → ℕ → ℕ → ℕ → Option Refusal
unfolding first_of plan_test sides_test memory_test
picture_test p W H words = first_of (plan_test p ∷ sides_test W H ∷ memory_test p W H words ∷ [])

-- What a call that writes a picture is lent, and leaves: the memory, and the banks' sums (document 02, Card 6)
pub record Lent : Type 0 where
  pub memory : List ℕ
  pub sums : List ℕ

abbrev pub lent : List ℕ → List ℕ → Lent
lent mem sums = record { memory = mem; sums = sums }

-- and the lengths of both
pub record Size : Type 0 where
  pub words : ℕ
  pub entries : ℕ

abbrev pub size_of : Lent → Size
size_of l = record { words = length l.memory; entries = length l.sums }

-- The tests that those calls begin with: 11, 12, 13. "A sums buffer shorter than N is a case of 13, tested with the memory."
unfoldable pub lent_test : Plan → ℕ → ℕ → Size → Option Refusal
unfolding first_of picture_test sums_test
lent_test p W H s = first_of (picture_test p W H s.words ∷ sums_test p s.entries ∷ [])

-- Load a word: 11, 12, 13, 14. Store one: the same, with 13 for the sums too.
unfoldable pub word_test : Plan → ℕ → ℕ → ℕ → Pixel → Option Refusal
unfolding first_of picture_test outside_test
word_test p W H words v = first_of (picture_test p W H words ∷ outside_test W H (v ∷ []) ∷ [])

unfoldable pub store_test : Plan → ℕ → ℕ → Size → Pixel → Option Refusal
unfolding first_of lent_test outside_test
store_test p W H s v = first_of (lent_test p W H s ∷ outside_test W H (v ∷ []) ∷ [])

unfoldable pub store : Plan → ℕ → ℕ → Lent → Pixel → ℕ → After (Result Unit Refusal) Lent
unfolding changed store_test after_store sums_after_store
store p W H l v x =
    changed (store_test p W H (size_of l) v) Err l (Ok tt)
    (lent (after_store p W H l.memory v x) (sums_after_store p W H l.memory l.sums v x))

unfoldable pub load : Plan → ℕ → ℕ → List ℕ → Pixel → Result ℕ Refusal
unfolding answered word_test word_in
load p W H mem v = answered (word_test p W H (length mem) v) Err (Ok (word_in p W H mem v))

-- The sum of bank k, by a walk: 11, 12, 13, 15. Clear bank k: the same, with 13 for the sums too.
unfoldable pub whole_bank_test : Plan → ℕ → ℕ → ℕ → ℕ → Option Refusal
unfolding first_of picture_test bank_test
whole_bank_test p W H words k = first_of (picture_test p W H words ∷ bank_test p k ∷ [])

unfoldable pub clear_test : Plan → ℕ → ℕ → Size → ℕ → Option Refusal
unfolding first_of lent_test bank_test
clear_test p W H s k = first_of (lent_test p W H s ∷ bank_test p k ∷ [])

unfoldable pub clear : Plan → ℕ → ℕ → Lent → ℕ → After (Result Unit Refusal) Lent
unfolding changed clear_test after_clear sums_after_clear
clear p W H l k =
    changed (clear_test p W H (size_of l) k) Err l (Ok tt)
    (lent (after_clear p W H l.memory k) (sums_after_clear l.sums k))

unfoldable pub sum : Plan → ℕ → ℕ → List ℕ → ℕ → Result ℕ Refusal
unfolding answered whole_bank_test bank_sum
sum p W H mem k =
    answered (whole_bank_test p W H (length mem) k) Err (Ok (bank_sum p W H mem k))

-- "A call that makes them afresh from the memory is there for start-up": 11, 12, 13.
unfoldable pub make_sums : Plan → ℕ → ℕ → Lent → After (Result Unit Refusal) Lent
unfolding changed lent_test fresh_sums
make_sums p W H l =
    changed (lent_test p W H (size_of l)) Err l (Ok tt) (lent l.memory (fresh_sums p W H l.memory l.sums))

-- "reading one is a call of its own, a look-up that tests 11, 13 for the sums and 15 for the bank"
unfoldable pub read_sum_test : Plan → ℕ → ℕ → Option Refusal
unfolding first_of plan_test sums_test bank_test
read_sum_test p entries k = first_of (plan_test p ∷ sums_test p entries ∷ bank_test p k ∷ [])

unfoldable pub read_sum : Plan → List ℕ → ℕ → Result ℕ Refusal
unfolding answered read_sum_test
read_sum p sums k = answered (read_sum_test p (length sums) k) Err (Ok (get_or sums k 0))

-- "a pattern with (0, 0) moved to a signed 16-bit position", to position o, "in the book's pixel order"
unfoldable pub moved : Pattern → Pixel → List Pixel
unfolding plus pixels
moved t o = map (plus o) (pixels t)

-- "A ring fetch reduces columns modulo W and rows modulo H."
unfoldable pub ring_moved : ℕ → ℕ → Pattern → Pixel → List Pixel
unfolding wrapped moved
ring_moved W H t o = map (wrapped W H) (moved t o)

-- The tests that both fetches begin with: 2, 3, 4, 19, 20, 11, 12, 13, 17; then "10 for its own pattern only".
unfoldable pub fetch_first : Book → ℕ → Plan → ℕ → ℕ → ℕ → ℕ → Option Refusal
unfolding first_of book_test picture_test number_test
fetch_first book r p W H words n = first_of (book_test book r ∷ picture_test p W H words ∷ number_test book.count n ∷ [])

unfoldable pub fetch_start : Book → ℕ → Plan → ℕ → ℕ → ℕ → ℕ → Option Refusal
unfolding first_of fetch_first suits_test pattern_at
fetch_start book r p W H words n = first_of (fetch_first book r p W H words n ∷ suits_test r p n (pattern_at book n) ∷ [])

-- "a ring fetch has 18 and no 14": the test of the edge, and the pixels that are read
unfoldable pub edge_test : (ring : Bool) → Plan → ℕ → ℕ → List Pixel → Option Refusal
unfolding outside_test ring_test
edge_test false p W H vs = outside_test W H vs
edge_test true p W H vs = ring_test p W H

unfoldable pub pixels_read : (ring : Bool) → ℕ → ℕ → List Pixel → List Pixel
unfolding wrapped
pixels_read false W H vs = vs
pixels_read true W H vs = map (wrapped W H) vs

-- What both fetches of a pattern t go on with, where `start` is what the tests before found: the edge, then 16, and the
-- words at the start of the output. `room` is the output's length.
unfoldable pub rest_test : Option Refusal → (ring : Bool) → Pattern → Plan → ℕ → ℕ → Pixel → ℕ → Option Refusal
unfolding first_of edge_test output_test moved
rest_test start ring t p W H o room =
    first_of (start ∷ edge_test ring p W H (moved t o) ∷ output_test t.used room ∷ [])

unfoldable pub fetch_rest :
    Option Refusal → (ring : Bool) → Pattern → Plan → ℕ → ℕ → List ℕ → Pixel → List ℕ → After (Result ℕ Refusal) (List ℕ)
unfolding changed rest_test over_start word_in pixels_read moved
fetch_rest start ring t p W H mem o out =
    changed (rest_test start ring t p W H o (length out)) Err out
    (Ok (length (pixels_read ring W H (moved t o))))
    (over_start (map (word_in p W H mem) (pixels_read ring W H (moved t o))) out)

-- Fetch for r, and tell how many words: 2, 3, 4, 19, 20, 11, 12, 13, 17, 10, 14, 16. Ring fetch: 18 in the place of 14. "A fetch
-- still writes only words."
unfoldable pub fetch_test : (ring : Bool) → Book → ℕ → Plan → ℕ → ℕ → ℕ → ℕ → Pixel → ℕ → Option Refusal
unfolding rest_test fetch_start pattern_at
fetch_test ring book r p W H words n o room = rest_test (fetch_start book r p W H words n) ring (pattern_at book n) p W H o room

-- a counted answer beside the clash of pattern n, where `before` is what the tests before 10 found
unfoldable pub beside_clash : Option Refusal → ℕ → Plan → Book → ℕ → After (Result ℕ Refusal) (List ℕ) → After FetchAnswer (List ℕ)
unfolding clash_beside clash_in_for pixels pattern_at
beside_clash before r p book n x =
    record {
      answer = record { counted = x.answer; positions = clash_beside before (clash_in_for r p n (pixels (pattern_at book n))) };
      content = x.content;
    }

unfoldable pub either_fetch :
    (ring : Bool) → Book → ℕ → Plan → ℕ → ℕ → List ℕ → ℕ → Pixel → List ℕ → After FetchAnswer (List ℕ)
unfolding beside_clash fetch_first fetch_rest fetch_start pattern_at
either_fetch ring book r p W H mem n o out =
    beside_clash (fetch_first book r p W H (length mem) n) r p book n
    (fetch_rest (fetch_start book r p W H (length mem) n) ring (pattern_at book n) p W H mem o out)

unfoldable pub fetch : Book → ℕ → Plan → ℕ → ℕ → List ℕ → ℕ → Pixel → List ℕ → After FetchAnswer (List ℕ)
unfolding either_fetch
fetch = either_fetch false

unfoldable pub ring_fetch : Book → ℕ → Plan → ℕ → ℕ → List ℕ → ℕ → Pixel → List ℕ → After FetchAnswer (List ℕ)
unfolding either_fetch
ring_fetch = either_fetch true

-- "writes the cycles in pixel order, one byte each, at the start of a lent output, the rest unchanged; it turns down what a fetch does,
-- without 12, 13 and 14": 2, 3, 4, 19, 20, 11, 17, 10, 16. It tells how many bytes.
unfoldable pub cycles_first : Book → ℕ → Plan → ℕ → Option Refusal
unfolding first_of book_test plan_test number_test
cycles_first book r p n = first_of (book_test book r ∷ plan_test p ∷ number_test book.count n ∷ [])

unfoldable pub write_cycles_test : Book → ℕ → Plan → ℕ → ℕ → Option Refusal
unfolding first_of cycles_first suits_test output_test pattern_at
write_cycles_test book r p n room =
    first_of (cycles_first book r p n ∷ suits_test r p n (pattern_at book n) ∷ output_test (pattern_at book n).used room ∷ [])

unfoldable pub write_cycles : Book → ℕ → Plan → ℕ → List ℕ → After FetchAnswer (List ℕ)
unfolding beside_clash cycles_first changed write_cycles_test over_start cycles pixels pattern_at
write_cycles book r p n out =
    beside_clash (cycles_first book r p n) r p book n
    (changed (write_cycles_test book r p n (length out)) Err out
    (Ok (length (cycles p (pixels (pattern_at book n)))))
    (over_start (cycles p (pixels (pattern_at book n))) out))

-- Fill a record list: 11, 12, 14. "every record's bank and address are filled in; if any pixel is outside, no record changes"
unfoldable pub record_pixel : PixelRecord → Pixel
record_pixel r = record { column = r.column; row = r.row }

unfoldable pub placed : Plan → ℕ → ℕ → PixelRecord → PixelRecord
unfolding bank_of address_of record_pixel
placed p W H r =
    record {
      column = r.column;
      row = r.row;
      bank = bank_of p (record_pixel r);
      address = address_of p W H (record_pixel r);
    }

unfoldable pub fill_records : Plan → ℕ → ℕ → List PixelRecord → After (Result Unit Refusal) (List PixelRecord)
unfolding changed first_of plan_test sides_test outside_test record_pixel placed
fill_records p W H rs =
    changed (first_of (plan_test p ∷ sides_test W H ∷ outside_test W H (map record_pixel rs) ∷ [])) Err rs
    (Ok tt)
    (map (placed p W H) rs)
