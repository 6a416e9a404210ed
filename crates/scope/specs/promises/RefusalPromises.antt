-- What is promised of refusals: where a condition of the table holds, and none that is tested before it, a call gives that
-- number, at that place. The promises for legal calls stand in the other files; Promises.antt has them all.
-- Assumes nothing.
use Rattle.std.specs.Prelude.{ℕ, suc, ◌*◌, ◌≤◌, ◌<◌, ◌≡◌, false, pos, length, get_or}
use Rattle.std.proofs.Math.Option.{Option, none, some}
use mathlib.Core.List.{List, [], ◌∷◌, ◌++◌, map, flat_map, Memᴰ}
use Rattle.scope.specs.Plans.{Pixel, at, pixel_at, pattern_at, pixels, banks, determinant_size}
use Rattle.scope.specs.Banks.{depth_of}
use Rattle.scope.specs.Cycles.{suits_for, LongClash}
use Rattle.scope.specs.Books.{signed, pattern_of, book_of, pixel_bytes, pattern_bytes, book_bytes}
use Rattle.scope.specs.Numbers.{Answer, value, refusal, turned_down, of_result, of_located, of_check, of_fetch, record_test}
use Rattle.scope.specs.Calls.{read_book, part_outcome, record_outcome, write_book, normal, find, fewest, check, bank, depth, address, locate, Lent, Size, size_of, store, load, clear, sum, make_sums, read_sum, moved, fetch, ring_fetch, write_cycles, record_pixel, fill_records}
use Rattle.scope.specs.promises.Meaning.{IsPlan, IsSide, Inside, AllInside, IsPicture, IsLent, InRange, Lower, PixelLegal, IsPattern, IsBook, IsCycles, Independent, RingAllowed}
use Rattle.scope.specs.promises.PicturePromises.{LegalFetch, LegalCycles}
use Rattle.scope.specs.declared.Plan.{Plan}
use Rattle.scope.specs.declared.Pattern.{Pattern}
use Rattle.scope.specs.declared.Book.{Book}
use Rattle.scope.specs.declared.Refusal.{Refusal}
use Rattle.scope.specs.declared.PixelRecord.{PixelRecord}

-- The answer r of a call that tests 11, then 12
pub record PlanRefused {A : Type 0} (p : Plan) (W H : ℕ) (r : Answer A) : Type 0 where
  pub plan_11 : (IsPlan p → ⊥) → r ≡ refusal 11 0 none
  pub sides_12 : IsPlan p → (IsSide W × IsSide H → ⊥) → r ≡ refusal 12 0 none

-- 11, 12, then 13
pub record PictureRefused {A : Type 0} (p : Plan) (W H words : ℕ) (r : Answer A) : Type 0 where
  pub first : PlanRefused p W H r
  pub memory_13 : IsPlan p → IsSide W → IsSide H → words < banks p * depth_of p W H → r ≡ refusal 13 0 none

-- 11, 12, 13 for the memory, then 13 for the sums (document 02, Card 6): the calls that are lent both
pub record LentRefused {A : Type 0} (p : Plan) (W H : ℕ) (s : Size) (r : Answer A) : Type 0 where
  pub first : PictureRefused p W H s.words r
  pub sums_13 : IsPicture p W H s.words → s.entries < banks p → r ≡ refusal 13 0 none

-- 11, 12, 13, then 14: load
pub record WordRefused {A : Type 0} (p : Plan) (W H words : ℕ) (v : Pixel) (r : Answer A) : Type 0 where
  pub first : PictureRefused p W H words r
  pub outside_14 : IsPicture p W H words → (Inside W H v → ⊥) → r ≡ refusal 14 0 none

-- 11, 12, 13, then 15: sum
pub record BankRefused {A : Type 0} (p : Plan) (W H words k : ℕ) (r : Answer A) : Type 0 where
  pub first : PictureRefused p W H words r
  pub bank_15 : IsPicture p W H words → banks p ≤ k → r ≡ refusal 15 0 none

-- 2, 3, 4, 19, then 20: the calls that take a book and r
pub record BookRefused {A : Type 0} (book : Book) (r : ℕ) (x : Answer A) : Type 0 where
  pub book_2_3_4_19 : (f : Refusal) → record_test book ≡ some f → x ≡ turned_down f
  pub cycles_20 : IsBook book → (IsCycles r → ⊥) → x ≡ refusal 20 0 none

-- 2, 3, 4, 19, 20, 11, 12, 13, 17, then 10: both fetches
pub record FetchRefused (book : Book) (r : ℕ) (p : Plan) (W H words n : ℕ) (x : Answer ℕ) : Type 0 where
  pub first : BookRefused book r x
  pub picture : IsBook book → IsCycles r → PictureRefused p W H words x
  pub number_17 : IsBook book → IsCycles r → IsPicture p W H words → book.count ≤ n → x ≡ refusal 17 0 none
  pub suits_10 :
      IsBook book → IsCycles r → IsPicture p W H words → n < book.count → suits_for r p (pixels (pattern_at book n)) ≡ false
      → (c : LongClash) × (x ≡ refusal 10 0 (some c))

-- 2, 3, 4, 19, 20, 11, 17, then 10: the cycles
pub record CyclesRefused (book : Book) (r : ℕ) (p : Plan) (n : ℕ) (x : Answer ℕ) : Type 0 where
  pub first : BookRefused book r x
  pub plan_11 : IsBook book → IsCycles r → (IsPlan p → ⊥) → x ≡ refusal 11 0 none
  pub number_17 : IsBook book → IsCycles r → IsPlan p → book.count ≤ n → x ≡ refusal 17 0 none
  pub suits_10 :
      IsBook book → IsCycles r → IsPlan p → n < book.count → suits_for r p (pixels (pattern_at book n)) ≡ false
      → (c : LongClash) × (x ≡ refusal 10 0 (some c))

-- "A call applies those checks that concern it in this order". (7: FinderNone; the check's 10: CheckDecides, ClashIsFirst; the reverse
-- map's 15: ReverseMap; the order within a record and within bytes: below.)
pub record CallsRefuse : Type 0 where
  pub normal_8 : (x y : Pixel) → (Independent x y → ⊥) → of_result (normal x y) ≡ refusal 8 0 none
  pub normal_9 : (x y : Pixel) → 1024 < determinant_size x y → of_result (normal x y) ≡ refusal 9 0 none
  pub find_2_3_4_19 :
      (book : Book) (r limit : ℕ) (f : Refusal) → record_test book ≡ some f → of_result (find book r limit) ≡ turned_down f
  pub find_6 :
      (book : Book) (r limit : ℕ) → IsBook book → ((1 ≤ limit) × (limit ≤ 1024) → ⊥)
      → of_result (find book r limit) ≡ refusal 6 0 none
  -- Card 4: "20, r outside 1 to 8, just after 6"
  pub find_20 :
      (book : Book) (r limit : ℕ) → IsBook book → 1 ≤ limit → limit ≤ 1024 → (IsCycles r → ⊥)
      → of_result (find book r limit) ≡ refusal 20 0 none
  pub counts : (book : Book) (r : ℕ) → BookRefused book r (of_result (fewest book r))
  pub checks : (book : Book) (r : ℕ) (x y : Pixel) → BookRefused book r (of_check r (check book r x y))
  pub check_8 :
      (book : Book) (r : ℕ) (x y : Pixel) → IsBook book → IsCycles r → (Independent x y → ⊥)
      → of_check r (check book r x y) ≡ refusal 8 0 none
  pub check_9 :
      (book : Book) (r : ℕ) (x y : Pixel) → IsBook book → IsCycles r → 1024 < determinant_size x y
      → of_check r (check book r x y) ≡ refusal 9 0 none
  -- "A call given a book record tests 2, 3, 4", and 19: that test by itself
  pub record_2_3_4_19 : (book : Book) (f : Refusal) → record_test book ≡ some f → of_result (record_outcome book) ≡ turned_down f
  pub write_2_3_4_19 :
      (book : Book) (out : List ℕ) (f : Refusal) → record_test book ≡ some f
      → of_result (write_book book out).answer ≡ turned_down f
  pub write_16 :
      (book : Book) (out : List ℕ) → IsBook book → length out < length (book_bytes book)
      → of_result (write_book book out).answer ≡ refusal 16 0 none
  pub bank_11 : (p : Plan) (v : Pixel) → (IsPlan p → ⊥) → of_result (bank p v) ≡ refusal 11 0 none
  pub depths : (p : Plan) (W H : ℕ) → PlanRefused p W H (of_result (depth p W H))
  pub addresses : (p : Plan) (W H : ℕ) (v : Pixel) → PlanRefused p W H (of_result (address p W H v))
  pub address_14 :
      (p : Plan) (W H : ℕ) (v : Pixel) → IsPlan p → IsSide W → IsSide H → (Inside W H v → ⊥)
      → of_result (address p W H v) ≡ refusal 14 0 none
  pub locates : (p : Plan) (W H k i : ℕ) → PlanRefused p W H (of_located (locate p W H k i))
  pub stores :
      (p : Plan) (W H : ℕ) (l : Lent) (v : Pixel) (x : ℕ) → LentRefused p W H (size_of l) (of_result (store p W H l v x).answer)
  pub store_14 :
      (p : Plan) (W H : ℕ) (l : Lent) (v : Pixel) (x : ℕ) → IsLent p W H (size_of l) → (Inside W H v → ⊥)
      → of_result (store p W H l v x).answer ≡ refusal 14 0 none
  pub loads : (p : Plan) (W H : ℕ) (mem : List ℕ) (v : Pixel) → WordRefused p W H (length mem) v (of_result (load p W H mem v))
  pub clears : (p : Plan) (W H : ℕ) (l : Lent) (k : ℕ) → LentRefused p W H (size_of l) (of_result (clear p W H l k).answer)
  pub clear_15 :
      (p : Plan) (W H : ℕ) (l : Lent) (k : ℕ) → IsLent p W H (size_of l) → banks p ≤ k
      → of_result (clear p W H l k).answer ≡ refusal 15 0 none
  pub sums : (p : Plan) (W H : ℕ) (mem : List ℕ) (k : ℕ) → BankRefused p W H (length mem) k (of_result (sum p W H mem k))
  -- Card 6: "11, 13 for the sums and 15 for the bank"
  pub makes_sums : (p : Plan) (W H : ℕ) (l : Lent) → LentRefused p W H (size_of l) (of_result (make_sums p W H l).answer)
  pub read_sum_11 : (p : Plan) (sums : List ℕ) (k : ℕ) → (IsPlan p → ⊥) → of_result (read_sum p sums k) ≡ refusal 11 0 none
  pub read_sum_13 :
      (p : Plan) (sums : List ℕ) (k : ℕ) → IsPlan p → length sums < banks p → of_result (read_sum p sums k) ≡ refusal 13 0 none
  pub read_sum_15 :
      (p : Plan) (sums : List ℕ) (k : ℕ) → IsPlan p → banks p ≤ length sums → banks p ≤ k
      → of_result (read_sum p sums k) ≡ refusal 15 0 none
  pub fetches :
      (book : Book) (r : ℕ) (p : Plan) (W H : ℕ) (mem : List ℕ) (n : ℕ) (o : Pixel) (out : List ℕ)
      → FetchRefused book r p W H (length mem) n (of_fetch r (fetch book r p W H mem n o out).answer)
  pub fetch_14 :
      (book : Book) (r : ℕ) (p : Plan) (W H : ℕ) (mem : List ℕ) (n : ℕ) (o : Pixel) (out : List ℕ)
      → LegalFetch book r p W H (length mem) n → (AllInside W H (moved (pattern_at book n) o) → ⊥)
      → of_fetch r (fetch book r p W H mem n o out).answer ≡ refusal 14 0 none
  pub fetch_16 :
      (book : Book) (r : ℕ) (p : Plan) (W H : ℕ) (mem : List ℕ) (n : ℕ) (o : Pixel) (out : List ℕ)
      → LegalFetch book r p W H (length mem) n → AllInside W H (moved (pattern_at book n) o) → length out < (pattern_at book n).used
      → of_fetch r (fetch book r p W H mem n o out).answer ≡ refusal 16 0 none
  pub ring_fetches :
      (book : Book) (r : ℕ) (p : Plan) (W H : ℕ) (mem : List ℕ) (n : ℕ) (o : Pixel) (out : List ℕ)
      → FetchRefused book r p W H (length mem) n (of_fetch r (ring_fetch book r p W H mem n o out).answer)
  -- Card 5: "Number 18 is given exactly otherwise, in its old place" (PictureCalls.ring_fetches is the other half)
  pub ring_18 :
      (book : Book) (r : ℕ) (p : Plan) (W H : ℕ) (mem : List ℕ) (n : ℕ) (o : Pixel) (out : List ℕ)
      → LegalFetch book r p W H (length mem) n → (RingAllowed p W H → ⊥)
      → of_fetch r (ring_fetch book r p W H mem n o out).answer ≡ refusal 18 0 none
  pub ring_16 :
      (book : Book) (r : ℕ) (p : Plan) (W H : ℕ) (mem : List ℕ) (n : ℕ) (o : Pixel) (out : List ℕ)
      → LegalFetch book r p W H (length mem) n → RingAllowed p W H
      → length out < (pattern_at book n).used
      → of_fetch r (ring_fetch book r p W H mem n o out).answer ≡ refusal 16 0 none
  pub writes_cycles :
      (book : Book) (r : ℕ) (p : Plan) (n : ℕ) (out : List ℕ) → CyclesRefused book r p n (of_fetch r (write_cycles book r p n out).answer)
  pub write_cycles_16 :
      (book : Book) (r : ℕ) (p : Plan) (n : ℕ) (out : List ℕ) → LegalCycles book r p n → length out < (pattern_at book n).used
      → of_fetch r (write_cycles book r p n out).answer ≡ refusal 16 0 none
  pub fills : (p : Plan) (W H : ℕ) (rs : List PixelRecord) → PlanRefused p W H (of_result (fill_records p W H rs).answer)
  pub fill_14 :
      (p : Plan) (W H : ℕ) (rs : List PixelRecord) → IsPlan p → IsSide W → IsSide H
      → (AllInside W H (map record_pixel rs) → ⊥)
      → of_result (fill_records p W H rs).answer ≡ refusal 14 0 none

-- "A call given a book record tests 2, 3, 4 in book order", and 19 "after 4": the patterns before number n are legal,
pub record LegalUpTo (book : Book) (n : ℕ) : Type 0 where
  pub least : 1 ≤ book.count
  pub most : book.count ≤ 16
  pub below : n < book.count
  pub each : (m : ℕ) → m < n → IsPattern (pattern_at book m)

-- and of pattern t the pixels before position e
pub record PixelsUpTo (t : Pattern) (e : ℕ) : Type 0 where
  pub most : t.used ≤ 64
  pub below : e < t.used
  pub each : (l : ℕ) → l < e → PixelLegal (pixel_at t) l

-- The place "is 0 elsewhere".
pub record RecordRefuses : Type 0 where
  pub patterns_2 : (book : Book) → ((1 ≤ book.count) × (book.count ≤ 16) → ⊥) → record_test book ≡ some (Refusal.Count 0)
  pub pixels_2 :
      (book : Book) (n : ℕ) → LegalUpTo book n → ((1 ≤ (pattern_at book n).used) × ((pattern_at book n).used ≤ 64) → ⊥)
      → record_test book ≡ some (Refusal.Count 0)
  pub coordinate_3 :
      (book : Book) (n e : ℕ) → LegalUpTo book n → PixelsUpTo (pattern_at book n) e
      → (InRange (pixel_at (pattern_at book n) e).column × InRange (pixel_at (pattern_at book n) e).row → ⊥)
      → record_test book ≡ some (Refusal.Coordinate 0)
  pub repeat_4 :
      (book : Book) (n e l : ℕ) → LegalUpTo book n → PixelsUpTo (pattern_at book n) e
      → InRange (pixel_at (pattern_at book n) e).column → InRange (pixel_at (pattern_at book n) e).row
      → l < e → pixel_at (pattern_at book n) l ≡ pixel_at (pattern_at book n) e
      → record_test book ≡ some (Refusal.Repeat 0)
  -- Card 3: "a pixel lower in that order than the one before it, tested after 4"
  pub lower_19 :
      (book : Book) (n l : ℕ) → LegalUpTo book n → PixelsUpTo (pattern_at book n) (suc l)
      → InRange (pixel_at (pattern_at book n) (suc l)).column → InRange (pixel_at (pattern_at book n) (suc l)).row
      → ((m : ℕ) → m < suc l → pixel_at (pattern_at book n) m ≡ pixel_at (pattern_at book n) (suc l) → ⊥)
      → Lower (pixel_at (pattern_at book n) (suc l)) (pixel_at (pattern_at book n) l)
      → record_test book ≡ some (Refusal.Lower 0)

-- "A book is read left to right". The bytes so far: the count m, and the patterns ts, whole and legal, of which more are due
abbrev pub bytes_so_far : ℕ → List (List Pixel) → List ℕ
bytes_so_far m ts = m ∷ flat_map pattern_bytes ts

pub record PatternsSoFar (m : ℕ) (ts : List (List Pixel)) : Type 0 where
  pub least : 1 ≤ m
  pub most : m ≤ 16
  pub due : length ts < m
  pub whole : (t : List Pixel) → Memᴰ t ts → IsPattern (pattern_of t)

-- then the pixel count c of the next pattern and its pixels t, legal so far, of which more are due
abbrev pub bytes_within : ℕ → List (List Pixel) → ℕ → List Pixel → List ℕ
bytes_within m ts c t = bytes_so_far m ts ++ (c ∷ flat_map pixel_bytes t)

pub record PixelsSoFar (m : ℕ) (ts : List (List Pixel)) (c : ℕ) (t : List Pixel) : Type 0 where
  pub first : PatternsSoFar m ts
  pub most : c ≤ 64
  pub due : length t < c
  pub each : (e : ℕ) → e < length t → PixelLegal (λ l. get_or t l (at (pos 0) (pos 0))) e

abbrev pub read_answer : List ℕ → Answer Unit
read_answer s = of_result (read_book s).outcome

-- "The place is a byte offset for 1 to 5 where the call was given a book's bytes", and for 19: what comes next decides number
-- and place
pub record ReaderRefuses : Type 0 where
  pub no_byte_1 : read_answer [] ≡ refusal 1 0 none
  pub patterns_2 : (m : ℕ) (rest : List ℕ) → ((1 ≤ m) × (m ≤ 16) → ⊥) → read_answer (m ∷ rest) ≡ refusal 2 0 none
  pub count_1 : (m : ℕ) (ts : List (List Pixel)) → PatternsSoFar m ts → read_answer (bytes_so_far m ts) ≡ refusal 1 (length (bytes_so_far m ts)) none
  pub pixels_2 :
      (m : ℕ) (ts : List (List Pixel)) (c : ℕ) (rest : List ℕ) → PatternsSoFar m ts → ((1 ≤ c) × (c ≤ 64) → ⊥)
      → read_answer (bytes_so_far m ts ++ (c ∷ rest)) ≡ refusal 2 (length (bytes_so_far m ts)) none
  -- "both bytes of a pixel must be there"
  pub pixel_1 :
      (m : ℕ) (ts : List (List Pixel)) (c : ℕ) (t : List Pixel) (rest : List ℕ) → PixelsSoFar m ts c t → length rest < 2
      → read_answer (bytes_within m ts c t ++ rest) ≡ refusal 1 (length (bytes_within m ts c t ++ rest)) none
  pub column_3 :
      (m : ℕ) (ts : List (List Pixel)) (c : ℕ) (t : List Pixel) (x y : ℕ) (rest : List ℕ) → PixelsSoFar m ts c t
      → (InRange (signed x) → ⊥)
      → read_answer (bytes_within m ts c t ++ (x ∷ y ∷ rest)) ≡ refusal 3 (length (bytes_within m ts c t)) none
  pub row_3 :
      (m : ℕ) (ts : List (List Pixel)) (c : ℕ) (t : List Pixel) (x y : ℕ) (rest : List ℕ) → PixelsSoFar m ts c t
      → InRange (signed x) → (InRange (signed y) → ⊥)
      → read_answer (bytes_within m ts c t ++ (x ∷ y ∷ rest)) ≡ refusal 3 (suc (length (bytes_within m ts c t))) none
  pub repeat_4 :
      (m : ℕ) (ts : List (List Pixel)) (c : ℕ) (t : List Pixel) (x y : ℕ) (rest : List ℕ) → PixelsSoFar m ts c t
      → InRange (signed x) → InRange (signed y) → Memᴰ (at (signed x) (signed y)) t
      → read_answer (bytes_within m ts c t ++ (x ∷ y ∷ rest)) ≡ refusal 4 (length (bytes_within m ts c t)) none
  -- Card 3: "its place in a book's bytes being the pixel's first byte"
  pub lower_19 :
      (m : ℕ) (ts : List (List Pixel)) (c : ℕ) (t : List Pixel) (x y : ℕ) (rest : List ℕ) → PixelsSoFar m ts c t
      → InRange (signed x) → InRange (signed y) → (Memᴰ (at (signed x) (signed y)) t → ⊥)
      → (l : ℕ) → suc l ≡ length t → Lower (at (signed x) (signed y)) (get_or t l (at (pos 0) (pos 0)))
      → read_answer (bytes_within m ts c t ++ (x ∷ y ∷ rest)) ≡ refusal 19 (length (bytes_within m ts c t)) none
  pub extra_5 :
      (s rest : List ℕ) → read_answer s ≡ value tt → 1 ≤ length rest → read_answer (s ++ rest) ≡ refusal 5 (length s) none
  -- the record of a refused book is that of no pattern
  pub record_of_none : (s : List ℕ) (n i : ℕ) (c : Option LongClash) → read_answer s ≡ refusal n i c → (read_book s).book ≡ book_of []
  -- a pattern's part: "a second call with the same input gives the number and place"
  pub part_book :
      (s : List ℕ) (k n i : ℕ) (c : Option LongClash) → read_answer s ≡ refusal n i c
      → of_result (part_outcome s k) ≡ refusal n i c
  pub part_17 :
      (s : List ℕ) (k : ℕ) → read_answer s ≡ value tt → (read_book s).book.count ≤ k
      → of_result (part_outcome s k) ≡ refusal 17 0 none
