-- What is promised of reading and writing books, and of the program. Statements; Promises.antt has them all.
-- Assumes nothing.
use Rattle.std.specs.Prelude.{ℕ, ◌+◌, ◌*◌, ◌-◌, ◌≤◌, ◌<◌, ◌≡◌, ◌↔◌, pos, ◌-ℤ◌, length, get_or, take, drop}
use Rattle.std.proofs.Math.Option.{Option}
use mathlib.Core.List.{List, [], ◌∷◌, ◌++◌, flat_map, Memᴰ}
use Rattle.scope.specs.Plans.{Pixel, at, pixel_at, pattern_at, pixels, patterns, banks}
use Rattle.scope.specs.Banks.{over_start}
use Rattle.scope.specs.Books.{byte, signed, unsigned, book_of, pixel_bytes, pattern_bytes, book_bytes}
use Rattle.scope.specs.Numbers.{value, refusal, of_result, record_test}
use Rattle.scope.specs.Calls.{read_book, pattern_part, part_outcome, part_place, write_book, find, fewest, check, moved, fetch, ring_fetch, write_cycles}
use Rattle.scope.specs.Program.{ascii, decimal, program_text}
use Rattle.scope.specs.promises.Meaning.{InRange, Lower, IsPattern, IsBook}
use Rattle.scope.specs.declared.Plan.{Plan}
use Rattle.scope.specs.declared.Pattern.{Pattern}
use Rattle.scope.specs.declared.Book.{Book}
use Rattle.scope.specs.Cycles.{LongClash}

-- "8-bit two's complement": 0 to 127 as they are, 128 to 255 less 256; and back
pub record TwosComplement : Type 0 where
  pub low : (n : ℕ) → n < 128 → signed n ≡ pos n
  pub high : (n : ℕ) → 128 ≤ n → n < 256 → signed n ≡ pos n -ℤ pos 256
  pub back : (n : ℕ) → n < 256 → unsigned (signed n) ≡ n

abbrev pub Bytes : List ℕ → Type 0
Bytes s = (i : ℕ) → byte s i < 256

-- bytes are taken exactly if they are those of a legal record
abbrev pub BytesMean : Type 0
BytesMean =
    (s : List ℕ) → Bytes s
    → (of_result (read_book s).outcome ≡ value tt) ↔ ((book : Book) × IsBook book × (book_bytes book ≡ s))

-- the bytes of the record were written, and reading them gives the record with its unused entries 0
pub record ReadsBack (book : Book) (out : List ℕ) (n : ℕ) : Type 0 where
  pub bytes : take n (write_book book out).content ≡ book_bytes book
  pub read : of_result (read_book (take n (write_book book out).content)).outcome ≡ value tt
  pub record_is : (read_book (take n (write_book book out).content)).book ≡ book_of (patterns book)
  pub rest : drop n (write_book book out).content ≡ drop n out
  pub as_long : length (write_book book out).content ≡ length out

abbrev pub ReadAfterWrite : Type 0
ReadAfterWrite = (book : Book) (out : List ℕ) (n : ℕ) → of_result (write_book book out).answer ≡ value n → ReadsBack book out n

-- what was read is the legal record of these bytes, and writing it gives them
pub record WritesBack (s : List ℕ) : Type 0 where
  pub legal_book : IsBook (read_book s).book
  pub same : book_bytes (read_book s).book ≡ s
  pub count : (out : List ℕ) → length s ≤ length out → of_result (write_book (read_book s).book out).answer ≡ value (length s)
  pub bytes : (out : List ℕ) → length s ≤ length out → (write_book (read_book s).book out).content ≡ over_start s out

abbrev pub WriteAfterRead : Type 0
WriteAfterRead = (s : List ℕ) → Bytes s → of_result (read_book s).outcome ≡ value tt → WritesBack s

-- Document 02, Card 3: "Pixels in a pattern now ascend by row, then column." A pattern is legal exactly if it is sorted: each
-- pixel is lower than all that follow it, so it is there once
pub record Sorted (t : Pattern) : Type 0 where
  pub least : 1 ≤ t.used
  pub most : t.used ≤ 64
  pub in_range : (e : ℕ) → e < t.used → InRange (pixel_at t e).column × InRange (pixel_at t e).row
  pub ascending : (e l : ℕ) → e < l → l < t.used → Lower (pixel_at t e) (pixel_at t l)

-- "the same patterns under the same numbers", each as a set of pixels
pub record SameSets (book other : Book) : Type 0 where
  pub count : book.count ≡ other.count
  pub each :
      (n : ℕ) → n < book.count → (v : Pixel)
      → Memᴰ v (pixels (pattern_at book n)) ↔ Memᴰ v (pixels (pattern_at other n))

pub record PixelsAscend : Type 0 where
  pub sorted : (t : Pattern) → IsPattern t ↔ Sorted t
  -- "Two books with the same patterns under the same numbers are then the same bytes", as records and as bytes that were read
  pub same_bytes : (book other : Book) → IsBook book → IsBook other → SameSets book other → book_bytes book ≡ book_bytes other
  pub same_read :
      (s t : List ℕ) → Bytes s → Bytes t → of_result (read_book s).outcome ≡ value tt → of_result (read_book t).outcome ≡ value tt
      → SameSets (read_book s).book (read_book t).book → s ≡ t
  -- "Fetched words follow the new order": so do the pixels of a moved pattern, whose words a fetch gives (PictureCalls.fetches)
  pub fetched :
      (book : Book) (n : ℕ) (o : Pixel) (e l : ℕ) → IsBook book → n < book.count → e < l → l < (pattern_at book n).used
      → Lower (get_or (moved (pattern_at book n) o) e (at (pos 0) (pos 0))) (get_or (moved (pattern_at book n) o) l (at (pos 0) (pos 0)))

-- a pattern's part of the bytes is taken exactly if the book is and has that pattern, and is the bytes of its pixels
pub record PartsAre : Type 0 where
  pub taken :
      (s : List ℕ) (n : ℕ) → (of_result (part_outcome s n) ≡ value tt)
      ↔ ((of_result (read_book s).outcome ≡ value tt) × (n < (read_book s).book.count))
  pub bytes :
      (s : List ℕ) → Bytes s → (n : ℕ) → of_result (part_outcome s n) ≡ value tt
      → pattern_part s n ≡ flat_map pixel_bytes (pixels (pattern_at (read_book s).book n))
  pub empty : (s : List ℕ) (n m i : ℕ) (c : Option LongClash) → of_result (part_outcome s n) ≡ refusal m i c → pattern_part s n ≡ []
  -- "the part of the book where they stand": after the pattern count, the patterns before it and its own pixel count
  pub place :
      (s : List ℕ) (n : ℕ) → of_result (part_outcome s n) ≡ value tt
      → part_place s n ≡ 1 + length (flat_map pattern_bytes (take n (patterns (read_book s).book))) + 1
  -- an empty part is at the start
  pub place_empty : (s : List ℕ) (n m i : ℕ) (c : Option LongClash) → of_result (part_outcome s n) ≡ refusal m i c → part_place s n ≡ 0

-- two records agree where it counts
pub record SameUsed (book other : Book) : Type 0 where
  pub count : book.count ≡ other.count
  pub used : (n : ℕ) → n < book.count → (pattern_at book n).used ≡ (pattern_at other n).used
  pub pixel : (n e : ℕ) → n < book.count → e < (pattern_at book n).used → pixel_at (pattern_at book n) e ≡ pixel_at (pattern_at other n) e

-- "The unused entries don't count": such records are refused alike, have the same patterns, and every call answers alike
pub record UnusedDontCount : Type 0 where
  pub refused : (book other : Book) → SameUsed book other → record_test book ≡ record_test other
  pub same : (book other : Book) → SameUsed book other → patterns book ≡ patterns other
  pub rebuilt : (book : Book) → IsBook book → SameUsed book (book_of (patterns book))
  pub finds : (book other : Book) → SameUsed book other → (r limit : ℕ) → find book r limit ≡ find other r limit
  pub counts : (book other : Book) → SameUsed book other → (r : ℕ) → fewest book r ≡ fewest other r
  pub checks : (book other : Book) → SameUsed book other → (r : ℕ) (x y : Pixel) → check book r x y ≡ check other r x y
  pub writes : (book other : Book) → SameUsed book other → (out : List ℕ) → write_book book out ≡ write_book other out
  pub fetches :
      (book other : Book) → SameUsed book other → (r : ℕ) (p : Plan) (W H : ℕ) (mem : List ℕ) (n : ℕ) (o : Pixel) (out : List ℕ)
      → fetch book r p W H mem n o out ≡ fetch other r p W H mem n o out
  pub ring_fetches :
      (book other : Book) → SameUsed book other → (r : ℕ) (p : Plan) (W H : ℕ) (mem : List ℕ) (n : ℕ) (o : Pixel) (out : List ℕ)
      → ring_fetch book r p W H mem n o out ≡ ring_fetch other r p W H mem n o out
  pub writes_cycles :
      (book other : Book) → SameUsed book other → (r : ℕ) (p : Plan) (n : ℕ) (out : List ℕ)
      → write_cycles book r p n out ≡ write_cycles other r p n out

-- "a reader sets them to 0", in arrays of 16 and 64; the 1 is what would be found past an array's end
pub record ReaderSetsZero : Type 0 where
  pub patterns_16 : (s : List ℕ) → length (read_book s).book.patterns ≡ 16
  pub columns_64 : (s : List ℕ) (n : ℕ) → n < 16 → length (pattern_at (read_book s).book n).columns ≡ 64
  pub rows_64 : (s : List ℕ) (n : ℕ) → n < 16 → length (pattern_at (read_book s).book n).rows ≡ 64
  pub used : (s : List ℕ) (n : ℕ) → (read_book s).book.count ≤ n → (pattern_at (read_book s).book n).used ≡ 0
  pub column :
      (s : List ℕ) (n e : ℕ) → n < 16 → e < 64 → (pattern_at (read_book s).book n).used ≤ e
      → get_or (pattern_at (read_book s).book n).columns e (pos 1) ≡ pos 0
  pub row :
      (s : List ℕ) (n e : ℕ) → n < 16 → e < 64 → (pattern_at (read_book s).book n).used ≤ e
      → get_or (pattern_at (read_book s).book n).rows e (pos 1) ≡ pos 0

-- The number that decimal digits in ASCII tell.
unfoldable pub number_in : ℕ → List ℕ → ℕ
number_in n [] = n
number_in n (c ∷ cs) = number_in (n * 10 + (c - 48)) cs

-- `decimal n` is digits that tell n, and begins with 0 only where it is one digit
pub record DecimalMeans : Type 0 where
  pub tells : (n : ℕ) → number_in 0 (decimal n) ≡ n
  pub some_digit : (n : ℕ) → 1 ≤ length (decimal n)
  pub digit : (n c : ℕ) → Memᴰ c (decimal n) → (48 ≤ c) × (c ≤ 57)
  pub no_zero_first : (n : ℕ) → get_or (decimal n) 0 0 ≡ 48 → length (decimal n) ≡ 1

-- "The program reads a book from standard input and uses limit 1024": a plan's two lines, or the reader's refusal
pub record ProgramWrites : Type 0 where
  pub plan_lines_lem :
      (s : List ℕ) (p : Plan) → of_result (read_book s).outcome ≡ value tt
      → of_result (find (read_book s).book 1 1024) ≡ value p
      → program_text s ≡ ascii "banks " ++ decimal (banks p) ++ ascii "\nplan " ++ decimal p.a ++ ascii " " ++ decimal p.b ++ ascii " " ++ decimal p.d ++ ascii "\n"
  pub refused_line_lem :
      (s : List ℕ) (n i : ℕ) (c : Option LongClash) → of_result (read_book s).outcome ≡ refusal n i c
      → program_text s ≡ ascii "refused " ++ decimal n ++ ascii "\n"
