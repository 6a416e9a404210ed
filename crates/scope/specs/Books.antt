-- Document 01, "Pattern book": the bytes of a book, and the record of them.
-- Assumes nothing.
use Rattle.std.specs.Prelude.{ℕ, zero, suc, ◌+◌, ◌*◌, cond, ltb, ℤ, pos, ◌-ℤ◌, length, get_or, take, drop}
use mathlib.Core.List.{List, [], ◌∷◌, map, flat_map}
use Rattle.integers.specs.Division.{floor_mod}
use Rattle.scope.specs.Search.{gather}
use Rattle.scope.specs.Plans.{Pixel, patterns}
use Rattle.scope.specs.declared.Pattern.{Pattern}
use Rattle.scope.specs.declared.Book.{Book}

-- the byte at a place
unfoldable pub byte : List ℕ → ℕ → ℕ
byte s i = get_or s i 0

-- a byte's number in "8-bit two's complement", and the byte of a number
unfoldable pub signed : ℕ → ℤ
signed n = cond (ltb n 128) (pos n) (pos n -ℤ pos 256)

unfoldable pub unsigned : ℤ → ℕ
unfolding floor_mod
unsigned z = floor_mod z 256

-- "the pattern count; then for each pattern, in number order, its pixel count and its pixels, two bytes each":
-- the place of pattern n's pixel count; for n the pattern count, the place after the last pattern
unfoldable pub start : List ℕ → ℕ → ℕ
unfolding byte
start s zero = 1
start s (suc n) = start s n + 1 + 2 * byte s (start s n)

-- "two bytes each, column then row": the pixel at position e of those that begin at place i
unfoldable pub pixel_from : List ℕ → ℕ → ℕ → Pixel
unfolding signed byte
pixel_from s i e = record { column = signed (byte s (i + 2 * e)); row = signed (byte s (i + 2 * e + 1)) }

-- "its pixel count and its pixels": the pattern whose pixel count is at place i
unfoldable pub pattern_from : List ℕ → ℕ → List Pixel
unfolding gather pixel_from byte
pattern_from s i = gather 0 (byte s i) (pixel_from s (i + 1))

-- "that pattern's pixel bytes as the part of the book where they stand": from the first pixel's place on, two to a pixel
unfoldable pub part_in : List ℕ → ℕ → List ℕ
unfolding byte start
part_in s n = take (2 * byte s (start s n)) (drop (start s n + 1) s)

-- "a fixed array of 16 patterns, each with its arrays of 64 columns and rows and a count": the record of a list of
-- patterns. "The unused entries don't count; a reader sets them to 0."
unfoldable pub filled : {A : Type 0} → ℕ → A → List A → List A
unfolding gather
filled n x xs = gather 0 n λ i. get_or xs i x

unfoldable pub pattern_of : List Pixel → Pattern
unfolding filled
pattern_of t =
    record {
      columns = filled 64 (pos 0) (map (λ v. v.column) t);
      rows = filled 64 (pos 0) (map (λ v. v.row) t);
      used = length t;
    }

unfoldable pub book_of : List (List Pixel) → Book
unfolding filled pattern_of
book_of ts = record { patterns = filled 16 (pattern_of []) (map pattern_of ts); count = length ts }

-- the record of a book's bytes
unfoldable pub book_in : List ℕ → Book
unfolding book_of gather pattern_from byte start
book_in s = book_of (gather 0 (byte s 0) λ n. pattern_from s (start s n))

-- and the bytes of a record
unfoldable pub pixel_bytes : Pixel → List ℕ
unfolding unsigned
pixel_bytes v = unsigned v.column ∷ unsigned v.row ∷ []

unfoldable pub pattern_bytes : List Pixel → List ℕ
unfolding flat_map pixel_bytes
pattern_bytes t = length t ∷ flat_map pixel_bytes t

unfoldable pub book_bytes : Book → List ℕ
unfolding flat_map pattern_bytes patterns
book_bytes book = book.count ∷ flat_map pattern_bytes (patterns book)
