-- The record of a list of patterns and the list of a record's patterns, by index, and that the one undoes the other.
-- Assumes nothing.
use Prim.Native.Nat.{ℕ, ◌≤◌, ◌<◌}
use native.Mathlib.Nat.{zero-add}
use native.Mathlib.Omega.{arith}
use mathlib.Core.Path.{◌≡◌, refl, ◌∙◌, ap}
use mathlib.Core.List.{List, [], map}
use lib.IntN.{ℤ, pos}
use lib.ListN.{length, get_or, get_or-eq_default, get_or-map}
use lib.Seq.{ext_get_or}
use Rattle.scope.specs.Plans.{Pixel, at, pixel_at, no_pattern, pattern_at, pixels, patterns}
use Rattle.scope.specs.Books.{filled, pattern_of, book_of}
use Rattle.checks.proofs.Searches.{length_gather, get_d_gather}
use Rattle.checks.proofs.Patterns.{origin, same_coordinates, length_pixels, get_d_pixels, length_patterns, get_d_patterns}

-- An array of n entries that begins with xs and goes on with x: its length, and the entry at a place below n.
length_filled : {A : Type 0} (n : ℕ) (x : A) (xs : List A) → length (filled n x xs) ≡ n
unfolding filled
length_filled n x xs = length_gather 0 n (λ i. get_or xs i x)

get_d_filled : {A : Type 0} (n : ℕ) (x : A) (xs : List A) (i : ℕ) (d : A) → i < n → get_or (filled n x xs) i d ≡ get_or xs i x
unfolding filled
get_d_filled n x xs i d h = get_d_gather 0 n (λ i. get_or xs i x) i d h ∙ ap (λ j. get_or xs j x) (zero-add i)

-- The record of a list of pixels counts them, in arrays of 64, and has each at its position, (0, 0) at those past them.
pub used_pattern_of : (t : List Pixel) → (pattern_of t).used ≡ length t
unfolding pattern_of
used_pattern_of t = refl

pub length_columns_pattern_of : (t : List Pixel) → length (pattern_of t).columns ≡ 64
unfolding pattern_of
length_columns_pattern_of t = length_filled 64 (pos 0) (map (λ v. v.column) t)

pub length_rows_pattern_of : (t : List Pixel) → length (pattern_of t).rows ≡ 64
unfolding pattern_of
length_rows_pattern_of t = length_filled 64 (pos 0) (map (λ v. v.row) t)

pub columns_pattern_of : (t : List Pixel) (e : ℕ) (d : ℤ) → e < 64 → get_or (pattern_of t).columns e d ≡ (get_or t e origin).column
unfolding pattern_of at
columns_pattern_of t e d h = get_d_filled 64 (pos 0) (map (λ v. v.column) t) e d h ∙ get_or-map (λ v. v.column) t e origin

pub rows_pattern_of : (t : List Pixel) (e : ℕ) (d : ℤ) → e < 64 → get_or (pattern_of t).rows e d ≡ (get_or t e origin).row
unfolding pattern_of at
rows_pattern_of t e d h = get_d_filled 64 (pos 0) (map (λ v. v.row) t) e d h ∙ get_or-map (λ v. v.row) t e origin

pub pixel_at_pattern_of : (t : List Pixel) (e : ℕ) → e < 64 → pixel_at (pattern_of t) e ≡ get_or t e origin
unfolding pixel_at
pixel_at_pattern_of t e h =
    same_coordinates (columns_pattern_of t e (pos 0) h) (rows_pattern_of t e (pos 0) h)

-- A list of at most 64 pixels is the pixels of its record.
pub pixels_pattern_of : (t : List Pixel) → length t ≤ 64 → pixels (pattern_of t) ≡ t
pixels_pattern_of t h = ext_get_or origin (pixels (pattern_of t)) t size entry
  where
    size : length (pixels (pattern_of t)) ≡ length t
    size = length_pixels (pattern_of t) ∙ used_pattern_of t

    entry : (e : ℕ) → e < length (pixels (pattern_of t)) → get_or (pixels (pattern_of t)) e origin ≡ get_or t e origin
    entry e below =
        get_d_pixels (pattern_of t) e origin (omega (arith, length_pixels (pattern_of t)))
        ∙ pixel_at_pattern_of t e (omega (arith, size))

-- The record of a list of patterns counts them, in an array of 16, and has the record of each at its number, that of no
-- pixel at those past them.
pub count_book_of : (ts : List (List Pixel)) → (book_of ts).count ≡ length ts
unfolding book_of
count_book_of ts = refl

pub length_array_book_of : (ts : List (List Pixel)) → length (book_of ts).patterns ≡ 16
unfolding book_of
length_array_book_of ts = length_filled 16 (pattern_of []) (map pattern_of ts)

pub pattern_at_book_of : (ts : List (List Pixel)) (n : ℕ) → n < 16 → pattern_at (book_of ts) n ≡ pattern_of (get_or ts n [])
unfolding pattern_at book_of
pattern_at_book_of ts n h = get_d_filled 16 (pattern_of []) (map pattern_of ts) n no_pattern h ∙ get_or-map pattern_of ts n []

pub pattern_at_book_of_past_array : (ts : List (List Pixel)) (n : ℕ) → 16 ≤ n → pattern_at (book_of ts) n ≡ no_pattern
unfolding pattern_at
pattern_at_book_of_past_array ts n h =
    get_or-eq_default (book_of ts).patterns no_pattern (omega (arith, length_array_book_of ts))

-- A list of at most 16 patterns of at most 64 pixels is the patterns of its record.
pub patterns_book_of :
    (ts : List (List Pixel)) → length ts ≤ 16 → ((n : ℕ) → n < length ts → length (get_or ts n []) ≤ 64) → patterns (book_of ts) ≡ ts
patterns_book_of ts most short = ext_get_or [] (patterns (book_of ts)) ts size entry
  where
    size : length (patterns (book_of ts)) ≡ length ts
    size = length_patterns (book_of ts) ∙ count_book_of ts

    entry : (n : ℕ) → n < length (patterns (book_of ts)) → get_or (patterns (book_of ts)) n [] ≡ get_or ts n []
    entry n below =
        get_d_patterns (book_of ts) n [] (omega (arith, length_patterns (book_of ts)))
        ∙ ap pixels (pattern_at_book_of ts n (omega (arith, size)))
        ∙ pixels_pattern_of (get_or ts n []) (short n (omega (arith, size)))
