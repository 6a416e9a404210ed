-- A pattern's part of a book's bytes: when it is taken, what it is, where it stands, and that it is empty on a refusal.
-- Assumes nothing.
use Rattle.std.specs.Prelude.{Ok, Err}
use Prim.Native.Nat.{ℕ, zero, suc, ◌+◌, ◌≤◌, ◌<◌}
use native.Mathlib.Nat.{zero-add}
use native.Mathlib.Omega.{arith}
use mathlib.Core.Path.{◌≡◌, refl, sym, ◌∙◌, ap}
use mathlib.Core.Logic.Iff
use mathlib.Core.Logic.{◌↔◌, ◌⊎◌, inl, inr}
use mathlib.Core.Option.{Option, none}
use mathlib.Core.List.{List, [], ◌∷◌, flat_map}
use lib.ListN.{length, take}
use Rattle.scope.specs.Search.{gather}
use Rattle.scope.specs.Plans.{pattern_at, pixels, patterns}
use Rattle.scope.specs.Books.{byte, start, part_in, book_in, pixel_bytes, pattern_bytes}
use Rattle.scope.specs.Numbers.{value, refusal, of_result, bytes_test}
use Rattle.scope.specs.Calls.{read_book, part_test, pattern_part, part_outcome, part_place}
use Rattle.scope.specs.promises.BookPromises.{Bytes, PartsAre}
use Rattle.scope.specs.Cycles.{LongClash}
use Rattle.checks.proofs.Searches.{get_d_gather}
use Rattle.checks.proofs.Chains.{value_not_refusal, answered_none, answered_some, RefusedBy, answered_value, answered_refusal}
use Rattle.checks.proofs.Booleans.{last_test, test_before}
use Rattle.checks.proofs.Tests.{number_in_book_iff}
use Rattle.checks.proofs.Patterns.{get_d_patterns}
use Rattle.book.proofs.Bytes.{pattern_in, start_after, start_is_length, part_is_pixel_bytes}
use Rattle.book.proofs.Reading.{bytes_taken_iff}
use Rattle.book.proofs.ReadWrite.{book_read, read_taken_iff, count_of_read, patterns_of_read}

-- The record of bytes that are taken counts as they do.
pub count_read_lem : (s : List ℕ) → bytes_test s ≡ none → (read_book s).book.count ≡ byte s 0
count_read_lem s e = ap (λ book. book.count) (book_read s e) ∙ count_of_read s

-- The first of a list by index are the list of so many.
take_gather : {A : Type 0} (f : ℕ → A) (n c k : ℕ) → n ≤ c → take n (gather k c f) ≡ gather k n f
unfolding gather
take_gather f zero c k h = refl
take_gather f (suc n) zero k h = absurd (omega arith)
take_gather {A} f (suc n) (suc c) k h = ap {B = List A} (λ xs. f k ∷ xs) (take_gather f n c (suc k) (omega arith))

module _ (s : List ℕ) (n : ℕ) where
  -- a part is taken exactly if the bytes are and the count is above its number
  pub part_test_iff : (part_test s n ≡ none) ↔ ((bytes_test s ≡ none) × (n < byte s 0))
  unfolding part_test
  part_test_iff = (test_before Iff.rfl (last_test (number_in_book_iff (byte s 0) n))).iff

  part_taken : of_result (part_outcome s n) ≡ value tt → (bytes_test s ≡ none) × (n < byte s 0)
  unfolding part_outcome
  part_taken e = part_test_iff.0 (answered_value of_result (part_test s n) Err (Ok tt) tt (λ r. refl) e).0

  part_taken_iff :
      (of_result (part_outcome s n) ≡ value tt)
      ↔ ((of_result (read_book s).outcome ≡ value tt) × (n < (read_book s).book.count))
  unfolding part_outcome
  part_taken_iff = (
    λ e. let h = part_taken e in ((read_taken_iff s).1 h.0, omega (arith, count_read_lem s h.0)),
    λ (read, below).
        let e : bytes_test s ≡ none = (read_taken_iff s).0 read in
        ap of_result
        (answered_none (part_test s n) Err (Ok tt) (part_test_iff.1 (e, omega (arith, count_read_lem s e)))),
  )

  -- pattern n of the record is the pattern that the bytes tell
  pixels_of_read : bytes_test s ≡ none → n < byte s 0 → pixels (pattern_at (book_in s) n) ≡ pattern_in s n
  pixels_of_read e below =
      let h : n < (book_in s).count = omega (arith, count_of_read s) in
      cc (get_d_patterns (book_in s) n [] h, patterns_of_read s e, get_d_gather 0 (byte s 0) (pattern_in s) n [] below, zero-add n)

  part_bytes :
      Bytes s → of_result (part_outcome s n) ≡ value tt
      → pattern_part s n ≡ flat_map pixel_bytes (pixels (pattern_at (read_book s).book n))
  unfolding pattern_part
  part_bytes small e =
      let (read, below) = part_taken e in
      let inside : start s (suc n) ≤ length s = omega (arith, start_after s n (byte s 0) below, ((bytes_taken_iff s).0 read).0) in
      answered_none (part_test s n) (λ r. []) (part_in s n) (part_test_iff.1 (read, below))
      ∙ cc (part_is_pixel_bytes s small n inside, pixels_of_read read below, book_read s read)

  -- the patterns before it are the first that the bytes tell
  patterns_before_part : bytes_test s ≡ none → n < byte s 0 → take n (patterns (read_book s).book) ≡ gather 0 n (pattern_in s)
  patterns_before_part e below =
      ap (λ book. take n (patterns book)) (book_read s e) ∙ ap (take n) (patterns_of_read s e)
      ∙ take_gather (pattern_in s) n (byte s 0) 0 (omega arith)

  part_place_lem :
      of_result (part_outcome s n) ≡ value tt
      → part_place s n ≡ 1 + length (flat_map pattern_bytes (take n (patterns (read_book s).book))) + 1
  unfolding part_place start
  part_place_lem e =
      let (read, below) = part_taken e in
      let before : start s n ≡ 1 + length (flat_map pattern_bytes (gather 0 n (pattern_in s))) =
      ap (start s) (sym (zero-add n)) ∙ start_is_length s n 0 in
      answered_none (part_test s n) (λ r. 0) (start s n + 1) (part_test_iff.1 (read, below))
      ∙ rw (patterns_before_part read below) (ap (λ k. k + 1) before)

  -- on a refusal its tests found one
  part_refused : (m i : ℕ) (c : Option LongClash) → of_result (part_outcome s n) ≡ refusal m i c → RefusedBy (part_test s n) m i c
  unfolding part_outcome
  part_refused m i c e = by_tests (answered_refusal of_result (part_test s n) Err (Ok tt) m i c (λ r. refl) e)
    where
      by_tests :
          RefusedBy (part_test s n) m i c ⊎ ((part_test s n ≡ none) × (of_result {A = Unit} (Ok tt) ≡ refusal m i c))
          → RefusedBy (part_test s n) m i c
      by_tests (inl found) = found
      by_tests (inr other) = absurd (value_not_refusal other.1)

  part_empty : (m i : ℕ) (c : Option LongClash) → of_result (part_outcome s n) ≡ refusal m i c → pattern_part s n ≡ []
  unfolding pattern_part
  part_empty m i c e =
      let found = part_refused m i c e in
      answered_some (part_test s n) (λ r. []) (part_in s n) found.0 found.1

  part_place_empty : (m i : ℕ) (c : Option LongClash) → of_result (part_outcome s n) ≡ refusal m i c → part_place s n ≡ 0
  unfolding part_place
  part_place_empty m i c e =
      let found = part_refused m i c e in
      answered_some (part_test s n) (λ r. 0) (start s n + 1) found.0 found.1

-- A pattern's part is taken exactly if the book is and has that pattern, and is the bytes of its pixels where they stand;
-- else it is empty.
pub parts_are : PartsAre
parts_are =
    record {
      taken = part_taken_iff;
      bytes = λ s small n. part_bytes s n small;
      empty = part_empty;
      place = part_place_lem;
      place_empty = part_place_empty;
    }
