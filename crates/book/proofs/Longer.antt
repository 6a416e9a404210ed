-- Bytes with more bytes after them: what stands in them is read as before, and where they are taken the first byte after
-- them is refused.
-- Assumes nothing.
use Prim.Native.Nat.{ℕ, zero, suc, ◌+◌, ◌*◌, ◌≤◌, ◌<◌}
use native.Mathlib.Omega.{arith}
use mathlib.Core.Path.{◌≡◌, refl, ◌∙◌, ap}
use mathlib.Core.Option.{Option, none, some}
use mathlib.Core.List.{List, [], ◌∷◌, ◌++◌}
use lib.Dec.{ltb}
use lib.ListN.{length, length-append, get_or-append}
use Rattle.integers.proofs.Comparisons.{ltb_iff}
use Rattle.scope.specs.Search.{first, gather}
use Rattle.scope.specs.Books.{byte, start, pixel_from, pattern_from, pattern_of, book_in}
use Rattle.scope.specs.Numbers.{count_read, pattern_read, extra_test, bytes_test}
use Rattle.scope.specs.promises.Meaning.{IsPattern}
use Rattle.scope.specs.declared.Refusal.{Refusal}
use Rattle.scope.specs.declared.Refusal.TheVariants.{Extra}
use Rattle.checks.proofs.Searches.{gather_same, none_first, some_whenever}
use Rattle.checks.proofs.Chains.{chain_refuses, chain_goes_on}
use Rattle.book.proofs.Bytes.{pattern_in, next_start, start_after}
use Rattle.book.proofs.Reading.{FromTo, gathered_book_iff, count_read_iff, pattern_is_read, bytes_taken_iff}

-- Where the count and all patterns are read and a byte is left, that decides the answer.
pub extra_decides :
    (s : List ℕ) → count_read s 16 0 ≡ none → ((n : ℕ) → n < byte s 0 → pattern_read s (start s n) ≡ none)
    → start s (byte s 0) < length s
    → bytes_test s ≡ some (Extra (start s (byte s 0)))
unfolding bytes_test extra_test
extra_decides s count each more =
    chain_goes_on (count_read s 16 0) (first 0 (byte s 0) each_read ∷ extra_test s ∷ []) count
    ∙ chain_goes_on (first 0 (byte s 0) each_read) (extra_test s ∷ []) patterns
    ∙ chain_refuses (extra_test s) [] (Extra end) (some_whenever (ltb end (length s)) (Extra end) ((ltb_iff end (length s)).1 more))
  where
    end : ℕ
    end = start s (byte s 0)

    each_read : ℕ → Option Refusal
    each_read n = pattern_read s (start s n)

    patterns : first 0 (byte s 0) each_read ≡ none
    patterns = none_first 0 (byte s 0) each_read (λ n _ h. each n (omega arith))

-- Bytes s with rest after them: what stands before the end of s is read as in s alone.
module _ (s rest : List ℕ) where
  pub same_byte : (i : ℕ) → i < length s → byte (s ++ rest) i ≡ byte s i
  unfolding byte
  same_byte i h = get_or-append s rest 0 i h

  pub same_start : (n : ℕ) → start s n ≤ length s → start (s ++ rest) n ≡ start s n
  unfolding start
  same_start zero h = refl
  same_start (suc n) h = next_same (same_start n (omega arith))
    where
      next_same : start (s ++ rest) n ≡ start s n → start (s ++ rest) (suc n) ≡ start s (suc n)
      next_same e = rw (e, same_byte (start s n) (omega arith)) refl

  pub same_pixel_lem : (i e : ℕ) → i + 2 * e + 2 ≤ length s → pixel_from (s ++ rest) i e ≡ pixel_from s i e
  unfolding pixel_from
  same_pixel_lem i e h = rw (same_byte (i + 2 * e) (omega arith), same_byte (i + 2 * e + 1) (omega arith)) refl

  same_pattern_from : (i : ℕ) → i + 1 + 2 * byte s i ≤ length s → pattern_from (s ++ rest) i ≡ pattern_from s i
  unfolding pattern_from
  same_pattern_from i h =
      ap (λ u. gather 0 u (pixel_from (s ++ rest) (i + 1))) (same_byte i (omega arith))
      ∙ gather_same 0 (byte s i) (pixel_from (s ++ rest) (i + 1)) (pixel_from s (i + 1)) (λ e _ k. same_pixel_lem (i + 1) e (omega arith))

  same_pattern : (n : ℕ) → start s (suc n) ≤ length s → pattern_in (s ++ rest) n ≡ pattern_in s n
  same_pattern n h =
      let inside : start s n + 1 + 2 * byte s (start s n) ≤ length s = omega (arith, next_start s n) in
      ap (pattern_from (s ++ rest)) (same_start n (omega arith)) ∙ same_pattern_from (start s n) inside

-- Where s is taken, all of it is read as before.
module _ (s rest : List ℕ) (taken : bytes_test s ≡ none) where
  book_of_taken : FromTo 16 (byte s 0) × ((n : ℕ) → n < byte s 0 → IsPattern (pattern_of (pattern_in s n)))
  unfolding book_in
  book_of_taken = (gathered_book_iff (byte s 0) (pattern_in s)).0 ((bytes_taken_iff s).0 taken).1

  end_of_pattern : (n : ℕ) → n < byte s 0 → start s (suc n) ≤ length s
  end_of_pattern n h = omega (arith, start_after s n (byte s 0) h, ((bytes_taken_iff s).0 taken).0)

  some_byte : 0 < length s
  some_byte = omega (arith, end_of_pattern 0 book_of_taken.0.0, next_start s 0)

  same_first : byte (s ++ rest) 0 ≡ byte s 0
  same_first = same_byte s rest 0 some_byte

  same_end : start (s ++ rest) (byte (s ++ rest) 0) ≡ length s
  same_end =
      let end = ((bytes_taken_iff s).0 taken).0 in
      ap (start (s ++ rest)) same_first ∙ same_start s rest (byte s 0) (omega arith) ∙ end

  count_still_read : count_read (s ++ rest) 16 0 ≡ none
  count_still_read =
      (count_read_iff (s ++ rest) 16 0).1 (omega (arith, some_byte, length-append s rest), rw same_first book_of_taken.0)

  pattern_still_read : (n : ℕ) → n < byte (s ++ rest) 0 → pattern_read (s ++ rest) (start (s ++ rest) n) ≡ none
  pattern_still_read n h =
      let below : n < byte s 0 = omega (arith, same_first) in
      pattern_is_read (s ++ rest) (byte (s ++ rest) 0) n (omega (arith, same_end, length-append s rest)) h
      (rw (same_pattern s rest n (end_of_pattern n below)) (book_of_taken.1 n below))

  -- so they are refused for what comes after
  pub more_after_taken : 1 ≤ length rest → bytes_test (s ++ rest) ≡ some (Extra (length s))
  more_after_taken more =
      extra_decides (s ++ rest) count_still_read pattern_still_read (omega (arith, same_end, length-append s rest))
      ∙ ap (λ i. some (Extra i)) same_end
