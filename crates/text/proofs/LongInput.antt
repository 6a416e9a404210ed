-- More bytes than the longest book has, 1 + 16 × (1 + 2 × 64) = 2065: they are refused before their end, and what comes
-- after them changes nothing.
-- Assumes nothing.
use Prim.Native.Nat.{ℕ, zero, suc, ◌+◌, ◌*◌, ◌≤◌, ◌<◌}
use native.Mathlib.Omega.{arith}
use mathlib.Core.Path.{◌≡◌, refl, sym, ◌∙◌, ap, ap₂}
use mathlib.Core.Option.{Option, none, some}
use mathlib.Core.List.{List, [], ◌∷◌, ◌++◌}
use lib.ListN.{length, length-append}
use Rattle.integers.proofs.Comparisons.{leb_false_iff}
use Rattle.scope.specs.Search.{first, first_of}
use Rattle.scope.specs.Books.{byte, start, pixel_from}
use Rattle.scope.specs.Numbers.{count_read, pixel_read, pattern_read, bytes_test}
use Rattle.scope.specs.Calls.{read_book}
use Rattle.scope.specs.Program.{refused_line, program_text}
use Rattle.scope.specs.declared.Refusal.{Refusal}
use Rattle.scope.specs.declared.Refusal.TheVariants.{Extra}
use Rattle.scope.specs.declared.Reading.{Reading}
use Rattle.checks.proofs.Searches.{Found, first_found, first_none, first_same}
use Rattle.checks.proofs.Chains.{answered_some}
use Rattle.book.proofs.Unused.{pixel_test_same}
use Rattle.text.proofs.ProgramText.{text_of_refused}
use Rattle.book.proofs.Reading.{FromTo, count_read_iff, pattern_read_iff, bytes_read_iff}
use Rattle.book.proofs.Longer.{extra_decides, same_byte, same_start, same_pixel_lem}
use Rattle.book.proofs.Scanning.{both_there, count_decides_from}
use Rattle.book.proofs.ReaderRefusals.{first_count_decides}
use Rattle.book.proofs.Scanned.{pattern_decides}

-- Each pattern that is read has at most 1 + 2 × 64 bytes.
start_at_most : (s : List ℕ) (n : ℕ) → ((m : ℕ) → m < n → pattern_read s (start s m) ≡ none) → start s n ≤ 1 + 129 * n
unfolding start
start_at_most s zero before = omega arith
start_at_most s (suc n) before =
    let ((_, (_, most)), _) = (pattern_read_iff s (start s n)).0 (before n (omega arith)) in
    omega (arith, start_at_most s n (λ m h. before m (omega arith)))

-- Bytes s with rest after them: what looks only at places before the end of s finds the same.
module _ (s rest : List ℕ) where
  same_count_read : (most i : ℕ) → i < length s → count_read (s ++ rest) most i ≡ count_read s most i
  unfolding count_read
  same_count_read most i h =
      let there = (leb_false_iff (length s) i).1 h in
      let still = (leb_false_iff (length (s ++ rest)) i).1 (omega (arith, length-append s rest)) in
      rw (there, still, same_byte s rest i h) refl

  same_pixel_read : (i e : ℕ) → i + 2 * e + 2 ≤ length s → pixel_read (s ++ rest) i e ≡ pixel_read s i e
  same_pixel_read i e inside =
      both_there (s ++ rest) i e (omega (arith, length-append s rest))
      ∙ pixel_test_same (i + 2 * e) (i + 2 * e + 1) e (pixel_from (s ++ rest) i) (pixel_from s i)
      (λ l before. same_pixel_lem s rest i l (omega arith))
      ∙ sym (both_there s i e inside)

  -- a pattern's count, at place i, is refused, or at most 64
  module _ (i : ℕ) (inside : i + 129 ≤ length s) where
    same_pixels_read :
        byte s i ≤ 64 → first 0 (byte (s ++ rest) i) (pixel_read (s ++ rest) (i + 1)) ≡ first 0 (byte s i) (pixel_read s (i + 1))
    same_pixels_read most =
        ap (λ u. first 0 u (pixel_read (s ++ rest) (i + 1))) (same_byte s rest i (omega arith))
        ∙ first_same 0 (byte s i) (pixel_read (s ++ rest) (i + 1)) (pixel_read s (i + 1))
        (λ e _ h. same_pixel_read (i + 1) e (omega arith))

    same_pattern_read : pattern_read (s ++ rest) i ≡ pattern_read s i
    unfolding pattern_read
    same_pattern_read = by_count (count_read s 64 i) refl
      where
        same_count : count_read (s ++ rest) 64 i ≡ count_read s 64 i
        same_count = same_count_read 64 i (omega arith)

        by_count : (t : Option Refusal) → count_read s 64 i ≡ t → pattern_read (s ++ rest) i ≡ pattern_read s i
        by_count none e =
            ap₂ (λ t u. first_of (t ∷ u ∷ [])) same_count (same_pixels_read ((count_read_iff s 64 i).0 e).1.1)
        by_count (some r) e =
            count_decides_from (s ++ rest) i r (same_count ∙ e) ∙ sym (count_decides_from s i r e)

-- For bytes that are refused the program writes the refusal's line.
refused_text : (s : List ℕ) (r : Refusal) → bytes_test s ≡ some r → refused_line r ≡ program_text s
unfolding read_book
refused_text s r e = text_of_refused s (ap (λ (x : Reading). x.outcome) (answered_some (bytes_test s) _ _ r e))

-- Bytes s, more than the longest book has, with rest after them.
module _ (s rest : List ℕ) (long : 2065 < length s) where
  still_long : 2065 < length (s ++ rest)
  still_long = omega (arith, length-append s rest)

  same_first_count : byte (s ++ rest) 0 ≡ byte s 0
  same_first_count = same_byte s rest 0 (omega arith)

  same_first_read : count_read (s ++ rest) 16 0 ≡ count_read s 16 0
  same_first_read = same_count_read s rest 16 0 (omega arith)

  -- with a legal pattern count, the patterns up to the first that is refused are read alike
  module _ (counted : count_read s 16 0 ≡ none) where
    legal : FromTo 16 (byte s 0)
    legal = ((count_read_iff s 16 0).0 counted).1

    -- pattern n, as its tests find it in s and in the longer bytes
    abbrev in_short : ℕ → Option Refusal
    in_short n = pattern_read s (start s n)

    abbrev in_long : ℕ → Option Refusal
    in_long n = pattern_read (s ++ rest) (start (s ++ rest) n)

    read_alike : (n : ℕ) → n < byte s 0 → ((m : ℕ) → m < n → in_short m ≡ none) → in_long n ≡ in_short n
    read_alike n below before =
        let inside : start s n + 129 ≤ length s = omega (arith, legal, start_at_most s n before) in
        ap (pattern_read (s ++ rest)) (same_start s rest n (omega arith)) ∙ same_pattern_read s rest (start s n) inside

    -- that one decides
    pattern_refused : (r : Refusal) → Found 0 (byte s 0) in_short r → bytes_test (s ++ rest) ≡ bytes_test s
    pattern_refused r found =
        pattern_decides (s ++ rest) (omega (arith, still_long)) (rw same_first_count legal) n r
        (omega (arith, same_first_count)) still_before (read_alike n below before ∙ found.here)
        ∙ sym (pattern_decides s (omega arith) legal n r below before found.here)
      where
        n : ℕ
        n = found.where_is

        below : n < byte s 0
        below = omega (arith, found.below)

        before : (m : ℕ) → m < n → in_short m ≡ none
        before m h = found.before m (omega arith) h

        still_before : (m : ℕ) → m < n → in_long m ≡ none
        still_before m h = read_alike m (omega (arith, below)) (λ l k. before l (omega arith)) ∙ before m h

    -- and where all are read, the byte after the last does
    all_read : ((n : ℕ) → n < byte s 0 → in_short n ≡ none) → bytes_test (s ++ rest) ≡ bytes_test s
    all_read each =
        extra_decides (s ++ rest) (same_first_read ∙ counted) (λ n h. still n (omega (arith, same_first_count)))
        (omega (arith, still_long, same_end, end))
        ∙ ap (λ i. some (Extra i)) same_end
        ∙ sym (extra_decides s counted each (omega (arith, end)))
      where
        end : start s (byte s 0) ≤ 2065
        end = omega (arith, legal, start_at_most s (byte s 0) each)

        still : (n : ℕ) → n < byte s 0 → in_long n ≡ none
        still n below = read_alike n below (λ m h. each m (omega arith)) ∙ each n below

        same_end : start (s ++ rest) (byte (s ++ rest) 0) ≡ start s (byte s 0)
        same_end = ap (start (s ++ rest)) same_first_count ∙ same_start s rest (byte s 0) (omega (arith, end))

    by_patterns : (t : Option Refusal) → first 0 (byte s 0) in_short ≡ t → bytes_test (s ++ rest) ≡ bytes_test s
    by_patterns none e = all_read (λ n h. first_none 0 (byte s 0) in_short e n (omega arith) (omega arith))
    by_patterns (some r) e = pattern_refused r (first_found 0 (byte s 0) in_short r e)

  -- What comes after them does not count,
  long_input_decided : bytes_test (s ++ rest) ≡ bytes_test s
  long_input_decided = by_count (count_read s 16 0) refl
    where
      by_count : (t : Option Refusal) → count_read s 16 0 ≡ t → bytes_test (s ++ rest) ≡ bytes_test s
      by_count none e = by_patterns e (first 0 (byte s 0) (in_short e)) refl
      by_count (some r) e = first_count_decides (s ++ rest) r (same_first_read ∙ e) ∙ sym (first_count_decides s r e)

  -- they are always refused,
  long_input_refused : bytes_test s ≡ none → ⊥
  long_input_refused taken =
      let ((_, (_, most)), (each, over)) = (bytes_read_iff s).0 taken in
      omega (arith, start_at_most s (byte s 0) (λ n h. (pattern_read_iff s (start s n)).1 (each n h)))

  -- and the program writes the same.
  pub long_input_text : program_text (s ++ rest) ≡ program_text s
  long_input_text = by_test (bytes_test s) refl
    where
      by_test : (t : Option Refusal) → bytes_test s ≡ t → program_text (s ++ rest) ≡ program_text s
      by_test none e = absurd (long_input_refused e)
      by_test (some r) e = sym (refused_text (s ++ rest) r (long_input_decided ∙ e)) ∙ refused_text s r e
