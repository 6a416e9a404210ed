-- What the reader and a pattern's part give for bytes that are not taken: what comes after a legal beginning decides number
-- and place.
-- Assumes nothing.
use Rattle.std.specs.Prelude.{Ok, Err}
use Prim.Native.Nat.{ℕ, suc, ◌+◌, ◌≤◌, ◌<◌}
use native.Mathlib.Omega.{arith}
use mathlib.Core.Path.{◌≡◌, refl, sym, ◌∙◌, ap, subst}
use mathlib.Core.Logic.{◌⊎◌, inl, inr}
use mathlib.Core.Option.{Option, none, some}
use mathlib.Core.List.{List, [], ◌∷◌, ◌++◌, Memᴰ}
use lib.Dec.{leb}
use lib.ListN.{length, get_or}
use Rattle.integers.proofs.Comparisons.{leb_iff, leb_false_iff}
use Rattle.scope.specs.Search.{first, gather, whenever, first_of}
use Rattle.scope.specs.Plans.{Pixel, at}
use Rattle.scope.specs.Books.{byte, signed, start, book_of}
use Rattle.scope.specs.Numbers.{refusal, turned_down, of_result, count_test, pixel_test, count_read, pattern_read}
use Rattle.scope.specs.Numbers.{extra_test, bytes_test, number_test}
use Rattle.scope.specs.Calls.{read_book, part_test, part_outcome}
use Rattle.scope.specs.promises.Meaning.{InRange, Lower}
use Rattle.scope.specs.promises.RefusalPromises.{bytes_so_far, PatternsSoFar, bytes_within, PixelsSoFar, read_answer, ReaderRefuses}
use Rattle.scope.specs.Cycles.{LongClash}
use Rattle.scope.specs.declared.Reading.{Reading}
use Rattle.scope.specs.declared.Refusal.{Refusal}
use Rattle.scope.specs.declared.Refusal.TheVariants.{Ends, Count, Coordinate, Repeat, Extra, NoPattern}
use Rattle.checks.proofs.Searches.{At, mem_gather, gather_mem, none_whenever, some_whenever}
use Rattle.checks.proofs.Lists.{append-nil}
use Rattle.checks.proofs.Patterns.{origin}
use Rattle.checks.proofs.Chains.{value_not_refusal, chain_refuses, chain_goes_on, answered_some, RefusedBy, answered_refusal}
use Rattle.checks.proofs.BookRefusals.{count_refused, column_refused, row_refused, repeat_refused, lower_refused}
use Rattle.book.proofs.Bytes.{Rest, length_of_rest, first_of_rest, place, pixel_in}
use Rattle.book.proofs.Written.{pixel_of_bytes}
use Rattle.book.proofs.Reading.{FromTo}
use Rattle.book.proofs.ReadWrite.{read_taken_iff}
use Rattle.book.proofs.Parts.{count_read_lem}
use Rattle.book.proofs.Prefixes.{rest_so_far, length_so_far, next_pattern_decides}
use Rattle.book.proofs.Prefixes.{rest_of_within, length_of_within, pixels_before_within, pixel_of_within, next_pixel_decides}
use Rattle.book.proofs.Longer.{more_after_taken}
use Rattle.book.proofs.Scanning.{ends_early, both_there, count_decides_from}

-- What each test of the reader gives where it refuses.
module _ (s : List ℕ) where
  count_chain :
      (most i : ℕ)
      → count_read s most i ≡ first_of (whenever (leb (length s) i) (Ends (length s)) ∷ count_test most (byte s i) i ∷ [])
  unfolding count_read
  count_chain most i = refl

  pub ends_before_count : (most i : ℕ) → length s ≤ i → count_read s most i ≡ some (Ends (length s))
  ends_before_count most i h = count_chain most i ∙ chain_refuses _ _ _ (some_whenever _ _ ((leb_iff (length s) i).1 h))

  pub count_not_taken : (most i : ℕ) → i < length s → (FromTo most (byte s i) → ⊥) → count_read s most i ≡ some (Count i)
  count_not_taken most i h bad =
      count_chain most i
      ∙ chain_goes_on _ _ (none_whenever _ _ ((leb_false_iff (length s) i).1 h))
      ∙ chain_refuses _ _ _ (count_refused most (byte s i) i bad)

  -- the refused first count decides on the bytes
  pub first_count_decides : (r : Refusal) → count_read s 16 0 ≡ some r → bytes_test s ≡ some r
  unfolding bytes_test
  first_count_decides r e =
      chain_refuses (count_read s 16 0) (first 0 (byte s 0) (λ n. pattern_read s (start s n)) ∷ extra_test s ∷ []) r e

  -- what the tests find is the reader's answer, and what it answers they found
  read_refused : (r : Refusal) → bytes_test s ≡ some r → read_answer s ≡ turned_down r
  unfolding read_book
  read_refused r e = ap (λ (x : Reading). of_result x.outcome) (answered_some (bytes_test s) _ _ r e)

  refused_by : (n i : ℕ) (c : Option LongClash) → read_answer s ≡ refusal n i c → RefusedBy (bytes_test s) n i c
  unfolding read_book
  refused_by n i c e =
      by_tests (answered_refusal (λ (x : Reading). of_result x.outcome) (bytes_test s) _ _ n i c (λ r. refl) e)
    where
      by_tests :
          RefusedBy (bytes_test s) n i c ⊎ ((bytes_test s ≡ none) × (of_result {A = Unit} (Ok tt) ≡ refusal n i c))
          → RefusedBy (bytes_test s) n i c
      by_tests (inl found) = found
      by_tests (inr other) = absurd (value_not_refusal other.1)

  -- and then it gives the record of no pattern
  no_record : (n i : ℕ) (c : Option LongClash) → read_answer s ≡ refusal n i c → (read_book s).book ≡ book_of []
  unfolding read_book
  no_record n i c e =
      let found = refused_by n i c e in
      ap (λ (x : Reading). x.book) (answered_some (bytes_test s) _ _ found.0 found.1)

  from_start : Rest s 0 s
  from_start = record { inside = omega arith; is = refl }

-- After whole patterns a count is due.
module _ (m : ℕ) (ts : List (List Pixel)) (legal : PatternsSoFar m ts) where
  ends_before_pattern : read_answer (bytes_so_far m ts) ≡ refusal 1 (length (bytes_so_far m ts)) none
  ends_before_pattern =
      read_refused s (Ends (length s)) (next_pattern_decides s m ts [] legal all (Ends (length s))
      (count_decides_from s (start s (length ts)) (Ends (length s))
      (ends_before_count s 64 (start s (length ts)) (omega (arith, length_so_far s m ts [] legal all)))))
    where
      s : List ℕ
      s = bytes_so_far m ts

      all : Rest s 0 (bytes_so_far m ts ++ [])
      all = record { inside = omega arith; is = sym (append-nil (bytes_so_far m ts)) }

  bad_count :
      (c : ℕ) (rest : List ℕ) → (FromTo 64 c → ⊥)
      → read_answer (bytes_so_far m ts ++ (c ∷ rest)) ≡ refusal 2 (length (bytes_so_far m ts)) none
  bad_count c rest bad =
      read_refused s (Count i) (next_pattern_decides s m ts (c ∷ rest) legal all (Count i)
      (count_decides_from s i (Count i)
      (count_not_taken s 64 i (omega (arith, length_of_rest here)) (λ h. bad (rw (first_of_rest here) at h)))))
      ∙ ap (λ j. refusal 2 j none) (length_so_far s m ts (c ∷ rest) legal all)
    where
      s : List ℕ
      s = bytes_so_far m ts ++ (c ∷ rest)

      all : Rest s 0 (bytes_so_far m ts ++ (c ∷ rest))
      all = from_start s

      i : ℕ
      i = start s (length ts)

      here : Rest s i (c ∷ rest)
      here = rest_so_far s m ts (c ∷ rest) legal all

-- After a pattern's first pixels both bytes of a pixel are due.
module _ (m : ℕ) (ts : List (List Pixel)) (c : ℕ) (t : List Pixel) (legal : PixelsSoFar m ts c t) where
  ends_in_pattern :
      (rest : List ℕ) → length rest < 2
      → read_answer (bytes_within m ts c t ++ rest) ≡ refusal 1 (length (bytes_within m ts c t ++ rest)) none
  ends_in_pattern rest short =
      read_refused s (Ends (length s)) (next_pixel_decides s m ts c t rest legal (from_start s) (Ends (length s))
      (ends_early s (start s (length ts) + 1) (length t)
      (omega (arith, length_of_rest (rest_of_within s m ts c t rest legal (from_start s))))))
    where
      s : List ℕ
      s = bytes_within m ts c t ++ rest

  module _ (x y : ℕ) (rest : List ℕ) where
    -- the bytes, the pixels of the pattern that is begun, and the place of the next
    abbrev whole : List ℕ
    whole = bytes_within m ts c t ++ (x ∷ y ∷ rest)

    abbrev pixel : ℕ → Pixel
    pixel = pixel_in whole (length ts)

    abbrev here : ℕ
    here = length (bytes_within m ts c t)

    pixel_at_rest : Rest whole (place whole (length ts) (length t)) (x ∷ y ∷ rest)
    pixel_at_rest = rest_of_within whole m ts c t (x ∷ y ∷ rest) legal (from_start whole)

    pixel_is : pixel (length t) ≡ at (signed x) (signed y)
    pixel_is = (pixel_of_bytes whole (length ts) (length t) x y rest pixel_at_rest).0

    bad_pixel : (r : Refusal) → pixel_test here (suc here) pixel (length t) ≡ some r → read_answer whole ≡ turned_down r
    bad_pixel r found =
        read_refused whole r (next_pixel_decides whole m ts c t (x ∷ y ∷ rest) legal (from_start whole) r
        (both_there whole (start whole (length ts) + 1) (length t) (omega (arith, length_of_rest pixel_at_rest))
        ∙ rw (is, next) found))
      where
        is : place whole (length ts) (length t) ≡ here
        is = length_of_within whole m ts c t (x ∷ y ∷ rest) legal (from_start whole)

        next : here + 1 ≡ suc here
        next = omega arith

    bad_column : (InRange (signed x) → ⊥) → read_answer whole ≡ refusal 3 here none
    unfolding at
    bad_column bad =
        bad_pixel (Coordinate here) (column_refused here (suc here) pixel (length t) (λ h. bad (rw pixel_is at h)))

    bad_row : InRange (signed x) → (InRange (signed y) → ⊥) → read_answer whole ≡ refusal 3 (suc here) none
    unfolding at
    bad_row column bad =
        bad_pixel (Coordinate (suc here))
        (row_refused here (suc here) pixel (length t) (rw pixel_is column) (λ h. bad (rw pixel_is at h)))

    repeated :
        InRange (signed x) → InRange (signed y) → Memᴰ (at (signed x) (signed y)) t → read_answer whole ≡ refusal 4 here none
    unfolding at
    repeated column row among =
        bad_pixel (Repeat here)
        (repeat_refused here (suc here) pixel (length t) (rw pixel_is column) (rw pixel_is row) earlier.index
        (omega (arith, earlier.below)) (earlier.is ∙ sym pixel_is))
      where
        earlier : At 0 (length t) pixel (at (signed x) (signed y))
        earlier =
            mem_gather 0 (length t) pixel (at (signed x) (signed y))
            (rw (pixels_before_within whole m ts c t (x ∷ y ∷ rest) legal (from_start whole)) among)

    falling :
        InRange (signed x) → InRange (signed y) → (Memᴰ (at (signed x) (signed y)) t → ⊥)
        → (l : ℕ) → suc l ≡ length t → Lower (at (signed x) (signed y)) (get_or t l origin) → read_answer whole ≡ refusal 19 here none
    unfolding at
    falling column row new l next below =
        bad_pixel (Refusal.Lower here)
        (lower_refused here (suc here) pixel (length t) (rw pixel_is column) (rw pixel_is row) unlike l next
        (rw (pixel_is, sym (pixel_of_within whole m ts c t (x ∷ y ∷ rest) legal (from_start whole) l (omega arith))) below))
      where
        unlike : (e : ℕ) → e < length t → pixel e ≡ pixel (length t) → ⊥
        unlike e h same =
            new
            (subst (λ (ws : List Pixel). Memᴰ (at (signed x) (signed y)) ws)
            (pixels_before_within whole m ts c t (x ∷ y ∷ rest) legal (from_start whole))
            (subst (λ (v : Pixel). Memᴰ v (gather 0 (length t) pixel)) (same ∙ pixel_is)
            (gather_mem 0 (length t) pixel e (omega arith) (omega arith))))

-- A pattern's part is refused as the book is, and by 17 where the book has no such pattern.
module _ (s : List ℕ) (k : ℕ) where
  part_refused : (r : Refusal) → part_test s k ≡ some r → of_result (part_outcome s k) ≡ turned_down r
  unfolding part_outcome
  part_refused r e = ap of_result (answered_some (part_test s k) Err (Ok tt) r e)

  pub part_of_refused : (r : Refusal) → bytes_test s ≡ some r → part_test s k ≡ some r
  unfolding part_test
  part_of_refused r e = chain_refuses (bytes_test s) (number_test (byte s 0) k ∷ []) r e

  pub no_such_part : bytes_test s ≡ none → byte s 0 ≤ k → part_test s k ≡ some NoPattern
  unfolding part_test number_test
  no_such_part e h =
      chain_goes_on (bytes_test s) (number_test (byte s 0) k ∷ []) e
      ∙ chain_refuses (number_test (byte s 0) k) [] NoPattern (some_whenever (leb (byte s 0) k) NoPattern ((leb_iff (byte s 0) k).1 h))

-- What comes next decides number and place.
pub reader_refuses : ReaderRefuses
unfolding byte
reader_refuses =
    record {
      no_byte_1 = read_refused [] (Ends 0) (first_count_decides [] (Ends 0) (ends_before_count [] 16 0 (omega arith)));
      patterns_2 = λ m rest bad.
          read_refused (m ∷ rest) (Count 0)
          (first_count_decides (m ∷ rest) (Count 0) (count_not_taken (m ∷ rest) 16 0 (omega arith) bad));
      count_1 = ends_before_pattern;
      pixels_2 = λ m ts c rest legal. bad_count m ts legal c rest;
      pixel_1 = λ m ts c t rest legal. ends_in_pattern m ts c t legal rest;
      column_3 = λ m ts c t x y rest legal. bad_column m ts c t legal x y rest;
      row_3 = λ m ts c t x y rest legal. bad_row m ts c t legal x y rest;
      repeat_4 = λ m ts c t x y rest legal. repeated m ts c t legal x y rest;
      lower_19 = λ m ts c t x y rest legal. falling m ts c t legal x y rest;
      extra_5 = λ s rest e more.
          read_refused (s ++ rest) (Extra (length s)) (more_after_taken s rest ((read_taken_iff s).0 e) more);
      record_of_none = no_record;
      part_book = λ s k n i c e.
          let (r, found, number, at_place, clash) = refused_by s n i c e in
          part_refused s k r (part_of_refused s k r found) ∙ cc;
      part_17 = λ s k e h.
          let taken : bytes_test s ≡ none = (read_taken_iff s).0 e in
          part_refused s k NoPattern (no_such_part s k taken (omega (arith, count_read_lem s taken)));
    }
