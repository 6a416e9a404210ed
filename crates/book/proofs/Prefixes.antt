-- Bytes that begin with a pattern count, whole patterns and perhaps a part of the next: what is read of them, and that the
-- pattern or pixel that comes next decides the answer if it is refused.
-- Assumes nothing.
use Prim.Native.Nat.{ℕ, ◌+◌, ◌<◌}
use native.Mathlib.Nat.{zero-add}
use native.Mathlib.Omega.{arith}
use mathlib.Core.Path.{◌≡◌, refl, sym, ◌∙◌, ap, subst}
use mathlib.Core.Option.{none, some}
use mathlib.Core.List.{List, [], ◌∷◌, ◌++◌, flat_map, Memᴰ}
use lib.ListN.{length, get_or, length-append}
use Rattle.scope.specs.Search.{gather}
use Rattle.scope.specs.Plans.{Pixel}
use Rattle.scope.specs.Books.{byte, start, pattern_of, pixel_bytes}
use Rattle.scope.specs.Numbers.{count_read, pixel_read, pattern_read, extra_test, bytes_test}
use Rattle.scope.specs.promises.Meaning.{PixelLegal, IsPattern}
use Rattle.scope.specs.promises.RefusalPromises.{bytes_so_far, PatternsSoFar, bytes_within, PixelsSoFar}
use Rattle.scope.specs.declared.Refusal.{Refusal}
use Rattle.checks.proofs.Searches.{get_d_gather}
use Rattle.checks.proofs.Lists.{append_assoc, mem_get_d, get_d_mem}
use Rattle.checks.proofs.BookRefusals.{search_refuses}
use Rattle.checks.proofs.Patterns.{origin, legal_same, pattern_in_range}
use Rattle.book.proofs.Records.{used_pattern_of, pixels_pattern_of}
use Rattle.book.proofs.Bytes.{Rest, length_of_rest, first_of_rest, others_of_rest, place, pixel_in, pattern_in, first_place_lem}
use Rattle.book.proofs.Written.{AllInRange, pixels_at_rest, patterns_at_rest}
use Rattle.book.proofs.Reading.{count_read_iff, pixel_read_iff, pattern_is_read}

-- The pixels of a list whose record is a pattern are in range.
pattern_list_in_range : (t : List Pixel) → IsPattern (pattern_of t) → AllInRange t
pattern_list_in_range t legal v m =
    let same = pixels_pattern_of t (omega (arith, legal.most, used_pattern_of t)) in
    pattern_in_range (pattern_of t) legal (subst (Memᴰ v) (sym same) m)

-- What stands from a place on tells how long what stands before it is.
place_after : {s : List ℕ} {i : ℕ} (xs ys : List ℕ) → Rest s 0 (xs ++ ys) → Rest s i ys → i ≡ length xs
place_after xs ys whole after = omega (arith, length_of_rest whole, length_of_rest after, length-append xs ys)

-- Bytes s that begin with the count m and the whole patterns ts, and go on with rest.
module _
    (s : List ℕ) (m : ℕ) (ts : List (List Pixel)) (rest : List ℕ)
    (legal : PatternsSoFar m ts) (all : Rest s 0 (bytes_so_far m ts ++ rest)) where
  patterns_so_far : (gather 0 (length ts) (pattern_in s) ≡ ts) × Rest s (start s (length ts)) rest
  patterns_so_far =
      let more = patterns_at_rest s ts rest (λ t k. pattern_list_in_range t (legal.whole t k)) (others_of_rest 1 refl all) in
      (more.0, rw zero-add at more.1)

  -- the next pattern begins where these end
  pub rest_so_far : Rest s (start s (length ts)) rest
  rest_so_far = patterns_so_far.1

  pub length_so_far : start s (length ts) ≡ length (bytes_so_far m ts)
  length_so_far = place_after (bytes_so_far m ts) rest all rest_so_far

  count_so_far : count_read s 16 0 ≡ none
  count_so_far =
      (count_read_iff s 16 0).1 (omega (arith, length_of_rest all), rw (first_of_rest all) (legal.least, legal.most))

  whole_so_far : (n : ℕ) → n < length ts → pattern_read s (start s n) ≡ none
  whole_so_far n h =
      pattern_is_read s (length ts) n rest_so_far.inside h (rw is (legal.whole _ (mem_get_d ts n [] h)))
    where
      is : pattern_in s n ≡ get_or ts n []
      is =
          ap (pattern_in s) (sym (zero-add n)) ∙ sym (get_d_gather 0 (length ts) (pattern_in s) n [] h)
          ∙ ap (λ us. get_or us n []) patterns_so_far.0

  -- and decides the answer if it is refused
  pub next_pattern_decides : (r : Refusal) → pattern_read s (start s (length ts)) ≡ some r → bytes_test s ≡ some r
  unfolding bytes_test
  next_pattern_decides r e =
      let below : length ts < byte s 0 = omega (arith, legal.due, first_of_rest all) in
      search_refuses (count_read s 16 0) (byte s 0) (λ n. pattern_read s (start s n)) (extra_test s ∷ []) r (length ts)
      count_so_far below e whole_so_far

-- Bytes s that begin so, have then the count c of the next pattern and its first pixels t, and go on with rest.
module _
    (s : List ℕ) (m : ℕ) (ts : List (List Pixel)) (c : ℕ) (t : List Pixel) (rest : List ℕ)
    (legal : PixelsSoFar m ts c t) (all : Rest s 0 (bytes_within m ts c t ++ rest)) where
  patterns_before_within : Rest s 0 (bytes_so_far m ts ++ (c ∷ (flat_map pixel_bytes t ++ rest)))
  patterns_before_within = subst (Rest s 0) (append_assoc (bytes_so_far m ts) (c ∷ flat_map pixel_bytes t) rest) all

  count_at_rest : Rest s (start s (length ts)) (c ∷ (flat_map pixel_bytes t ++ rest))
  count_at_rest = rest_so_far s m ts (c ∷ (flat_map pixel_bytes t ++ rest)) legal.first patterns_before_within

  in_range : AllInRange t
  in_range v k =
      let (e, h, is) = get_d_mem t origin k in
      (rw is at (legal.each e h).column, rw is at (legal.each e h).row)

  pixels_of_within : (gather 0 (length t) (pixel_in s (length ts)) ≡ t) × Rest s (place s (length ts) (length t)) rest
  pixels_of_within =
      let after_count = others_of_rest (place s (length ts) 0) (first_place_lem s (length ts)) count_at_rest in
      let more = pixels_at_rest s (length ts) t rest in_range after_count in
      (more.0, rw zero-add at more.1)

  -- the next pixel stands where these end, and these are the ones before it
  pub rest_of_within : Rest s (place s (length ts) (length t)) rest
  rest_of_within = pixels_of_within.1

  pub length_of_within : place s (length ts) (length t) ≡ length (bytes_within m ts c t)
  length_of_within = place_after (bytes_within m ts c t) rest all rest_of_within

  pub pixels_before_within : gather 0 (length t) (pixel_in s (length ts)) ≡ t
  pixels_before_within = pixels_of_within.0

  pub pixel_of_within : (e : ℕ) → e < length t → get_or t e origin ≡ pixel_in s (length ts) e
  pixel_of_within e h =
      ap (λ vs. get_or vs e origin) (sym pixels_before_within) ∙ get_d_gather 0 (length t) (pixel_in s (length ts)) e origin h
      ∙ ap (pixel_in s (length ts)) (zero-add e)

  legal_of_within : (e : ℕ) → e < length t → PixelLegal (pixel_in s (length ts)) e
  legal_of_within e h = legal_same e _ (pixel_in s (length ts)) (λ l before. pixel_of_within l (omega arith)) (legal.each e h)

  each_of_within : (e : ℕ) → e < length t → pixel_read s (start s (length ts) + 1) e ≡ none
  each_of_within e h = (pixel_read_iff s (start s (length ts) + 1) e).1 (omega (arith, rest_of_within.inside), legal_of_within e h)

  count_of_within : count_read s 64 (start s (length ts)) ≡ none
  count_of_within =
      (count_read_iff s 64 (start s (length ts))).1
      (omega (arith, length_of_rest count_at_rest), rw (first_of_rest count_at_rest) (omega (arith, legal.due), legal.most))

  -- and it decides the answer if it is refused
  pub next_pixel_decides : (r : Refusal) → pixel_read s (start s (length ts) + 1) (length t) ≡ some r → bytes_test s ≡ some r
  unfolding pattern_read
  next_pixel_decides r e =
      let due : length t < byte s (start s (length ts)) = omega (arith, legal.due, first_of_rest count_at_rest) in
      next_pattern_decides s m ts (c ∷ (flat_map pixel_bytes t ++ rest)) legal.first patterns_before_within r
      (search_refuses (count_read s 64 (start s (length ts))) (byte s (start s (length ts)))
      (pixel_read s (start s (length ts) + 1)) [] r (length t) count_of_within due e each_of_within)
