-- A record's bytes as the writer puts them, pixel after pixel and pattern after pattern: what stands in the output and how
-- long it is after each.
-- Assumes nothing.
use Prim.Native.Nat.{ℕ, zero, suc, ◌+◌, ◌*◌, ◌≤◌, ◌<◌}
use native.Mathlib.Nat.{zero-add}
use native.Mathlib.Numerals.{add-one}
use native.Mathlib.Omega.{arith}
use native.Mathlib.Decide.{ℕ_discrete}
use mathlib.Core.Path.{◌≡◌, refl, sym, ◌∙◌, ap}
use mathlib.Core.Option.{none}
use mathlib.Core.List.{List, [], ◌∷◌, ◌++◌, flat_map}
use lib.IntN.{pos}
use lib.ListN.{length, get_or, take, drop, set, length-append}
use Rattle.scope.specs.Search.{gather}
use Rattle.scope.specs.Plans.{pixel_at, pixels, pattern_at, patterns}
use Rattle.scope.specs.Banks.{over_start}
use Rattle.scope.specs.Books.{unsigned, pixel_bytes, pattern_bytes, book_bytes}
use Rattle.scope.specs.Numbers.{record_test}
use Rattle.scope.specs.promises.Meaning.{IsBook}
use Rattle.scope.specs.declared.Pattern.{Pattern}
use Rattle.scope.specs.declared.Book.{Book}
use Rattle.checks.proofs.Searches.{length_gather, gather_one_more}
use Rattle.checks.proofs.Lists.{append_assoc, append-nil, length_flat_map, flat_map_append}
use Rattle.checks.proofs.Patterns.{length_pixels}
use Rattle.checks.proofs.BookTests.{book_legal_iff}
use Rattle.checks.proofs.Outputs.{Put, one_more_put, part_put}

-- The bytes of one item more come after those of the items before it.
items_one_more :
    {A : Type 0} (bytes : A → List ℕ) (item : ℕ → A) (n : ℕ)
    → flat_map bytes (gather 0 (n + 1) item) ≡ flat_map bytes (gather 0 n item) ++ bytes (item n)
unfolding flat_map
items_one_more bytes item n =
    rw (add-one, gather_one_more, zero-add, flat_map_append)
    (ap (λ (xs : List ℕ). flat_map bytes (gather 0 n item) ++ xs) (append-nil (bytes (item n))))

module _ (t : Pattern) where
  -- the two bytes of the pixel at position e
  abbrev column_byte : ℕ → ℕ
  column_byte e = unsigned (get_or t.columns e (pos 0))

  abbrev row_byte : ℕ → ℕ
  row_byte e = unsigned (get_or t.rows e (pos 0))

  -- a pattern's pixel count and the bytes of its first e pixels
  abbrev pub pixels_put : ℕ → List ℕ
  pixels_put e = t.used ∷ flat_map pixel_bytes (gather 0 e (pixel_at t))

  length_pixels_put : (e : ℕ) → length (pixels_put e) ≡ 1 + 2 * e
  unfolding pixel_bytes
  length_pixels_put e =
      omega (arith, length_flat_map pixel_bytes 2 (λ v. refl) (gather 0 e (pixel_at t)), length_gather 0 e (pixel_at t))

  -- one more pixel
  one_more_pixel : (e : ℕ) → pixels_put (e + 1) ≡ (pixels_put e ++ (column_byte e ∷ [])) ++ (row_byte e ∷ [])
  unfolding pixel_bytes pixel_at
  one_more_pixel e =
      ap (λ (xs : List ℕ). t.used ∷ xs)
      (items_one_more pixel_bytes (pixel_at t) e
      ∙ sym (append_assoc (flat_map pixel_bytes (gather 0 e (pixel_at t))) (column_byte e ∷ []) (row_byte e ∷ [])))

  pub pixel_put :
      {before out : List ℕ} {x y : ℕ} (e : ℕ) → x ≡ column_byte e → y ≡ row_byte e → Put (pixels_put e) before out
      → 2 + 2 * e < length before → Put (pixels_put (e + 1)) before (set (set out (1 + 2 * e) x) (2 + 2 * e) y)
  pixel_put e x-is y-is put room =
      let column = one_more_put put (1 + 2 * e) (column_byte e) (sym (length_pixels_put e)) (omega arith) in
      let place : 2 + 2 * e ≡ length (pixels_put e ++ (column_byte e ∷ [])) =
      omega (arith, length_pixels_put e, length-append (pixels_put e) (column_byte e ∷ [])) in
      rw (x-is, y-is, one_more_pixel e) (one_more_put column (2 + 2 * e) (row_byte e) place room)

  -- with all of them it is the pattern's bytes
  pub all_pixels_put : pixels_put t.used ≡ pattern_bytes (pixels t)
  unfolding pattern_bytes pixels
  all_pixels_put = ap (λ (n : ℕ). n ∷ flat_map pixel_bytes (pixels t)) (sym (length_pixels t))

  length_pattern_bytes : length (pattern_bytes (pixels t)) ≡ 1 + 2 * t.used
  length_pattern_bytes = ap length (sym all_pixels_put) ∙ length_pixels_put t.used

module _ (book : Book) where
  -- a book's pattern count and the bytes of its first n patterns
  abbrev pub patterns_put : ℕ → List ℕ
  patterns_put n = book.count ∷ flat_map pattern_bytes (gather 0 n (λ m. pixels (pattern_at book m)))

  pub length_no_pattern : length (patterns_put 0) ≡ 1
  unfolding flat_map gather
  length_no_pattern = refl

  -- one more pattern
  one_more_pattern : (n : ℕ) → patterns_put (n + 1) ≡ patterns_put n ++ pattern_bytes (pixels (pattern_at book n))
  one_more_pattern n =
      ap (λ (xs : List ℕ). book.count ∷ xs) (items_one_more pattern_bytes (λ m. pixels (pattern_at book m)) n)

  pub length_one_more_pattern : (n : ℕ) → length (patterns_put (n + 1)) ≡ length (patterns_put n) + 1 + 2 * (pattern_at book n).used
  length_one_more_pattern n =
      ap length (one_more_pattern n)
      ∙ length-append (patterns_put n) (pattern_bytes (pixels (pattern_at book n)))
      ∙ omega (arith, length_pattern_bytes (pattern_at book n))

  pub pattern_put :
      {before out : List ℕ} (n : ℕ) (part : List ℕ) (at k : ℕ) → Put (patterns_put n) before out
      → at ≡ length (patterns_put n) → length before ≤ at + k → at + 1 + 2 * (pattern_at book n).used ≤ length before
      → part ≡ over_start (pattern_bytes (pixels (pattern_at book n))) (take k (drop at out))
      → Put (patterns_put (n + 1)) before (take at out ++ (part ++ drop k (drop at out)))
  pattern_put n part at k put place h room come =
      rw (one_more_pattern n)
      (part_put put (pattern_bytes (pixels (pattern_at book n))) part at k place h
      (omega (arith, length_pattern_bytes (pattern_at book n))) come)

  -- with all of them it is the book's bytes
  pub all_patterns_put : patterns_put book.count ≡ book_bytes book
  unfolding book_bytes patterns
  all_patterns_put = refl

  -- fewer patterns have at most as many bytes
  length_fewer_patterns : (n m : ℕ) → n ≤ m → length (patterns_put n) ≤ length (patterns_put m)
  length_fewer_patterns n zero h = let none : n ≡ 0 = omega arith in rw none (omega arith)
  length_fewer_patterns n (suc m) h = by_order (ℕ_discrete n (suc m)) (length_fewer_patterns n m)
    where
      by_order :
          Dec (n ≡ suc m) → (n ≤ m → length (patterns_put n) ≤ length (patterns_put m))
          → length (patterns_put n) ≤ length (patterns_put (suc m))
      by_order (yes e) before = rw e (omega arith)
      by_order (no e) before = rw (← add-one m) (omega (arith, before (omega arith), length_one_more_pattern m))

  -- a pattern has at most 64 pixels, so 129 bytes
  length_some_patterns : IsBook book → (n : ℕ) → n ≤ book.count → length (patterns_put n) ≤ 1 + 129 * n
  length_some_patterns legal zero h = omega (arith, length_no_pattern)
  length_some_patterns legal (suc n) h =
      rw (← add-one n)
      (omega (arith, length_some_patterns legal n (omega arith), length_one_more_pattern n, (legal.each n (omega arith)).most))

-- What a book gives of its pattern n: the array has it, it has at most 64 pixels, those before it take at most 1936 bytes,
-- and its bytes end with the book's or before.
pub record PatternFits (book : Book) (n : ℕ) : Type 0 where
  pub number : n < 16
  pub pixel_count : (pattern_at book n).used ≤ 64
  pub before : length (patterns_put book n) ≤ 1936
  pub inside : length (patterns_put book n) + 1 + 2 * (pattern_at book n).used ≤ length (book_bytes book)

pub pattern_fits : (book : Book) (n : ℕ) → record_test book ≡ none → n < book.count → PatternFits book n
pattern_fits book n None-found h =
    let legal : IsBook book = (book_legal_iff book).0 None-found in
    record {
      number = omega (arith, legal.most);
      pixel_count = (legal.each n h).most;
      before = omega (arith, legal.most, length_some_patterns book legal n (omega arith));
      inside =
          rw (← all_patterns_put book)
          (omega (arith, length_one_more_pattern book n, length_fewer_patterns book (n + 1) book.count (omega arith)));
    }
