-- When a book's bytes are taken: exactly if they end where their counts say and the record of them is a legal book.
-- Assumes nothing.
use Prim.Native.Nat.{ℕ, zero, suc, ◌+◌, ◌*◌, ◌≤◌, ◌<◌}
use native.Mathlib.Nat.{zero-add}
use native.Mathlib.Omega.{arith}
use mathlib.Core.Path.{◌≡◌, refl, sym, ◌∙◌, ap}
use mathlib.Core.Logic.Iff
use mathlib.Core.Logic.{◌↔◌}
use mathlib.Core.Option.{none}
use mathlib.Core.List.{List, []}
use lib.ListN.{length}
use Rattle.integers.proofs.Comparisons.{leb_false_iff, ltb_false_iff}
use Rattle.scope.specs.Search.{gather}
use Rattle.scope.specs.Plans.{Pixel, pixel_at, pattern_at}
use Rattle.scope.specs.Books.{byte, start, pixel_from, pattern_from, pattern_of, book_of, book_in}
use Rattle.scope.specs.Numbers.{count_read, pixel_read, pattern_read, extra_test, bytes_test}
use Rattle.scope.specs.promises.Meaning.{PixelLegal, IsPattern, IsBook}
use Rattle.scope.specs.declared.Refusal.TheVariants.{Ends, Extra}
use Rattle.checks.proofs.Searches.{length_gather, get_d_gather}
use Rattle.checks.proofs.Booleans.{refuses_iff, last_test, test_before, first_iff}
use Rattle.checks.proofs.BookTests.{count_legal_iff, pixel_legal_iff}
use Rattle.checks.proofs.Patterns.{origin, legal_same}
use Rattle.book.proofs.Records.{used_pattern_of, pixel_at_pattern_of, count_book_of, pattern_at_book_of}
use Rattle.book.proofs.Bytes.{pattern_in, patterns_in, pixel_in, next_start, start_after}

-- n is 1 to most.
abbrev pub FromTo : ℕ → ℕ → Type 0
FromTo most n = (1 ≤ n) × (n ≤ most)

-- The record of u gathered pixels is a pattern exactly if u is 1 to 64 and each pixel is legal.
module _ (u : ℕ) (f : ℕ → Pixel) where
  used_of_gathered : (pattern_of (gather 0 u f)).used ≡ u
  used_of_gathered = used_pattern_of (gather 0 u f) ∙ length_gather 0 u f

  pixel_of_gathered : u ≤ 64 → (e : ℕ) → e < u → pixel_at (pattern_of (gather 0 u f)) e ≡ f e
  pixel_of_gathered most e h =
      pixel_at_pattern_of (gather 0 u f) e (omega arith) ∙ get_d_gather 0 u f e origin h ∙ ap f (zero-add e)

  pub gathered_pattern_iff : IsPattern (pattern_of (gather 0 u f)) ↔ (FromTo 64 u × ((e : ℕ) → e < u → PixelLegal f e))
  gathered_pattern_iff = (there, back)
    where
      there : IsPattern (pattern_of (gather 0 u f)) → FromTo 64 u × ((e : ℕ) → e < u → PixelLegal f e)
      there legal = ((omega (arith, used_of_gathered), most), each)
        where
          most : u ≤ 64
          most = omega (arith, used_of_gathered)

          each : (e : ℕ) → e < u → PixelLegal f e
          each e h =
              legal_same e (pixel_at (pattern_of (gather 0 u f))) f (λ l before. pixel_of_gathered most l (omega arith))
              (legal.each e (omega (arith, used_of_gathered)))

      back : FromTo 64 u × ((e : ℕ) → e < u → PixelLegal f e) → IsPattern (pattern_of (gather 0 u f))
      back ((least, most), each) =
          record {
            least = omega (arith, used_of_gathered);
            most = omega (arith, used_of_gathered);
            each = λ e k.
                let h : e < u = omega (arith, used_of_gathered) in
                legal_same e f (pixel_at (pattern_of (gather 0 u f))) (λ l before. sym (pixel_of_gathered most l (omega arith)))
                (each e h);
          }

-- The record of c gathered patterns is a book exactly if c is 1 to 16 and the record of each is a pattern.
module _ (c : ℕ) (g : ℕ → List Pixel) where
  count_of_gathered : (book_of (gather 0 c g)).count ≡ c
  count_of_gathered = count_book_of (gather 0 c g) ∙ length_gather 0 c g

  pattern_of_gathered : c ≤ 16 → (n : ℕ) → n < c → pattern_at (book_of (gather 0 c g)) n ≡ pattern_of (g n)
  pattern_of_gathered most n h =
      pattern_at_book_of (gather 0 c g) n (omega arith) ∙ ap pattern_of (get_d_gather 0 c g n [] h ∙ ap g (zero-add n))

  pub gathered_book_iff : IsBook (book_of (gather 0 c g)) ↔ (FromTo 16 c × ((n : ℕ) → n < c → IsPattern (pattern_of (g n))))
  gathered_book_iff = (there, back)
    where
      there : IsBook (book_of (gather 0 c g)) → FromTo 16 c × ((n : ℕ) → n < c → IsPattern (pattern_of (g n)))
      there b =
          let most : c ≤ 16 = omega (arith, count_of_gathered) in (
            (omega (arith, count_of_gathered), most),
            λ n h.
                rw (pattern_of_gathered most n h) at (b.each n (omega (arith, count_of_gathered))),
          )

      back : FromTo 16 c × ((n : ℕ) → n < c → IsPattern (pattern_of (g n))) → IsBook (book_of (gather 0 c g))
      back ((least, most), each) =
          record {
            least = omega (arith, count_of_gathered);
            most = omega (arith, count_of_gathered);
            each = λ n k.
                let h : n < c = omega (arith, count_of_gathered) in
                rw (pattern_of_gathered most n h) (each n h);
          }

-- The pixel count at place i and all its pixels are there and legal; and so for all patterns, with no byte after them.
abbrev pub PatternRead : List ℕ → ℕ → Type 0
PatternRead s i =
    ((i < length s) × FromTo 64 (byte s i))
    × ((e : ℕ) → e < byte s i → (i + 1 + 2 * e + 2 ≤ length s) × PixelLegal (pixel_from s (i + 1)) e)

abbrev pub BytesRead : List ℕ → Type 0
BytesRead s =
    ((0 < length s) × FromTo 16 (byte s 0)) × (((n : ℕ) → n < byte s 0 → PatternRead s (start s n)) × (length s ≤ start s (byte s 0)))

-- What each test of the reader asks.
module _ (s : List ℕ) where
  pub count_read_iff : (most i : ℕ) → (count_read s most i ≡ none) ↔ ((i < length s) × FromTo most (byte s i))
  unfolding count_read
  count_read_iff most i =
      (test_before (refuses_iff _ (Ends (length s)) (leb_false_iff (length s) i)) (last_test (count_legal_iff most (byte s i) i))).iff

  pub pixel_read_iff : (i e : ℕ) → (pixel_read s i e ≡ none) ↔ ((i + 2 * e + 2 ≤ length s) × PixelLegal (pixel_from s i) e)
  unfolding pixel_read
  pixel_read_iff i e =
      (test_before (refuses_iff _ (Ends (length s)) (ltb_false_iff (length s) (i + 2 * e + 2)))
      (last_test (pixel_legal_iff (i + 2 * e) (i + 2 * e + 1) (pixel_from s i) e))).iff

  pub pattern_read_iff : (i : ℕ) → (pattern_read s i ≡ none) ↔ PatternRead s i
  unfolding pattern_read
  pattern_read_iff i =
      (test_before (count_read_iff 64 i) (last_test (first_iff (byte s i) (pixel_read s (i + 1)) _ (pixel_read_iff (i + 1))))).iff

  pub bytes_read_iff : (bytes_test s ≡ none) ↔ BytesRead s
  unfolding bytes_test extra_test
  bytes_read_iff =
      (test_before (count_read_iff 16 0)
      (test_before (first_iff (byte s 0) (λ n. pattern_read s (start s n)) _ (λ n. pattern_read_iff (start s n)))
      (last_test (refuses_iff _ (Extra (start s (byte s 0))) (ltb_false_iff (start s (byte s 0)) (length s)))))).iff

  -- the pixels of a pattern that was read reach to the next pattern
  pub pattern_inside : (i : ℕ) → PatternRead s i → i + 1 + 2 * byte s i ≤ length s
  pattern_inside i ((_, (least, most)), each) = by_count (byte s i) refl
    where
      by_count : (u : ℕ) → byte s i ≡ u → i + 1 + 2 * byte s i ≤ length s
      by_count zero count = absurd (omega arith)
      by_count (suc e) count = omega (arith, (each e (omega arith)).0)

  last_pattern_inside : (c : ℕ) → 1 ≤ c → ((n : ℕ) → n < c → PatternRead s (start s n)) → start s c ≤ length s
  last_pattern_inside zero least each = absurd (omega arith)
  last_pattern_inside (suc n) least each = omega (arith, pattern_inside (start s n) (each n (omega arith)), next_start s n)

  -- and where the bytes reach to pattern c, a pattern before it is read if its record is a pattern
  pub pattern_is_read :
      (c n : ℕ) → start s c ≤ length s → n < c → IsPattern (pattern_of (pattern_in s n)) → pattern_read s (start s n) ≡ none
  unfolding pattern_from
  pattern_is_read c n reach h legal =
      let (counted, each) = (gathered_pattern_iff (byte s (start s n)) (pixel_in s n)).0 legal in
      let inside : start s n + 1 + 2 * byte s (start s n) ≤ length s = omega (arith, start_after s n c h, next_start s n) in
      (pattern_read_iff (start s n)).1 ((omega arith, counted), λ e k. (omega arith, each e k))

  -- bytes are taken exactly if they end where their counts say and their record is a book
  pub bytes_taken_iff : (bytes_test s ≡ none) ↔ ((start s (byte s 0) ≡ length s) × IsBook (book_in s))
  unfolding book_in pattern_from
  bytes_taken_iff = Iff.trans bytes_read_iff (there, back)
    where
      there : BytesRead s → (start s (byte s 0) ≡ length s) × IsBook (book_of (patterns_in s))
      there ((_, counted), (each, over)) = (
        omega (arith, last_pattern_inside (byte s 0) counted.0 each),
        (gathered_book_iff (byte s 0) (pattern_in s)).1 (
          counted,
          λ n h.
              (gathered_pattern_iff (byte s (start s n)) (pixel_in s n)).1 ((each n h).0.1, λ e k. ((each n h).1 e k).1),
        ),
      )

      back : (start s (byte s 0) ≡ length s) × IsBook (book_of (patterns_in s)) → BytesRead s
      back (end, legal) =
          let book = (gathered_book_iff (byte s 0) (pattern_in s)).0 legal in
          let counted : FromTo 16 (byte s 0) = book.0 in (
            (omega (arith, start_after s 0 (byte s 0) counted.0, next_start s 0), counted),
            (λ n h. (pattern_read_iff (start s n)).0 (pattern_is_read (byte s 0) n (omega arith) h (book.1 n h)), omega arith),
          )
