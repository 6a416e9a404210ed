-- The unused entries of a record count neither in its tests nor in its patterns, and the reader sets them to 0.
-- Assumes nothing.
use Rattle.std.specs.Prelude.{Ok, Err}
use Prim.Native.Nat.{ℕ, zero, suc, ◌≤◌, ◌<◌}
use native.Mathlib.Omega.{arith}
use native.Mathlib.Decide.{dec_lt}
use mathlib.Core.Path.{◌≡◌, refl, sym, ◌∙◌, ap, ap₂}
use mathlib.Core.Option.{Option, none, some}
use mathlib.Core.List.{List, []}
use lib.IntN.{pos}
use lib.ListN.{length, get_or, get_or-eq_default}
use Rattle.scope.specs.Search.{first, gather}
use Rattle.scope.specs.Plans.{Pixel, at, same_pixel, lower, pixel_at, no_pattern, pattern_at, pixels, patterns}
use Rattle.scope.specs.Books.{pattern_of, book_of, book_in}
use Rattle.scope.specs.Numbers.{repeats, falls, pixel_test, pattern_test, record_test, bytes_test}
use Rattle.scope.specs.Calls.{answered, read_book}
use Rattle.scope.specs.promises.Meaning.{IsBook}
use Rattle.scope.specs.promises.BookPromises.{SameUsed, ReaderSetsZero}
use Rattle.scope.specs.declared.Book.{Book}
use Rattle.scope.specs.declared.Refusal.{Refusal}
use Rattle.scope.specs.declared.Reading.{Reading}
use Rattle.checks.proofs.Searches.{first_same, gather_same, some_below_same}
use Rattle.checks.proofs.Patterns.{origin, length_pixels, get_d_pixels, length_patterns, get_d_patterns}
use Rattle.book.proofs.Records.{used_pattern_of, length_columns_pattern_of, length_rows_pattern_of}
use Rattle.book.proofs.Records.{columns_pattern_of, rows_pattern_of, pixel_at_pattern_of}
use Rattle.book.proofs.Records.{count_book_of, length_array_book_of, pattern_at_book_of, pattern_at_book_of_past_array}
use Rattle.book.proofs.Bytes.{patterns_in}

-- A search and a list from 0 on see only their numbers.
first_from_0_same :
    {A : Type 0} {n m : ℕ} {f g : ℕ → Option A} → n ≡ m → ((i : ℕ) → i < n → f i ≡ g i) → first 0 n f ≡ first 0 m g
first_from_0_same {n} {f} {g} e same =
    first_same 0 n f g (λ i low high. same i (omega arith)) ∙ ap (λ count. first 0 count g) e

pub gather_from_0_same :
    {A : Type 0} {n m : ℕ} {f g : ℕ → A} → n ≡ m → ((i : ℕ) → i < n → f i ≡ g i) → gather 0 n f ≡ gather 0 m g
gather_from_0_same {n} {f} {g} e same =
    gather_same 0 n f g (λ i low high. same i (omega arith)) ∙ ap (λ count. gather 0 count g) e

-- A pixel is tested by itself and the pixels before it.
repeats_same : (e : ℕ) (f g : ℕ → Pixel) → ((l : ℕ) → l ≤ e → f l ≡ g l) → repeats f e ≡ repeats g e
unfolding repeats
repeats_same e f g same =
    some_below_same e (λ l. same_pixel (f l) (f e)) (λ l. same_pixel (g l) (g e))
    (λ l h. ap₂ same_pixel (same l (omega arith)) (same e (omega arith)))

falls_same : (e : ℕ) (f g : ℕ → Pixel) → ((l : ℕ) → l ≤ e → f l ≡ g l) → falls f e ≡ falls g e
unfolding falls
falls_same zero f g same = refl
falls_same (suc e) f g same = ap₂ lower (same (suc e) (omega arith)) (same e (omega arith))

pub pixel_test_same :
    (i j e : ℕ) (f g : ℕ → Pixel) → ((l : ℕ) → l ≤ e → f l ≡ g l) → pixel_test i j f e ≡ pixel_test i j g e
unfolding pixel_test
pixel_test_same i j e f g same = cc (same e (omega arith), repeats_same e f g same, falls_same e f g same)

-- Records that agree where it counts pass the same tests and have the same patterns.
module _ (book other : Book) (same : SameUsed book other) where
  same_pixel_tests :
      (n : ℕ) → n < book.count
      → first 0 (pattern_at book n).used (pixel_test 0 0 (pixel_at (pattern_at book n)))
      ≡ first 0 (pattern_at other n).used (pixel_test 0 0 (pixel_at (pattern_at other n)))
  same_pixel_tests n h =
      first_from_0_same (same.used n h) (λ e used. pixel_test_same 0 0 e _ _ (λ l before. same.pixel n l h (omega arith)))

  same_pattern_tests : (n : ℕ) → n < book.count → pattern_test (pattern_at book n) ≡ pattern_test (pattern_at other n)
  unfolding pattern_test
  same_pattern_tests n h = cc (same.used n h, same_pixel_tests n h)

  pub same_record_tests : record_test book ≡ record_test other
  unfolding record_test
  same_record_tests =
      let all :
      first 0 book.count (λ n. pattern_test (pattern_at book n)) ≡ first 0 other.count (λ n. pattern_test (pattern_at other n)) =
      first_from_0_same same.count same_pattern_tests in
      cc same.count

  pub same_pixels : (n : ℕ) → n < book.count → pixels (pattern_at book n) ≡ pixels (pattern_at other n)
  unfolding pixels
  same_pixels n h = gather_from_0_same (same.used n h) (λ e used. same.pixel n e h used)

  pub same_patterns : patterns book ≡ patterns other
  unfolding patterns
  same_patterns = gather_from_0_same same.count same_pixels

-- A legal record and the record of its patterns agree where it counts.
module _ (book : Book) (legal : IsBook book) where
  rebuilt_pattern : (n : ℕ) → n < book.count → pattern_at (book_of (patterns book)) n ≡ pattern_of (pixels (pattern_at book n))
  rebuilt_pattern n h =
      pattern_at_book_of (patterns book) n (omega arith) ∙ ap pattern_of (get_d_patterns book n [] h)

  rebuilt_used : (n : ℕ) → n < book.count → (pattern_at book n).used ≡ (pattern_at (book_of (patterns book)) n).used
  rebuilt_used n h = cc (length_pixels (pattern_at book n), used_pattern_of (pixels (pattern_at book n)), rebuilt_pattern n h)

  rebuilt_pixel :
      (n e : ℕ) → n < book.count → e < (pattern_at book n).used
      → pixel_at (pattern_at book n) e ≡ pixel_at (pattern_at (book_of (patterns book)) n) e
  rebuilt_pixel n e h used =
      let most : e < 64 = omega (arith, (legal.each n h).most) in
      cc (get_d_pixels (pattern_at book n) e origin used, pixel_at_pattern_of (pixels (pattern_at book n)) e most, rebuilt_pattern n h)

  pub rebuilt_same : SameUsed book (book_of (patterns book))
  rebuilt_same =
      record {
        count = sym (length_patterns book) ∙ sym (count_book_of (patterns book));
        used = rebuilt_used;
        pixel = rebuilt_pixel;
      }

-- The reader gives the record of a list of patterns, so what holds of each such record holds of what it gives.
pub read_is_of_a_list : (P : Book → Type 0) → ((ts : List (List Pixel)) → P (book_of ts)) → (s : List ℕ) → P (read_book s).book
unfolding read_book book_in
read_is_of_a_list P holds s = by_test (bytes_test s)
  where
    by_test :
        (t : Option Refusal)
        → P (answered {A = Reading} t (λ r. record { book = book_of []; outcome = Err r })
        (record { book = book_in s; outcome = Ok tt })).book
    by_test none = holds (patterns_in s)
    by_test (some r) = holds []

-- In the record of a list of patterns no pattern past them has a pixel used,
used_of_a_list : (ts : List (List Pixel)) (n : ℕ) → n < 16 → (pattern_at (book_of ts) n).used ≡ length (get_or ts n [])
used_of_a_list ts n h = ap (λ t. t.used) (pattern_at_book_of ts n h) ∙ used_pattern_of (get_or ts n [])

none_used_past_count : (ts : List (List Pixel)) (n : ℕ) → (book_of ts).count ≤ n → (pattern_at (book_of ts) n).used ≡ 0
unfolding no_pattern
none_used_past_count ts n past = by_array (dec_lt n 16)
  where
    by_array : Dec (n < 16) → (pattern_at (book_of ts) n).used ≡ 0
    by_array (yes h) = used_of_a_list ts n h ∙ ap length (get_or-eq_default ts [] (omega (arith, count_book_of ts)))
    by_array (no h) = ap (λ t. t.used) (pattern_at_book_of_past_array ts n (omega arith))

-- and the arrays of each pattern are 0 past its pixels.
module _
    (ts : List (List Pixel)) (n e : ℕ) (h : n < 16) (below : e < 64) (past : (pattern_at (book_of ts) n).used ≤ e)
  where
    none_past_used : get_or (get_or ts n []) e origin ≡ origin
    none_past_used = get_or-eq_default (get_or ts n []) origin (omega (arith, used_of_a_list ts n h))

    column_0_past_used : get_or (pattern_at (book_of ts) n).columns e (pos 1) ≡ pos 0
    unfolding at
    column_0_past_used = cc (pattern_at_book_of ts n h, columns_pattern_of (get_or ts n []) e (pos 1) below, none_past_used)

    row_0_past_used : get_or (pattern_at (book_of ts) n).rows e (pos 1) ≡ pos 0
    unfolding at
    row_0_past_used = cc (pattern_at_book_of ts n h, rows_pattern_of (get_or ts n []) e (pos 1) below, none_past_used)

-- "a reader sets them to 0", in arrays of 16 and 64.
pub reader_sets_zero : ReaderSetsZero
reader_sets_zero =
    record {
      patterns_16 = read_is_of_a_list (λ book. length book.patterns ≡ 16) length_array_book_of;
      columns_64 =
          read_is_of_a_list (λ book. (n : ℕ) → n < 16 → length (pattern_at book n).columns ≡ 64)
          (λ ts n h. ap (λ t. length t.columns) (pattern_at_book_of ts n h) ∙ length_columns_pattern_of (get_or ts n []));
      rows_64 =
          read_is_of_a_list (λ book. (n : ℕ) → n < 16 → length (pattern_at book n).rows ≡ 64)
          (λ ts n h. ap (λ t. length t.rows) (pattern_at_book_of ts n h) ∙ length_rows_pattern_of (get_or ts n []));
      used = read_is_of_a_list (λ book. (n : ℕ) → book.count ≤ n → (pattern_at book n).used ≡ 0) none_used_past_count;
      column =
          read_is_of_a_list
          (λ book. (n e : ℕ) → n < 16 → e < 64 → (pattern_at book n).used ≤ e → get_or (pattern_at book n).columns e (pos 1) ≡ pos 0)
          column_0_past_used;
      row =
          read_is_of_a_list
          (λ book. (n e : ℕ) → n < 16 → e < 64 → (pattern_at book n).used ≤ e → get_or (pattern_at book n).rows e (pos 1) ≡ pos 0)
          row_0_past_used;
    }
