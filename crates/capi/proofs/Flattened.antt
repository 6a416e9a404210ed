-- The record of flat arrays by its entries, and that the record of the flat arrays of what a reader gives is that record. So a
-- caller who reads a book has the record that was read.
-- Assumes nothing.
use Rattle.scope.specs.declared.Refusal.{Refusal}
use Rattle.std.specs.Prelude.{Result, Ok, Err}
use Prim.Native.Nat.{ℕ, ◌+◌, ◌*◌, ◌/◌, ◌%◌, ◌≤◌, ◌<◌}
use native.Mathlib.Nat.{zero-add}
use native.Mathlib.Omega.{arith}
use native.Mathlib.Decide.{dec_lt}
use mathlib.Core.Path.{◌≡◌, refl, sym, ◌∙◌, ap}
use mathlib.Core.Option.{Option}
use mathlib.Core.List.{List, []}
use lib.IntN.{ℤ, pos}
use lib.ListN.{length, get_or, get_or-eq_default}
use Rattle.scope.specs.Search.{gather}
use Rattle.scope.specs.Plans.{Pixel, no_pattern, pattern_at}
use Rattle.scope.specs.Books.{filled, pattern_of, book_of}
use Rattle.scope.specs.Numbers.{value, refusal, of_result}
use Rattle.scope.specs.Calls.{read_book}
use Rattle.scope.specs.declared.Pattern.{Pattern}
use Rattle.scope.specs.declared.Book.{Book}
use Rattle.scope.specs.Cycles.{LongClash}
use Rattle.scope.specs.declared.Reading.{Reading}
use Rattle.checks.proofs.Searches.{length_gather, get_d_gather}
use Rattle.checks.proofs.FilledArrays.{gathered}
use Rattle.checks.proofs.Chains.{value_not_refusal}
use Rattle.book.proofs.Unused.{read_is_of_a_list}
use Rattle.book.proofs.Records.{length_columns_pattern_of, length_rows_pattern_of, count_book_of, length_array_book_of, pattern_at_book_of}
use Rattle.capi.specs.Flat.{entries, flat_pattern, flat_book, flat_columns, flat_rows, flat_used, of_reading, when_read, ReadIsKept}

-- A record from its entries: the patterns of the arrays below the count, empty ones from there on.
module _ (columns rows : List ℤ) (used : List ℕ) (count : ℕ) where
  abbrev given : List Pattern
  given = gather 0 count (flat_pattern columns rows used)

  entry_below : (n : ℕ) → n < count → get_or given n (pattern_of []) ≡ flat_pattern columns rows used n
  entry_below n h =
      get_d_gather 0 count (flat_pattern columns rows used) n (pattern_of []) h ∙ ap (flat_pattern columns rows used) (zero-add n)

  entry_past : (n : ℕ) → count ≤ n → get_or given n (pattern_of []) ≡ pattern_of []
  entry_past n h =
      get_or-eq_default given (pattern_of []) {n = n} (omega (arith, length_gather 0 count (flat_pattern columns rows used)))

  pub is_flat_book :
      (d : Pattern) {ps : List Pattern} → length ps ≡ 16
      → ((n : ℕ) → n < 16 → n < count → get_or ps n d ≡ flat_pattern columns rows used n)
      → ((n : ℕ) → n < 16 → count ≤ n → get_or ps n d ≡ pattern_of [])
      → record { patterns = ps; count = count } ≡ flat_book columns rows used count
  unfolding flat_book filled
  is_flat_book d {ps} size below past =
      ap {B = Book} (λ ps. record { patterns = ps; count = count })
      (gathered d 16 (λ n. get_or given n (pattern_of [])) ps size (λ n b. by_count n b (dec_lt n count)))
    where
      by_count : (n : ℕ) → n < 16 → Dec (n < count) → get_or ps n d ≡ get_or given n (pattern_of [])
      by_count n b (yes h) = below n b h ∙ sym (entry_below n h)
      by_count n b (no h) = past n b (omega arith) ∙ sym (entry_past n (omega arith))

-- the record of a record's flat arrays
abbrev flat_of : Book → Book
flat_of book = flat_book (flat_columns book) (flat_rows book) (flat_used book) book.count

-- a pattern record from its parts
same_pattern :
    {t : Pattern} {xs ys : List ℤ} {u : ℕ} → xs ≡ t.columns → ys ≡ t.rows → u ≡ t.used
    → ◌≡◌ {A = Pattern} (record { columns = xs; rows = ys; used = u }) t
same_pattern columns rows used = rw (columns, rows, used)

-- The record of a list of patterns.
module _ (ts : List (List Pixel)) where
  abbrev book : Book
  book = book_of ts

  -- part is a pattern's columns or its rows
  entries_kept :
      (part : Pattern → List ℤ) (n : ℕ) → n < 16 → length (part (pattern_at book n)) ≡ 64
      → entries (gather 0 1024 (λ k. get_or (part (pattern_at book (k / 64))) (k % 64) (pos 0))) n ≡ part (pattern_at book n)
  unfolding entries
  entries_kept part n h long = sym (gathered (pos 0) 64 _ (part (pattern_at book n)) long entry_kept)
    where
      entry_kept :
          (e : ℕ) → e < 64
          → get_or (part (pattern_at book n)) e (pos 0)
          ≡ get_or (gather 0 1024 (λ k. get_or (part (pattern_at book (k / 64))) (k % 64) (pos 0))) (64 * n + e) (pos 0)
      entry_kept e b =
          let q : (64 * n + e) / 64 ≡ n = omega arith in
          let r : (64 * n + e) % 64 ≡ e = omega arith in
          sym
          (get_d_gather 0 1024 (λ k. get_or (part (pattern_at book (k / 64))) (k % 64) (pos 0)) (64 * n + e) (pos 0) (omega arith)
          ∙ rw (zero-add (64 * n + e), q, r) refl)

  columns_kept : (n : ℕ) → n < 16 → entries (flat_columns book) n ≡ (pattern_at book n).columns
  unfolding flat_columns
  columns_kept n h =
      entries_kept (λ t. t.columns) n h
      (ap (λ t. length t.columns) (pattern_at_book_of ts n h) ∙ length_columns_pattern_of (get_or ts n []))

  rows_kept : (n : ℕ) → n < 16 → entries (flat_rows book) n ≡ (pattern_at book n).rows
  unfolding flat_rows
  rows_kept n h =
      entries_kept (λ t. t.rows) n h
      (ap (λ t. length t.rows) (pattern_at_book_of ts n h) ∙ length_rows_pattern_of (get_or ts n []))

  used_kept : (n : ℕ) → n < 16 → get_or (flat_used book) n 0 ≡ (pattern_at book n).used
  unfolding flat_used
  used_kept n h = get_d_gather 0 16 (λ n. (pattern_at book n).used) n 0 h ∙ ap (λ n. (pattern_at book n).used) (zero-add n)

  pattern_kept : (n : ℕ) → n < 16 → pattern_at book n ≡ flat_pattern (flat_columns book) (flat_rows book) (flat_used book) n
  unfolding flat_pattern
  pattern_kept n h = sym (same_pattern (columns_kept n h) (rows_kept n h) (used_kept n h))

  empty_kept : (n : ℕ) → n < 16 → book.count ≤ n → pattern_at book n ≡ pattern_of []
  empty_kept n h past =
      pattern_at_book_of ts n h ∙ ap pattern_of (get_or-eq_default ts [] (omega (arith, count_book_of ts)))

  record_kept : flat_of book ≡ book
  unfolding pattern_at
  record_kept =
      sym (is_flat_book (flat_columns book) (flat_rows book) (flat_used book) book.count no_pattern (length_array_book_of ts)
      (λ n h below. pattern_kept n h) empty_kept)

abbrev reading : Book → Result Unit Refusal → Reading
reading b o = record { book = b; outcome = o }

is_done : (o : Result Unit Refusal) → of_result o ≡ value tt → o ≡ Ok tt
is_done (Ok u) e = refl
is_done (Err q) e = absurd (value_not_refusal (sym e))

-- a refused reading tells its refusal, and leaves an array as it was
refusal_told :
    (b : Book) (o : Result Unit Refusal) (n i : ℕ) (c : Option LongClash) → of_result o ≡ refusal n i c → of_reading (reading b o) ≡ refusal n i c
refusal_told b (Ok u) n i c e = absurd (value_not_refusal e)
refusal_told b (Err q) n i c e = cc

module _ {A : Type 0} (flat : Book → List A) where
  refusal_leaves :
      (b : Book) (o : Result Unit Refusal) (n i : ℕ) (c : Option LongClash) → of_result o ≡ refusal n i c → (out : List A)
      → when_read flat (reading b o) out ≡ out
  refusal_leaves b (Ok u) n i c e out = absurd (value_not_refusal e)
  refusal_leaves b (Err q) n i c e out = refl

-- What was read is the record of a list of patterns, so it is the record of the arrays that are told.
pub read_is_kept : ReadIsKept
read_is_kept =
    record {
      told = λ s e. rw (is_done (read_book s).outcome e);
      arrays = λ s columns rows used e.
          rw (is_done (read_book s).outcome e)
          (read_is_of_a_list (λ book. flat_of book ≡ book) record_kept s);
      told_refusal = λ s. refusal_told (read_book s).book (read_book s).outcome;
      unchanged = λ s columns rows used n i c e. (
        refusal_leaves flat_columns (read_book s).book (read_book s).outcome n i c e columns,
        refusal_leaves flat_rows (read_book s).book (read_book s).outcome n i c e rows,
        refusal_leaves flat_used (read_book s).book (read_book s).outcome n i c e used,
      );
    }
