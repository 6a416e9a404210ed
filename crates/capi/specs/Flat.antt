-- A book record as flat arrays: 16 × 64 columns, 16 × 64 rows, 16 used counts, and the pattern count.
-- Assumes nothing.
use Rattle.std.specs.Prelude.{ℕ, ◌+◌, ◌*◌, ◌/◌, ◌%◌, ◌≡◌, List, [], ◌∷◌, ℤ, pos, get_or, Ok, Err}
use Rattle.std.proofs.Math.Option.{Option}
use Rattle.scope.specs.Search.{gather}
use Rattle.scope.specs.Plans.{pattern_at}
use Rattle.scope.specs.Books.{filled, pattern_of}
use Rattle.scope.specs.Numbers.{Answer, value, refusal, turned_down, of_result}
use Rattle.scope.specs.Calls.{read_book}
use Rattle.scope.specs.declared.Pattern.{Pattern}
use Rattle.scope.specs.declared.Book.{Book}
use Rattle.scope.specs.Cycles.{LongClash}
use Rattle.scope.specs.declared.Reading.{Reading}

-- the 64 entries of pattern n
unfoldable pub entries : List ℤ → ℕ → List ℤ
unfolding gather
entries xs n = gather 0 64 λ e. get_or xs (64 * n + e) (pos 0)

-- the record of flat arrays: their first `count` patterns, every further entry the empty pattern, since "The unused entries
-- don't count"
unfoldable pub flat_pattern : List ℤ → List ℤ → List ℕ → ℕ → Pattern
unfolding entries
flat_pattern columns rows used n =
    record { columns = entries columns n; rows = entries rows n; used = get_or used n 0 }

unfoldable pub flat_book : List ℤ → List ℤ → List ℕ → ℕ → Book
unfolding gather filled pattern_of flat_pattern
flat_book columns rows used count =
    record { patterns = filled 16 (pattern_of []) (gather 0 count (flat_pattern columns rows used)); count = count }

-- the flat arrays of a record
unfoldable pub flat_columns : Book → List ℤ
unfolding gather pattern_at
flat_columns book = gather 0 1024 λ k. get_or (pattern_at book (k / 64)).columns (k % 64) (pos 0)

unfoldable pub flat_rows : Book → List ℤ
unfolding gather pattern_at
flat_rows book = gather 0 1024 λ k. get_or (pattern_at book (k / 64)).rows (k % 64) (pos 0)

unfoldable pub flat_used : Book → List ℕ
unfolding gather pattern_at
flat_used book = gather 0 16 λ n. (pattern_at book n).used

-- a reading's answer and its value, and an array after it: filled from the record that was read, as it was where the book
-- was refused
abbrev pub of_reading : Reading → Answer Book
of_reading r = elim r.outcome [ Ok u ↦ value r.book | Err q ↦ turned_down q ]

abbrev pub count_row : Book → List ℕ
count_row book = book.count ∷ []

abbrev pub when_read : {A : Type 0} → (Book → List A) → Reading → List A → List A
when_read flat r out = elim r.outcome [ Ok u ↦ flat r.book | Err q ↦ out ]

-- What `bankplan_read_book` tells and leaves is what was read: the answer has its record, and the record of the arrays with
-- the count told is that record; on a refusal it tells that, and "buffers and lists stay unchanged"
pub record ReadIsKept : Type 0 where
  pub told : (s : List ℕ) → of_result (read_book s).outcome ≡ value tt → of_reading (read_book s) ≡ value (read_book s).book
  pub arrays :
      (s : List ℕ) (columns rows : List ℤ) (used : List ℕ) → of_result (read_book s).outcome ≡ value tt
      → flat_book (when_read flat_columns (read_book s) columns) (when_read flat_rows (read_book s) rows)
      (when_read flat_used (read_book s) used)
      (read_book s).book.count
      ≡ (read_book s).book
  pub told_refusal :
      (s : List ℕ) (n i : ℕ) (c : Option LongClash) → of_result (read_book s).outcome ≡ refusal n i c
      → of_reading (read_book s) ≡ refusal n i c
  pub unchanged :
      (s : List ℕ) (columns rows : List ℤ) (used : List ℕ) (n i : ℕ) (c : Option LongClash)
      → of_result (read_book s).outcome ≡ refusal n i c
      → (when_read flat_columns (read_book s) columns ≡ columns)
      × (when_read flat_rows (read_book s) rows ≡ rows)
      × (when_read flat_used (read_book s) used ≡ used)
