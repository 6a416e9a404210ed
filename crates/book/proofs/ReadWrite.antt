-- Reading and writing undo each other: bytes are taken exactly if they are those of a legal record, reading what was
-- written gives the record with its unused entries 0, and writing what was read gives the bytes.
-- Assumes nothing.
use Rattle.std.specs.Prelude.{Err}
use Prim.Native.Nat.{ℕ, ◌≤◌, ◌<◌}
use native.Mathlib.Omega.{arith}
use mathlib.Core.Path.{◌≡◌, refl, sym, ◌∙◌, ap, ap₂, subst}
use mathlib.Core.Logic.{◌↔◌}
use mathlib.Core.Option.{none}
use mathlib.Core.List.{List, [], ◌∷◌, flat_map}
use lib.ListN.{length, get_or, take, drop}
use Rattle.scope.specs.Plans.{Pixel, pattern_at, patterns}
use Rattle.scope.specs.Banks.{over_start}
use Rattle.scope.specs.Books.{byte, pattern_bytes, book_of, book_in, book_bytes}
use Rattle.scope.specs.Numbers.{value, of_result, bytes_test}
use Rattle.scope.specs.Calls.{read_book, write_book}
use Rattle.scope.specs.promises.Meaning.{IsBook}
use Rattle.scope.specs.promises.BookPromises.{Bytes, BytesMean, ReadsBack, ReadAfterWrite, WriteAfterRead}
use Rattle.scope.specs.declared.Book.{Book}
use Rattle.scope.specs.declared.Reading.{Reading}
use Rattle.checks.proofs.Searches.{length_gather}
use Rattle.checks.proofs.Chains.{value_injective, answered_none, changed_none_content, answered_value, changed_value}
use Rattle.checks.proofs.BookTests.{book_legal_iff}
use Rattle.checks.proofs.Legal.{write_test_iff, legal_calls_answer}
use Rattle.checks.proofs.Outputs.{over_start_first, over_start_rest, over_start_length}
use Rattle.checks.proofs.Patterns.{mem_patterns, length_patterns, pattern_in_range}
use Rattle.book.proofs.Records.{used_pattern_of, count_book_of, pattern_at_book_of, patterns_book_of}
use Rattle.book.proofs.Unused.{same_record_tests, rebuilt_same}
use Rattle.book.proofs.Bytes.{pattern_in, patterns_in, bytes_are_of_patterns}
use Rattle.book.proofs.Written.{PatternsInRange, bytes_of, written_patterns_are_read, written_bytes_end}
use Rattle.book.proofs.Reading.{bytes_taken_iff}

-- The reader gives the record of the bytes exactly if its tests find nothing.
module _ (s : List ℕ) where
  pub book_read : bytes_test s ≡ none → (read_book s).book ≡ book_in s
  unfolding read_book
  book_read e = ap (λ (r : Reading). r.book) (answered_none (bytes_test s) _ _ e)

  pub read_taken_iff : (of_result (read_book s).outcome ≡ value tt) ↔ (bytes_test s ≡ none)
  unfolding read_book
  read_taken_iff = (
    λ e. (answered_value (λ (r : Reading). of_result r.outcome) (bytes_test s) _ _ tt (λ r. refl) e).0,
    λ e. ap (λ (r : Reading). of_result r.outcome) (answered_none (bytes_test s) _ _ e),
  )

-- A legal record of a list of patterns has these patterns.
patterns_of_legal : (ts : List (List Pixel)) → IsBook (book_of ts) → patterns (book_of ts) ≡ ts
patterns_of_legal ts legal = patterns_book_of ts most short
  where
    most : length ts ≤ 16
    most = omega (arith, count_book_of ts)

    short : (n : ℕ) → n < length ts → length (get_or ts n []) ≤ 64
    short n h =
        let in_array : n < 16 = omega (arith, most) in
        let pattern = rw (pattern_at_book_of ts n in_array) at (legal.each n (omega (arith, count_book_of ts))) in
        omega (arith, used_pattern_of (get_or ts n []))

-- The bytes of a record are those of its patterns.
bytes_of_book : (book : Book) → book_bytes book ≡ bytes_of (patterns book)
unfolding book_bytes
bytes_of_book book = ap {B = List ℕ} (λ n. n ∷ flat_map pattern_bytes (patterns book)) (sym (length_patterns book))

-- The record of bytes that are taken has the patterns that they tell, and its bytes are these.
pub patterns_of_read : (s : List ℕ) → bytes_test s ≡ none → patterns (book_in s) ≡ patterns_in s
unfolding book_in
patterns_of_read s e = patterns_of_legal (patterns_in s) ((bytes_taken_iff s).0 e).1

pub count_of_read : (s : List ℕ) → (book_in s).count ≡ byte s 0
unfolding book_in
count_of_read s = count_book_of (patterns_in s) ∙ length_gather 0 (byte s 0) (pattern_in s)

bytes_of_read : (s : List ℕ) → Bytes s → bytes_test s ≡ none → book_bytes (book_in s) ≡ s
unfolding book_bytes
bytes_of_read s small e =
    ap₂ {C = List ℕ} (λ n ts. n ∷ flat_map pattern_bytes ts) (count_of_read s) (patterns_of_read s e)
    ∙ bytes_are_of_patterns s small ((bytes_taken_iff s).0 e).0

-- What holds of the bytes of a legal record: its patterns are read from them, so they are taken.
module _ (book : Book) (legal : IsBook book) where
  patterns_in_range : PatternsInRange (patterns book)
  patterns_in_range t m v k =
      let (n, below, is-t) = mem_patterns book m in
      pattern_in_range (pattern_at book n) (legal.each n below) (rw is-t k)

  record_of_written : book_in (book_bytes book) ≡ book_of (patterns book)
  unfolding book_in
  record_of_written =
      ap book_in (bytes_of_book book) ∙ ap book_of (written_patterns_are_read (patterns book) patterns_in_range)

  rebuilt_legal : IsBook (book_of (patterns book))
  rebuilt_legal =
      let same = same_record_tests book (book_of (patterns book)) (rebuilt_same book legal) in
      (book_legal_iff (book_of (patterns book))).0 (sym same ∙ (book_legal_iff book).1 legal)

  written_taken : bytes_test (book_bytes book) ≡ none
  written_taken =
      (bytes_taken_iff (book_bytes book)).1
      (rw (bytes_of_book book) (written_bytes_end (patterns book) patterns_in_range), rw record_of_written rebuilt_legal)

-- Bytes are taken exactly if they are those of a legal record.
pub bytes_mean : BytesMean
bytes_mean s small = (there, back)
  where
    there : of_result (read_book s).outcome ≡ value tt → (book : Book) × IsBook book × (book_bytes book ≡ s)
    there e =
        let h : bytes_test s ≡ none = (read_taken_iff s).0 e in
        (book_in s, ((bytes_taken_iff s).0 h).1, bytes_of_read s small h)

    back : (book : Book) × IsBook book × (book_bytes book ≡ s) → of_result (read_book s).outcome ≡ value tt
    back (book, legal, same) = (read_taken_iff s).1 (rw same at (written_taken book legal))

-- The writer writes a legal record's bytes over the start of what it was lent, if they fit.
module _ (book : Book) (out : List ℕ) where
  content_written : IsBook book → length (book_bytes book) ≤ length out → (write_book book out).content ≡ over_start (book_bytes book) out
  unfolding write_book
  content_written legal room = changed_none_content _ Err out _ _ ((write_test_iff book (length out)).1 (legal, room))

  -- and reading them gives the record with its unused entries 0
  written_is_read : IsBook book → length (book_bytes book) ≤ length out → ReadsBack book out (length (book_bytes book))
  written_is_read legal room =
      record {
        bytes = front;
        read = (read_taken_iff _).1 is_taken;
        record_is = book_read _ is_taken ∙ ap book_in front ∙ record_of_written book legal;
        rest = ap (drop (length xs)) content ∙ over_start_rest xs out;
        as_long = ap length content ∙ over_start_length xs out room;
      }
    where
      xs : List ℕ
      xs = book_bytes book

      content : (write_book book out).content ≡ over_start xs out
      content = content_written legal room

      front : take (length xs) (write_book book out).content ≡ xs
      front = ap (take (length xs)) content ∙ over_start_first xs out

      is_taken : bytes_test (take (length xs) (write_book book out).content) ≡ none
      is_taken = rw front (written_taken book legal)

pub read_after_write : ReadAfterWrite
unfolding write_book
read_after_write book out n e =
    let (tests, size) = changed_value of_result _ Err out _ _ n (λ r. refl) e in
    let (legal, room) = (write_test_iff book (length out)).0 tests in
    subst (ReadsBack book out) (value_injective size) (written_is_read book out legal room)

-- What was read is the legal record of the bytes, and writing it gives them.
pub write_after_read : WriteAfterRead
write_after_read s small e =
    record {
      legal_book = legal;
      same = same;
      count = λ out room. legal_calls_answer.write book out legal (rw same room) ∙ ap (λ xs. value (length xs)) same;
      bytes = λ out room. content_written book out legal (rw same room) ∙ ap (λ xs. over_start xs out) same;
    }
  where
    is_taken : bytes_test s ≡ none
    is_taken = (read_taken_iff s).0 e

    book : Book
    book = (read_book s).book

    legal : IsBook book
    legal = rw (book_read s is_taken) ((bytes_taken_iff s).0 is_taken).1

    same : book_bytes book ≡ s
    same = ap book_bytes (book_read s is_taken) ∙ bytes_of_read s small is_taken
