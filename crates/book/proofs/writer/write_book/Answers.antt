-- `book::writer::write_book` meets its contract: the record's tests come first, then that of the output's room, and where
-- neither refuses the bytes are put.
-- Assumes nothing.
use Rattle.std.specs.Prelude.{Result, Ok, Err}
use Prim.Native.Nat.{ℕ, ◌≤◌, ◌<◌}
use native.Mathlib.Omega.{arith}
use mathlib.Core.Path.{◌≡◌, ◌∙◌, ap}
use mathlib.Core.Option.{Option, none, some}
use mathlib.Core.List.{List, [], ◌∷◌}
use lib.ListN.{length}
use Rattle.scope.specs.Search.{first_of}
use Rattle.scope.specs.Banks.{over_start}
use Rattle.scope.specs.Books.{book_bytes}
use Rattle.scope.specs.Numbers.{record_test, output_test}
use Rattle.scope.specs.Calls.{write_book}
use Rattle.scope.specs.declared.Book.{Book}
use Rattle.scope.specs.declared.Refusal.{Refusal}
use Rattle.checks.proofs.Chains.{handed_on, chain_refuses, chain_goes_on, Gives, value_given, refusal_given}
use Rattle.checks.proofs.Deciding.{output_decides}
use Rattle.checks.proofs.BookTests.{book_legal_iff}
use Rattle.checks.proofs.Legal.{write_test_iff}
use Rattle.book.proofs.Outcomes.{record_taken, record_turned_down}
use Rattle.book.proofs.writer.write_book.Goals as goal

-- What the call answers and what stands in the output, by its tests.
module _ (book : Book) (out : List ℕ) where
  abbrev bytes : List ℕ
  bytes = book_bytes book

  abbrev room : Option Refusal
  room = output_test (length bytes) (length out)

  abbrev tests : Option Refusal
  tests = first_of (record_test book ∷ room ∷ [])

  abbrev number : Result ℕ Refusal
  number = Ok (length bytes)

  abbrev Answers : Result ℕ Refusal → List ℕ → Type 0
  Answers = Gives (write_book book out)

  refused : (r : Refusal) → tests ≡ some r → Answers (Err r) out
  unfolding write_book
  refused = refusal_given tests Err out number (over_start bytes out)

  book-refused : (r : Refusal) → record_test book ≡ some r → Answers (Err r) out
  book-refused r found = refused r (chain_refuses (record_test book) (room ∷ []) r found)

  output-refused : record_test book ≡ none → length out < length bytes → Answers (Err Refusal.Output) out
  output-refused legal short =
      refused Refusal.Output
      (chain_goes_on (record_test book) (room ∷ []) legal
      ∙ chain_refuses room [] Refusal.Output ((output_decides (length bytes) (length out)).refuses (λ h. omega arith)))

  written : record_test book ≡ none → length bytes ≤ length out → Answers number (over_start bytes out)
  unfolding write_book
  written legal enough =
      value_given tests Err out number (over_start bytes out)
      ((write_test_iff book (length out)).1 ((book_legal_iff book).0 legal, enough))

pub returns-in_err-record_outcome : goal.returns-in_err-record_outcome
returns-in_err-record_outcome c =
    let right = book-refused _ _ _ (record_turned_down _ c.record_outcome.ensures c.in_err-record_outcome.was) in
    (handed_on _ c.from_residual.ensures ∙ right.0, right.1)

pub byte_count-size-requires : goal.byte_count-size-requires
byte_count-size-requires c = record_taken _ c.record_outcome.ensures c.in_ok-record_outcome.was

pub returns-then-out-size : goal.returns-then-out-size
returns-then-out-size c =
    output-refused _ _ (record_taken _ c.record_outcome.ensures c.in_ok-record_outcome.was) (omega (arith, c.byte_count-size.ensures))

pub put_book-requires : goal.put_book-requires
put_book-requires c = (record_taken _ c.record_outcome.ensures c.in_ok-record_outcome.was, omega (arith, c.byte_count-size.ensures))

pub returns : goal.returns
returns c =
    let right = written _ c.args.out.now (record_taken _ c.record_outcome.ensures c.in_ok-record_outcome.was) (omega (arith, c.byte_count-size.ensures)) in
    (ap Ok c.byte_count-size.ensures ∙ right.0, c.put_book.ensures ∙ right.1)
