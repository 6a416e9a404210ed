-- `book::reader::read_book` meets its contract.
-- Assumes nothing.
use Rattle.std.specs.Prelude.{Result, Ok, Err}
use Prim.Native.Nat.{ℕ}
use mathlib.Core.Path.{◌≡◌, sym, ◌∙◌, ap₂}
use mathlib.Core.List.{List, []}
use Rattle.scope.specs.Books.{book_of, book_in}
use Rattle.scope.specs.Numbers.{bytes_test}
use Rattle.scope.specs.Calls.{read_book}
use Rattle.scope.specs.declared.Book.{Book}
use Rattle.scope.specs.declared.Reading.{Reading}
use Rattle.scope.specs.declared.Refusal.{Refusal}
use Rattle.checks.proofs.Chains.{answered_none, answered_some}
use Rattle.book.specs.Scan.{outcome_of}
use Rattle.book.proofs.Outcomes.{done_found_nothing, refused_found}
use Rattle.book.proofs.reader.read_book.Goals as goal

-- the reading where the tests of the bytes s have answered with a refusal, and where they found nothing
module _ (s : List ℕ) {book : Book} {outcome : Result Unit Refusal} (answer : outcome ≡ outcome_of (bytes_test s)) where
  refused-reading :
      {r : Refusal} → outcome ≡ Err r → book ≡ book_of [] → record { book = book; outcome = outcome } ≡ read_book s
  unfolding read_book
  refused-reading {r} refused empty =
      ap₂ {C = Reading} (λ b o. record { book = b; outcome = o }) empty refused
      ∙ sym (answered_some (bytes_test s) _ _ r (refused_found (bytes_test s) answer refused))

  done-reading : outcome ≡ Ok tt → book ≡ book_in s → record { book = book; outcome = outcome } ≡ read_book s
  unfolding read_book
  done-reading done is =
      ap₂ {C = Reading} (λ b o. record { book = b; outcome = o }) is done
      ∙ sym (answered_none (bytes_test s) _ _ (done_found_nothing (bytes_test s) answer done))

pub returns-in-Err : goal.returns-in-Err
returns-in-Err c =
    refused-reading _ c.bytes_outcome-outcome.ensures c.in-Err.is c.empty_book-book.ensures

pub book_at-book-requires : goal.book_at-book-requires
book_at-book-requires c = done_found_nothing _ c.bytes_outcome-outcome.ensures c.in_default.is

pub returns : goal.returns
returns c =
    done-reading _ c.bytes_outcome-outcome.ensures c.in_default.is c.book_at-book.ensures
