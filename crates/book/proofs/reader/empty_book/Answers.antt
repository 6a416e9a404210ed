-- `book::reader::empty_book` meets its contract.
-- Assumes nothing.
use Rattle.scope.specs.Books.{book_of}
use Rattle.book.proofs.reader.empty_book.Goals as goal

pub returns : goal.returns
unfolding book_of
returns c = rw c.empty_pattern-empty.ensures
