-- `book::reader::empty_pattern` meets its contract.
-- Assumes nothing.
use mathlib.Core.Path.{refl}
use Rattle.scope.specs.Books.{pattern_of}
use Rattle.book.proofs.reader.empty_pattern.Goals as goal

pub returns : goal.returns
unfolding pattern_of
returns c = refl
