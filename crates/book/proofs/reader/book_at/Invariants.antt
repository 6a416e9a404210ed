-- `book::reader::book_at` meets its contract: before each turn `at` is the place of pattern n's pixel count, and the
-- array is filled with the first n patterns.
-- Assumes nothing.
use mathlib.Core.Path.{◌≡◌}
use mathlib.Core.List.{[]}
use lib.ListN.{replicate}
use Rattle.scope.specs.Books.{start, pattern_of}
use Rattle.checks.proofs.FilledArrays.{Filled}
use Rattle.book.proofs.Bytes.{pattern_in}
use Rattle.book.proofs.reader.book_at.Given as goal

abbrev pub invariant-loop-n : goal.invariant-loop-n
invariant-loop-n l =
    (l.at ≡ start l.s l.n)
    × Filled (pattern_of []) (λ m. pattern_of (pattern_in l.s m)) l.n (replicate 16 (pattern_of [])) l.patterns
