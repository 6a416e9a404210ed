-- `book::writer::put_book` meets its contract. The loop's invariant: the pattern count and the bytes of the first n patterns
-- were put, and end at `at`.
-- Assumes nothing.
use mathlib.Core.Path.{◌≡◌}
use lib.ListN.{length}
use Rattle.checks.proofs.Outputs.{Put}
use Rattle.book.proofs.PutBooks.{patterns_put}
use Rattle.book.proofs.writer.put_book.Given as goal

abbrev pub invariant-loop-n : goal.invariant-loop-n
invariant-loop-n l =
    (l.at ≡ length (patterns_put l.book l.n)) × Put (patterns_put l.book l.n) l.initial.out l.out
