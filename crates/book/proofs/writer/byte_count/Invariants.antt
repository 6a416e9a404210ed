-- `book::writer::byte_count` meets its contract. The loop's invariant: `size` is the length of the pattern count and the bytes
-- of the first n patterns.
-- Assumes nothing.
use mathlib.Core.Path.{◌≡◌}
use lib.ListN.{length}
use Rattle.book.proofs.PutBooks.{patterns_put}
use Rattle.book.proofs.writer.byte_count.Given as goal

abbrev pub invariant-loop-n : goal.invariant-loop-n
invariant-loop-n l = l.size ≡ length (patterns_put l.book l.n)
