-- `book::writer::put_pattern` meets its contract. The loop's invariant: the pixel count and the bytes of the first e pixels
-- were put.
-- Assumes nothing.
use Rattle.checks.proofs.Outputs.{Put}
use Rattle.book.proofs.PutBooks.{pixels_put}
use Rattle.book.proofs.writer.put_pattern.Given as goal

abbrev pub invariant-loop-e : goal.invariant-loop-e
invariant-loop-e l =
    Put (pixels_put (record { columns = l.columns; rows = l.rows; used = l.used }) l.e) l.initial.out l.out
