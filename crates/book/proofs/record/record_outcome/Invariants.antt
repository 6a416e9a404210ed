-- `book::record::record_outcome` meets its contract. The loop's invariant: the patterns before the n-th have passed their
-- tests.
-- Assumes nothing.
use Prim.Native.Nat.{◌≤◌}
use Rattle.book.proofs.RecordLoops.{PassedBefore}
use Rattle.book.proofs.record.record_outcome.Given as goal

abbrev pub invariant-loop-n : goal.invariant-loop-n
invariant-loop-n l = (l.n ≤ l.count) × PassedBefore l.book l.n
