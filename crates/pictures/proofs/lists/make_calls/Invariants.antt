-- `pictures::lists::make_calls` meets its contract. The loop's invariant is `Turns`.
-- Assumes nothing.
use Rattle.std.proofs.Common.{◌≡◌}
use Rattle.std.specs.Slice.Iter.{chunks_exact_rest, chunks_exact_size}
use Rattle.scope.specs.Calls.{lent}
use Rattle.pictures.specs.Lists.{setting}
use Rattle.pictures.proofs.ListTurns.{Turns}
use Rattle.pictures.proofs.lists.make_calls.Given as goal

abbrev pub invariant-loop-c : goal.invariant-loop-c
invariant-loop-c l =
    record {
      five : chunks_exact_size l.c-iterator.iter ≡ 5;
      turns :
          Turns (setting l.book l.r l.p l.w l.h) l.numbers (lent l.initial.mem l.initial.sums) l.initial.outs l.initial.rows
          l.c-iterator.count (chunks_exact_rest l.c-iterator.iter) l.at (lent l.mem l.sums) l.outs l.rows;
    }
