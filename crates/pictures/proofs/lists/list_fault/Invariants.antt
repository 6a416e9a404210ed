-- `pictures::lists::list_fault` meets its contract. The loop's invariant: the test of what is left is the test of the list.
-- Assumes nothing.
use Rattle.std.proofs.Common.{◌≡◌, ◌+◌, ◌*◌, ◌/◌, length}
use Rattle.std.specs.Slice.Iter.{chunks_exact_rest, chunks_exact_size}
use Rattle.pictures.specs.Lists.{list_fault}
use Rattle.pictures.proofs.lists.list_fault.Given as goal

abbrev pub invariant-loop-n : goal.invariant-loop-n
invariant-loop-n l =
    let rest = chunks_exact_rest l.n-iterator.iter in
    record {
      five : chunks_exact_size l.n-iterator.iter ≡ 5;
      whole : 5 * l.n-iterator.count + length rest ≡ length l.numbers;
      same : list_fault (length rest / 5) (5 * l.n-iterator.count) rest l.room ≡ list_fault (length l.numbers / 5) 0 l.numbers l.outs;
    }
