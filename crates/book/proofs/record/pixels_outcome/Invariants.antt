-- `book::record::pixels_outcome` meets its contract. The loop's invariant: the pixels before position e pass their tests, and
-- the entries are theirs.
-- Assumes nothing.
use Prim.Native.Nat.{◌≤◌}
use Rattle.scope.specs.Plans.{pixel_at}
use Rattle.scope.specs.Numbers.{pixel_test}
use Rattle.scope.specs.declared.Pattern.{Pattern}
use Rattle.book.proofs.PixelLoops.{PixelsPassed}
use Rattle.book.proofs.record.pixels_outcome.Given as goal

abbrev pub invariant-loop-e : goal.invariant-loop-e
invariant-loop-e l =
    let t : Pattern = record { columns = l.columns; rows = l.rows; used = l.used } in
    (l.e ≤ l.used) × PixelsPassed (pixel_test 0 0 (pixel_at t)) (pixel_at t) l.least l.e
