-- `book::scanner::pixels_outcome` meets its contract. The loop's invariant: the bytes of the pixels before position e are
-- there, these pixels pass their tests, and the entries are theirs.
-- Assumes nothing.
use Prim.Native.Nat.{◌+◌, ◌*◌, ◌≤◌}
use lib.ListN.{length}
use Rattle.scope.specs.Books.{pixel_from}
use Rattle.scope.specs.Numbers.{pixel_read}
use Rattle.book.proofs.PixelLoops.{PixelsPassed}
use Rattle.book.proofs.scanner.pixels_outcome.Given as goal

abbrev pub invariant-loop-e : goal.invariant-loop-e
invariant-loop-e l =
    (l.e ≤ l.count) × (l.at + 2 * l.e ≤ length l.s) × PixelsPassed (pixel_read l.s l.at) (pixel_from l.s l.at) l.least l.e
