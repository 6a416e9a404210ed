-- `finder::bank_tables::lanes_of` meets its contract. The loop's invariant: the first c lanes are right, and x is the next.
-- Assumes nothing.
use Prim.Native.Nat.{◌<◌}
use native.Mathlib.Omega.{arith}
use native.Mathlib.Nat.{zero-mod}
use mathlib.Core.Path.{sym}
use Rattle.checks.proofs.FilledArrays.{filled_none, filled_more, filled_all}
use Rattle.finder.specs.Counting.{lanes_of}
use Rattle.finder.proofs.CellEntries.{remainder_below, next_remainder}
use Rattle.finder.proofs.bank_tables.lanes_of.Goals as goal

pub loop-c-init : goal.loop-c-init
loop-c-init c = (sym (zero-mod _), filled_none _)

module _ (c : goal.In-loop-c) where
  below : c.loop-c.x < c.args.a
  below = remainder_below _ c.loop-c.c _ (omega arith) c.loop-c.invariant.0

pub next_below-x-requires : goal.next_below-x-requires
next_below-x-requires c = (below c, omega arith)

pub loop-c-preserved : goal.loop-c-preserved
loop-c-preserved c =
    (next_remainder c.loop-c.x _ c.loop-c.c _ c.loop-c.invariant.0 c.next_below-x.ensures, filled_more c.loop-c.invariant.1 c.loop-c.invariant.0)

pub returns : goal.returns
unfolding lanes_of
returns c =
    let t = c.loop-c.invariant.1 in filled_all t (omega (arith, t.size))

pub overflow_cast-lanes : goal.overflow_cast-lanes
overflow_cast-lanes c =
    omega (arith, below c)

pub bounds-lanes-c : goal.bounds-lanes-c
bounds-lanes-c c =
    omega (arith, c.loop-c.invariant.1.size)
