-- `finder::cycles::put_cycles` meets its contract. The loop's invariant: the cycles of the first e pixels are put, and these
-- are counted.
-- Assumes nothing.
use Prim.Native.Nat.{◌<◌}
use native.Mathlib.Omega.{arith}
use mathlib.Core.Path.{◌≡◌}
use Rattle.finder.proofs.Meetings.{bank_at}
use Rattle.finder.proofs.ClassPositions.{bank_asked}
use Rattle.finder.proofs.PutCycles.{no_cycle_put, cycle_below, one_cycle_put, all_cycles_put}
use Rattle.finder.proofs.cycles.put_cycles.Lts as lts
use Rattle.finder.proofs.cycles.put_cycles.Tie as tie
use Rattle.finder.proofs.cycles.put_cycles.Reads as reads
use Rattle.finder.proofs.cycles.put_cycles.Goals as goal

-- what is known at a step of the code
abbrev At-loop-e : Type 0
At-loop-e = lts.At-loop tie.the-claims reads.Pre reads.Post goal.the-invariant-loop-e goal.the-decreases-loop-e

abbrev Start : Type 0
Start = lts.Start tie.the-claims reads.Pre reads.Post goal.the-invariant-loop-e goal.the-decreases-loop-e

pub loop-e-init : goal.loop-e-init
loop-e-init c = no_cycle_put _ _ _

-- in a turn, at pixel e, whose bank is known
module _ (c : goal.After-bank_in-k) where
  abbrev head : At-loop-e
  head = c.before.before.before.before

  abbrev start : Start
  start = head.before.before.before.before

  bank-is : c.bank_in-k.result ≡ bank_at start.args.p.plan start.args.t head.loop-e.e
  bank-is = bank_asked _ _ _ c.bank_in-arg-1.given c.bank_in-arg-in-loop-e-1.given c.bank_in-k.ensures.0

  bank-small : c.bank_in-k.result < 1024
  bank-small = c.bank_in-k.ensures.1

pub bounds-out-e : goal.bounds-out-e
bounds-out-e c = omega (arith, (head c).loop-e.invariant.put.same_length, (start c).requires.1)

pub overflow_add-taken : goal.overflow_add-taken
overflow_add-taken c =
    record { fits = omega (arith, cycle_below (head c).loop-e.invariant (omega arith) (start c).requires.0 (bank-is c) (bank-small c)) }

pub loop-e-preserved : goal.loop-e-preserved
loop-e-preserved c =
    one_cycle_put (head c).loop-e.invariant (omega arith) (start c).requires.0 (bank-is c) (bank-small c) (start c).requires.1

pub shape_of-out : goal.shape_of-out
shape_of-out c = c.loop-e.invariant.put.same_length

pub returns : goal.returns
returns c = all_cycles_put c.loop-e.invariant (omega arith) c.loop-e-test.false

pub bounds-columns-e : goal.bounds-columns-e
bounds-columns-e c =
    omega arith

pub bounds-rows-e : goal.bounds-rows-e
bounds-rows-e c =
    omega arith

pub bounds-taken-k : goal.bounds-taken-k
bounds-taken-k = bank-small

pub bounds-taken-k-in-loop-e : goal.bounds-taken-k-in-loop-e
bounds-taken-k-in-loop-e = bank-small
