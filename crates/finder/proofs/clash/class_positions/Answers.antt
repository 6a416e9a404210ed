-- `finder::clash::class_positions` meets its contract. The loop's invariant: the pixel's position and the first r after it with
-- its bank, as far as l, are put.
-- Assumes nothing.
use native.Mathlib.Omega.{arith}
use mathlib.Core.Path.{◌≡◌, sym, ◌∙◌}
use Rattle.finder.proofs.Meetings.{bank_at}
use Rattle.finder.proofs.ClassPositions.{bank_asked, none_placed, one_placed, other_bank, enough_placed, all_placed}
use Rattle.finder.proofs.clash.class_positions.Lts as lts
use Rattle.finder.proofs.clash.class_positions.Tie as tie
use Rattle.finder.proofs.clash.class_positions.Reads as reads
use Rattle.finder.proofs.clash.class_positions.Goals as goal
use Rattle.finder.proofs.clash.class_positions.Goals.{then-m-last+then-bank_in-k, then-m-last+else-bank_in-k, else-m-last}

-- what is known at a step of the code
abbrev At-loop-l : Type 0
At-loop-l = lts.At-loop tie.the-claims reads.Pre reads.Post goal.the-invariant-loop-l goal.the-decreases-loop-l

abbrev In-loop-l : Type 0
In-loop-l = lts.In-loop tie.the-claims reads.Pre reads.Post goal.the-invariant-loop-l goal.the-decreases-loop-l

abbrev Start : Type 0
Start = lts.Start tie.the-claims reads.Pre reads.Post goal.the-invariant-loop-l goal.the-decreases-loop-l

pub loop-l-init : goal.loop-l-init
loop-l-init c = none_placed _ _ _ _

-- in a turn, at position l
module _ (c : In-loop-l) where
  abbrev head : At-loop-l
  head = c.before

  abbrev bank-known : goal.After-bank_in-k
  bank-known = head.before

  abbrev start : Start
  start = bank-known.before.before.before.before.before

  class-bank : bank-known.bank_in-k.result ≡ bank_at start.args.p.plan start.args.t start.args.e
  class-bank =
      let b = bank-known.before in
      bank_asked start.args.p.plan start.args.t start.args.e b.bank_in-arg-1.given b.bank_in-arg-2-1.given bank-known.bank_in-k.ensures.0

pub loop-l-preserved : goal.loop-l-preserved
loop-l-preserved c =
    let placed = (head c.before).loop-l.invariant in
    elim c.if-m-last.branch [
      | then-m-last+then-bank_in-k w ↦
          rw (w.positions-is, w.m-is) (one_placed placed w.if-m-last.true (start c.before).requires.2
          (sym (bank_asked _ _ _ w.bank_in-arg-then-m-last-1.given w.bank_in-arg-then-m-last-2-1.given w.bank_in.ensures.0) ∙ w.if-bank_in-k.true ∙ class-bank c.before))
      | then-m-last+else-bank_in-k w ↦
          rw (w.positions-is, w.m-is) (other_bank placed
          (λ same. w.if-bank_in-k.false (bank_asked _ _ _ w.bank_in-arg-then-m-last-1.given w.bank_in-arg-then-m-last-2-1.given w.bank_in.ensures.0 ∙ same ∙ sym (class-bank c.before))))
      | else-m-last w ↦ rw (w.positions-is, w.m-is) (enough_placed placed w.if-m-last.false)
    ]

pub returns : goal.returns
returns c =
    all_placed c.args.p.is c.requires.1 c.loop-l.invariant (omega arith) c.loop-l-test.false

pub bounds-columns-e : goal.bounds-columns-e
bounds-columns-e c =
    omega arith

pub bounds-rows-e : goal.bounds-rows-e
bounds-rows-e c =
    omega arith

pub bounds-columns-l : goal.bounds-columns-l
bounds-columns-l c =
    omega arith

pub bounds-rows-l : goal.bounds-rows-l
bounds-rows-l c =
    omega arith

pub overflow_add-m : goal.overflow_add-m
overflow_add-m c =
    record { fits = omega arith }

pub offset_bounds-positions-m : goal.offset_bounds-positions-m
offset_bounds-positions-m c =
    record { fits = omega arith }

pub bounds-positions-m : goal.bounds-positions-m
bounds-positions-m c =
    omega arith
