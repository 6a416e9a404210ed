-- `pictures::lists::make_calls` meets its contract. The loop's invariant is `Turns`.
-- Assumes nothing.
use Rattle.std.proofs.Common.{sym, ◌∙◌, arith, rules}
use Rattle.checks.proofs.Searches.{true-not-false}
use Rattle.pictures.proofs.ListFaults.{begins}
use Rattle.pictures.proofs.ListTurns.{turns_start, turns_end, turn_call, turn_room, turns_on}
use Rattle.pictures.proofs.lists.make_calls.Goals as goal

pub loop-c-init : goal.loop-c-init
loop-c-init c =
    record { five = search rules; turns = turns_start _ _ _ _ _ _ _ (search rules) (search rules) c.requires.1 c.requires.2 }

pub unreachable-requires : goal.unreachable-requires
unreachable-requires c =
    let i = c.loop-c.invariant in
    let s = c.in-Some.ensures.steps in
    let b = begins _ _ _ s.0.1.0 (s.0.1.1 ∙ i.five) in
    true-not-false (sym (turn_call _ _ _ _ _ i.turns b) ∙ c.in_default.ensures)

pub overflow_add-end : goal.overflow_add-end
overflow_add-end c =
    let i = c.loop-c.invariant in
    let s = c.in-Some.ensures.steps in
    let b = begins _ _ _ s.0.1.0 (s.0.1.1 ∙ i.five) in
    omega (arith, turn_room _ _ _ _ _ i.turns b (c.room.ensures ∙ c.in-Some-read.ensures.room))

pub slice_bounds-make_call-end : goal.slice_bounds-make_call-end
slice_bounds-make_call-end c =
    let i = c.loop-c.invariant in
    let s = c.in-Some.ensures.steps in
    let b = begins _ _ _ s.0.1.0 (s.0.1.1 ∙ i.five) in
    omega (arith, turn_room _ _ _ _ _ i.turns b (c.room.ensures ∙ c.in-Some-read.ensures.room))

pub make_call-row-requires : goal.make_call-row-requires
make_call-row-requires c = rw c.loop-c.invariant.turns.going.mem_long c.requires.0

pub loop-c-preserved : goal.loop-c-preserved
loop-c-preserved c =
    let i = c.loop-c.invariant in
    let s = c.in-Some.ensures.steps in
    let b = begins _ _ _ s.0.1.0 (s.0.1.1 ∙ i.five) in
    let read = c.in-Some-read.ensures in
    record {
      five = s.0.0 ∙ i.five;
      turns =
          rw s.1
          (turns_on _ _ _ _ _ i.turns b (c.room.ensures ∙ read.room) s.2 c.make_call-row.auto.mem c.make_call-row.auto.sums
          (rw (read.call _) at c.make_call-row.ensures) c.make_call-row.auto.out (rw s.1 at c.put_row.ensures));
    }

pub returns : goal.returns
returns c =
    let i = c.loop-c.invariant in
    turns_end _ _ _ _ _ i.turns (omega (arith, c.in-None.ensures.steps.0.1.0, i.five))
