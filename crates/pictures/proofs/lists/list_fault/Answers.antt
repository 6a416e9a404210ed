-- `pictures::lists::list_fault` meets its contract. The loop's invariant: the test of what is left is the test of the list.
-- Assumes nothing.
use Rattle.std.proofs.Common.{◌≡◌, ℕ, ◌+◌, ◌-◌, ◌*◌, ◌/◌, ◌≤◌, List, length, sym, refl, ◌∙◌, arith}
use mathlib.Core.Option.{Option}
use Rattle.pictures.specs.Lists.{room_at, room_read, IsRead, list_fault}
use Rattle.pictures.specs.declared.lists.ListCall.{ListCall}
use Rattle.pictures.specs.declared.lists.ListFault.{ListFault}
use Rattle.pictures.proofs.ListFaults.{Begins, begins, listed_fault, listed_made, first_is_call, first_room, after_first, first_long, no_calls, first_no_call, first_lacks_room, past_first}
use Rattle.pictures.proofs.lists.list_fault.Goals as goal

-- one call more is tested
one_more :
    {xs five others : List ℕ} {call : ListCall} (count next room own : ℕ) {t : Option ListFault} → Begins xs five others
    → next ≡ count + 1 → IsRead five call → own ≡ room_read call → own ≤ room → list_fault (length xs / 5) (5 * count) xs room ≡ t
    → list_fault (length others / 5) (5 * next) others (room - own) ≡ t
one_more {xs} {others} count next room own w next-is read own-is fits before =
    let left : length xs / 5 - 1 ≡ length others / 5 = omega (arith, first_long w) in
    let place : 5 * count + 5 ≡ 5 * next = omega arith in
    let room-is : room_at xs ≡ own = first_room w ∙ sym (own-is ∙ read.room) in
    let past : list_fault (length xs / 5) (5 * count) xs room ≡ list_fault (length others / 5) (5 * next) others (room - own) =
    past_first (5 * count) xs room (length xs / 5) (omega (arith, first_long w)) (first_is_call w ∙ read.numbers) (omega arith)
    ∙ rw (left, place, after_first w, room-is) refl in
    sym past ∙ before

pub returns-in_default : goal.returns-in_default
returns-in_default c =
    let i = c.loop-n.invariant in
    let s = c.in-Some.ensures.steps in
    let w = begins _ _ _ s.0.1.0 (s.0.1.1 ∙ i.five) in
    rw s.1
    (listed_fault (sym i.same ∙ first_no_call _ _ c.loop-n.room _ (omega (arith, first_long w)) (first_is_call w ∙ c.in_default.ensures)))

pub returns-then-room-own : goal.returns-then-room-own
returns-then-room-own c =
    let i = c.loop-n.invariant in
    let s = c.in-Some.ensures.steps in
    let w = begins _ _ _ s.0.1.0 (s.0.1.1 ∙ i.five) in
    let read = c.in-Some-read.ensures in
    listed_fault
    (sym i.same
    ∙ first_lacks_room _ _ c.loop-n.room _ (omega (arith, first_long w)) (first_is_call w ∙ read.numbers)
    (omega (arith, first_room w, read.room, c.room-own.ensures, c.if-room-own.true)))

pub loop-n-preserved : goal.loop-n-preserved
loop-n-preserved c =
    let i = c.loop-n.invariant in
    let s = c.in-Some.ensures.steps in
    let w = begins _ _ _ s.0.1.0 (s.0.1.1 ∙ i.five) in
    record {
      five = s.0.0 ∙ i.five;
      whole = omega (arith, first_long w, i.whole, s.2);
      same = one_more _ _ c.loop-n.room _ w s.2 c.in-Some-read.ensures c.room-own.ensures c.if-room-own.false i.same;
    }

pub returns : goal.returns
returns c =
    let i = c.loop-n.invariant in
    let s = c.in-None.ensures.steps in
    listed_made (sym i.same ∙ no_calls _ _ c.loop-n.room _ (omega (arith, s.0.1.0, i.five)))
