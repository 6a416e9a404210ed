-- `capi::memory::bankplan_ring_fetch` meets its contract.
-- Assumes nothing.
use Rattle.scope.specs.Numbers.{of_fetch}
use Rattle.scope.specs.Calls.{ring_fetch}
use Rattle.scope.proofs.PlanFacts.{pixel_handed}
use Rattle.capi.proofs.Passed.{told_at, same_fetch}
use Rattle.capi.proofs.memory.bankplan_ring_fetch.Goals as goal

pub returns : goal.returns
returns c =
    let e = rw (c.book_of-book.ensures, c.plan_of-p.ensures) at c.ring_fetch.ensures in
    let t =
    told_at (of_fetch c.args.r) (ring_fetch _ _ _ _ _ _ _) (pixel_handed c.ranges.i c.ranges.j)
    (same_fetch e.answer.0 e.answer.1, e.left)
    c.tell_fetch.ensures in
    record { told = t.0; out = t.1 }
