-- `capi::memory::bankplan_store` meets its contract.
-- Assumes nothing.
use Rattle.scope.specs.Numbers.{of_result}
use Rattle.scope.specs.Calls.{store}
use Rattle.scope.proofs.PlanFacts.{pixel_handed}
use Rattle.capi.proofs.Passed.{told_at}
use Rattle.capi.proofs.memory.bankplan_store.Goals as goal

pub returns : goal.returns
returns c =
    let f = c.ranges in
    let e = rw c.plan_of.ensures at c.store.ensures in
    let t = told_at of_result (store _ _ _ _) (pixel_handed f.i f.j) (e.answer, e.left) c.tell.ensures in
    record { told = t.0; left = t.1 }
