-- `capi::memory::bankplan_clear` meets its contract.
-- Assumes nothing.
use Rattle.scope.specs.Numbers.{of_result}
use Rattle.capi.proofs.Passed.{told_of}
use Rattle.capi.proofs.memory.bankplan_clear.Goals as goal

pub returns : goal.returns
returns c =
    let e = rw c.plan_of.ensures at c.clear.ensures in
    record { told = told_of of_result e.answer c.tell.ensures; left = e.left }
