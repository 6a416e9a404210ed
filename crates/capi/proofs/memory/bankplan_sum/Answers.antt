-- `capi::memory::bankplan_sum` meets its contract.
-- Assumes nothing.
use Rattle.scope.specs.Numbers.{of_result}
use Rattle.capi.proofs.Passed.{told_of}
use Rattle.capi.proofs.memory.bankplan_sum.Goals as goal

pub returns : goal.returns
returns c =
    told_of of_result (rw c.plan_of.ensures at c.sum.ensures) c.tell.ensures
