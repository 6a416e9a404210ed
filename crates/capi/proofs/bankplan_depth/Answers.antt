-- `capi::bankplan_depth` meets its contract.
-- Assumes nothing.
use Rattle.scope.specs.Numbers.{of_result}
use Rattle.capi.proofs.Passed.{told_of}
use Rattle.capi.proofs.bankplan_depth.Goals as goal

pub returns : goal.returns
returns c =
    told_of of_result (rw c.plan_of.ensures at c.depth.ensures) c.tell.ensures
