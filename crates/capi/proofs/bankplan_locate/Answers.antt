-- `capi::bankplan_locate` meets its contract.
-- Assumes nothing.
use Rattle.scope.specs.Numbers.{of_located}
use Rattle.capi.proofs.Passed.{told_of, located_told}
use Rattle.capi.proofs.bankplan_locate.Goals as goal

pub returns : goal.returns
returns c =
    told_of of_located (rw c.plan_of.ensures at c.locate.ensures) (located_told _ c.tell.ensures)
