-- `capi::memory::bankplan_load` meets its contract.
-- Assumes nothing.
use mathlib.Core.Path.{◌∙◌, ap}
use Rattle.scope.specs.Numbers.{of_result}
use Rattle.scope.specs.Calls.{load}
use Rattle.scope.proofs.PlanFacts.{pixel_handed}
use Rattle.capi.proofs.Passed.{told_of}
use Rattle.capi.proofs.memory.bankplan_load.Goals as goal

pub returns : goal.returns
returns c =
    let f = c.ranges in
    told_of of_result ((rw c.plan_of.ensures at c.load.ensures) ∙ ap (load _ _ _ _) (pixel_handed f.i f.j)) c.tell.ensures
