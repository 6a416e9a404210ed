-- `capi::memory::bankplan_make_sums` meets its contract.
-- Assumes nothing.
use Rattle.scope.specs.Numbers.{of_result}
use Rattle.capi.proofs.Passed.{told_of}
use Rattle.capi.proofs.memory.bankplan_make_sums.Goals as goal

pub returns : goal.returns
returns c =
    let e = rw c.plan_of.ensures at c.make_sums.ensures in
    record { told = told_of of_result e.answer c.tell.ensures; left = e.left }
