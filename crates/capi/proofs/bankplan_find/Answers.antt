-- `capi::bankplan_find` meets its contract.
-- Assumes nothing.
use Rattle.scope.specs.Numbers.{of_result}
use Rattle.capi.proofs.Passed.{told_of}
use Rattle.capi.proofs.bankplan_find.Goals as goal

pub returns : goal.returns
returns c =
    told_of of_result (rw c.book_of.ensures at c.find.ensures) c.tell.ensures
