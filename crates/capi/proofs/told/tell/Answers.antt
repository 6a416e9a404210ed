-- `capi::told::tell` meets its contract.
-- Assumes nothing.
use mathlib.Core.Path.{ap}
use Rattle.scope.specs.Numbers.{of_result}
use Rattle.capi.proofs.Passed.{told_value, told_refusal}
use Rattle.capi.proofs.told.tell.Goals as goal

pub returns-in-Ok : goal.returns-in-Ok
returns-in-Ok g c = told_value (ap of_result c.in-Ok.is) c.tell_value.ensures

pub returns-in-Err : goal.returns-in-Err
returns-in-Err g c = told_refusal (ap of_result c.in-Err.is) c.tell_refusal.ensures
