-- `scope::Plan::address` meets its contract: 11, 12, 14, then the address.
-- Assumes nothing.
use mathlib.Core.Path.{◌∙◌}
use Rattle.std.specs.Prelude.{Ok, Err}
use Rattle.scope.specs.Banks.{address_of}
use Rattle.scope.specs.Calls.{address}
use Rattle.scope.proofs.Chains.{handed_on}
use Rattle.scope.proofs.PlanFacts.{pixel_handed}
use Rattle.scope.proofs.MethodAnswers.{refusal_told, value_told}
use Rattle.scope.proofs.Plan.address.Goals as goal

pub returns-in_err-spot : goal.returns-in_err-spot
unfolding address
returns-in_err-spot c =
    handed_on _ c.from_residual.ensures ∙ (let u = c.args in
    refusal_told Err Ok address_of u.self u.w u.h (pixel_handed c.ranges.i c.ranges.j) c.in_err-spot.ensures)

pub returns : goal.returns
unfolding address
returns c =
    value_told Err Ok address_of c.in_ok-spot.field-0 (pixel_handed c.ranges.i c.ranges.j) c.in_ok-spot.ensures
    c.address_number.ensures
