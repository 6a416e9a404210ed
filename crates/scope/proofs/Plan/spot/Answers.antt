-- `scope::Plan::spot` meets its contract: 11, 12, then 14.
-- Assumes nothing.
use Rattle.std.proofs.lemmas.Result.{err_from_is_err_and}
use Rattle.scope.proofs.Chains.{refused_found}
use Rattle.scope.proofs.PlanFacts.{pixel_handed}
use Rattle.scope.proofs.MethodAnswers.{pixel_done}
use Rattle.scope.proofs.Plan.spot.Goals as goal

pub returns-in_err-pixel_outcome : goal.returns-in_err-pixel_outcome
returns-in_err-pixel_outcome c =
    let p = err_from_is_err_and c.from_residual.result c.from_residual.ensures.1 in
    rw (p.1, p.2) (rw (pixel_handed c.ranges.i c.ranges.j) at (refused_found _ c.pixel_outcome.ensures c.in_err-pixel_outcome.was))

pub invariant_of-tested : goal.invariant_of-tested
invariant_of-tested c =
    let (plan, sides, pixel) = pixel_done _ _ _ _ c.pixel_outcome.ensures c.in_ok-pixel_outcome.was in
    record { is = plan }

pub invariant_of-layout : goal.invariant_of-layout
invariant_of-layout c =
    let (plan, sides, pixel) = pixel_done _ _ _ _ c.pixel_outcome.ensures c.in_ok-pixel_outcome.was in
    record { sides = sides }

pub invariant_of-result : goal.invariant_of-result
invariant_of-result c =
    let (plan, sides, pixel) = pixel_done _ _ _ _ c.pixel_outcome.ensures c.in_ok-pixel_outcome.was in
    record { there = pixel }
