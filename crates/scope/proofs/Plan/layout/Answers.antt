-- `scope::Plan::layout` meets its contract: 11, then 12.
-- Assumes nothing.
use Rattle.std.proofs.lemmas.Result.{err_from_is_err_and}
use Rattle.scope.proofs.Chains.{done_found_nothing, refused_found}
use Rattle.scope.proofs.MethodAnswers.{both_passed}
use Rattle.scope.proofs.Plan.layout.Goals as goal

pub returns-in_err-picture_outcome : goal.returns-in_err-picture_outcome
returns-in_err-picture_outcome c =
    let p = err_from_is_err_and c.from_residual.result c.from_residual.ensures.1 in
    rw (p.1, p.2) (refused_found _ c.picture_outcome.ensures c.in_err-picture_outcome.was)

pub invariant_of-tested : goal.invariant_of-tested
invariant_of-tested c =
    record { is = (both_passed _ _ _ (done_found_nothing _ c.picture_outcome.ensures c.in_ok-picture_outcome.was)).0 }

pub invariant_of-result : goal.invariant_of-result
invariant_of-result c =
    record { sides = (both_passed _ _ _ (done_found_nothing _ c.picture_outcome.ensures c.in_ok-picture_outcome.was)).1 }
