-- `scope::Plan::pixel_outcome` meets its contract: 11, 12, then 14.
-- Assumes nothing.
use Rattle.std.specs.Prelude.{Err}
use mathlib.Core.Path.{refl, ◌∙◌}
use Rattle.std.proofs.Common.{rules}
use Rattle.scope.proofs.Chains.{handed_on, done_found_nothing, refused_found, gives_value, gives_refusal}
use Rattle.scope.proofs.PlanFacts.{pixel_handed}
use Rattle.scope.proofs.MethodAnswers.{fails, holds, pixel_refused_first, pixel_outside, pixel_passes}
use Rattle.scope.proofs.Plan.pixel_outcome.Goals as goal

pub returns-in_err-picture_outcome : goal.returns-in_err-picture_outcome
returns-in_err-picture_outcome c =
    handed_on _ c.from_residual.ensures ∙ gives_refusal (pixel_refused_first _ _ _ _ (refused_found _ c.picture_outcome.ensures c.in_err-picture_outcome.was)) Err _

pub returns-then-not-is_inside : goal.returns-then-not-is_inside
returns-then-not-is_inside c =
    let passed = done_found_nothing _ c.picture_outcome.ensures c.in_ok-picture_outcome.was in
    gives_refusal (pixel_outside _ _ _ _ passed (fails (rw (pixel_handed c.ranges.i c.ranges.j) at c.is_inside.ensures) (search rules))) Err _

pub returns : goal.returns
returns c =
    let passed = done_found_nothing _ c.picture_outcome.ensures c.in_ok-picture_outcome.was in
    gives_value (pixel_passes _ _ _ _ passed (holds (rw (pixel_handed c.ranges.i c.ranges.j) at c.is_inside.ensures) (search rules))) Err refl
