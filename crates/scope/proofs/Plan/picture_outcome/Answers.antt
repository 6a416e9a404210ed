-- `scope::Plan::picture_outcome` meets its contract: 11, then 12.
-- Assumes nothing.
use Rattle.std.specs.Prelude.{Err}
use mathlib.Core.Path.{refl}
use Rattle.std.proofs.Common.{rules}
use Rattle.scope.proofs.Chains.{gives_value, gives_refusal}
use Rattle.scope.proofs.MethodAnswers.{fails, holds, no_plan_lem, no_sides, both_pass}
use Rattle.scope.proofs.Plan.picture_outcome.Goals as goal

pub returns-then-not-is_plan : goal.returns-then-not-is_plan
returns-then-not-is_plan c =
    gives_refusal (no_plan_lem _ _ _ (fails c.is_plan-is_plan.ensures (search rules))) Err _

pub returns-then-not-are_sides : goal.returns-then-not-are_sides
returns-then-not-are_sides c =
    gives_refusal (no_sides _ _ _ (holds c.is_plan-is_plan.ensures (search rules)) (fails c.are_sides.ensures (search rules))) Err _

pub returns : goal.returns
returns c =
    gives_value (both_pass _ _ _ (holds c.is_plan-is_plan.ensures (search rules)) (holds c.are_sides.ensures (search rules))) Err refl
