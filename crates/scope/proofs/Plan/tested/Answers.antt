-- `scope::Plan::tested` meets its contract: 11, then the plan.
-- Assumes nothing.
use Rattle.scope.specs.Plans.{is_plan}
use Rattle.scope.specs.Numbers.{plan_test}
use Rattle.scope.specs.declared.Refusal.TheVariants.{NotPlan}
use Rattle.scope.proofs.MethodAnswers.{fails, demand_fails}
use Rattle.scope.proofs.Plan.tested.Goals as goal

pub returns-then-not-is_plan : goal.returns-then-not-is_plan
unfolding plan_test
returns-then-not-is_plan c =
    demand_fails (is_plan c.args.self) NotPlan (fails c.is_plan.ensures c.if-not-is_plan.true-raw)
