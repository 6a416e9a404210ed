-- `claims::find_and_run` meets its contract: the list is made under the finder's plan, or nothing is done.
-- Assumes nothing.
use mathlib.Core.Path.{◌∙◌}
use Rattle.checks.proofs.Chains.{handed_on}
use Rattle.claims.proofs.CodeLists.{plan_kept, refusal_kept, same_demand}
use Rattle.claims.proofs.find_and_run.Goals as goal

pub returns : goal.returns
returns c =
    let e = c.run_list.ensures in
    let k = plan_kept _ _ _ _ _ _ _ c.find.ensures c.in_ok-plan.was (e.answer, e.left) in
    record { answer = k.0; left = k.1.0; demand = k.1.1 }

pub returns-in_err-plan : goal.returns-in_err-plan
returns-in_err-plan c =
    let k = refusal_kept _ _ _ _ _ _ _ c.find.ensures c.in_err-plan.was in
    let told = handed_on _ c.from_residual.ensures in
    record { answer = told ∙ k.0; left = k.1.0; demand = same_demand _ told k.1.1 }
