-- `scope::Plan::bank` meets its contract: 11, then the bank.
-- Assumes nothing.
use Rattle.std.specs.Prelude.{Ok, Err}
use mathlib.Core.Path.{◌≡◌, refl, ◌∙◌, ap}
use mathlib.Core.Bool.{true}
use Rattle.scope.specs.Plans.{Pixel, is_plan}
use Rattle.scope.specs.Banks.{bank_of}
use Rattle.scope.specs.Numbers.{plan_test}
use Rattle.scope.specs.Calls.{bank}
use Rattle.scope.specs.declared.Plan.{Plan}
use Rattle.scope.specs.declared.Refusal.TheVariants.{NotPlan}
use Rattle.scope.proofs.Chains.{handed_on, gives_value, gives_refusal}
use Rattle.scope.proofs.PlanFacts.{pixel_handed}
use Rattle.scope.proofs.MethodAnswers.{demand_met}
use Rattle.scope.proofs.Plan.bank.Goals as goal

bank-given : (p : Plan) (v : Pixel) → is_plan p ≡ true → Ok (bank_of p v) ≡ bank p v
unfolding bank plan_test
bank-given p v e = gives_value (demand_met (is_plan p) NotPlan e) Err refl

pub returns-in_err-tested : goal.returns-in_err-tested
unfolding bank
returns-in_err-tested c =
    handed_on _ c.from_residual.ensures ∙ (gives_refusal c.in_err-tested.ensures Err _)

pub returns : goal.returns
returns c =
    let t = c.in_ok-tested.field-0 in
    rw (← c.in_ok-tested.ensures)
    (ap Ok (c.bank_number.ensures ∙ ap (bank_of t.plan) (pixel_handed c.ranges.i c.ranges.j)) ∙ bank-given t.plan _ t.is)
