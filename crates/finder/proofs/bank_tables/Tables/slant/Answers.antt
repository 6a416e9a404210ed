-- `finder::bank_tables::Tables::slant` meets its contract.
-- Assumes nothing.
use native.Mathlib.Omega.{arith}
use mathlib.Core.Path.{refl}
use Rattle.scope.specs.Plans.{plan}
use Rattle.scope.proofs.PlanFacts.{plan_means, is_plan_iff, a_at_most}
use Rattle.finder.proofs.SuitingPlans.{made_is_plan}
use Rattle.finder.proofs.bank_tables.Tables.slant.Goals as goal

pub overflow_cast-self : goal.overflow_cast-self
overflow_cast-self c =
    let t = c.args.self.now.tested in omega (arith, c.requires, a_at_most t.plan (plan_means t.plan t.is))

pub invariant_of-self : goal.invariant_of-self
unfolding plan
invariant_of-self c =
    let t = c.args.self.now.tested in
    let p = plan_means t.plan t.is in
    record { is = (is_plan_iff _).1 (made_is_plan t.plan.a c.args.b t.plan.d p.a_least p.d_least c.requires p.most) }

pub shifts_of-self-requires : goal.shifts_of-self-requires
shifts_of-self-requires c =
    let t = c.args.self.now.tested in
    let p = plan_means t.plan t.is in
    (c.requires, a_at_most t.plan p, p.d_least)

pub returns : goal.returns
unfolding plan
returns c = refl
