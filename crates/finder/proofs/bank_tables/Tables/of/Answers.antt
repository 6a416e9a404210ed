-- `finder::bank_tables::Tables::of` meets its contract: where b is 0 no row is moved.
-- Assumes nothing.
use mathlib.Core.Path.{refl}
use Rattle.std.proofs.lemmas.Grind.{merely}
use Rattle.scope.specs.Plans.{plan}
use Rattle.scope.proofs.PlanFacts.{is_plan_iff}
use Rattle.finder.proofs.Shifts.{none_moved}
use Rattle.finder.proofs.SuitingPlans.{made_is_plan}
use Rattle.finder.proofs.bank_tables.Tables.of.Goals as goal

pub invariant_of-result : goal.invariant_of-result
unfolding plan
invariant_of-result c =
    let (a_least, d_least, most) = c.requires in
    record { is = (is_plan_iff _).1 (made_is_plan c.args.a 0 c.args.d a_least d_least a_least most) }

pub invariant_of-result-2 : goal.invariant_of-result-2
invariant_of-result-2 c =
    record {
      lanes_are = c.lanes_of.ensures;
      bases_are = c.bases_of.ensures;
      shifts_are = merely (none_moved c.args.a c.args.d c.requires.0);
    }

pub returns : goal.returns
unfolding plan
returns c = refl
