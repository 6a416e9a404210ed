-- `finder::finding::least_plan` meets its contract. The loop's invariant: no plan with fewer than n banks suits.
-- Assumes nothing.
use native.Mathlib.Omega.{arith}
use Rattle.scope.specs.Finding.{first_with, least_of}
use Rattle.finder.proofs.PlanLoops.{none_yet, one_more_none, found_at, found_nowhere}
use Rattle.finder.proofs.finding.least_plan.Goals as goal

pub loop-n-init : goal.loop-n-init
loop-n-init g c = (omega arith, omega arith, none_yet first_with 1)

pub returns-in-Ok : goal.returns-in-Ok
unfolding least_of
returns-in-Ok g c =
    found_at first_with 1 c.args.limit _ c.loop-n.invariant.2 c.loop-n.invariant.0 (omega arith) c.first_with-p.ensures c.in-Ok.is

pub loop-n-preserved : goal.loop-n-preserved
loop-n-preserved g c =
    (omega arith, omega arith, one_more_none first_with 1 _ c.loop-n.invariant.2 c.first_with-p.ensures c.in_default.is)

-- the last count was searched
pub returns-in_default : goal.returns-in_default
unfolding least_of
returns-in_default g c =
    found_nowhere first_with 1 c.args.limit _
    (one_more_none first_with 1 _ c.loop-n.invariant.2 c.first_with-p.ensures c.in_default.is) (omega arith)

pub returns : goal.returns
unfolding least_of
returns g c = found_nowhere first_with 1 c.args.limit _ c.loop-n.invariant.2 (omega arith)
