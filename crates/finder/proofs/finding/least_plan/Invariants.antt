-- `finder::finding::least_plan` meets its contract. The loop's invariant: no plan with fewer than n banks suits.
-- Assumes nothing.
use Prim.Native.Nat.{◌+◌, ◌≤◌}
use Rattle.scope.specs.Finding.{first_with}
use Rattle.finder.proofs.PlanLoops.{NoneFrom}
use Rattle.finder.proofs.finding.least_plan.Given as goal

abbrev pub invariant-loop-n : goal.invariant-loop-n
invariant-loop-n g l = (1 ≤ l.n) × (l.n ≤ l.limit + 1) × NoneFrom (g.T.Trial.tests l.trial) first_with 1 l.n
