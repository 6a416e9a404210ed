-- `finder::finding::first_with` meets its contract. The loop's invariant: the best plan so far is that of the d's before this one, and
-- the next one must have a smaller b.
-- Assumes nothing.
use Prim.Native.Nat.{◌+◌, ◌-◌, ◌≤◌}
use Rattle.finder.proofs.PlanLoops.{BestIn}
use Rattle.finder.proofs.finding.first_with.Given as goal

abbrev pub invariant-loop-d : goal.invariant-loop-d
invariant-loop-d g l = (l.d ≤ l.n + 1) × BestIn (g.T.Trial.tests l.trial) l.n (l.d - 1) l.best l.below
