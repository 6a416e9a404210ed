-- `finder::marks::MarksTrial::least_b` meets its contract. The loop's invariant: it ends at the smaller of `below` and a, s is the plan's
-- first cell in row d, and no plan with a smaller b suits.
-- Assumes nothing.
use Prim.Native.Nat.{◌+◌, ◌*◌, ◌%◌, min, ◌≤◌}
use mathlib.Core.Path.{◌≡◌}
use Rattle.scope.specs.Finding.{trial}
use Rattle.finder.specs.Table.{TestOf}
use Rattle.finder.proofs.PlanLoops.{NoneFrom}
use Rattle.finder.proofs.marks.MarksTrial.least_b.Given as goal

abbrev pub invariant-loop-b : goal.invariant-loop-b
invariant-loop-b l =
    (l.end ≡ min l.below l.a) × (l.b ≤ l.end) × (l.s ≡ (31 + l.b) % l.a) × NoneFrom (TestOf l.self.cells) (λ test b'. trial test (l.a * l.d) b' l.d) 0 l.b
