-- `finder::counting::CellsTrial::least_b` meets its contract. The loop's invariant: it ends at the smaller of `below` and a, and no plan with a
-- smaller b suits for r.
-- Assumes nothing.
use Prim.Native.Nat.{◌*◌, min, ◌≤◌}
use mathlib.Core.Path.{◌≡◌}
use Rattle.scope.specs.Finding.{trial}
use Rattle.finder.specs.Counting.{CellTest}
use Rattle.finder.proofs.PlanLoops.{NoneFrom}
use Rattle.finder.proofs.counting.CellsTrial.least_b.Given as goal

abbrev pub invariant-loop-b : goal.invariant-loop-b
invariant-loop-b l =
    (l.end ≡ min l.below l.a) × (l.b ≤ l.end) × (l.tables.tested.plan.a ≡ l.a) × (l.tables.tested.plan.d ≡ l.d) × NoneFrom (CellTest l.self.r l.self.entries) (λ test b'. trial test (l.a * l.d) b' l.d) 0 l.b
