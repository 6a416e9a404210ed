-- `finder::checking::first_clash` meets its contract. The loop's invariant: the patterns before the n-th have no clash.
-- Assumes nothing.
use Prim.Native.Nat.{ℕ, ◌≤◌, ◌<◌}
use mathlib.Core.Path.{◌≡◌}
use mathlib.Core.Option.{none}
use Rattle.finder.proofs.Verdicts.{pattern_clash}
use Rattle.finder.proofs.checking.first_clash.Given as goal

abbrev pub invariant-loop-n : goal.invariant-loop-n
invariant-loop-n l = (l.n ≤ l.count) × ((m : ℕ) → m < l.n → pattern_clash l.r l.p.plan l.book m ≡ none)
