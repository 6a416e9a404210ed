-- `finder::clash::clash_in` meets its contract. The loop's invariant: the positions from e on are searched.
-- Assumes nothing.
use Prim.Native.Nat.{ℕ, ◌≤◌}
use mathlib.Core.List.{List}
use lib.IntN.{ℤ}
use Rattle.scope.specs.declared.Pattern.{Pattern}
use Rattle.finder.proofs.Meetings.{SearchedFrom}
use Rattle.finder.proofs.clash.clash_in.Given as goal

-- the loop's columns and rows, and the count that it starts from, as the record they came from
abbrev pub pattern : List ℤ → List ℤ → ℕ → Pattern
pattern columns rows used = record { columns = columns; rows = rows; used = used }

abbrev pub invariant-loop-e : goal.invariant-loop-e
invariant-loop-e l = (l.e ≤ l.initial.e) × SearchedFrom l.r l.p.plan l.n (pattern l.columns l.rows l.initial.e) l.next l.held l.met l.e
