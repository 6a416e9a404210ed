-- `finder::bank_tables::lanes_of` meets its contract. The loop's invariant: the first c lanes are right, and x is the next.
-- Assumes nothing.
use Prim.Native.Nat.{◌%◌}
use mathlib.Core.Path.{◌≡◌}
use lib.ListN.{replicate}
use Rattle.checks.proofs.FilledArrays.{Filled}
use Rattle.finder.proofs.bank_tables.lanes_of.Given as goal

abbrev pub invariant-loop-c : goal.invariant-loop-c
invariant-loop-c l = (l.x ≡ l.c % l.a) × Filled 0 (λ m. m % l.a) l.c (replicate 32 0) l.lanes
