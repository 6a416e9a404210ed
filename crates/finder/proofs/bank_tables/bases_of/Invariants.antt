-- `finder::bank_tables::bases_of` meets its contract. The loop's invariant: the first banks of the rows before j are right,
-- and `row` is j modulo d.
-- Assumes nothing.
use Prim.Native.Nat.{◌*◌, ◌%◌}
use mathlib.Core.Path.{◌≡◌}
use lib.ListN.{replicate}
use Rattle.checks.proofs.FilledArrays.{Filled}
use Rattle.finder.proofs.bank_tables.bases_of.Given as goal

abbrev pub invariant-loop-j : goal.invariant-loop-j
invariant-loop-j l = (l.row ≡ l.j % l.d) × Filled 0 (λ m. (m % l.d) * l.a) l.j (replicate 32 0) l.bases
