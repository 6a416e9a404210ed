-- `finder::bank_tables::next_shift` meets its contract.
-- Assumes nothing.
use native.Mathlib.Omega.{arith}
use mathlib.Core.Logic.{inl, inr}
use Rattle.finder.proofs.bank_tables.next_shift.Goals as goal

pub returns-then-b-x : goal.returns-then-b-x
returns-then-b-x c = (omega arith, inl (omega arith))

pub returns-else-b-x : goal.returns-else-b-x
returns-else-b-x c = (omega arith, inr (omega arith))
