-- `capi::told::put_positions` meets its contract. The loop's invariant: the first e positions stand in the array.
-- Assumes nothing.
use Rattle.capi.proofs.Positions.{Placed}
use Rattle.capi.proofs.told.put_positions.Given as goal

abbrev pub invariant-loop-e : goal.invariant-loop-e
invariant-loop-e l = Placed l.positions l.initial.answer l.e l.answer
