-- `finder::bank_tables::shifts_of` meets its contract. The loop's invariant: the rows before j have their shifts, and x is that of
-- row j, which is row `row` of its strip.
-- Assumes nothing.
use Rattle.finder.proofs.Shifts.{ShiftsPut}
use Rattle.finder.proofs.bank_tables.shifts_of.Given as goal

abbrev pub invariant-loop-j : goal.invariant-loop-j
invariant-loop-j l = ShiftsPut l.a l.b l.d l.j l.row l.x l.shifts
