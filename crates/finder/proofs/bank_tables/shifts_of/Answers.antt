-- `finder::bank_tables::shifts_of` meets its contract. The loop's invariant: the rows before j have their shifts, and x is that of
-- row j, which is row `row` of its strip.
-- Assumes nothing.
use native.Mathlib.Omega.{arith}
use native.Mathlib.Nat.{mod-le}
use Rattle.finder.proofs.Shifts.{none_put, put_in_strip, put_last_of_strip, all_put}
use Rattle.finder.proofs.bank_tables.shifts_of.Goals.{then-row-d, else-row-d}
use Rattle.finder.proofs.bank_tables.shifts_of.Goals as goal

pub loop-j-init : goal.loop-j-init
loop-j-init c = none_put (omega arith) (omega arith)

-- in a turn: the shift is below a, and the row in its strip is at most j
pub overflow_cast-shifts : goal.overflow_cast-shifts
overflow_cast-shifts c = omega (arith, c.loop-j.invariant.shift.below)

pub bounds-shifts-j : goal.bounds-shifts-j
bounds-shifts-j c = omega (arith, c.loop-j.invariant.size)

pub overflow_add-row : goal.overflow_add-row
overflow_add-row c =
    let l = c.loop-j in omega (arith, l.invariant.row, mod-le l.j c.args.d)

pub next_shift-x-requires : goal.next_shift-x-requires
next_shift-x-requires c = (omega arith, c.loop-j.invariant.shift.below, omega arith)

pub loop-j-preserved : goal.loop-j-preserved
loop-j-preserved c =
    elim c.if-row-d.branch [
      | then-row-d w ↦
          rw (w.row-is, w.x-is)
          (put_last_of_strip (omega arith) (omega arith) w.next_shift-x.ensures.0 w.next_shift-x.ensures.1 c.loop-j.invariant)
      | else-row-d w ↦ rw (w.row-is, w.x-is) (put_in_strip (omega arith) (omega arith) (λ e. omega arith) c.loop-j.invariant)
    ]

pub returns : goal.returns
returns c = all_put (omega arith) c.loop-j.invariant
