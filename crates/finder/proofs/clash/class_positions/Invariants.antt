-- `finder::clash::class_positions` meets its contract. The loop's invariant: the pixel's position and the first r after it with
-- its bank, as far as l, are put.
-- Assumes nothing.
use Rattle.finder.proofs.ClassPositions.{PlacedTo}
use Rattle.finder.proofs.clash.class_positions.Given as goal

abbrev pub invariant-loop-l : goal.invariant-loop-l
invariant-loop-l l = PlacedTo l.r l.p.plan l.fn.t l.e l.positions l.m l.l
