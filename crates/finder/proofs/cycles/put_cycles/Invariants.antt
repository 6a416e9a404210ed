-- `finder::cycles::put_cycles` meets its contract. The loop's invariant: the cycles of the first e pixels are put, and these
-- are counted.
-- Assumes nothing.
use Rattle.finder.proofs.PutCycles.{CyclesPut}
use Rattle.finder.proofs.cycles.put_cycles.Given as goal

abbrev pub invariant-loop-e : goal.invariant-loop-e
invariant-loop-e l = CyclesPut l.p.plan l.fn.t l.initial.out l.out l.taken l.e
