-- `finder::cells::Cells::pattern_crowded` meets its contract. The loop's invariant: the first e pixels are counted, and each has a cycle
-- below r.
-- Assumes nothing.
use Rattle.finder.specs.Counting.{pattern_in}
use Rattle.finder.proofs.CountedBanks.{CountedTo}
use Rattle.finder.proofs.cells.Cells.pattern_crowded.Given as goal

abbrev pub invariant-loop-e : goal.invariant-loop-e
invariant-loop-e l =
    CountedTo l.tables.tested.plan (pattern_in l.self.entries l.n) l.self.r l.counts l.e
