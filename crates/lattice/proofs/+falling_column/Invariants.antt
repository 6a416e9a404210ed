-- `lattice::falling_column`: the measure is the second row, which falls at each call.
-- Assumes nothing.
use Rattle.lattice.proofs.+falling_column.Given as goal

abbrev pub decreases-falling_column : goal.decreases-falling_column
decreases-falling_column l = l.q
