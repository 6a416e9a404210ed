-- `capi::flat::pattern_of` meets its contract.
-- Assumes nothing.
use Rattle.capi.specs.Flat.{flat_pattern}
use Rattle.capi.proofs.flat.pattern_of.Goals as goal

pub returns : goal.returns
unfolding flat_pattern
returns c = rw (c.entries_of-xs.ensures, c.entries_of-ys.ensures)
