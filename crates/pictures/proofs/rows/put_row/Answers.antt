-- `pictures::rows::put_row` meets its contract.
-- Assumes nothing.
use Rattle.std.proofs.Common.{refl}
use Rattle.scope.specs.Banks.{over_start}
use Rattle.pictures.proofs.rows.put_row.Goals as goal

pub returns : goal.returns
unfolding over_start
returns c = rw (c.copy_from_slice.ensures.after, c.requires.0) refl
