-- `records::is_placeable` meets its contract: a record is placeable where its pixel has an address.
-- Assumes nothing.
use Rattle.std.specs.Prelude.{is_ok}
use native.Mathlib.Omega.{arith}
use mathlib.Core.Path.{◌∙◌, ap}
use Rattle.records.specs.Filling.{is_placeable}
use Rattle.records.proofs.Placing.{address_handed}
use Rattle.records.proofs.is_placeable.Goals as goal

pub returns : goal.returns
unfolding is_placeable
returns c =
    c.is_ok.ensures.value
    ∙ ap is_ok (address_handed c.args.r (omega arith) (omega arith) c.args.p c.args.w c.args.h c.address.ensures)
