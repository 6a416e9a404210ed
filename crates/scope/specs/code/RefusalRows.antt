-- The clash of a refusal as the code has it beside number and place.
-- Assumes nothing.
use Rattle.std.specs.Prelude.{Option as Optional, Some, None}
use Rattle.std.proofs.Math.Option.{Option, none, some}
use Rattle.scope.specs.Cycles.{LongClash, lengthened}
use Rattle.scope.specs.declared.Clash.{Clash}

-- its positions in a list, where a row has one
abbrev pub row_clash : Optional Clash → Option LongClash
row_clash None = none
row_clash (Some c) = some (lengthened c)
