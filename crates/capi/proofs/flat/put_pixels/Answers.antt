-- `capi::flat::put_pixels` meets its contract. The loop's invariant: the first k entries are the record's.
-- Assumes nothing.
use native.Mathlib.Omega.{arith}
use mir.Syntax.{w8}
use Rattle.integers.proofs.Raised.{number_handed}
use Rattle.scope.specs.Plans.{pattern_at}
use Rattle.checks.proofs.FilledArrays.{filled_none, filled_more, filled_all}
use Rattle.capi.specs.Flat.{flat_columns, flat_rows}
use Rattle.capi.proofs.flat.put_pixels.Goals as goal

pub loop-k-init : goal.loop-k-init
loop-k-init c = (filled_none _, filled_none _)

pub loop-k-preserved : goal.loop-k-preserved
unfolding pattern_at
loop-k-preserved c =
    let t = c.loop-k.invariant in (
      filled_more t.0 (number_handed w8 (omega arith)),
      filled_more t.1 (number_handed w8 (omega arith)),
    )

pub returns : goal.returns
unfolding flat_columns flat_rows
returns c =
    let t = c.loop-k.invariant in (filled_all t.0 (omega arith), filled_all t.1 (omega arith))
