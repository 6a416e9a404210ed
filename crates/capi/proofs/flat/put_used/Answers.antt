-- `capi::flat::put_used` meets its contract. The loop's invariant: the first n entries are the record's.
-- Assumes nothing.
use native.Mathlib.Omega.{arith}
use mathlib.Core.Path.{refl}
use Rattle.scope.specs.Plans.{pattern_at}
use Rattle.checks.proofs.FilledArrays.{filled_none, filled_more, filled_all}
use Rattle.capi.specs.Flat.{flat_used}
use Rattle.capi.proofs.flat.put_used.Goals as goal

pub loop-n-init : goal.loop-n-init
loop-n-init c = filled_none _

pub loop-n-preserved : goal.loop-n-preserved
unfolding pattern_at
loop-n-preserved c = filled_more c.loop-n.invariant refl

pub returns : goal.returns
unfolding flat_used
returns c = filled_all c.loop-n.invariant (omega arith)
