-- `capi::flat::plan_of` meets its contract.
-- Assumes nothing.
use mathlib.Core.Path.{refl}
use Rattle.scope.specs.Plans.{plan}
use Rattle.capi.proofs.flat.plan_of.Goals as goal

pub returns : goal.returns
unfolding plan
returns c = refl
