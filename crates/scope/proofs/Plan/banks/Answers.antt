-- `scope::Plan::banks` meets its contract: a × d is formed at 64 bits.
-- Assumes nothing.
use native.Mathlib.Omega.{arith}
use mathlib.Core.Path.{refl}
use Rattle.integers.proofs.Sizes.{product_fits_64}
use Rattle.scope.specs.Plans.{banks}
use Rattle.scope.proofs.Plan.banks.Goals as goal

pub overflow_mul-result : goal.overflow_mul-result
overflow_mul-result c = product_fits_64 _ _ (omega arith) (omega arith)

pub returns : goal.returns
unfolding banks
returns c = refl
