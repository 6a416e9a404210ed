-- `scope::formulas::rounded_up` meets its contract.
-- Assumes nothing.
use native.Mathlib.Omega.{arith}
use Rattle.integers.specs.Division.{ceil_div}
use Rattle.scope.proofs.formulas.rounded_up.Goals as goal

pub divided-requires : goal.divided-requires
divided-requires c = (omega (arith, c.requires), c.requires.1, c.requires.2)

pub returns : goal.returns
unfolding ceil_div
returns c = c.divided.ensures
