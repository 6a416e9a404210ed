-- `scope::formulas::Spot::address_number` meets its contract.
-- Assumes nothing.
use native.Mathlib.Omega.{arith}
use Rattle.std.proofs.Common.{rules}
use Rattle.scope.proofs.Naturals.{quotient_below, column_fits, row_fits, column_small, row_small, both_round, address_of_naturals}
use Rattle.scope.proofs.formulas.Spot.address_number.Goals as goal

pub overflow_cast-self : goal.overflow_cast-self
overflow_cast-self c = column_fits c.args.self (search rules) (search rules)

pub overflow_cast-self-2 : goal.overflow_cast-self-2
overflow_cast-self-2 c = row_fits c.args.self (search rules) (search rules)

pub divided-requires : goal.divided-requires
divided-requires c =
    let r = both_round c.args.self (search rules) (search rules) in
    (omega (arith, row_small c.args.self (search rules) (search rules)), omega (arith, r), omega (arith, r))

pub address_in-requires : goal.address_in-requires
address_in-requires c = (
  column_small c.args.self (search rules) (search rules),
  quotient_below _ _ c.divided.ensures (row_small c.args.self (search rules) (search rules)),
)

pub returns : goal.returns
returns c = address_of_naturals c.args.self (search rules) (search rules) c.divided.ensures c.address_in.ensures
