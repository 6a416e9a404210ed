-- `scope::formulas::Layout::address_in` meets its contract: both quotients and the width rounded up are at most 4096.
-- Assumes nothing.
use Prim.Native.Nat.{◌+◌, ◌*◌, ◌≤◌}
use native.Mathlib.Omega.{arith}
use Rattle.scope.specs.Banks.{across}
use Rattle.scope.specs.declared.formulas.Layout.{Layout}
use Rattle.scope.proofs.Ceilings.{Rounds, rounded_at_most, product_at_most}
use Rattle.scope.proofs.Naturals.{quotient_below}
use Rattle.scope.proofs.PlanFacts.{sides_round}
use Rattle.scope.proofs.formulas.Layout.address_in.Goals as goal

-- what a layout is, which answers for either side and either divisor, so that an exchange is refused where the address is returned
rounds : (l : Layout) → Rounds l.w l.tested.plan.a × Rounds l.h l.tested.plan.d
rounds l = sides_round _ _ _ l.tested.is l.sides

pub rounded_up-requires : goal.rounded_up-requires
rounded_up-requires c = let r = rounds c.args.self in (omega (arith, r), omega (arith, r), omega (arith, r))

-- the strips before the row's, times the words across
strips-most : (c : goal.After-rounded_up) → c.args.q * c.rounded_up.result ≤ 16777216
strips-most c =
    product_at_most _ _ (omega (arith, c.requires.1)) (rounded_at_most _ _ (rounded_up-requires c.before) c.rounded_up.ensures)

pub divided-requires : goal.divided-requires
divided-requires c = let r = rounds c.args.self in (omega (arith, c.requires.0), omega (arith, r), omega (arith, r))

-- and the words before the column's
most : (c : goal.After-divided) → c.args.q * c.rounded_up.result + c.divided.result ≤ 16781312
most c =
    omega (arith, strips-most c.before, quotient_below _ _ c.divided.ensures c.requires.0)

pub returns : goal.returns
unfolding across
returns c = rw (c.rounded_up.ensures, c.divided.ensures)

pub overflow_mul-result : goal.overflow_mul-result
overflow_mul-result c =
    record { fits = omega (arith, strips-most c) }

pub overflow_add-result : goal.overflow_add-result
overflow_add-result c =
    record { fits = omega (arith, most c) }

pub overflow_cast-result : goal.overflow_cast-result
overflow_cast-result c =
    record { fits = omega (arith, most c) }
