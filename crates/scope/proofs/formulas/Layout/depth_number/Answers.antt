-- `scope::formulas::Layout::depth_number` meets its contract: neither side rounded up is above 4096, so their product fits.
-- Assumes nothing.
use Prim.Native.Nat.{◌*◌, ◌≤◌}
use native.Mathlib.Omega.{arith}
use Rattle.scope.specs.Banks.{depth_of}
use Rattle.scope.specs.declared.formulas.Layout.{Layout}
use Rattle.scope.proofs.Ceilings.{Rounds, rounded_at_most, product_at_most}
use Rattle.scope.proofs.PlanFacts.{sides_round}
use Rattle.scope.proofs.formulas.Layout.depth_number.Goals as goal

-- what a layout is, which answers for either side and either divisor, so that an exchange is refused where the depth is returned
rounds : (l : Layout) → Rounds l.w l.tested.plan.a × Rounds l.h l.tested.plan.d
rounds l = sides_round _ _ _ l.tested.is l.sides

pub rounded_up-requires : goal.rounded_up-requires
rounded_up-requires c = let r = rounds c.args.self in (omega (arith, r), omega (arith, r), omega (arith, r))

pub rounded_up-requires-2 : goal.rounded_up-requires-2
rounded_up-requires-2 c = let r = rounds c.args.self in (omega (arith, r), omega (arith, r), omega (arith, r))

product : (c : goal.After-rounded_up-2) → c.rounded_up.result * c.rounded_up-2.result ≤ 16777216
product c =
    product_at_most _ _ (rounded_at_most _ _ (rounded_up-requires c.before.before) c.rounded_up.ensures)
    (rounded_at_most _ _ (rounded_up-requires-2 c.before) c.rounded_up-2.ensures)

pub returns : goal.returns
unfolding depth_of
returns c = rw (c.rounded_up.ensures, c.rounded_up-2.ensures)

pub overflow_mul-result : goal.overflow_mul-result
overflow_mul-result c =
    omega (arith, product c)

pub overflow_cast-result : goal.overflow_cast-result
overflow_cast-result c =
    omega (arith, product c)
