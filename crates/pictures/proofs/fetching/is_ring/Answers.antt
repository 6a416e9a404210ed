-- `pictures::fetching::is_ring` meets its contract: a plan's numbers divide, and the product has 32 bits.
-- Assumes nothing.
use Rattle.std.proofs.Common.{ℕ, ◌*◌, ◌/◌, ◌≤◌, mul-le-mul, div-le_self, arith}
use Rattle.scope.specs.promises.Meaning.{IsPlan}
use Rattle.scope.specs.declared.Plan.{Plan}
use Rattle.scope.proofs.PlanFacts.{plan_means, a_at_most}
use Rattle.pictures.proofs.fetching.is_ring.Goals as goal

-- b is below 1024 and h/d at most 4096
product-most : (p : Plan) (h : ℕ) → IsPlan p → h ≤ 4096 → p.b * (h / p.d) ≤ 1023 * 4096
product-most p h plan most =
    mul-le-mul {n₂ = 1023} {m₂ = 4096} (omega (arith, plan.b_below, a_at_most p plan)) (omega (arith, div-le_self h p.d))

pub nonzero_rem-w : goal.nonzero_rem-w
nonzero_rem-w c = (plan_means c.args.tested.plan c.args.tested.is).a_least

pub nonzero_rem-h : goal.nonzero_rem-h
nonzero_rem-h c = (plan_means c.args.tested.plan c.args.tested.is).d_least

pub nonzero_div-result : goal.nonzero_div-result
nonzero_div-result c = (plan_means c.args.tested.plan c.args.tested.is).d_least

pub overflow_mul-result : goal.overflow_mul-result
overflow_mul-result c =
    let t = c.args.tested in
    record { fits = omega (arith, product-most t.plan c.args.h (plan_means t.plan t.is) c.requires) }

pub nonzero_rem-result : goal.nonzero_rem-result
nonzero_rem-result c = (plan_means c.args.tested.plan c.args.tested.is).a_least
