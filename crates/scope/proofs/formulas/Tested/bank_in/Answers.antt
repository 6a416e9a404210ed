-- `scope::formulas::Tested::bank_in` meets its contract: i - b × q fits 32 bits.
-- Assumes nothing.
use Prim.Native.Nat.{ℕ, ◌+◌, ◌*◌, ◌-◌, ◌≤◌}
use native.Mathlib.Omega.{arith}
use native.Mathlib.Nat.{sub-add_cancel}
use mathlib.Core.Path.{◌≡◌, sym, ◌∙◌, ap, ap₂, subst}
use lib.IntN.{ℤ, pos, nat_abs, ◌-ℤ◌, ◌*ℤ◌}
use mir.Syntax.{w16, w32}
use mir.Val.{SFits, to_z, of_z}
use mir.Facts.{to_z-of_z}
use Rattle.integers.specs.Division.{floor_mod}
use Rattle.integers.proofs.Divisions.{remainder_below}
use Rattle.integers.proofs.Raised.{widened_fits, widened_is}
use Rattle.integers.proofs.Sizes.{small_fits, size_of_product_at_most, difference_fits}
use Rattle.scope.specs.promises.Meaning.{IsPlan}
use Rattle.scope.specs.declared.Plan.{Plan}
use Rattle.scope.proofs.Naturals.{digits_at_most}
use Rattle.scope.proofs.PlanFacts.{plan_means, a_at_most, d_at_most}
use Rattle.scope.proofs.formulas.Tested.bank_in.Goals as goal

-- The code forms b × q and i - b × q at 32 bits.
module _ (p : Plan) (plan : IsPlan p) (q i : ℤ) (small : nat_abs q ≤ 32768) (f : SFits w16 i) where
  b-most : p.b ≤ 1023
  b-most = omega (arith, a_at_most p plan, plan.b_below)

  b-fits : SFits w32 (pos p.b)
  b-fits = small_fits w32 1023 (pos p.b) b-most (omega arith)

  abbrev product : ℤ
  product = to_z w32 p.b *ℤ to_z w32 (of_z w32 q)

  product_is : product ≡ pos p.b *ℤ q
  product_is = ap₂ ◌*ℤ◌ (to_z-of_z b-fits) (to_z-of_z (small_fits w32 32768 q small (omega arith)))

  product-size : nat_abs (pos p.b *ℤ q) ≤ 1023 * 32768
  product-size = size_of_product_at_most 1023 32768 (pos p.b) q b-most small

  product-fits : SFits w32 product
  product-fits =
      subst (SFits w32) (sym product_is) (small_fits w32 (1023 * 32768) (pos p.b *ℤ q) product-size (omega arith))

  abbrev moved : ℤ
  moved = to_z w32 (of_z w32 (to_z w16 (of_z w16 i))) -ℤ to_z w32 (of_z w32 product)

  moved-is : moved ≡ i -ℤ pos p.b *ℤ q
  moved-is = ap₂ ◌-ℤ◌ (widened_is w16 w32 tt i f) (to_z-of_z product-fits ∙ product_is)

  moved-fits : SFits w32 moved
  moved-fits =
      subst (SFits w32) (sym moved-is)
      (difference_fits w16 w32 (1023 * 32768) i (pos p.b *ℤ q) f product-size (omega arith))

  -- the remainder by a
  column-is : {c : ℕ} → c ≡ floor_mod (to_z w32 (of_z w32 moved)) (p.a - 1 + 1) → c ≡ floor_mod (i -ℤ pos p.b *ℤ q) p.a
  column-is e = e ∙ ap₂ floor_mod (to_z-of_z moved-fits ∙ moved-is) (sub-add_cancel plan.a_least)

-- where the plan is read
module _ (c : goal.After-p-1) where
  plan : IsPlan c.args.self.plan
  plan = plan_means _ c.args.self.is

  -- a and d are from 1 to 1024, each goal from both, so that an exchange of the two is refused where the bank is returned
  bounds : let p = c.args.self.plan in ((1 ≤ p.a) × (p.a ≤ 1024)) × (1 ≤ p.d) × (p.d ≤ 1024)
  bounds = ((plan.a_least, a_at_most _ plan), plan.d_least, d_at_most _ plan)

-- both digits are below 1024, by whichever of a and d they are, and so the bank fits
remainder-small : (z : ℤ) (k : ℕ) {r : ℕ} → k ≤ 1023 → r ≡ floor_mod z (k + 1) → r ≤ 1023
remainder-small z k h e = rw e (omega (arith, remainder_below z (k + 1) (omega arith)))

pub overflow_add-result : goal.overflow_add-result
overflow_add-result c =
    let most = bounds c.before.before.before.before in
    let sum-most = digits_at_most c.args.r c.args.self.plan.a c.remainder-c.result (omega (arith, most, c.requires.1)) (omega (arith, most))
    (remainder-small _ _ (omega (arith, most)) c.remainder-c.ensures) in
    record { fits = omega (arith, sum-most) }

pub returns : goal.returns
returns c =
    let u = c.args in
    ap (λ (x : ℕ). u.r * u.self.plan.a + x) (column-is u.self.plan (plan c.before.before.before.before) u.q u.i c.requires.0 c.ranges.i c.remainder-c.ensures)

pub overflow_cast-i : goal.overflow_cast-i
overflow_cast-i c =
    widened_fits w16 w32 tt c.args.i c.ranges.i

pub overflow_cast-p : goal.overflow_cast-p
overflow_cast-p c =
    b-fits c.args.self.plan (plan c.before) c.args.q c.args.i c.requires.0 c.ranges.i

pub overflow_mul-p : goal.overflow_mul-p
overflow_mul-p c =
    product-fits c.args.self.plan (plan c.before) c.args.q c.args.i c.requires.0 c.ranges.i

pub overflow_sub-i : goal.overflow_sub-i
overflow_sub-i c =
    moved-fits c.args.self.plan (plan c.before) c.args.q c.args.i c.requires.0 c.ranges.i

pub overflow_sub-p : goal.overflow_sub-p
overflow_sub-p c =
    omega (arith, bounds c.before.before)

pub overflow_cast-p-2 : goal.overflow_cast-p-2
overflow_cast-p-2 c =
    record { fits = omega (arith, bounds c.before.before) }

pub overflow_mul-result : goal.overflow_mul-result
overflow_mul-result c =
    record { fits = omega (arith, (overflow_add-result c).fits) }

pub overflow_cast-result : goal.overflow_cast-result
overflow_cast-result c =
    record { fits = omega (arith, (overflow_add-result c).fits) }
