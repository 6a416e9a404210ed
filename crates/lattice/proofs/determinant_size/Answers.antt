-- `lattice::determinant_size` meets its contract: neither a product of two 16-bit numbers nor a difference of two wraps at 64 bits.
-- Assumes nothing.
use Prim.Native.Nat.{◌^◌, ◌≤◌}
use native.Mathlib.Omega.{arith}
use mathlib.Core.Path.{◌≡◌, ap, ap₂, ◌∙◌}
use lib.IntN.{ℤ, nat_abs, ◌-ℤ◌, ◌*ℤ◌}
use mir.Syntax.{w16, w64}
use mir.Val.{SFits, to_z, of_z}
use mir.Facts.{to_z-of_z}
use Rattle.integers.proofs.Raised.{widened_is}
use Rattle.integers.proofs.Sizes.{small_fits, size_of_difference, size_of_product_at_most, fitting_size}
use Rattle.scope.specs.Plans.{at, determinant, determinant_size}
use Rattle.lattice.proofs.determinant_size.Goals as goal

-- the product of two numbers, as the machine has it
abbrev product : ℤ → ℤ → ℤ
product x y =
    to_z w64 (of_z w64 (to_z w64 (of_z w64 (to_z w16 (of_z w16 x))) *ℤ to_z w64 (of_z w64 (to_z w16 (of_z w16 y)))))

product_at_most : (x y : ℤ) → SFits w16 x → SFits w16 y → nat_abs (x *ℤ y) ≤ 2 ^ 30
product_at_most x y f g = size_of_product_at_most (2 ^ 15) (2 ^ 15) x y (fitting_size w16 x f) (fitting_size w16 y g)

product_is : (x y : ℤ) → SFits w16 x → SFits w16 y → product x y ≡ x *ℤ y
product_is x y f g =
    rw (widened_is w16 w64 tt x f, widened_is w16 w64 tt y g)
    (to_z-of_z (small_fits w64 (2 ^ 30) (x *ℤ y) (product_at_most x y f g) (omega arith)))

-- so at the code's four coordinates
module _ (c : goal.Start) where
  abbrev x1 : ℤ
  x1 = c.args.x1

  abbrev x2 : ℤ
  x2 = c.args.x2

  abbrev y1 : ℤ
  y1 = c.args.y1

  abbrev y2 : ℤ
  y2 = c.args.y2

  difference-is : product x1 y2 -ℤ product x2 y1 ≡ x1 *ℤ y2 -ℤ x2 *ℤ y1
  difference-is =
      let f = c.ranges in ap₂ (λ (p q : ℤ). p -ℤ q) (product_is x1 y2 f.x1 f.y2) (product_is x2 y1 f.x2 f.y1)

  difference-fits : SFits w64 (product x1 y2 -ℤ product x2 y1)
  difference-fits =
      let f = c.ranges in
      rw difference-is
      (small_fits w64 (2 ^ 31) (x1 *ℤ y2 -ℤ x2 *ℤ y1)
      (omega (
        arith,
        size_of_difference (x1 *ℤ y2) (x2 *ℤ y1),
        product_at_most x1 y2 f.x1 f.y2,
        product_at_most x2 y1 f.x2 f.y1,
      ))
      (omega arith))

pub overflow_sub-x1 : goal.overflow_sub-x1
overflow_sub-x1 c = difference-fits c

pub returns : goal.returns
unfolding determinant_size determinant at
returns c = c.unsigned_abs.ensures.value ∙ ap nat_abs (to_z-of_z (difference-fits c.before) ∙ difference-is c.before)
