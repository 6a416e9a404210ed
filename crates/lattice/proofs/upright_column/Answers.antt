-- `lattice::upright_column` meets its contract: by the sign of the row.
-- Assumes nothing.
use native.Mathlib.Omega.{arith}
use mathlib.Core.Path.{◌≡◌, refl, sym, ap, ap₂, ◌∙◌}
use mathlib.Core.List.{[], ◌∷◌}
use lib.IntN.{ℤ, pos, negsuc, ◌-ℤ◌}
use lib.Signed.{◌≤ℤ◌, ◌<ℤ◌}
use mir.Syntax.{w16, w32}
use mir.Val.{SFits, to_z, of_z}
use mir.Facts.{to_z-of_z}
use Rattle.std.proofs.lemmas.Int.{ints}
use Rattle.integers.specs.Division.{floor_mod}
use Rattle.integers.proofs.Ring.{ring, reify}
use Rattle.integers.proofs.Raised.{widened_fits, widened_is}
use Rattle.integers.proofs.Sizes.{small_fits, size_of_difference, fitting_size}
use Rattle.scope.specs.Plans.{at, upright}
use Rattle.lattice.proofs.upright_column.Goals as goal

turned-column : (x1 x2 : ℤ) → x2 <ℤ pos 0 → (upright (at x1 x2)).column ≡ pos 0 -ℤ x1
unfolding upright at
turned-column x1 (pos m) h = absurd (omega (arith, ints))
turned-column x1 (negsuc m) h = ring (x1 ∷ []) (search reify depth 40 fits 9000) refl

kept-column : (x1 x2 : ℤ) → pos 0 ≤ℤ x2 → (upright (at x1 x2)).column ≡ x1
unfolding upright at
kept-column x1 (pos m) h = refl
kept-column x1 (negsuc m) h = absurd (omega (arith, ints))

-- -z at 32 bits, z being a 16-bit number
module _ (z : ℤ) (f : SFits w16 z) where
  turned-fits : SFits w32 (pos 0 -ℤ to_z w32 (of_z w32 (to_z w16 (of_z w16 z))))
  turned-fits =
      rw (widened_is w16 w32 tt z f)
      (small_fits w32 32768 (pos 0 -ℤ z) (omega (arith, size_of_difference (pos 0) z, fitting_size w16 z f)) (omega arith))

  turned-is : to_z w32 (of_z w32 (pos 0 -ℤ to_z w32 (of_z w32 (to_z w16 (of_z w16 z))))) ≡ pos 0 -ℤ z
  turned-is = to_z-of_z turned-fits ∙ ap (λ (y : ℤ). pos 0 -ℤ y) (widened_is w16 w32 tt z f)

pub overflow_sub-x1 : goal.overflow_sub-x1
overflow_sub-x1 c = turned-fits _ c.ranges.x1

pub returns-then-x2-lt0 : goal.returns-then-x2-lt0
returns-then-x2-lt0 c =
    let a = c.args in
    c.remainder.ensures
    ∙ ap₂ floor_mod
    (turned-is a.x1 c.ranges.x1 ∙ sym (turned-column a.x1 a.x2 (omega (arith, ints, c.if-x2-lt0.true))))
    (omega arith)

pub returns-else-x2-lt0 : goal.returns-else-x2-lt0
returns-else-x2-lt0 c =
    let a = c.args in
    c.remainder-else-x2-lt0.ensures
    ∙ ap₂ floor_mod
    (widened_is w16 w32 tt a.x1 c.ranges.x1
    ∙ sym (kept-column a.x1 a.x2 (omega (arith, ints, c.if-x2-lt0.false))))
    (omega arith)

pub overflow_cast-x1 : goal.overflow_cast-x1
overflow_cast-x1 c =
    widened_fits w16 w32 tt _ c.ranges.x1

pub overflow_cast-x1-else-x2-lt0 : goal.overflow_cast-x1-else-x2-lt0
overflow_cast-x1-else-x2-lt0 c =
    widened_fits w16 w32 tt _ c.ranges.x1
