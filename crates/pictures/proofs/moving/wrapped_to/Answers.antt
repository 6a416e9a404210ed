-- `pictures::moving::wrapped_to` meets its contract: the sum fits 32 bits, and its remainder 16.
-- Assumes nothing.
use Rattle.std.proofs.Common.{◌≡◌, ℕ, ◌+◌, ◌-◌, ◌≤◌, ℤ, pos, ◌+ℤ◌, sym, ap, ◌∙◌, subst, ap₂, arith, to_z-of_z, w8, w16, w32, SFits, to_z, of_z}
use Rattle.integers.specs.Division.{floor_mod}
use Rattle.integers.proofs.Raised.{widened_fits, widened_is}
use Rattle.integers.proofs.Sizes.{small_fits, size_of_sum, fitting_size}
use Rattle.pictures.proofs.Moved.{own_remainder, remainder_fits}
use Rattle.pictures.proofs.moving.wrapped_to.Goals as goal

-- the sum that the code forms at 32 bits is that of the two coordinates
module _ {z c : ℤ} (fz : SFits w16 z) (fc : SFits w8 c) where
  abbrev sum : ℤ
  sum = to_z w32 (of_z w32 (to_z w16 (of_z w16 z))) +ℤ to_z w32 (of_z w32 (to_z w8 (of_z w8 c)))

  sum_is : sum ≡ z +ℤ c
  sum_is = ap₂ ◌+ℤ◌ (widened_is w16 w32 tt z fz) (widened_is w8 w32 tt c fc)

  sum_fits : SFits w32 sum
  sum_fits =
      subst (SFits w32) (sym sum_is)
      (small_fits w32 32896 (z +ℤ c) (omega (arith, size_of_sum z c, fitting_size w16 z fz, fitting_size w8 c fc)) (omega arith))

  sum-read : to_z w32 (of_z w32 sum) ≡ z +ℤ c
  sum-read = to_z-of_z sum_fits ∙ sum_is

  -- of a ring the code forms its remainder
  formed : {r : ℕ} (side : ℕ) → 1 ≤ side → r ≡ floor_mod (to_z w32 (of_z w32 sum)) (side - 1 + 1)
      → pos r ≡ pos (floor_mod (z +ℤ c) side)
  formed side h e =
      let d : side - 1 + 1 ≡ side = omega arith in
      ap pos (e ∙ ap₂ floor_mod sum-read d)

pub overflow_cast-x : goal.overflow_cast-x
overflow_cast-x c = widened_fits w16 w32 tt c.args.z c.ranges.z

pub overflow_cast-x-2 : goal.overflow_cast-x-2
overflow_cast-x-2 c = widened_fits w8 w32 tt c.args.c c.ranges.c

pub overflow_add-x : goal.overflow_add-x
overflow_add-x c = sum_fits c.ranges.z c.ranges.c

-- what is to be handed on
abbrev right : goal.Start → ℤ
right s = pos (floor_mod (s.args.z +ℤ s.args.c) s.args.side)

sides : (s : goal.Start) → (1 ≤ s.args.side) × (s.args.side ≤ 4096)
sides s = (s.requires.0, s.requires.1)

remainder_is : (c : goal.After-remainder) → pos c.remainder.result ≡ right c.before.before
remainder_is c =
    formed c.ranges.z c.ranges.c c.args.side c.requires.0 c.remainder.ensures

pub overflow_cast-result : goal.overflow_cast-result
overflow_cast-result c = remainder_fits _ _ (sides c.before.before) (remainder_is c)

pub returns-then-ring : goal.returns-then-ring
returns-then-ring c = to_z-of_z (overflow_cast-result c) ∙ remainder_is c

-- of a plain fetch it is within the side, and so its own remainder
own : (c : goal.Else-ring) → to_z w32 (of_z w32 (sum c.ranges.z c.ranges.c)) ≡ right c.before
own c =
    sum-read c.ranges.z c.ranges.c
    ∙ own_remainder (c.args.z +ℤ c.args.c) c.args.side (c.requires.2 c.if-ring.false)

pub overflow_cast-result-2 : goal.overflow_cast-result-2
overflow_cast-result-2 c = remainder_fits _ _ (sides c.before) (own c)

pub returns : goal.returns
returns c = to_z-of_z (overflow_cast-result-2 c) ∙ own c
