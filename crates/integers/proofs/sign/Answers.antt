-- `integers::sign` meets its contract: a shift that copies the sign bit rounds down.
-- Assumes nothing.
use native.Mathlib.Omega.{arith}
use mathlib.Core.Path.{◌≡◌, refl, ◌∙◌}
use lib.IntN.{ℤ, pos, negsuc}
use lib.Signed.{mag_shr, shr_z}
use mir.Syntax.{w32}
use mir.Facts.{to_z-of_z}
use Rattle.integers.specs.Division.{floor_div}
use Rattle.integers.proofs.sign.Goals as goal

shifted : (z : ℤ) → shr_z z 2147483648 ≡ floor_div z 2147483648
unfolding floor_div
shifted (pos n) = refl
shifted (negsuc n) = refl

pub returns : goal.returns
returns c =
    let f = c.ranges.z in
    rw (to_z-of_z f)
    (to_z-of_z {w = w32} (record { sfits = omega (arith, mag_shr c.args.z 2147483648, f.sfits) }) ∙ shifted c.args.z)
