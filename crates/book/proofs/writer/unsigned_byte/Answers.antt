-- `book::writer::unsigned_byte` meets its contract: the machine's byte of z is z's remainder.
-- Assumes nothing.
use native.Mathlib.Omega.{arith}
use mathlib.Core.Path.{◌≡◌, ap, ◌∙◌}
use lib.IntN.{ℤ, pos, negsuc}
use mir.Syntax.{w8}
use mir.Val.{SFits, of_z}
use mir.Facts.{to_z-of_z}
use Rattle.integers.specs.Division.{floor_mod}
use Rattle.scope.specs.Books.{unsigned}
use Rattle.book.proofs.writer.unsigned_byte.Goals as goal

byte-is : (z : ℤ) → SFits w8 z → of_z w8 z ≡ unsigned z
unfolding unsigned floor_mod
byte-is (pos n) f = omega (arith, f.sfits)
byte-is (negsuc n) f = omega (arith, f.sfits)

pub returns : goal.returns
returns c = c.cast_unsigned.ensures ∙ ap (of_z w8) (to_z-of_z c.ranges.z) ∙ byte-is c.args.z c.ranges.z
