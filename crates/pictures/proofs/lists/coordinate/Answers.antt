-- `pictures::lists::coordinate` meets its contract: 16 bits from 32768 on are the number that is 65536 less.
-- Assumes nothing.
use Rattle.std.proofs.Common.{◌≡◌, ℕ, ◌%◌, ◌<◌, ◌≤◌, ℤ, pos, ◌-ℤ◌, sym, ap, ◌∙◌, arith, w16, to_z, of_z}
use native.Mathlib.Decide.{dec_lt}
use Rattle.std.proofs.lemmas.Int.{ints, of_z-to_z}
use Rattle.pictures.specs.Lists.{coordinate_of}
use Rattle.pictures.proofs.ListNumbers.{lower_half, upper_half}
use Rattle.pictures.proofs.lists.coordinate.Goals as goal

upper : (y : ℕ) → 32768 ≤ y → y < 65536 → to_z w16 y ≡ pos y -ℤ pos 65536
upper y l h = grind (arith, ints)

number-is : (x : ℕ) → to_z w16 (x % 65536) ≡ coordinate_of x
number-is x = by_half (dec_lt (x % 65536) 32768)
  where
    by_half : Dec (x % 65536 < 32768) → to_z w16 (x % 65536) ≡ coordinate_of x
    by_half (yes k) = omega (arith, ints, lower_half x k)
    by_half (no k) =
        let l : 32768 ≤ x % 65536 = omega arith in upper (x % 65536) l (omega arith) ∙ sym (upper_half x l)

pub returns : goal.returns
returns c =
    let x = c.args.x in
    ap (λ (z : ℤ). to_z w16 (of_z w16 z)) c.cast_signed.ensures ∙ ap (to_z w16) (of_z-to_z w16 (x % 65536) (omega arith))
    ∙ number-is x
