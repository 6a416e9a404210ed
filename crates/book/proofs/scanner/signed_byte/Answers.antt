-- `book::scanner::signed_byte` meets its contract: a byte from 128 on is the number that is 256 less.
-- Assumes nothing.
use Prim.Native.Nat.{ℕ, ◌≤◌, ◌<◌}
use native.Mathlib.Omega.{arith}
use native.Mathlib.Decide.{dec_lt}
use mathlib.Core.Path.{◌≡◌, sym, ap, ◌∙◌}
use lib.IntN.{ℤ, pos, ◌-ℤ◌}
use mir.Syntax.{w8}
use mir.Val.{to_z, of_z}
use Rattle.std.proofs.lemmas.Int.{ints, of_z-to_z}
use Rattle.scope.specs.Books.{signed}
use Rattle.book.proofs.Bytes.{twos_complement}
use Rattle.book.proofs.scanner.signed_byte.Goals as goal

upper : (b : ℕ) → 128 ≤ b → b < 256 → to_z w8 b ≡ pos b -ℤ pos 256
upper b l h = grind (arith, ints)

byte-is : (b : ℕ) → b < 256 → to_z w8 b ≡ signed b
byte-is b h = by_half (dec_lt b 128)
  where
    by_half : Dec (b < 128) → to_z w8 b ≡ signed b
    by_half (yes k) = omega (arith, ints, twos_complement.low b k)
    by_half (no k) = let l : 128 ≤ b = omega arith in upper b l h ∙ sym (twos_complement.high b l h)

pub returns : goal.returns
returns c =
    let b = c.args.b in
    let h = c.ranges.b.fits in
    ap (λ (z : ℤ). to_z w8 (of_z w8 z)) c.cast_signed.ensures ∙ ap (to_z w8) (of_z-to_z w8 b h) ∙ byte-is b h
