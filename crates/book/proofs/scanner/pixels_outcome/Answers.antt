-- `book::scanner::pixels_outcome` meets its contract. The loop's invariant: the bytes of the pixels before position e are
-- there, these pixels pass their tests, and the entries are theirs.
-- Assumes nothing.
use Prim.Native.Nat.{ℕ, ◌+◌, ◌*◌, ◌^◌, ◌<◌}
use native.Mathlib.Omega.{arith}
use mathlib.Core.Path.{◌≡◌, sym, ◌∙◌, ap₂}
use mathlib.Core.List.{List}
use lib.IntN.{ℤ}
use lib.ListN.{get_or}
use lib.Signed.{mag}
use mir.Syntax.{w8}
use mir.Val.{to_z, of_z, hbits}
use Rattle.integers.proofs.Raised.{number_handed}
use Rattle.scope.specs.Plans.{at}
use Rattle.scope.specs.Books.{signed, byte, pixel_from}
use Rattle.checks.proofs.Chains.{passed_on}
use Rattle.book.proofs.Outcomes.{refused_at}
use Rattle.book.proofs.Scanning.{ends_early, both_there}
use Rattle.book.proofs.PixelLoops.{no_pixel_passed, pixel_not_taken, one_more_pixel, all_pixels_passed}
use Rattle.book.proofs.scanner.pixels_outcome.Goals as goal

pub loop-e-init : goal.loop-e-init
loop-e-init c = (omega arith, omega arith, no_pixel_passed _ _)

pub returns-then-s-i-lt2 : goal.returns-then-s-i-lt2
returns-then-s-i-lt2 c =
    refused_at c.loop-e.invariant.2.before c.loop-e-test.true (ends_early _ _ c.loop-e.e (omega arith))

-- the pixel that was handed over, as x and y, is the one of the bytes
pixel-is :
    (s : List ℕ) (place e : ℕ) {x y : ℤ} → mag x < 2 ^ hbits w8 → mag y < 2 ^ hbits w8
    → x ≡ signed (get_or s (place + 2 * e) 0) → y ≡ signed (get_or s (place + 2 * e + 1) 0)
    → pixel_from s place e ≡ at (to_z w8 (of_z w8 x)) (to_z w8 (of_z w8 y))
unfolding pixel_from at byte
pixel-is s place e f g a b = sym (ap₂ at (number_handed w8 f ∙ a) (number_handed w8 g ∙ b))

pub returns-in_err-pixel_outcome : goal.returns-in_err-pixel_outcome
returns-in_err-pixel_outcome c =
    passed_on _ c.from_residual.ensures c.in_err-pixel_outcome.was
    ∙ (let s = c.args.s.now in
    let x = c.signed_byte in
    let y = c.signed_byte-in-loop-e in
    pixel_not_taken c.loop-e.invariant.2 c.pixel_outcome.ensures
    (pixel-is s c.args.at c.loop-e.e x.type_inv y.type_inv x.ensures y.ensures)
    (both_there s c.args.at c.loop-e.e (omega (arith, c.if-s-i-lt2.false))) c.loop-e-test.true c.in_err-pixel_outcome.was)

pub loop-e-preserved : goal.loop-e-preserved
loop-e-preserved c =
    let s = c.args.s.now in
    let x = c.signed_byte in
    let y = c.signed_byte-in-loop-e in (
      omega arith,
      omega (arith, c.if-s-i-lt2.false),
      one_more_pixel c.loop-e.invariant.2 c.pixel_outcome.ensures
          (pixel-is s c.args.at c.loop-e.e x.type_inv y.type_inv x.ensures y.ensures)
          (both_there s c.args.at c.loop-e.e (omega (arith, c.if-s-i-lt2.false))) c.in_ok-pixel_outcome.was,
    )

pub returns : goal.returns
returns c = all_pixels_passed c.loop-e.invariant.2 c.loop-e-test.false

pub pixel_outcome-requires : goal.pixel_outcome-requires
pixel_outcome-requires c = (c.loop-e.invariant.2.passed.size, omega arith)
