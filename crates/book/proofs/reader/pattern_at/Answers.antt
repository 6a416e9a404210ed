-- `book::reader::pattern_at` meets its contract: before each turn the arrays are filled with the first e pixels.
-- Assumes nothing.
use Prim.Native.Nat.{◌+◌}
use native.Mathlib.Omega.{arith}
use mathlib.Core.Path.{◌≡◌, ◌∙◌}
use lib.ListN.{get_or}
use mir.Syntax.{w8}
use Rattle.integers.proofs.Raised.{number_handed}
use Rattle.scope.specs.Books.{byte, pixel_from, pattern_from}
use Rattle.checks.proofs.FilledArrays.{filled_none, filled_more}
use Rattle.book.proofs.Fills.{pixels_filled}
use Rattle.book.proofs.reader.pattern_at.Goals as goal

pub loop-e-init : goal.loop-e-init
loop-e-init c = (filled_none _, filled_none _)

pub loop-e-preserved : goal.loop-e-preserved
unfolding pixel_from
loop-e-preserved c =
    let x = c.signed_byte-x in
    let y = c.signed_byte-y in (
      filled_more c.loop-e.invariant.0 (number_handed w8 x.type_inv ∙ x.ensures),
      filled_more c.loop-e.invariant.1 (number_handed w8 y.type_inv ∙ y.ensures),
    )

pub returns : goal.returns
unfolding pattern_from
returns c =
    let u = c.args in
    let end : get_or u.s.now u.at 0 ≡ c.loop-e.e = omega arith in
    rw (end, pattern_from) (pixels_filled (pixel_from u.s.now (u.at + 1)) c.loop-e.e c.loop-e.invariant.0 c.loop-e.invariant.1)

pub bounds-s-i : goal.bounds-s-i
unfolding byte
bounds-s-i c = omega (arith, c.requires)

pub bounds-s-i-in-loop-e : goal.bounds-s-i-in-loop-e
unfolding byte
bounds-s-i-in-loop-e c = omega (arith, c.requires)

pub bounds-columns-e : goal.bounds-columns-e
unfolding byte
bounds-columns-e c = omega (arith, c.requires)

pub bounds-rows-e : goal.bounds-rows-e
unfolding byte
bounds-rows-e c = omega (arith, c.requires)
