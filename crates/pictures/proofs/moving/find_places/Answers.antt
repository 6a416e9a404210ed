-- `pictures::moving::find_places` meets its contract. The loop's invariant: the first e places are those of the pixels.
-- Assumes nothing.
use Rattle.std.proofs.Common.{◌≡◌, ℕ, ◌^◌, ◌<◌, true, ℤ, pos, ◌+ℤ◌, ap, ◌∙◌, arith, get_or, w8, w16, SFits, to_z, of_z}
use lib.Signed.{mag}
use mir.Val.{hbits}
use Rattle.integers.specs.Division.{floor_mod}
use Rattle.integers.proofs.Raised.{number_handed}
use Rattle.scope.specs.Search.{every}
use Rattle.scope.specs.Plans.{at, plus, pixel_at}
use Rattle.scope.specs.Banks.{inside, word_of, wrapped}
use Rattle.scope.specs.Calls.{moved}
use Rattle.scope.specs.declared.Pattern.{Pattern}
use Rattle.checks.proofs.FilledArrays.{filled_none, filled_more}
use Rattle.pictures.proofs.Moved.{position, position_handed, column_within, row_within}
use Rattle.pictures.proofs.CallTests.{picture_test_iff}
use Rattle.pictures.proofs.Wrapped.{wrapped_has_word, wrapped_handed}
use Rattle.pictures.proofs.moving.find_places.Goals as goal

-- of a plain fetch all pixels are inside
all-inside :
    {i j : ℤ} (t : Pattern) (w h : ℕ) → SFits w16 i → SFits w16 j → every (inside w h) (moved t (at i j)) ≡ true
    → every (inside w h) (moved t (position (of_z w16 i) (of_z w16 j))) ≡ true
all-inside t w h f g e = rw (position_handed f g) e

-- the wrapped coordinates are those of the wrapped pixel
pixel-is :
    (i j : ℤ) (t : Pattern) (w h e : ℕ) {x y : ℤ} → mag (get_or t.columns e (pos 0)) < 2 ^ hbits w8
    → mag (get_or t.rows e (pos 0)) < 2 ^ hbits w8
    → mag x < 2 ^ hbits w16 → mag y < 2 ^ hbits w16
    → x ≡ pos (floor_mod (to_z w16 (of_z w16 i) +ℤ to_z w8 (of_z w8 (get_or t.columns e (pos 0)))) w)
    → y ≡ pos (floor_mod (to_z w16 (of_z w16 j) +ℤ to_z w8 (of_z w8 (get_or t.rows e (pos 0)))) h)
    → at (to_z w16 (of_z w16 x)) (to_z w16 (of_z w16 y)) ≡ wrapped w h (plus (position (of_z w16 i) (of_z w16 j)) (pixel_at t e))
unfolding pixel_at
pixel-is i j t w h e fi fj fx fy column row =
    wrapped_handed w h (position (of_z w16 i) (of_z w16 j)) (record { sfits = fi }) (record { sfits = fj }) (record { sfits = fx })
    (record { sfits = fy }) column row

pub loop-e-init : goal.loop-e-init
loop-e-init c = filled_none _

pub wrapped_to-x-requires : goal.wrapped_to-x-requires
wrapped_to-x-requires c =
    let sides = (picture_test_iff _ _ _ _).0 c.requires.0 in (
      omega (arith, sides),
      omega (arith, sides),
      λ plain.
          rw (number_handed w8 c.wrapped_to-arg-1.given)
          (column_within _ _ _ _ c.loop-e.e (all-inside _ _ _ c.ranges.i c.ranges.j (c.requires.3 plain)) c.loop-e-test.true),
    )

pub wrapped_to-y-requires : goal.wrapped_to-y-requires
wrapped_to-y-requires c =
    let sides = (picture_test_iff _ _ _ _).0 c.requires.0 in (
      omega (arith, sides),
      omega (arith, sides),
      λ plain.
          rw (number_handed w8 c.wrapped_to-arg-in-loop-e-1.given)
          (row_within _ _ _ _ c.loop-e.e (all-inside _ _ _ c.ranges.i c.ranges.j (c.requires.3 plain)) c.loop-e-test.true),
    )

pub place_at-requires : goal.place_at-requires
place_at-requires c =
    let is =
    pixel-is c.args.i c.args.j c.args.t c.args.w c.args.h c.loop-e.e c.wrapped_to-arg-1.given c.wrapped_to-arg-in-loop-e-1.given
    c.wrapped_to-x.type_inv c.wrapped_to-y.type_inv c.wrapped_to-x.ensures c.wrapped_to-y.ensures in
    rw is (wrapped_has_word _ _ _ _ ((picture_test_iff _ _ _ _).0 c.requires.0) _)

pub loop-e-preserved : goal.loop-e-preserved
unfolding at
loop-e-preserved c =
    let is =
    pixel-is c.args.i c.args.j c.args.t c.args.w c.args.h c.loop-e.e c.wrapped_to-arg-1.given c.wrapped_to-arg-in-loop-e-1.given
    c.wrapped_to-x.type_inv c.wrapped_to-y.type_inv c.wrapped_to-x.ensures c.wrapped_to-y.ensures in
    filled_more c.loop-e.invariant (c.place_at.ensures ∙ ap (word_of c.args.p c.args.w c.args.h) is)

pub returns : goal.returns
unfolding at
returns c e h =
    rw (position_handed c.ranges.i c.ranges.j)
    at (c.loop-e.invariant.new e (omega arith) (omega (arith, c.loop-e.invariant.size, c.requires)))
