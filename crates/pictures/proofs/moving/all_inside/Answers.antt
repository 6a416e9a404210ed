-- `pictures::moving::all_inside` meets its contract. The loop's invariant: the moved pixels before e are inside.
-- Assumes nothing.
use Rattle.std.proofs.Common.{◌≡◌, ℕ, ◌^◌, ◌<◌, Bool, get_or, ℤ, pos, ◌+ℤ◌, sym, ◌∙◌, arith, w8, w16, SFits, to_z, of_z}
use lib.Signed.{mag}
use mir.Val.{hbits}
use Rattle.integers.proofs.Raised.{number_handed}
use Rattle.scope.specs.Search.{every}
use Rattle.scope.specs.Plans.{at}
use Rattle.scope.specs.Banks.{within, inside}
use Rattle.scope.specs.Calls.{moved}
use Rattle.scope.specs.declared.Pattern.{Pattern}
use Rattle.pictures.proofs.Moved.{position, position_handed, none_inside, one_more_inside}
use Rattle.pictures.proofs.Moved.{every_inside, column_outside, row_outside}
use Rattle.pictures.proofs.moving.all_inside.Goals as goal

-- the position that the loop knows is the one handed to it
answers :
    {b : Bool} {i j : ℤ} (t : Pattern) (w h : ℕ) → SFits w16 i → SFits w16 j
    → every (inside w h) (moved t (position (of_z w16 i) (of_z w16 j))) ≡ b
    → b ≡ every (inside w h) (moved t (at i j))
answers t w h f g e = sym (rw (position_handed f g) at e)

-- what the test of a coordinate says
shown :
    {b : Bool} (x z : ℤ) (side : ℕ) → mag z < 2 ^ hbits w8 → b ≡ within (x +ℤ to_z w8 (of_z w8 z)) side
    → within (x +ℤ z) side ≡ b
shown x z side h e = sym (rw (number_handed w8 h) at e)

pub loop-e-init : goal.loop-e-init
loop-e-init c = none_inside _ _ _ _

pub returns-then-not-is_within : goal.returns-then-not-is_within
unfolding at
returns-then-not-is_within c =
    answers _ _ _ c.ranges.i c.ranges.j
    (column_outside _ _ _ _ c.loop-e.e c.loop-e-test.true
    (shown (to_z w16 (of_z w16 c.args.i)) (get_or c.args.t.columns c.loop-e.e (pos 0)) c.args.w c.is_within-arg-1.given c.is_within.ensures ∙ c.if-not-is_within.true))

pub returns-then-not-is_within-2 : goal.returns-then-not-is_within-2
unfolding at
returns-then-not-is_within-2 c =
    answers _ _ _ c.ranges.i c.ranges.j
    (row_outside _ _ _ _ c.loop-e.e c.loop-e-test.true
    (shown (to_z w16 (of_z w16 c.args.j)) (get_or c.args.t.rows c.loop-e.e (pos 0)) c.args.h c.is_within-arg-in-loop-e-1.given c.is_within-in-loop-e.ensures ∙ c.if-not-is_within-2.true))

pub loop-e-preserved : goal.loop-e-preserved
unfolding at
loop-e-preserved c =
    one_more_inside _ _ _ _ c.loop-e.e c.loop-e.invariant
    (shown (to_z w16 (of_z w16 c.args.i)) (get_or c.args.t.columns c.loop-e.e (pos 0)) c.args.w c.is_within-arg-1.given c.is_within.ensures ∙ c.if-not-is_within.false)
    (shown (to_z w16 (of_z w16 c.args.j)) (get_or c.args.t.rows c.loop-e.e (pos 0)) c.args.h c.is_within-arg-in-loop-e-1.given c.is_within-in-loop-e.ensures ∙ c.if-not-is_within-2.false)

pub returns : goal.returns
unfolding at
returns c =
    let done : c.loop-e.e ≡ c.args.t.used = omega arith in
    answers _ _ _ c.ranges.i c.ranges.j (every_inside _ _ _ _ (rw done at c.loop-e.invariant))
