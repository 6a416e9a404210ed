-- `pictures::moving::place_at` meets its contract: a place was given, since the tests find nothing.
-- Assumes nothing.
use Rattle.std.specs.Prelude.{Result, Ok, IsOk}
use Rattle.std.proofs.Common.{◌≡◌, ℕ, refl, sym, ap, subst, ◌∙◌}
use Rattle.std.proofs.Math.Option.{none}
use Rattle.scope.specs.Plans.{Pixel}
use Rattle.scope.specs.Banks.{word_of}
use Rattle.scope.specs.Calls.{word_test}
use Rattle.scope.specs.declared.Plan.{Plan}
use Rattle.scope.specs.declared.Refusal.{Refusal}
use Rattle.scope.proofs.PlanFacts.{pixel_handed}
use Rattle.checks.proofs.Chains.{answered_none}
use Rattle.pictures.specs.Places.{word_place}
use Rattle.pictures.proofs.PictureTests.{place_in}
use Rattle.pictures.proofs.moving.place_at.Goals as goal

placed :
    (p : Plan) (W H words : ℕ) {u v : Pixel} {x : Result ℕ Refusal} → u ≡ v → word_test p W H words v ≡ none
    → x ≡ word_place p W H words u → x ≡ Ok (word_of p W H v)
unfolding word_place
placed p W H words {u} {v} same passed is =
    is ∙ ap (word_place p W H words) same ∙ answered_none (word_test p W H words v) _ _ passed

pub unwrap-requires : goal.unwrap-requires
unwrap-requires c =
    let f = c.ranges in
    subst IsOk (sym (placed _ _ _ _ (pixel_handed f.i f.j) c.requires c.word_place.ensures)) refl

pub returns : goal.returns
returns c =
    let f = c.ranges in
    sym (place_in _ _ _ _ (pixel_handed f.i f.j) c.word_place.ensures c.unwrap.ensures).place_is
