-- `pictures::places::word_place` meets its contract: 11, 12, 13 are the picture's, and then only 14 is left of the plan's own
-- tests for a word.
-- Assumes nothing.
use Rattle.std.specs.Prelude.{Ok, Err}
use Rattle.std.proofs.Common.{◌≡◌, ℕ, [], ◌∷◌, ap, ◌∙◌}
use mathlib.Core.Option.{Option, none, some}
use Rattle.scope.specs.Plans.{Pixel}
use Rattle.scope.specs.Banks.{word_of}
use Rattle.scope.specs.Numbers.{outside_test}
use Rattle.scope.specs.Calls.{answered, picture_test, address_test, word_test}
use Rattle.scope.specs.code.Words.{word}
use Rattle.scope.specs.declared.Plan.{Plan}
use Rattle.scope.specs.declared.Refusal.{Refusal}
use Rattle.scope.proofs.PlanFacts.{pixel_handed}
use Rattle.book.proofs.Outcomes.{done_found_nothing, refused_found}
use Rattle.checks.proofs.Chains.{handed_on, chain_refuses, gives_refusal}
use Rattle.pictures.specs.Places.{word_place}
use Rattle.pictures.proofs.CallTests.{picture_test_iff}
use Rattle.pictures.proofs.PictureTests.{only_outside}
use Rattle.pictures.proofs.places.word_place.Goals as goal

module _ (p : Plan) (W H words : ℕ) (v : Pixel) where
  abbrev outside : Option Refusal
  outside = outside_test W H (v ∷ [])

  no-picture : {r : Refusal} → picture_test p W H words ≡ some r → Err r ≡ word_place p W H words v
  unfolding word_place word_test
  no-picture {r} e =
      gives_refusal (chain_refuses (picture_test p W H words) (outside ∷ []) r e) Err (Ok (word_of p W H v))

  module _ (passed : picture_test p W H words ≡ none) where
    tests_same : address_test p W H v ≡ word_test p W H words v
    unfolding word_test
    tests_same =
        let picture = (picture_test_iff p W H words).0 passed in
        only_outside p W H v passed picture.plan picture.w_side picture.h_side

    word-is-place : word p W H v ≡ word_place p W H words v
    unfolding word word_place
    word-is-place = ap (λ (t : Option Refusal). answered t Err (Ok (word_of p W H v))) tests_same

pub returns-in_err-picture_outcome : goal.returns-in_err-picture_outcome
returns-in_err-picture_outcome c =
    handed_on _ c.from_residual.ensures
    ∙ (no-picture _ _ _ _ _ (refused_found _ c.picture_outcome.ensures c.in_err-picture_outcome.was))

pub returns : goal.returns
returns c =
    c.word.ensures
    ∙ ap (word _ _ _) (pixel_handed c.ranges.i c.ranges.j)
    ∙ word-is-place _ _ _ _ _ (done_found_nothing _ c.picture_outcome.ensures c.in_ok-picture_outcome.was)
