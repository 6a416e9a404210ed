-- `pictures::places::picture_outcome` meets its contract: 11, 12, 13 come with the depth.
-- Assumes nothing.
use mathlib.Core.Path.{◌∙◌}
use Rattle.book.proofs.Outcomes.{answered_by_refusal, answered_by_done}
use Rattle.checks.proofs.Chains.{handed_on}
use Rattle.pictures.proofs.PictureTests.{picture_shows, picture_refusal_shows}
use Rattle.pictures.proofs.places.picture_outcome.Goals as goal

pub returns : goal.returns
returns c = answered_by_done _ (picture_shows _ _ _ _ c.picture_depth.ensures c.in_ok-picture_depth.was).0

pub returns-in_err-picture_depth : goal.returns-in_err-picture_depth
returns-in_err-picture_depth c =
    handed_on _ c.from_residual.ensures
    ∙ answered_by_refusal _ _ (picture_refusal_shows _ _ _ _ c.picture_depth.ensures c.in_err-picture_depth.was)
