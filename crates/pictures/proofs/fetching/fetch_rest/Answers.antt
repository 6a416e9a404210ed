-- `pictures::fetching::fetch_rest` meets its contract: the refusal of the first tests, that of the edge, or what is delivered.
-- Assumes nothing.
use mathlib.Core.Path.{◌∙◌}
use Rattle.std.proofs.Common.{ap}
use Rattle.scope.proofs.PlanFacts.{pixel_handed}
use Rattle.scope.proofs.PlanFacts.{is_plan_iff}
use Rattle.book.proofs.Outcomes.{refused_found, done_found_nothing}
use Rattle.pictures.specs.Fetching.{found_by}
use Rattle.checks.proofs.Chains.{handed_on}
use Rattle.pictures.proofs.CallTests.{picture_test_iff}
use Rattle.pictures.proofs.Deliveries.{plain_inside, rest_turned_down, rest_at_edge, rest_delivers}
use Rattle.pictures.proofs.fetching.fetch_rest.Goals as goal

pub returns-in_err-start : goal.returns-in_err-start
returns-in_err-start c =
    let right = rest_turned_down _ _ _ _ _ _ _ _ _ _ (ap found_by c.in_err-start.was) in
    (handed_on _ c.from_residual.ensures ∙ right.0, right.1)

pub invariant_of-edge_outcome : goal.invariant_of-edge_outcome
invariant_of-edge_outcome c =
    record { is = (is_plan_iff _).1 ((picture_test_iff _ _ _ _).0 (c.requires (ap found_by c.in_ok-start.was)).0).plan }

pub edge_outcome-requires : goal.edge_outcome-requires
edge_outcome-requires c =
    let shown = c.requires (ap found_by c.in_ok-start.was) in
    (((picture_test_iff _ _ _ _).0 shown.0).h_side.1, shown.1)

pub returns-in_err-edge_outcome : goal.returns-in_err-edge_outcome
returns-in_err-edge_outcome c =
    let f = c.ranges in
    let edge = rw (pixel_handed f.i f.j) at c.edge_outcome.ensures in
    let right = rest_at_edge _ _ _ _ _ _ _ _ _ (ap found_by c.in_ok-start.was) _ (refused_found _ edge c.in_err-edge_outcome.was) in
    (handed_on _ c.from_residual-in_err-edge_outcome.ensures ∙ right.0, right.1)

pub deliver-requires : goal.deliver-requires
deliver-requires c =
    let f = c.ranges in
    let shown = c.requires (ap found_by c.in_ok-start.was) in
    let edge = rw (pixel_handed f.i f.j) at c.edge_outcome.ensures in (
      shown.0,
      shown.1,
      λ plain. rw (pixel_handed f.i f.j) (plain_inside _ _ _ _ _ (done_found_nothing _ edge c.in_ok-edge_outcome.was) plain),
    )

pub returns : goal.returns
returns c =
    let f = c.ranges in
    let edge = rw (pixel_handed f.i f.j) at c.edge_outcome.ensures in
    rest_delivers _ _ _ _ _ _ _ _ _ (ap found_by c.in_ok-start.was) (done_found_nothing _ edge c.in_ok-edge_outcome.was) (pixel_handed f.i f.j)
    c.deliver.ensures
