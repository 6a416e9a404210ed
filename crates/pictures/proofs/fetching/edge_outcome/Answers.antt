-- `pictures::fetching::edge_outcome` meets its contract: 18 of a ring fetch, 14 of a plain one.
-- Assumes nothing.
use Rattle.std.proofs.Common.{◌≡◌}
use Rattle.scope.specs.Search.{every}
use Rattle.scope.specs.Plans.{at}
use Rattle.scope.specs.Banks.{inside}
use Rattle.scope.specs.Numbers.{outside_test, ring_test}
use Rattle.scope.specs.Calls.{moved, edge_test}
use Rattle.scope.specs.declared.Refusal.TheVariants.{Outside, Ring}
use Rattle.scope.proofs.MethodAnswers.{fails, holds}
use Rattle.scope.proofs.PlanFacts.{pixel_handed}
use Rattle.pictures.proofs.Deliveries.{condition_fails, condition_holds}
use Rattle.pictures.proofs.fetching.edge_outcome.Lts as lts
use Rattle.pictures.proofs.fetching.edge_outcome.Tie as tie
use Rattle.pictures.proofs.fetching.edge_outcome.Reads as reads
use Rattle.pictures.proofs.fetching.edge_outcome.Goals as goal

-- what is known at a step of the code
abbrev After-all_inside : Type 0
After-all_inside = lts.After-all_inside tie.the-claims reads.Pre reads.Post

pub returns-then-not-is_ring : goal.returns-then-not-is_ring
unfolding edge_test ring_test
returns-then-not-is_ring c =
    rw c.if-ring.true (condition_fails _ Ring (fails c.is_ring.ensures c.if-not-is_ring.true-raw))

pub returns-then-ring : goal.returns-then-ring
unfolding edge_test ring_test
returns-then-ring c =
    rw c.if-ring.true (condition_holds _ Ring (holds c.is_ring.ensures c.if-not-is_ring.false-raw))

-- whether every pixel is inside
inside-answer :
    (c : After-all_inside) →
    let u = c.args in
    c.all_inside.result ≡ every (inside u.w u.h) (moved u.t (at u.i u.j))
inside-answer c = let f = c.ranges in rw (pixel_handed f.i f.j) at c.all_inside.ensures

pub returns-then-not-all_inside : goal.returns-then-not-all_inside
unfolding edge_test outside_test
returns-then-not-all_inside c =
    rw c.if-ring.false (condition_fails _ Outside (fails (inside-answer c.before) c.if-not-all_inside.true-raw))

pub returns : goal.returns
unfolding edge_test outside_test
returns c =
    rw c.if-ring.false (condition_holds _ Outside (holds (inside-answer c.before) c.if-not-all_inside.false-raw))
