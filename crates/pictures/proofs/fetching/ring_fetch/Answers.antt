-- `pictures::fetching::ring_fetch` meets its contract.
-- Assumes nothing.
use Rattle.scope.proofs.PlanFacts.{pixel_handed}
use Rattle.pictures.proofs.Starts.{is_ring_fetch}
use Rattle.pictures.proofs.fetching.ring_fetch.Goals as goal

pub returns : goal.returns
returns c =
    let f = c.ranges in
    let e = c.either_fetch.ensures in
    let (answer, left) = is_ring_fetch _ _ _ _ _ _ _ _ _ (pixel_handed f.i f.j) (e.answer, e.left) in
    record { answer = answer; left = left }
