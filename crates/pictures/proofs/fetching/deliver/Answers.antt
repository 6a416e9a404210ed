-- `pictures::fetching::deliver` meets its contract: 16 where the output has too little room, and the words where it has enough.
-- Assumes nothing.
use Rattle.scope.proofs.PlanFacts.{pixel_handed}
use Rattle.pictures.proofs.Deliveries.{too_short, enough_room}
use Rattle.pictures.proofs.fetching.deliver.Goals as goal

pub returns-then-out-used : goal.returns-then-out-used
returns-then-out-used c = too_short _ _ _ _ _ _ _ c.if-out-used.true

pub put_words-requires : goal.put_words-requires
put_words-requires c =
    (c.requires.0, c.requires.1, c.if-out-used.false, λ plain. rw (pixel_handed c.ranges.i c.ranges.j) (c.requires.2 plain))

pub returns : goal.returns
returns c =
    let f = c.ranges in
    enough_room _ _ _ _ _ _ _ c.if-out-used.false (pixel_handed f.i f.j) c.put_words.ensures
