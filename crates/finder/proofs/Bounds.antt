-- How many banks the finder's plan for r can have: never fewer than a pattern's pixel count over r, rounded up, never more than the box
-- of the differences, so that the limit 1024 is always enough: what LeastCycles.antt has of the search.
-- Assumes nothing.
use native.Mathlib.Omega.{arith}
use Rattle.scope.specs.promises.PlanPromises.{FinderStaysWithin, LimitIsEnough}
use Rattle.finder.proofs.FindAnswers.{find_value_iff}
use Rattle.finder.proofs.LeastCycles.{least_in_cycles}

-- The finder's count is at least that of each pattern's pixels over r and at most that of the box.
pub finder_stays_within : FinderStaysWithin
finder_stays_within book r limit p e =
    let (h, f) = (find_value_iff book r limit p).0 e in
    let (least, _) = (least_in_cycles r book).found limit h.limit_most p f in
    record {
      pixel_count = (least_in_cycles r book).pixel_count h.legal_cycles.0 p least.plan least.suiting;
      box = (least_in_cycles r book).box h.legal_cycles.0 h.legal_book limit p f;
    }

-- The limit 1024 is enough for every legal book.
pub limit_is_enough : LimitIsEnough
limit_is_enough book r legal cycles =
    let (p, f, _) = (least_in_cycles r book).enough cycles.0 legal in (
      p,
      (find_value_iff book r 1024 p).1
          (record { legal_book = legal; limit_least = omega arith; limit_most = omega arith; legal_cycles = cycles }, f),
    )
