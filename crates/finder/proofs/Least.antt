-- The finder's count for r is least among all pairs of integer vectors whose lattice has no class with more than r pixels of one pattern,
-- and 7 comes exactly where none is within the limit: what LeastCycles.antt has of the search.
-- Assumes nothing.
use mathlib.Core.Path.{◌≡◌, refl}
use mathlib.Core.Logic.{◌⊎◌, inl, inr}
use mathlib.Core.Option.{Option, none, some}
use Rattle.scope.specs.Plans.{patterns}
use Rattle.scope.specs.Cycles.{least_plan_for}
use Rattle.scope.specs.Numbers.{value, refusal, of_result}
use Rattle.scope.specs.Calls.{find}
use Rattle.scope.specs.promises.PlanPromises.{FinderIsLeast, FinderNone, FinderDecides, FinderOrder}
use Rattle.scope.specs.declared.Plan.{Plan}
use Rattle.finder.proofs.FindAnswers.{LegalFind, find_value_iff, find_none_iff}
use Rattle.finder.proofs.LeastCycles.{least_in_cycles}

-- Among equal counts the finder's plan comes first.
pub finder_order : FinderOrder
finder_order book r limit p e = (least_in_cycles r book).order limit p ((find_value_iff book r limit p).0 e).1

-- A legal book, r and limit get a plan or 7.
pub finder_decides : FinderDecides
finder_decides book r limit legal cycles least most = by_found (least_plan_for r (patterns book) limit) refl
  where
    h : LegalFind book r limit
    h = record { legal_book = legal; limit_least = least; limit_most = most; legal_cycles = cycles }

    by_found : (o : Option Plan) → least_plan_for r (patterns book) limit ≡ o
        → ((p : Plan) × (of_result (find book r limit) ≡ value p)) ⊎ (of_result (find book r limit) ≡ refusal 7 0 none)
    by_found none e = inr ((find_none_iff book r limit).1 (h, e))
    by_found (some p) e = inl (p, (find_value_iff book r limit p).1 (h, e))

-- The finder's count is least.
pub finder_is_least : FinderIsLeast
finder_is_least book r limit p e =
    let (h, f) = (find_value_iff book r limit p).0 e in (least_in_cycles r book).found limit h.limit_most p f

-- 7 comes exactly where no two such vectors have a determinant within the limit.
pub finder_none : FinderNone
finder_none book r limit = (
  λ e.
      let (h, f) = (find_none_iff book r limit).0 e in
      record {
        legal_book = h.legal_book;
        limit_least = h.limit_least;
        limit_most = h.limit_most;
        legal_cycles = h.legal_cycles;
        above = ((least_in_cycles r book).none_found limit).0 f;
      },
  λ w.
      (find_none_iff book r limit).1 (
        record { legal_book = w.legal_book; limit_least = w.limit_least; limit_most = w.limit_most; legal_cycles = w.legal_cycles },
        ((least_in_cycles r book).none_found limit).1 w.above,
      ),
)
