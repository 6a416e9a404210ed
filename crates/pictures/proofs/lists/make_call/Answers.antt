-- `pictures::lists::make_call` meets its contract: each call, and what the code does for it.
-- Assumes nothing.
use Rattle.std.proofs.Common.{◌∙◌, sym, rules, w16}
use Rattle.scope.specs.Plans.{pattern_at}
use Rattle.scope.proofs.PlanFacts.{entry_handed}
use Rattle.pictures.specs.Lists.{call_read}
use Rattle.pictures.proofs.Starts.{found_by_lem, entry_is, started}
use Rattle.pictures.proofs.MadeCalls.{clear_made, sums_made, walk_made, read_made, store_made, load_made, fetch_made}
use Rattle.pictures.proofs.ListTurns.{start_known}
use Rattle.pictures.proofs.lists.make_call.Goals as goal

pub fetch_rest-counted-requires : goal.fetch_rest-counted-requires
unfolding pattern_at
fetch_rest-counted-requires c =
    let s = start_known _ _ _ _ _ _ _ c.requires c.start_number-s.ensures in
    λ found.
    let shown = started _ _ _ _ _ _ _ (sym (found_by_lem _ s.outcome_is) ∙ found) in
    (shown.picture, rw (entry_is c.args.book.now c.in-Fetch.pattern c.entry_number-e.ensures) shown.most)

pub returns-in-Store : goal.returns-in-Store
unfolding call_read
returns-in-Store c =
    rw c.in-Store.is
    (store_made _ _ _ _ _ _ _ (entry_handed w16 c.in-Store.i c.in-Store.j (search rules) (search rules)) _ (c.store.ensures.answer, c.store.ensures.left)
    c.answer_row.ensures)

pub returns-in-Clear : goal.returns-in-Clear
unfolding call_read
returns-in-Clear c =
    rw c.in-Clear.is (clear_made _ _ _ _ _ _ _ _ (c.clear.ensures.answer, c.clear.ensures.left) c.answer_row-in-Clear.ensures)

pub returns-in-Load : goal.returns-in-Load
unfolding call_read
returns-in-Load c =
    rw c.in-Load.is
    (load_made _ _ _ _ _ _ _ (entry_handed w16 c.in-Load.i c.in-Load.j (search rules) (search rules)) c.load.ensures c.answer_row-in-Load.ensures)

pub returns-in-Fetch : goal.returns-in-Fetch
unfolding call_read pattern_at
returns-in-Fetch c =
    rw c.in-Fetch.is
    (fetch_made _ _ _ _ _ _ _ (entry_handed w16 c.in-Fetch.i c.in-Fetch.j (search rules) (search rules)) _ _
    (start_known _ _ _ _ _ _ _ c.requires c.start_number-s.ensures)
    (entry_is c.args.book.now c.in-Fetch.pattern c.entry_number-e.ensures) c.fetch_rest-counted.ensures c.fetched_row.ensures)

pub returns-in-MakeSums : goal.returns-in-MakeSums
unfolding call_read
returns-in-MakeSums c =
    rw c.in-MakeSums.is (sums_made _ _ _ _ _ _ _ (c.make_sums.ensures.answer, c.make_sums.ensures.left) c.answer_row-in-MakeSums.ensures)

pub returns-in-Sum : goal.returns-in-Sum
unfolding call_read
returns-in-Sum c = rw c.in-Sum.is (walk_made _ _ _ _ _ _ _ _ c.sum.ensures c.answer_row-in-Sum.ensures)

pub returns-in-ReadSum : goal.returns-in-ReadSum
unfolding call_read
returns-in-ReadSum c = rw c.in-ReadSum.is (read_made _ _ _ _ _ _ _ _ c.read_sum.ensures c.answer_row-in-ReadSum.ensures)
