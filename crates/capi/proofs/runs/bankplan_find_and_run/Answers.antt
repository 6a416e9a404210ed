-- `capi::runs::bankplan_find_and_run` meets its contract.
-- Assumes nothing.
use Rattle.capi.proofs.Passed.{found_told}
use Rattle.capi.proofs.runs.bankplan_find_and_run.Goals as goal

pub returns : goal.returns
returns c =
    let e = c.find_and_run-found.ensures in
    let t = found_told _ _ _ _ _ _ _ c.book_of-book.ensures (e.answer, (e.left, e.demand)) c.tell_found.ensures in
    record { told = t.0; left = t.1.0; demand = t.1.1 }
