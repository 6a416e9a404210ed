-- `capi::runs::bankplan_run_list` meets its contract.
-- Assumes nothing.
use Rattle.capi.proofs.Passed.{listed_told}
use Rattle.capi.proofs.runs.bankplan_run_list.Goals as goal

pub returns : goal.returns
returns c =
    let e = rw (c.book_of-book.ensures, c.plan_of.ensures) at c.run_list-listed.ensures in
    let t = listed_told _ _ _ (e.answer, (e.left, e.kept)) c.tell_listed.ensures in
    record { told = t.0; left = t.1.0; kept = t.1.1 }
