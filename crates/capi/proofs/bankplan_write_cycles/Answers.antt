-- `capi::bankplan_write_cycles` meets its contract.
-- Assumes nothing.
use Rattle.scope.specs.Numbers.{of_fetch}
use Rattle.capi.proofs.Passed.{told_of, same_fetch}
use Rattle.capi.proofs.bankplan_write_cycles.Goals as goal

pub returns : goal.returns
returns c =
    let e = rw (c.book_of-book.ensures, c.plan_of.ensures) at c.write_cycles.ensures in
    record { told = told_of (of_fetch c.args.r) (same_fetch e.answer.0 e.answer.1) c.tell_fetch.ensures; out = e.left }
