-- `capi::bankplan_write_book` meets its contract.
-- Assumes nothing.
use Rattle.scope.specs.Numbers.{of_result}
use Rattle.capi.proofs.Passed.{told_of}
use Rattle.capi.proofs.bankplan_write_book.Goals as goal

pub returns : goal.returns
returns c =
    let (answer, content) = rw c.book_of-record.ensures at c.write_book.ensures in
    record { told = told_of of_result answer c.tell.ensures; out = content }
