-- `capi::bankplan_read_book` meets its contract.
-- Assumes nothing.
use mathlib.Core.Path.{refl, ◌∙◌}
use Rattle.capi.specs.Flat.{flat_columns, flat_rows, flat_used}
use Rattle.capi.proofs.Passed.{told_value, told_refusal, reading_done, reading_refused, filled_read, kept_refused}
use Rattle.capi.proofs.bankplan_read_book.Goals as goal

pub returns-in-Err : goal.returns-in-Err
returns-in-Err c =
    let refused = rw c.read_book-reading.ensures at c.in-Err.is in
    record {
      told = told_refusal (reading_refused _ refused) c.tell_refusal.ensures;
      columns = kept_refused _ flat_columns _ refused;
      rows = kept_refused _ flat_rows _ refused;
      used = kept_refused _ flat_used _ refused;
    }

pub returns : goal.returns
returns c =
    let e = c.read_book-reading.ensures in
    let done = rw e at c.in_default.is in
    record {
      told = told_value (reading_done _ done) (refl, rw e refl);
      columns = (rw e at c.put_pixels.ensures.0) ∙ filled_read _ flat_columns _ done;
      rows = (rw e at c.put_pixels.ensures.1) ∙ filled_read _ flat_rows _ done;
      used = (rw e at c.put_used.ensures) ∙ filled_read _ flat_used _ done;
    }
