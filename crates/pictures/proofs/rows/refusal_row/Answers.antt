-- `pictures::rows::refusal_row` meets its contract.
-- Assumes nothing.
use Rattle.pictures.specs.Lists.{twelve}
use Rattle.pictures.proofs.ReplyRows.{refusal_numbers}
use Rattle.pictures.proofs.rows.refusal_row.Goals as goal

pub returns-in-Some : goal.returns-in-Some
unfolding twelve
returns-in-Some c = refusal_numbers c.row_of-told.ensures c.in-Some.is

pub returns-in_default : goal.returns-in_default
unfolding twelve
returns-in_default c = refusal_numbers c.row_of-told.ensures c.in_default.is
