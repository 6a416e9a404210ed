-- `pictures::rows::answer_row` meets its contract.
-- Assumes nothing.
use Rattle.std.proofs.Common.{◌∙◌}
use Rattle.scope.specs.Numbers.{of_result}
use Rattle.pictures.specs.Lists.{answer_numbers}
use Rattle.pictures.proofs.ReplyRows.{same_row}
use Rattle.pictures.proofs.rows.answer_row.Goals as goal

pub returns-in-Ok : goal.returns-in-Ok
unfolding answer_numbers
returns-in-Ok g c = c.row.ensures ∙ same_row of_result g.T.Value.numbers c.in-Ok.is

pub returns-in-Err : goal.returns-in-Err
unfolding answer_numbers
returns-in-Err g c = c.refusal_row.ensures ∙ same_row of_result g.T.Value.numbers c.in-Err.is
