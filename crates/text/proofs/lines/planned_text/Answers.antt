-- `text::lines::planned_text` meets its contract: either kind of answer has its own text.
-- Assumes nothing.
use Rattle.scope.specs.Program.{plan_text}
use Rattle.text.proofs.lines.planned_text.Goals as goal

pub returns-in-Ok : goal.returns-in-Ok
unfolding plan_text
returns-in-Ok c = rw c.in-Ok.is c.plan_text.ensures

pub returns-in-Err : goal.returns-in-Err
unfolding plan_text
returns-in-Err c = rw c.in-Err.is c.refused_text.ensures
