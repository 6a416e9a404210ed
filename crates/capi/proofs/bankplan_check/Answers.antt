-- `capi::bankplan_check` meets its contract.
-- Assumes nothing.
use mathlib.Core.Path.{◌∙◌, ap₂}
use Rattle.scope.specs.Numbers.{of_check}
use Rattle.scope.specs.Calls.{check}
use Rattle.scope.proofs.PlanFacts.{pixel_handed}
use Rattle.capi.proofs.Passed.{told_of, same_check}
use Rattle.capi.proofs.bankplan_check.Goals as goal

pub returns : goal.returns
returns c =
    let f = c.ranges in
    told_of (of_check c.args.r)
    ((rw c.book_of.ensures at (same_check c.check.ensures.0 c.check.ensures.1))
    ∙ ap₂ (check _ _) (pixel_handed f.x1 f.x2) (pixel_handed f.y1 f.y2))
    c.tell_check.ensures
