-- `book::record::pattern_outcome` meets its contract: a refused count decides, and after a legal one the pixels do.
-- Assumes nothing.
use native.Mathlib.Omega.{arith}
use mathlib.Core.Path.{sym, ◌∙◌, ap}
use Rattle.scope.specs.Numbers.{pattern_test}
use Rattle.book.specs.Scan.{outcome_of}
use Rattle.book.proofs.Outcomes.{answered_by_refusal}
use Rattle.book.proofs.Scanning.{used_not_taken, pixels_decide_of}
use Rattle.book.proofs.record.pattern_outcome.Goals as goal

pub returns-then-used-eq0 : goal.returns-then-used-eq0
returns-then-used-eq0 c = let t = c.args.t in answered_by_refusal (pattern_test t) _ (used_not_taken t (λ h. omega arith))

pub returns-then-used-gt64 : goal.returns-then-used-gt64
returns-then-used-gt64 c =
    let t = c.args.t in answered_by_refusal (pattern_test t) _ (used_not_taken t (λ h. omega arith))

pub returns : goal.returns
returns c =
    c.pixels_outcome.ensures ∙ ap outcome_of (sym (pixels_decide_of c.args.t (omega arith)))
