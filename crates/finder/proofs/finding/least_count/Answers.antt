-- `finder::finding::least_count` meets its contract: the count is that of the finder's answer at limit 1024.
-- Assumes nothing.
use Rattle.std.specs.Prelude.{Ok}
use mathlib.Core.Path.{sym, ◌∙◌, ap}
use Rattle.checks.proofs.Chains.{handed_on}
use Rattle.finder.proofs.LeastCounts.{fewest_by_plan, fewest_by_refusal}
use Rattle.finder.proofs.finding.least_count.Goals as goal

pub returns : goal.returns
returns c =
    ap Ok c.banks.ensures ∙ sym (fewest_by_plan _ _ _ (sym c.find.ensures ∙ c.in_ok-find.was))

pub returns-in_err-find : goal.returns-in_err-find
returns-in_err-find c =
    handed_on _ c.from_residual.ensures ∙ sym (fewest_by_refusal _ _ _ (sym c.find.ensures ∙ c.in_err-find.was))
