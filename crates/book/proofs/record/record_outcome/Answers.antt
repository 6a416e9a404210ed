-- `book::record::record_outcome` meets its contract. The loop's invariant: the patterns before the n-th have passed their
-- tests.
-- Assumes nothing.
use native.Mathlib.Omega.{arith}
use mathlib.Core.Path.{◌∙◌, refl}
use Rattle.scope.specs.Plans.{pattern_at}
use Rattle.checks.proofs.Chains.{passed_on}
use Rattle.book.proofs.RecordLoops.{count_not_taken, pattern_not_taken, one_more_passed, all_passed}
use Rattle.book.proofs.record.record_outcome.Goals as goal

pub returns-then-count-eq0 : goal.returns-then-count-eq0
returns-then-count-eq0 c = count_not_taken _ (λ h. omega arith)

pub returns-then-count-gt16 : goal.returns-then-count-gt16
returns-then-count-gt16 c = count_not_taken _ (λ h. omega arith)

pub loop-n-init : goal.loop-n-init
loop-n-init c = (omega arith, λ m h. absurd (omega arith))

pub returns-in_err-pattern_outcome : goal.returns-in_err-pattern_outcome
unfolding pattern_at
returns-in_err-pattern_outcome c =
    passed_on _ c.from_residual.ensures c.in_err-pattern_outcome.was
    ∙ (pattern_not_taken _ c.pattern_outcome.ensures refl c.loop-n.invariant.1 (omega arith)
    (omega arith) c.in_err-pattern_outcome.was)

pub loop-n-preserved : goal.loop-n-preserved
unfolding pattern_at
loop-n-preserved c = (
  omega arith,
  one_more_passed c.args.book c.pattern_outcome.ensures refl c.loop-n.invariant.1 c.in_ok-pattern_outcome.was,
)

pub returns : goal.returns
returns c = all_passed _ (omega arith) (λ n h. c.loop-n.invariant.1 n (omega arith))
