-- `finder::clash::single_outcome` meets its contract: 2, 20, 11.
-- Assumes nothing.
use native.Mathlib.Omega.{arith}
use mathlib.Core.List.{[], ◌∷◌}
use Rattle.scope.specs.Numbers.{cycles_test, plan_test}
use Rattle.scope.proofs.MethodAnswers.{fails, holds}
use Rattle.checks.proofs.Deciding.{cycles_decide}
use Rattle.finder.specs.Clashing.{single_test}
use Rattle.finder.proofs.ChainOutcomes.{Left, refused_unless, left_where, done_at_end, no_plan_refused, left_after_plan}
use Rattle.finder.proofs.ChainOutcomes.{count_refused_here, left_after_count, single_tests}
use Rattle.finder.proofs.clash.single_outcome.Lts as lts
use Rattle.finder.proofs.clash.single_outcome.Tie as tie
use Rattle.finder.proofs.clash.single_outcome.Reads as reads
use Rattle.finder.proofs.clash.single_outcome.Goals as goal

-- what is known at a step of the code
abbrev Else-r-gt8 : Type 0
Else-r-gt8 = lts.Else4 tie.the-claims reads.Pre reads.Post

abbrev Else-used-gt64 : Type 0
Else-used-gt64 = lts.Else2 tie.the-claims reads.Pre reads.Post

pub returns-then-used-eq0 : goal.returns-then-used-eq0
returns-then-used-eq0 c = count_refused_here _ (single_tests _ _ _) (λ h. omega arith)

pub returns-then-used-gt64 : goal.returns-then-used-gt64
returns-then-used-gt64 c = count_refused_here _ (single_tests _ _ _) (λ h. omega arith)

-- past the tests of the count, and of r
counted :
    (c : Else-used-gt64) → let a = c.args in
    Left (single_test a.p a.t a.r) (cycles_test a.r ∷ plan_test a.p ∷ [])
counted c = left_after_count _ (single_tests _ _ _) (omega arith) (omega arith)

cycled :
    (c : Else-r-gt8) → let a = c.args in Left (single_test a.p a.t a.r) (plan_test a.p ∷ [])
cycled c = left_where (counted c.before.before) (cycles_decide _) (omega arith, omega arith)

pub returns-then-r-eq0 : goal.returns-then-r-eq0
returns-then-r-eq0 c = refused_unless (counted c.before) (cycles_decide _) (λ h. omega arith)

pub returns-then-r-gt8 : goal.returns-then-r-gt8
returns-then-r-gt8 c = refused_unless (counted c.before.before) (cycles_decide _) (λ h. omega arith)

pub returns-then-not-is_plan : goal.returns-then-not-is_plan
returns-then-not-is_plan c = no_plan_refused _ (cycled c.before.before) (fails c.is_plan.ensures c.if-not-is_plan.true-raw)

pub returns : goal.returns
returns c = done_at_end (left_after_plan _ (cycled c.before.before) (holds c.is_plan.ensures c.if-not-is_plan.false-raw))
