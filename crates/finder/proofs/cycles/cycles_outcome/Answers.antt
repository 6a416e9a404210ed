-- `finder::cycles::cycles_outcome` meets its contract: the tests of the book and r, then 11, then 17.
-- Assumes nothing.
use native.Mathlib.Omega.{arith}
use mathlib.Core.Path.{◌∙◌}
use mathlib.Core.List.{[], ◌∷◌}
use Rattle.scope.specs.Numbers.{plan_test, number_test}
use Rattle.scope.specs.Calls.{cycles_first}
use Rattle.scope.proofs.MethodAnswers.{fails, holds}
use Rattle.checks.proofs.Deciding.{number_decides}
use Rattle.book.proofs.Outcomes.{done_found_nothing, refused_found}
use Rattle.checks.proofs.Chains.{handed_on}
use Rattle.finder.proofs.ChainOutcomes.{Left, refused_here, left_after, refused_unless, left_where, done_at_end, no_plan_refused, left_after_plan, cycles_tests}
use Rattle.finder.proofs.cycles.cycles_outcome.Goals as goal
use Rattle.finder.proofs.cycles.cycles_outcome.Goals.{In_ok-book_outcome, Else-not-is_plan}

pub returns-in_err-book_outcome : goal.returns-in_err-book_outcome
returns-in_err-book_outcome c =
    handed_on _ c.from_residual.ensures
    ∙ refused_here (cycles_tests _ _ _ _) (refused_found _ c.book_outcome.ensures c.in_err-book_outcome.was)

-- past the tests of the book and r, and of the plan
taken :
    (c : In_ok-book_outcome) → let a = c.args in
    Left (cycles_first a.book a.r a.p a.n) (plan_test a.p ∷ number_test a.book.count a.n ∷ [])
taken c = left_after (cycles_tests _ _ _ _) (done_found_nothing _ c.book_outcome.ensures c.in_ok-book_outcome.was)

planned :
    (c : Else-not-is_plan) → let a = c.args in
    Left (cycles_first a.book a.r a.p a.n) (number_test a.book.count a.n ∷ [])
planned c = left_after_plan _ (taken c.before.before) (holds c.is_plan.ensures c.if-not-is_plan.false-raw)

pub returns-then-not-is_plan : goal.returns-then-not-is_plan
returns-then-not-is_plan c = no_plan_refused _ (taken c.before.before) (fails c.is_plan.ensures c.if-not-is_plan.true-raw)

pub returns-then-book-n : goal.returns-then-book-n
returns-then-book-n c = refused_unless (planned c.before.before) (number_decides _ _) (λ h. omega arith)

pub returns : goal.returns
returns c = done_at_end (left_where (planned c.before.before) (number_decides _ _) (omega arith))
