-- `finder::cycles::book_outcome` meets its contract: the record's tests, then 20.
-- Assumes nothing.
use native.Mathlib.Omega.{arith}
use mathlib.Core.Path.{◌∙◌}
use mathlib.Core.List.{[], ◌∷◌}
use Rattle.scope.specs.Numbers.{cycles_test}
use Rattle.scope.specs.Calls.{book_test}
use Rattle.checks.proofs.Deciding.{cycles_decide}
use Rattle.book.proofs.Outcomes.{record_taken, record_turned_down}
use Rattle.checks.proofs.Chains.{handed_on}
use Rattle.finder.proofs.ChainOutcomes.{Left, refused_here, left_after, refused_unless, left_where, done_at_end, book_tests_lem}
use Rattle.finder.proofs.cycles.book_outcome.Goals as goal
use Rattle.finder.proofs.cycles.book_outcome.Goals.{In_ok-record_outcome}

pub returns-in_err-record_outcome : goal.returns-in_err-record_outcome
returns-in_err-record_outcome c =
    handed_on _ c.from_residual.ensures
    ∙ refused_here (book_tests_lem _ _) (record_turned_down _ c.record_outcome.ensures c.in_err-record_outcome.was)

-- past the record's tests
taken :
    (c : In_ok-record_outcome) → let a = c.args in Left (book_test a.book a.r) (cycles_test a.r ∷ [])
taken c = left_after (book_tests_lem _ _) (record_taken _ c.record_outcome.ensures c.in_ok-record_outcome.was)

pub returns-then-r-eq0 : goal.returns-then-r-eq0
returns-then-r-eq0 c = refused_unless (taken c.before) (cycles_decide _) (λ h. omega arith)

pub returns-then-r-gt8 : goal.returns-then-r-gt8
returns-then-r-gt8 c = refused_unless (taken c.before.before) (cycles_decide _) (λ h. omega arith)

pub returns : goal.returns
returns c = done_at_end (left_where (taken c.before.before) (cycles_decide _) (omega arith, omega arith))
