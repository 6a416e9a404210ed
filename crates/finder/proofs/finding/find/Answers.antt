-- `finder::finding::find` meets its contract: the record's tests come first, then those of the limit and r, and where none refuses the
-- search for r answers.
-- Assumes nothing.
use Rattle.std.specs.Prelude.{Err}
use Prim.Native.Nat.{ℕ, ◌≤◌}
use native.Mathlib.Omega.{arith}
use mathlib.Core.Path.{◌≡◌, sym, ◌∙◌}
use mathlib.Core.Option.{none}
use mathlib.Core.List.{[], ◌∷◌}
use Rattle.scope.specs.Plans.{patterns}
use Rattle.scope.specs.Cycles.{least_plan_for}
use Rattle.scope.specs.Numbers.{record_test, limit_test, cycles_test}
use Rattle.scope.specs.Calls.{find_test, found, find}
use Rattle.scope.specs.promises.Meaning.{IsCycles}
use Rattle.scope.specs.declared.Book.{Book}
use Rattle.scope.specs.declared.Refusal.{Refusal}
use Rattle.checks.proofs.Chains.{handed_on, chain_refuses, chain_goes_on}
use Rattle.checks.proofs.Deciding.{limit_decides, cycles_decide}
use Rattle.checks.proofs.BookTests.{book_legal_iff}
use Rattle.book.proofs.Outcomes.{record_taken, record_turned_down}
use Rattle.finder.proofs.FindAnswers.{find_refused, book_refused, legal_find}
use Rattle.finder.proofs.finding.find.Goals as goal
use Rattle.finder.proofs.finding.find.Goals.{In_ok-record_outcome}

-- What the call answers for a book, by its limit and r.
module _ (book : Book) (r limit : ℕ) (legal : record_test book ≡ none) where
  limit-refused : ((1 ≤ limit) × (limit ≤ 1024) → ⊥) → Err Refusal.Limit ≡ find book r limit
  unfolding find_test
  limit-refused h =
      find_refused book r limit Refusal.Limit
      (chain_goes_on (record_test book) (limit_test limit ∷ cycles_test r ∷ []) legal
      ∙ chain_refuses (limit_test limit) (cycles_test r ∷ []) Refusal.Limit ((limit_decides limit).refuses h))

  module _ (least : 1 ≤ limit) (most : limit ≤ 1024) where
    cycles-refused : (IsCycles r → ⊥) → Err Refusal.Cycles ≡ find book r limit
    unfolding find_test
    cycles-refused h =
        find_refused book r limit Refusal.Cycles
        (chain_goes_on (record_test book) (limit_test limit ∷ cycles_test r ∷ []) legal
        ∙ chain_goes_on (limit_test limit) (cycles_test r ∷ []) ((limit_decides limit).passes (least, most))
        ∙ chain_refuses (cycles_test r) [] Refusal.Cycles ((cycles_decide r).refuses h))

    searched : IsCycles r → found (least_plan_for r (patterns book) limit) ≡ find book r limit
    searched cycles =
        sym (legal_find book r limit
        (record { legal_book = (book_legal_iff book).0 legal; limit_least = least; limit_most = most; legal_cycles = cycles }))

pub returns-in_err-record_outcome : goal.returns-in_err-record_outcome
returns-in_err-record_outcome c =
    handed_on _ c.from_residual.ensures
    ∙ (book_refused _ _ _ _ (record_turned_down _ c.record_outcome.ensures c.in_err-record_outcome.was))

-- the record's tests found nothing
legal : (c : In_ok-record_outcome) → record_test c.args.book ≡ none
legal c = record_taken _ c.record_outcome.ensures c.in_ok-record_outcome.was

pub returns-then-limit-eq0 : goal.returns-then-limit-eq0
returns-then-limit-eq0 c = limit-refused _ _ _ (legal c.before) (λ h. omega (arith, c.if-limit-eq0.true))

pub returns-then-limit-gt1024 : goal.returns-then-limit-gt1024
returns-then-limit-gt1024 c = limit-refused _ _ _ (legal c.before.before) (λ h. omega (arith, c.if-limit-gt1024.true))

pub returns-then-r-eq0 : goal.returns-then-r-eq0
returns-then-r-eq0 c =
    cycles-refused _ _ _ (legal c.before.before.before) (omega arith) (omega arith) (λ h. omega (arith, c.if-r-eq0.true))

pub returns-then-r-gt8 : goal.returns-then-r-gt8
returns-then-r-gt8 c =
    cycles-refused _ _ _ (legal c.before.before.before.before) (omega arith) (omega arith) (λ h. omega (arith, c.if-r-gt8.true))

-- from past all tests back to where the record's outcome is known
abbrev tested : goal.Else-r-gt8 → In_ok-record_outcome
tested c = c.before.before.before.before

pub plan_for-requires : goal.plan_for-requires
plan_for-requires c = (legal (tested c), omega arith)

pub returns : goal.returns
returns c =
    c.plan_for.ensures
    ∙ searched _ _ _ (legal (tested c.before)) (omega arith) (omega arith) (omega arith, omega arith)
