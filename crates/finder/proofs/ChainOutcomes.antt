-- What a chain of tests finds, test by test, and what a function answers that runs through it: the refusal of the first test that
-- finds one, else that it is done.
-- Assumes nothing.
use Rattle.std.specs.Prelude.{Ok, Err}
use Prim.Native.Nat.{ℕ, ◌≤◌}
use mathlib.Core.Path.{◌≡◌, refl, ◌∙◌}
use mathlib.Core.Bool.{true, false}
use mathlib.Core.Option.{Option, none, some}
use mathlib.Core.List.{List, [], ◌∷◌}
use Rattle.scope.specs.Search.{first_of}
use Rattle.scope.specs.Plans.{is_plan}
use Rattle.scope.specs.Numbers.{record_test, count_test, cycles_test, plan_test, number_test}
use Rattle.scope.specs.Calls.{book_test, cycles_first}
use Rattle.scope.specs.declared.Book.{Book}
use Rattle.scope.specs.declared.Pattern.{Pattern}
use Rattle.scope.specs.declared.Plan.{Plan}
use Rattle.scope.specs.declared.Refusal.{Refusal}
use Rattle.scope.specs.declared.Refusal.TheVariants.{Count, NotPlan}
use Rattle.scope.proofs.MethodAnswers.{demand_met, demand_fails}
use Rattle.checks.proofs.BookRefusals.{count_refused}
use Rattle.checks.proofs.BookTests.{count_legal_iff}
use Rattle.checks.proofs.Chains.{chain_refuses, chain_goes_on}
use Rattle.checks.proofs.Deciding.{Decides}
use Rattle.book.specs.Scan.{outcome_of}
use Rattle.book.proofs.Outcomes.{answered_by_refusal, answered_by_done}
use Rattle.finder.specs.Clashing.{single_test}

-- these tests of a chain are left: those before them found nothing
pub record Left (chain : Option Refusal) (tests : List (Option Refusal)) : Type 0 where
  pub is : chain ≡ first_of tests

module _ {chain t : Option Refusal} {ts : List (Option Refusal)} (left : Left chain (t ∷ ts)) where
  pub found_here : {f : Refusal} → t ≡ some f → chain ≡ some f
  found_here {f} e = left.is ∙ chain_refuses t ts f e

  pub refused_here : {f : Refusal} → t ≡ some f → Err f ≡ outcome_of chain
  refused_here {f} e = answered_by_refusal chain f (found_here e)

  pub left_after : t ≡ none → Left chain ts
  left_after e = record { is = left.is ∙ chain_goes_on t ts e }

  -- the same by the test's condition
  module _ {f : Refusal} {P : Type 0} (test : Decides t f P) where
    pub refused_unless : (P → ⊥) → Err f ≡ outcome_of chain
    refused_unless fails = refused_here (test.refuses fails)

    pub left_where : P → Left chain ts
    left_where holds = left_after (test.passes holds)

pub nothing_found : {chain : Option Refusal} → Left chain [] → chain ≡ none
unfolding first_of
nothing_found left = left.is

pub done_at_end : {chain : Option Refusal} → Left chain [] → (Ok tt) ≡ outcome_of chain
done_at_end {chain} left = answered_by_done chain (nothing_found left)

-- 11 by the code's test of a plan
module _ {chain : Option Refusal} {ts : List (Option Refusal)} (p : Plan) (left : Left chain (plan_test p ∷ ts)) where
  pub no_plan_refused : is_plan p ≡ false → Err NotPlan ≡ outcome_of chain
  unfolding plan_test
  no_plan_refused e = refused_here left (demand_fails (is_plan p) NotPlan e)

  pub left_after_plan : is_plan p ≡ true → Left chain ts
  unfolding plan_test
  left_after_plan e = left_after left (demand_met (is_plan p) NotPlan e)

-- 2 for a pattern's pixel count
module _ {chain : Option Refusal} {ts : List (Option Refusal)} (n : ℕ) (left : Left chain (count_test 64 n 0 ∷ ts)) where
  pub count_refused_here : ((1 ≤ n) × (n ≤ 64) → ⊥) → Err (Count 0) ≡ outcome_of chain
  count_refused_here h = refused_here left (count_refused 64 n 0 h)

  pub left_after_count : 1 ≤ n → n ≤ 64 → Left chain ts
  left_after_count least most = left_after left ((count_legal_iff 64 n 0).1 (least, most))

-- the chains: of a pattern, r and a plan by themselves; of a book and r; those of the cycles before 10
pub single_tests : (p : Plan) (t : Pattern) (r : ℕ) → Left (single_test p t r) (count_test 64 t.used 0 ∷ cycles_test r ∷ plan_test p ∷ [])
unfolding single_test
single_tests p t r = record { is = refl }

pub book_tests_lem : (book : Book) (r : ℕ) → Left (book_test book r) (record_test book ∷ cycles_test r ∷ [])
unfolding book_test
book_tests_lem book r = record { is = refl }

pub cycles_tests :
    (book : Book) (r : ℕ) (p : Plan) (n : ℕ) → Left (cycles_first book r p n) (book_test book r ∷ plan_test p ∷ number_test book.count n ∷ [])
unfolding cycles_first
cycles_tests book r p n = record { is = refl }
