-- `finder::checking::check` meets its contract: the tests of the record and r come first, then those of the normal form, and where none
-- refuses the normal form is judged.
-- Assumes nothing.
use Rattle.std.specs.Prelude.{Ok, Err}
use Prim.Native.Nat.{ℕ}
use mathlib.Core.Path.{◌≡◌, refl, sym, ◌∙◌, ap, ap₂}
use mathlib.Core.Bool.{true}
use mathlib.Core.Option.{Option, none, some}
use mathlib.Core.List.{List, [], ◌∷◌}
use lib.ListN.{replicate}
use native.Mathlib.Omega.{arith}
use Rattle.scope.specs.Search.{first_of}
use Rattle.scope.specs.Plans.{Pixel, at, is_plan, patterns, normal_form}
use Rattle.scope.specs.Cycles.{LongClash, clash_for}
use Rattle.scope.specs.Numbers.{dependent_test, large_test, of_result, places}
use Rattle.scope.specs.Calls.{answered, normal, book_test, check_test, judged, check}
use Rattle.scope.specs.promises.Meaning.{IsCycles}
use Rattle.scope.specs.declared.Plan.{Plan}
use Rattle.scope.specs.declared.Book.{Book}
use Rattle.scope.specs.declared.Refusal.{Refusal}
use Rattle.scope.specs.declared.Verdict.{Verdict}
use Rattle.scope.specs.declared.CheckAnswer.{CheckAnswer}
use Rattle.scope.proofs.PlanFacts.{is_plan_iff, pixel_handed}
use Rattle.checks.proofs.Chains.{chain_refuses, chain_goes_on, value_not_refusal, answered_none, answered_some}
use Rattle.checks.proofs.ClashAnswers.{beside_none, beside_some}
use Rattle.checks.proofs.Booleans.{last_test, test_before}
use Rattle.checks.proofs.BookTests.{book_test_iff, book_legal_iff}
use Rattle.checks.proofs.Tests.{independent_iff, size_within_iff}
use Rattle.lattice.proofs.NormalForm.{normal_form_is_plan}
use Rattle.book.proofs.Outcomes.{done_found_nothing, refused_found}
use Rattle.finder.proofs.checking.check.Lts as lts
use Rattle.finder.proofs.checking.check.Tie as tie
use Rattle.finder.proofs.checking.check.Reads as reads
use Rattle.finder.proofs.checking.check.Goals as goal

-- what is known at a step of the code
abbrev After-book_outcome-outcome : Type 0
After-book_outcome-outcome = lts.After-book_outcome tie.the-claims reads.Pre reads.Post

abbrev After-normal_form-form : Type 0
After-normal_form-form = lts.After-normal_form tie.the-claims reads.Pre reads.Post

abbrev Start : Type 0
Start = lts.Start tie.the-claims reads.Pre reads.Post

-- what the answer of a call that gives a plan tells of its tests
module _ (form : Plan) where
  plan-shows :
      {p : Plan} (t : Option Refusal) → answered t Err (Ok form) ≡ Ok p
      → (t ≡ none) × (form ≡ p)
  unfolding answered
  plan-shows none e = (refl, cc)
  plan-shows (some q) e = absurd (value_not_refusal (ap of_result (sym e)))

  refusal-shows :
      {r : Refusal} (t : Option Refusal) → answered t Err (Ok form) ≡ Err r → t ≡ some r
  unfolding answered
  refusal-shows none e = absurd (value_not_refusal (ap of_result e))
  refusal-shows (some q) e = cc

-- this verdict with these positions is the check's
abbrev Gives : CheckAnswer → Verdict → List ℕ → Type 0
Gives a verdict positions = (verdict ≡ a.verdict) × (positions ≡ a.positions)

module _ (x y : Pixel) where
  abbrev formTests : List (Option Refusal)
  formTests = dependent_test x y ∷ large_test x y ∷ []

  -- a normal form that is given is a plan
  form-is-plan : (p : Plan) → normal x y ≡ Ok p → is_plan p ≡ true
  unfolding normal
  form-is-plan p e =
      let (passed, is) = plan-shows (normal_form x y) (first_of formTests) e in
      let (independent, within) = (test_before (independent_iff x y) (last_test (size_within_iff x y))).iff.0 passed in
      (is_plan_iff p).1 (rw is at (normal_form_is_plan x y independent within))

  -- What the check answers, by the tests of the record and r and the normal form.
  module _ (book : Book) (r : ℕ) where
    abbrev clash : Plan → Option LongClash
    clash p = clash_for r p (patterns book)

    refused : (f : Refusal) → check_test book r x y ≡ some f → Gives (check book r x y) (Verdict.Refused f) (replicate 9 0)
    unfolding check places
    refused f e = (sym (answered_some (check_test book r x y) Verdict.Refused _ f e), sym (beside_some (check_test book r x y) (clash (normal_form x y)) f e))

    book-refused : (f : Refusal) → book_test book r ≡ some f → Gives (check book r x y) (Verdict.Refused f) (replicate 9 0)
    unfolding check_test
    book-refused f found = refused f (chain_refuses (book_test book r) formTests f found)

    module _ (legal : book_test book r ≡ none) where
      past-book : check_test book r x y ≡ first_of formTests
      unfolding check_test
      past-book = chain_goes_on (book_test book r) formTests legal

      form-refused : (f : Refusal) → normal x y ≡ Err f → Gives (check book r x y) (Verdict.Refused f) (replicate 9 0)
      unfolding normal
      form-refused f e = refused f (past-book ∙ refusal-shows (normal_form x y) (first_of formTests) e)

      form-judged :
          (p : Plan) → normal x y ≡ Ok p
          → ((check book r x y).verdict ≡ judged r (patterns book) p) × ((check book r x y).positions ≡ places (clash_for r p (patterns book)))
      unfolding check normal
      form-judged p e =
          let (passed, is) = plan-shows (normal_form x y) (first_of formTests) e in
          let none_found : check_test book r x y ≡ none = past-book ∙ passed in (
            answered_none (check_test book r x y) Verdict.Refused _ none_found ∙ ap (judged r (patterns book)) is,
            beside_none (check_test book r x y) (clash (normal_form x y)) none_found ∙ ap (λ (q : Plan). places (clash q)) is,
          )

pub returns-in-Err : goal.returns-in-Err
returns-in-Err c =
    book-refused _ _ _ _ _ (refused_found _ c.book_outcome-outcome.ensures c.in-Err.is)

-- the record is a book and r is legal, and the answer is that of the normal form
module _ (c : After-normal_form-form) where
  abbrev tested : After-book_outcome-outcome
  tested = c.before.before

  abbrev start : Start
  start = tested.before

  abbrev x : Pixel
  x = at start.args.x1 start.args.x2

  abbrev y : Pixel
  y = at start.args.y1 start.args.y2

  legal : book_test start.args.book start.args.r ≡ none
  legal = done_found_nothing _ tested.book_outcome-outcome.ensures c.in_default.is

  cycles : IsCycles start.args.r
  cycles = ((book_test_iff start.args.book start.args.r).0 legal).1

  form-is : normal x y ≡ c.normal_form-form.result
  form-is =
      let f = start.ranges in
      sym (c.normal_form-form.ensures ∙ ap₂ normal (pixel_handed f.x1 f.x2) (pixel_handed f.y1 f.y2))

pub overflow_cast-r : goal.overflow_cast-r
overflow_cast-r c = record { fits = omega (arith, (cycles c.before).1) }

pub invariant_of-judge : goal.invariant_of-judge
invariant_of-judge c = record { is = form-is-plan _ _ _ (form-is c.before ∙ c.in-Ok.is) }

pub judge-requires : goal.judge-requires
judge-requires c =
    let n = c.before.before in (
      (book_legal_iff (start n).args.book).1 ((book_test_iff (start n).args.book (start n).args.r).0 (legal n)).0,
      omega (arith, (cycles n).0),
      omega (arith, (cycles n).1),
    )

pub returns-in-Ok : goal.returns-in-Ok
returns-in-Ok c =
    let n = c.before.before.before in
    let (verdict, positions) = form-judged _ _ _ _ (legal n) _ (form-is n ∙ c.in-Ok.is) in
    (c.judge.ensures.0 ∙ sym verdict, c.judge.ensures.1 ∙ sym positions)

pub returns-in-Err-form : goal.returns-in-Err-form
returns-in-Err-form c =
    form-refused _ _ _ _ (legal c.before) _ (form-is c.before ∙ c.in-Err-form.is)
