-- The least count for r of a book: the N of the plan that the finder gives at limit 1024, which is enough for every legal book.
-- Assumes nothing.
use Rattle.std.specs.Prelude.{Result, Ok, Err}
use Prim.Native.Nat.{ℕ, ◌≤◌}
use mathlib.Core.Path.{◌≡◌, refl, sym, ◌∙◌, ap}
use mathlib.Core.Bool.{true}
use mathlib.Core.Option.{Option, none, some}
use mathlib.Core.List.{List, [], ◌∷◌}
use Rattle.scope.specs.Plans.{Pixel, patterns, banks}
use Rattle.scope.specs.Cycles.{suits_all_for, suitable_for, least_plan_for, least_count_for}
use Rattle.scope.specs.Numbers.{record_test, limit_test, cycles_test, value, of_result}
use Rattle.scope.specs.Calls.{find_test, find, book_test, fewest}
use Rattle.scope.specs.promises.Meaning.{IsPlan}
use Rattle.scope.specs.promises.PlanPromises.{CountIsLeast}
use Rattle.scope.specs.declared.Plan.{Plan}
use Rattle.scope.specs.declared.Book.{Book}
use Rattle.scope.specs.declared.Refusal.{Refusal}
use native.Mathlib.Omega.{arith}
use Rattle.checks.proofs.Chains.{value_not_refusal, answered_none, answered_some, without_second}
use Rattle.checks.proofs.Tests.{limit_legal_iff}
use Rattle.checks.proofs.BookTests.{book_test_iff}
use Rattle.finder.proofs.SuitingPlans.{suitable_for_by_numbers, plan_suiting}
use Rattle.finder.proofs.PlanSearch.{count_at_most, count_is}
use Rattle.finder.proofs.FindAnswers.{find_refused, find_value_iff}
use Rattle.finder.proofs.Bounds.{limit_is_enough}

module _ (r : ℕ) (ts : List (List Pixel)) where
  -- A plan that suits for r has at least as many banks; the plan found at limit 1024 has as many.
  pub least_count_at_most : (p : Plan) → IsPlan p → suits_all_for r p ts ≡ true → least_count_for r ts ≤ banks p
  unfolding least_count_for banks
  least_count_at_most p is_plan_lem suiting =
      count_at_most (suitable_for r ts) p (plan_suiting (suitable_for r ts) (suitable_for_by_numbers r ts) p is_plan_lem suiting) is_plan_lem.most

  pub least_count_is_found : (p : Plan) → least_plan_for r ts 1024 ≡ some p → least_count_for r ts ≡ banks p
  unfolding least_count_for
  least_count_is_found = count_is (suitable_for r ts)

module _ (book : Book) (r : ℕ) where
  abbrev answer : Result ℕ Refusal
  answer = Ok (least_count_for r (patterns book))

  -- What the call answers for a book and r,
  fewest_of_book : book_test book r ≡ none → fewest book r ≡ answer
  unfolding fewest
  fewest_of_book legal = answered_none (book_test book r) Err answer legal

  pub number_is_least :
      {c : Result ℕ Refusal} {n : ℕ} → book_test book r ≡ none → c ≡ fewest book r → c ≡ Ok n → n ≡ least_count_for r (patterns book)
  number_is_least legal is e = cc (sym e ∙ is ∙ fewest_of_book legal)

  pub book_is_counted : {c : Result ℕ Refusal} {f : Refusal} → book_test book r ≡ none → c ≡ fewest book r → c ≡ Err f → ⊥
  book_is_counted legal is e = value_not_refusal (ap of_result (sym (fewest_of_book legal) ∙ sym is ∙ e))

  -- and what by the finder's answer: a plan's N,
  pub fewest_by_plan : (p : Plan) → find book r 1024 ≡ Ok p → fewest book r ≡ Ok (banks p)
  fewest_by_plan p e =
      let (h, found) = (find_value_iff book r 1024 p).0 (ap of_result e) in
      fewest_of_book ((book_test_iff book r).1 (h.legal_book, h.legal_cycles))
      ∙ ap Ok (least_count_is_found r (patterns book) p found)

  -- and the finder's refusal, which is never 7, nor 6 at limit 1024.
  pub fewest_by_refusal : (f : Refusal) → find book r 1024 ≡ Err f → fewest book r ≡ Err f
  unfolding fewest find_test book_test
  fewest_by_refusal f e = by_tests (book_test book r) refl
    where
      same_test : find_test book r 1024 ≡ book_test book r
      same_test = without_second (record_test book) (limit_test 1024) (cycles_test r ∷ []) ((limit_legal_iff 1024).1 (omega arith, omega arith))

      by_tests : (o : Option Refusal) → book_test book r ≡ o → fewest book r ≡ Err f
      by_tests none h =
          let (legal, cycles) = (book_test_iff book r).0 h in
          let (p, found) = limit_is_enough book r legal cycles in
          absurd (value_not_refusal (sym found ∙ ap of_result e))
      by_tests (some g) h =
          let same : Err g ≡ Err f = find_refused book r 1024 g (same_test ∙ h) ∙ e in
          answered_some (book_test book r) Err answer g h ∙ cc same

-- A legal book and r get the N of the finder's plan at limit 1024.
pub count_is_least : CountIsLeast
count_is_least book r legal cycles =
    let (p, e) = limit_is_enough book r legal cycles in
    let (h, found) = (find_value_iff book r 1024 p).0 e in (
      p,
      e,
      ap of_result (fewest_of_book book r ((book_test_iff book r).1 (legal, cycles))) ∙ ap value (least_count_is_found r (patterns book) p found),
    )
