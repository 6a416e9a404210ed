-- The check of a supplier's vectors for r: it tells the surplus exactly where their normal form suits for r, and the surplus is what its
-- count has above the finder's.
-- Assumes nothing.
use Prim.Native.Nat.{ℕ, suc, ◌+◌, ◌-◌, ◌≤◌}
use native.Mathlib.Omega.{arith}
use mathlib.Core.Path.{◌≡◌, refl, sym, ◌∙◌, ap, subst}
use mathlib.Core.Logic.{◌↔◌, ◌⊎◌, inl, inr}
use mathlib.Core.Bool.{true, false}
use mathlib.Core.Option.{Option, none, some}
use mathlib.Core.List.{List, [], ◌∷◌}
use lib.ListN.{take}
use Rattle.scope.specs.Plans.{Pixel, patterns, banks, determinant_size, normal_form}
use Rattle.scope.specs.Cycles.{suits_all_for, suitable_for, least_count_for, LongClash, shortened, clash_for}
use Rattle.scope.specs.Numbers.{value, refusal, of_verdict, of_result, of_check, number_of, with_positions, dependent_test, large_test}
use Rattle.scope.specs.Calls.{find, clash_beside, check_test, judged, check}
use Rattle.scope.specs.promises.Meaning.{IsPlan, IsBook, IsCycles, Independent}
use Rattle.scope.specs.promises.PlanPromises.{Excess, SurplusIsExcess, CheckDecides}
use Rattle.scope.specs.declared.Plan.{Plan}
use Rattle.scope.specs.declared.Book.{Book}
use Rattle.scope.specs.declared.Checked.{Checked}
use Rattle.scope.specs.declared.Verdict.{Verdict}
use Rattle.scope.specs.declared.Refusal.{Refusal}
use Rattle.checks.proofs.Searches.{none_not_some, not_true_is_false}
use Rattle.checks.proofs.Chains.{value_not_refusal, value_injective, answered_none, answered_value, book_one_by_one}
use Rattle.checks.proofs.ClashAnswers.{with_value}
use Rattle.checks.proofs.Booleans.{last_test, test_before}
use Rattle.checks.proofs.Tests.{independent_iff, size_within_iff}
use Rattle.checks.proofs.BookTests.{book_test_iff}
use Rattle.checks.proofs.Deciding.{cycles_decide, independent_decides, size_decides}
use Rattle.checks.proofs.RefusalNumbers.{decided_numbers, numbers_before, last_numbers, record_numbers}
use Rattle.lattice.proofs.NormalForm.{normal_form_is_plan}
use Rattle.lattice.proofs.LongClashes.{long_clashes_lem}
use Rattle.lattice.proofs.Classes.{suits_all_for_iff, suits_for_means}
use Rattle.finder.proofs.SuitingPlans.{suitable_for_by_numbers, plan_suiting}
use Rattle.finder.proofs.PlanSearch.{some_least_plan}
use Rattle.finder.proofs.FindAnswers.{find_value_iff}
use Rattle.finder.proofs.LeastCounts.{least_count_at_most, least_count_is_found}

-- The check's tests find nothing exactly where the book and r are legal and the vectors are independent and not too large.
pub check_legal_iff :
    (book : Book) (r : ℕ) (x y : Pixel)
    → (check_test book r x y ≡ none) ↔ ((IsBook book × IsCycles r) × (Independent x y × (determinant_size x y ≤ 1024)))
unfolding check_test
check_legal_iff book r x y =
    (test_before (book_test_iff book r) (test_before (independent_iff x y) (last_test (size_within_iff x y)))).iff

-- What they find is not 10.
pub check_refusals : (book : Book) (r : ℕ) (x y : Pixel) (f : Refusal) → check_test book r x y ≡ some f → number_of f ≡ 10 → ⊥
unfolding check_test
check_refusals book r x y f e =
    (numbers_before {these = λ n. n ≡ 10 → ⊥} (record_numbers (λ h. omega arith) (λ h. omega arith) (λ h. omega arith) (λ h. omega arith) book)
    (numbers_before (decided_numbers (cycles_decide r) (λ h. omega arith))
    (numbers_before (decided_numbers (independent_decides x y) (λ h. omega arith))
    (last_numbers (decided_numbers (size_decides x y) (λ h. omega arith)))))).chain.each f
    (sym (book_one_by_one book r (dependent_test x y ∷ large_test x y ∷ [])) ∙ e)

-- The verdict on a plan is its clash, if it has one, and else its surplus.
module _ (r : ℕ) (ts : List (List Pixel)) (p : Plan) where
  pub judged_clash : (c : LongClash) → clash_for r p ts ≡ some c → judged r ts p ≡ Verdict.Clashes (shortened c)
  unfolding judged
  judged_clash c h = rw (h, judged)

  pub judged_suits : clash_for r p ts ≡ none → judged r ts p ≡ Verdict.Suits (record { plan = p; surplus = banks p - least_count_for r ts })
  unfolding judged
  judged_suits h = rw (h, judged)

-- The count of a plan that suits is the finder's and its surplus.
surplus_of_suiting :
    (book : Book) (r : ℕ) → IsBook book → IsCycles r → (p : Plan) → IsPlan p → suits_all_for r p (patterns book) ≡ true
    → (q : Plan) × (of_result (find book r 1024) ≡ value q) × (banks p ≡ banks q + (banks p - least_count_for r (patterns book)))
unfolding banks
surplus_of_suiting book r legal cycles p is_plan_lem suiting =
    let ts : List (List Pixel) = patterns book in
    let (q, e) = some_least_plan (suitable_for r ts) 1024 p (plan_suiting (suitable_for r ts) (suitable_for_by_numbers r ts) p is_plan_lem suiting) is_plan_lem.most in (
      q,
      (find_value_iff book r 1024 q).1 (record { legal_book = legal; limit_least = omega arith; limit_most = omega arith; legal_cycles = cycles }, e),
      omega (arith, least_count_at_most r ts p is_plan_lem suiting, least_count_is_found r ts q e),
    )

module _ (book : Book) (r : ℕ) (x y : Pixel) where
  abbrev form : Plan
  form = normal_form x y

  abbrev ts : List (List Pixel)
  ts = patterns book

  abbrev verdict : Verdict
  verdict = judged r ts form

  -- the positions that a clash is told with
  abbrev told : List ℕ
  told = take (suc r) (clash_beside (check_test book r x y) (clash_for r form ts))

  form_suits_iff : Independent x y → determinant_size x y ≤ 1024 → (clash_for r form ts ≡ none) ↔ (suits_all_for r form ts ≡ true)
  form_suits_iff independent within =
      let is_plan_lem : IsPlan form = normal_form_is_plan x y independent within in
      (long_clashes_lem r form is_plan_lem.a_least is_plan_lem.d_least).none_in_book ts

  -- The answer of legal vectors is the verdict, beside it the clash.
  check_passed : check_test book r x y ≡ none → of_check r (check book r x y) ≡ with_positions told (of_verdict verdict)
  unfolding check
  check_passed passed =
      ap (λ (v : Verdict). with_positions told (of_verdict v)) (answered_none (check_test book r x y) Verdict.Refused verdict passed)

  abbrev Decided : Type 0
  Decided =
      ((suits_all_for r form ts ≡ true) × ((c : Checked) × (of_check r (check book r x y) ≡ value c)))
      ⊎ ((suits_all_for r form ts ≡ false) × ((c : LongClash) × (of_check r (check book r x y) ≡ refusal 10 0 (some c))))

  decides : IsBook book → IsCycles r → Independent x y → determinant_size x y ≤ 1024 → Decided
  decides legal cycles independent within = by_clash (clash_for r form ts) refl
    where
      suits_iff : (clash_for r form ts ≡ none) ↔ (suits_all_for r form ts ≡ true)
      suits_iff = form_suits_iff independent within

      passed : of_check r (check book r x y) ≡ with_positions told (of_verdict verdict)
      passed = check_passed ((check_legal_iff book r x y).1 ((legal, cycles), (independent, within)))

      unsuited : (c : LongClash) → clash_for r form ts ≡ some c → suits_all_for r form ts ≡ false
      unsuited c e = not_true_is_false _ (λ h. none_not_some (sym (suits_iff.1 h) ∙ e))

      by_clash : (o : Option LongClash) → clash_for r form ts ≡ o → Decided
      by_clash none e = inl (suits_iff.0 e, (_, passed ∙ ap (λ (v : Verdict). with_positions told (of_verdict v)) (judged_suits r ts form e)))
      by_clash (some c) e =
          inr (unsuited c e, (_, passed ∙ ap (λ (v : Verdict). with_positions told (of_verdict v)) (judged_clash r ts form c e)))

  exceeds : (c : Checked) → of_check r (check book r x y) ≡ value c → Excess book r x y c
  unfolding check
  exceeds c h = by_clash (clash_for r form ts) refl
    where
      passed : (check_test book r x y ≡ none) × (of_verdict verdict ≡ value c)
      passed = answered_value of_verdict (check_test book r x y) Verdict.Refused verdict c (λ f. refl) (with_value _ _ c h)

      legal : (IsBook book × IsCycles r) × (Independent x y × (determinant_size x y ≤ 1024))
      legal = (check_legal_iff book r x y).0 passed.0

      with_surplus : clash_for r form ts ≡ none → Excess book r x y (record { plan = form; surplus = banks form - least_count_for r ts })
      with_surplus None-found =
          let is_plan_lem : IsPlan form = normal_form_is_plan x y legal.1.0 legal.1.1 in
          let suiting : suits_all_for r form ts ≡ true = (form_suits_iff legal.1.0 legal.1.1).0 None-found in
          let (q, least_is, count) = surplus_of_suiting book r legal.0.0 legal.0.1 form is_plan_lem suiting in
          record {
            legal_book = legal.0.0;
            legal_cycles = legal.0.1;
            independent = legal.1.0;
            form = refl;
            plan = is_plan_lem;
            suiting = suiting;
            uncrowded = λ t m.
                (suits_for_means form is_plan_lem.a_least is_plan_lem.d_least t r).0 ((suits_all_for_iff r form ts).0 suiting t m);
            least = q;
            least_is = least_is;
            count = count;
          }

      by_clash : (o : Option LongClash) → clash_for r form ts ≡ o → Excess book r x y c
      by_clash none e =
          subst (Excess book r x y) (value_injective (ap of_verdict (sym (judged_suits r ts form e)) ∙ passed.1))
          (with_surplus e)
      by_clash (some k) e = absurd (value_not_refusal (sym passed.1 ∙ ap of_verdict (judged_clash r ts form k e)))

-- Legal vectors get the surplus if their normal form suits for r, and 10 with a clash if it does not.
pub check_decides : CheckDecides
check_decides = decides

-- A surplus is what the normal form's count has above the finder's.
pub surplus_is_excess : SurplusIsExcess
surplus_is_excess = exceeds
