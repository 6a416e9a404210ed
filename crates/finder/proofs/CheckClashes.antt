-- The clash for r that a check tells: the search found it in the book, and the nine places hold it.
-- Assumes nothing.
use Prim.Native.Nat.{ℕ, suc, ◌≤◌}
use mathlib.Core.Path.{◌≡◌, refl, sym, ◌∙◌, ap}
use mathlib.Core.Logic.{◌⊎◌, inl, inr}
use mathlib.Core.Option.{Option, none, some}
use mathlib.Core.List.{List}
use lib.ListN.{length, take}
use Rattle.scope.specs.Plans.{Pixel, patterns, normal_form}
use Rattle.scope.specs.Cycles.{LongClash, lengthened, shortened, clash_for}
use Rattle.scope.specs.Numbers.{refusal, of_verdict, of_check}
use Rattle.scope.specs.Numbers.{places}
use Rattle.scope.specs.Calls.{check_test, judged, check}
use Rattle.scope.specs.promises.Meaning.{Independent}
use Rattle.scope.specs.declared.Plan.{Plan}
use Rattle.scope.specs.declared.Book.{Book}
use Rattle.scope.specs.declared.Verdict.{Verdict}
use Rattle.checks.proofs.Searches.{some_injective}
use Rattle.checks.proofs.Chains.{value_not_refusal, refusal_clash, RefusedBy, answered_none, answered_refusal}
use Rattle.checks.proofs.ClashAnswers.{ClashWith, with_clash, beside_none, nine_beside}
use Rattle.lattice.proofs.LongClashes.{long_clashes_lem}
use Rattle.lattice.proofs.NormalForm.{normal_form_is_only}
use Rattle.finder.proofs.Checks.{check_legal_iff, check_refusals, judged_clash, judged_suits}
use Rattle.finder.proofs.OwnClashes.{told_whole}

-- A check that gives 10: its book, r and vectors are legal, and the clash is that of their normal form.
pub record ClashOfCheck (book : Book) (r : ℕ) (x y : Pixel) (c : LongClash) : Type 0 where
  pub most : r ≤ 8
  pub independent : Independent x y
  pub found : clash_for r (normal_form x y) (patterns book) ≡ some c
  pub nine : (check book r x y).positions ≡ places (some c)
  pub verdict : (check book r x y).verdict ≡ Verdict.Clashes (shortened c)

module _ (book : Book) (r : ℕ) (x y : Pixel) (c : LongClash) where
  abbrev ts : List (List Pixel)
  ts = patterns book

  abbrev p : Plan
  p = normal_form x y

  abbrev nine : List ℕ
  nine = (check book r x y).positions

  pub clash_of_check : of_check r (check book r x y) ≡ refusal 10 0 (some c) → ClashOfCheck book r x y c
  unfolding check shortened
  clash_of_check h =
      by_source
      (answered_refusal of_verdict (check_test book r x y) Verdict.Refused (judged r ts p) 10 0 (some w.inner) (λ f. refl) w.answer)
    where
      w : ClashWith (take (suc r) nine) (of_verdict (check book r x y).verdict) 10 0 c
      w = with_clash _ _ 10 0 c h

      by_clash :
          check_test book r x y ≡ none → (o : Option LongClash) → clash_for r p ts ≡ o
          → of_verdict (judged r ts p) ≡ refusal 10 0 (some w.inner) → ClashOfCheck book r x y c
      by_clash passed none e v = absurd (value_not_refusal (ap of_verdict (sym (judged_suits r ts p e)) ∙ v))
      by_clash passed (some k) e v =
          let ((legal, cycles), (independent, _)) = (check_legal_iff book r x y).0 passed in
          let g = normal_form_is_only.generates x y independent in
          let size : length k.positions ≡ suc r = ((long_clashes_lem r p g.a_least g.d_least).in_book_lem ts k e).1.size in
          let is : nine ≡ places (some k) = beside_none (check_test book r x y) (clash_for r p ts) passed ∙ ap places e in
          let inner : lengthened (shortened k) ≡ w.inner = some_injective (refusal_clash (ap of_verdict (sym (judged_clash r ts p k e)) ∙ v)) in
          let pattern : c.pattern ≡ k.pattern = w.pattern ∙ ap (λ (d : LongClash). d.pattern) (sym inner) in
          let same : c ≡ k = told_whole r c k nine size is pattern w.positions in
          record {
            most = cycles.1;
            independent = independent;
            found = e ∙ ap some (sym same);
            nine = is ∙ ap (λ (d : LongClash). places (some d)) (sym same);
            verdict =
                answered_none (check_test book r x y) Verdict.Refused (judged r ts p) passed
                ∙ judged_clash r ts p k e ∙ ap (λ (d : LongClash). Verdict.Clashes (shortened d)) (sym same);
          }

      by_source :
          RefusedBy (check_test book r x y) 10 0 (some w.inner)
          ⊎ ((check_test book r x y ≡ none) × (of_verdict (judged r ts p) ≡ refusal 10 0 (some w.inner)))
          → ClashOfCheck book r x y c
      by_source (inl k) = absurd (check_refusals book r x y k.0 k.1 k.2)
      by_source (inr (passed, v)) = by_clash passed (clash_for r p ts) refl v

-- The positions beside a check are nine.
pub check_nine : (book : Book) (r : ℕ) (x y : Pixel) → length (check book r x y).positions ≡ 9
unfolding check
check_nine book r x y =
    nine_beside (check_test book r x y) (clash_for r (normal_form x y) (patterns book)) r
    (λ passed.
    let ((_, cycles), (independent, _)) = (check_legal_iff book r x y).0 passed in
    let g = normal_form_is_only.generates x y independent in
    (cycles.1, λ c e. ((long_clashes_lem r (normal_form x y) g.a_least g.d_least).in_book_lem (patterns book) c e).1.size))
