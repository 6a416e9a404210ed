-- What the call that writes a pattern's cycles answers and leaves, test by test: those before 10, then 10 with its positions, then
-- 16, and where none of them refuses the cycles.
-- Assumes nothing.
use Rattle.std.specs.Prelude.{Result, Ok, Err}
use Prim.Native.Nat.{ℕ, ◌≤◌, ◌<◌}
use native.Mathlib.Omega.{arith}
use mathlib.Core.Path.{◌≡◌, refl, sym, ◌∙◌, ap}
use mathlib.Core.Option.{Option, none, some}
use mathlib.Core.List.{List, [], ◌∷◌}
use lib.ListN.{length, replicate}
use Rattle.scope.specs.Plans.{pixels, pattern_at}
use Rattle.scope.specs.Banks.{over_start}
use Rattle.scope.specs.Cycles.{LongClash, clash_in_for, cycles}
use Rattle.scope.specs.Numbers.{suits_test, output_test, places}
use Rattle.scope.specs.Calls.{book_test, clash_beside, cycles_first, write_cycles_test, write_cycles}
use Rattle.scope.specs.promises.Meaning.{IsBook, IsCycles, IsPlan}
use Rattle.scope.specs.declared.Book.{Book}
use Rattle.scope.specs.declared.Pattern.{Pattern}
use Rattle.scope.specs.declared.Plan.{Plan}
use Rattle.scope.specs.declared.Refusal.{Refusal}
use Rattle.scope.specs.declared.Refusal.TheVariants.{Output}
use Rattle.scope.proofs.PlanFacts.{is_plan_iff}
use Rattle.checks.proofs.Booleans.{last_test, test_before}
use Rattle.checks.proofs.BookTests.{book_legal_iff}
use Rattle.checks.proofs.Chains.{value_given, refusal_given}
use Rattle.checks.proofs.ClashAnswers.{beside_none, beside_some}
use Rattle.checks.proofs.Deciding.{output_decides}
use Rattle.checks.proofs.Patterns.{length_pixels}
use Rattle.checks.proofs.Tests.{cycles_legal_iff, plan_legal_iff, number_in_book_iff}
use Rattle.book.specs.Scan.{outcome_of}
use Rattle.book.proofs.Outcomes.{done_found_nothing, refused_found}
use Rattle.lattice.proofs.Cycles.{cycles_part}
use Rattle.finder.specs.Clashing.{single_test, suits_outcome, suits_positions}
use Rattle.finder.proofs.ChainOutcomes.{Left, found_here, left_after, nothing_found}
use Rattle.finder.proofs.MetAnswers.{SingleLegal, single_legal_iff, only_10, only_clash}

module _ (book : Book) (r : ℕ) (p : Plan) (n : ℕ) where
  abbrev first : Option Refusal
  first = cycles_first book r p n

  -- Where the tests before 10 find nothing, the book has the pattern, which is legal, and so are r and the plan.
  module _ (passed : first ≡ none) where
    legal : (IsBook book × IsCycles r) × (IsPlan p × (n < book.count))
    unfolding cycles_first book_test
    legal =
        (test_before (test_before (book_legal_iff book) (last_test (cycles_legal_iff r))).iff
        (test_before (plan_legal_iff p) (last_test (number_in_book_iff book.count n)))).iff.0 passed

    pub below_16 : n < 16
    below_16 = omega (arith, legal.1.1, legal.0.0.most)

    pub own_legal : SingleLegal p (pattern_at book n) r
    own_legal =
        let pattern = legal.0.0.each n legal.1.1 in
        record {
          least = pattern.least;
          most = pattern.most;
          cycles_least = legal.0.1.0;
          cycles_most = legal.0.1.1;
          plan = (is_plan_iff p).1 legal.1.0;
        }

  -- What the call, lent this output, answers with these positions, and leaves.
  module _ (out : List ℕ) where
    abbrev Written : Result ℕ Refusal → List ℕ → List ℕ → Type 0
    Written counted positions left =
        ((counted ≡ (write_cycles book r p n out).answer.counted) × (positions ≡ (write_cycles book r p n out).answer.positions))
        × (left ≡ (write_cycles book r p n out).content)

    abbrev tests : Option Refusal
    tests = write_cycles_test book r p n (length out)

    abbrev suiting : Option Refusal
    suiting = suits_test r p n (pattern_at book n)

    abbrev room : Option Refusal
    room = output_test (pattern_at book n).used (length out)

    all_left : Left tests (first ∷ suiting ∷ room ∷ [])
    unfolding write_cycles_test
    all_left = record { is = refl }

    abbrev clash : Option LongClash
    clash = clash_in_for r p n (pixels (pattern_at book n))

    refused_with : {f : Refusal} {positions : List ℕ} → tests ≡ some f → positions ≡ clash_beside first clash → Written (Err f) positions out
    unfolding write_cycles
    refused_with {f} found are = let (answer, content) = refusal_given tests _ _ _ _ f found in ((answer, are), content)

    pub first_refused : {f : Refusal} → first ≡ some f → Written (Err f) (replicate 9 0) out
    unfolding places
    first_refused {f} found = refused_with (found_here all_left found) (sym (beside_some first clash f found))

    -- Past these tests the pattern's record t was asked whether the plan suits it.
    module _ (passed : first ≡ none) {t : Pattern} (own : t ≡ pattern_at book n) {outcome : Result Unit Refusal} {positions : List ℕ}
        (is : outcome ≡ suits_outcome p n t r) (are : positions ≡ suits_positions p n t r) where
      single : single_test p (pattern_at book n) r ≡ none
      single = (single_legal_iff p (pattern_at book n) r).1 (own_legal passed)

      outcome_is : outcome ≡ outcome_of suiting
      outcome_is = is ∙ ap (λ (t : Pattern). suits_outcome p n t r) own ∙ only_10 p n (pattern_at book n) r single

      positions_are : positions ≡ clash_beside first clash
      positions_are =
          are ∙ ap (λ (t : Pattern). suits_positions p n t r) own ∙ only_clash p n (pattern_at book n) r single
          ∙ sym (beside_none first clash passed)

      past_first : Left tests (suiting ∷ room ∷ [])
      past_first = left_after all_left passed

      pub unsuited : {f : Refusal} → outcome ≡ Err f → Written (Err f) positions out
      unsuited e = refused_with (found_here past_first (refused_found suiting outcome_is e)) positions_are

      module _ (done : outcome ≡ Ok tt) where
        only_room : Left tests (room ∷ [])
        only_room = left_after past_first (done_found_nothing suiting outcome_is done)

        same_used : t.used ≡ (pattern_at book n).used
        same_used = ap (λ (t : Pattern). t.used) own

        pub no_room : length out < t.used → Written (Err Output) positions out
        no_room short =
            refused_with (found_here only_room ((output_decides _ (length out)).refuses (λ h. omega (arith, same_used)))) positions_are

        pub cycles_written :
            {left : List ℕ} → t.used ≤ length out → left ≡ over_start (cycles p (pixels t)) out → Written (Ok t.used) positions left
        unfolding write_cycles
        cycles_written enough put =
            let fits = left_after only_room ((output_decides _ (length out)).passes (omega (arith, same_used))) in
            let (answer, content) = value_given tests _ _ _ _ (nothing_found fits) in
            let count : t.used ≡ length (cycles p (pixels (pattern_at book n))) =
            same_used ∙ sym (cycles_part.as_many p (pixels (pattern_at book n)) ∙ length_pixels (pattern_at book n)) in
            ((ap Ok count ∙ answer, positions_are), put ∙ ap (λ (t : Pattern). over_start (cycles p (pixels t)) out) own ∙ content)
