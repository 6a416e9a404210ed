-- What the test for 10 finds, and the meaning of all the tests together.
-- Assumes nothing.
use Prim.Native.Nat.{ℕ}
use mathlib.Core.Path.{◌≡◌, refl, sym}
use mathlib.Core.Logic.Iff
use mathlib.Core.Logic.{◌↔◌}
use mathlib.Core.Bool.{true}
use mathlib.Core.Option.{Option, none, some}
use Rattle.scope.specs.Plans.{pixels}
use Rattle.scope.specs.Cycles.{suits_for, LongClash, shortened, clash_in_for}
use Rattle.scope.specs.Numbers.{suits_test}
use Rattle.scope.specs.promises.Meaning.{IsPlan, TestsMean}
use Rattle.scope.specs.declared.Plan.{Plan}
use Rattle.scope.specs.declared.Pattern.{Pattern}
use Rattle.scope.specs.declared.Refusal.{Refusal}
use Rattle.scope.specs.declared.Refusal.TheVariants.{Unsuited}
use Rattle.checks.proofs.Searches.{none_not_some, some_injective}
use Rattle.checks.proofs.BookTests.{book_legal_iff}
use Rattle.checks.proofs.Tests.{limit_legal_iff, cycles_legal_iff, independent_iff, size_within_iff, plan_legal_iff, sides_legal_iff, memory_enough_iff, sums_enough_iff}
use Rattle.checks.proofs.Tests.{all_inside_iff, bank_below_iff, cell_legal_iff, output_enough_iff, number_in_book_iff, ring_allowed_iff}
use Rattle.lattice.proofs.LongClashes.{long_clashes_lem}

-- The test for 10 finds what the search for a clash finds.
module _ (r : ℕ) (p : Plan) (n : ℕ) (t : Pattern) where
  abbrev found : Option LongClash
  found = clash_in_for r p n (pixels t)

  pub suits_test_none_iff : (suits_test r p n t ≡ none) ↔ (found ≡ none)
  unfolding suits_test
  suits_test_none_iff = (by_found found refl, λ e. rw (e, suits_test))
    where
      by_found : (o : Option LongClash) → found ≡ o → suits_test r p n t ≡ none → found ≡ none
      by_found none h e = h
      by_found (some c) h e = absurd (none_not_some (sym (rw (h, suits_test) at e)))

  pub suits_test_some :
      (f : Refusal) → suits_test r p n t ≡ some f
      → (c : LongClash) × (found ≡ some c) × (f ≡ Unsuited (shortened c))
  unfolding suits_test
  suits_test_some f e = by_found found refl
    where
      by_found : (o : Option LongClash) → found ≡ o → (c : LongClash) × (found ≡ some c) × (f ≡ Unsuited (shortened c))
      by_found none h = absurd (none_not_some (rw (h, suits_test) at e))
      by_found (some c) h = (c, h, some_injective (sym (rw (h, suits_test) at e)))

-- 10: the plan suits the pattern for r
suits_pattern_iff :
    (r : ℕ) (t : Pattern) (p : Plan) (n : ℕ) → IsPlan p → (suits_test r p n t ≡ none) ↔ (suits_for r p (pixels t) ≡ true)
suits_pattern_iff r t p n is_plan_lem =
    Iff.trans (suits_test_none_iff r p n t)
    ((long_clashes_lem r p is_plan_lem.a_least is_plan_lem.d_least).none_in_pattern n (pixels t))

-- For each number but 1, 5 and 7, its test finds nothing exactly where the condition does not hold.
pub tests_mean : TestsMean
tests_mean =
    record {
      book_2_3_4_19 = book_legal_iff;
      limit_6 = limit_legal_iff;
      dependent_8 = independent_iff;
      large_9 = size_within_iff;
      suits_10 = suits_pattern_iff;
      plan_11 = plan_legal_iff;
      sides_12 = sides_legal_iff;
      memory_13 = memory_enough_iff;
      sums_13 = sums_enough_iff;
      outside_14 = all_inside_iff;
      bank_15 = bank_below_iff;
      cell_15 = cell_legal_iff;
      output_16 = output_enough_iff;
      number_17 = number_in_book_iff;
      ring_18 = λ p W H legal. ring_allowed_iff p W H;
      cycles_20 = cycles_legal_iff;
    }
