-- A loop that tests a record's patterns one after the other answers with the record's outcome.
-- Assumes nothing.
use Rattle.std.specs.Prelude.{Result, Ok, Err}
use Prim.Native.Nat.{ℕ, ◌+◌, ◌<◌}
use mathlib.Core.Path.{◌≡◌, ◌∙◌, ap}
use mathlib.Core.Option.{none}
use borrow.Author.Count.{below_more}
use Rattle.scope.specs.Plans.{pattern_at}
use Rattle.scope.specs.Numbers.{pattern_test, record_test}
use Rattle.scope.specs.Calls.{record_outcome}
use Rattle.scope.specs.declared.Book.{Book}
use Rattle.scope.specs.declared.Pattern.{Pattern}
use Rattle.scope.specs.declared.Refusal.{Refusal}
use Rattle.checks.proofs.BookRefusals.{record_refuses}
use Rattle.book.specs.Scan.{outcome_of}
use Rattle.book.proofs.Reading.{FromTo}
use Rattle.book.proofs.Outcomes.{answered_by_refusal, answered_by_done, done_found_nothing, refused_found}
use Rattle.book.proofs.Scanning.{record_pattern_decides, all_legal}

-- the patterns before the n-th have passed their tests
abbrev pub PassedBefore : Book → ℕ → Type 0
PassedBefore book n = (m : ℕ) → m < n → pattern_test (pattern_at book m) ≡ none

module _ (book : Book) where
  pub count_not_taken : (FromTo 16 book.count → ⊥) → Err (Refusal.Count 0) ≡ record_outcome book
  unfolding record_outcome
  count_not_taken bad = answered_by_refusal (record_test book) _ (record_refuses.patterns_2 book bad)

  -- the n-th pattern, whose record is t, was tested
  module _ {outcome : Result Unit Refusal} {t : Pattern} {n : ℕ} (answer : outcome ≡ outcome_of (pattern_test t)) (is : t ≡ pattern_at book n)
      (before : PassedBefore book n) where
    of_pattern : outcome ≡ outcome_of (pattern_test (pattern_at book n))
    of_pattern = answer ∙ ap (λ (u : Pattern). outcome_of (pattern_test u)) is

    pub pattern_not_taken :
        {r : Refusal} → FromTo 16 book.count → n < book.count → outcome ≡ Err r
        → outcome ≡ record_outcome book
    unfolding record_outcome
    pattern_not_taken {r} legal below refused =
        refused
        ∙ answered_by_refusal (record_test book) r
        (record_pattern_decides book legal n r below before (refused_found _ of_pattern refused))

    pub one_more_passed : outcome ≡ Ok tt → PassedBefore book (n + 1)
    one_more_passed done = below_more _ _ before (done_found_nothing _ of_pattern done)

  pub all_passed : FromTo 16 book.count → PassedBefore book book.count → (Ok tt) ≡ record_outcome book
  unfolding record_outcome
  all_passed legal each = answered_by_done (record_test book) (all_legal book legal each)
