-- `book::scanner::bytes_outcome` meets its contract. The loop's invariant: the patterns before the n-th have passed their
-- tests, and the n-th stands at the place.
-- Assumes nothing.
use Rattle.std.specs.Prelude.{Result, Ok, Err}
use Prim.Native.Nat.{ℕ, ◌+◌, ◌*◌, ◌≤◌, ◌<◌}
use native.Mathlib.Omega.{arith}
use mathlib.Core.Path.{◌≡◌, refl, sym, ◌∙◌, ap}
use mathlib.Core.Option.{none, some}
use mathlib.Core.List.{List}
use lib.ListN.{length, get_or}
use borrow.Author.Count.{below_more}
use Rattle.scope.specs.Books.{byte, start}
use Rattle.scope.specs.Numbers.{count_read, pattern_read, bytes_test}
use Rattle.scope.specs.declared.Refusal.{Refusal}
use Rattle.scope.specs.declared.Refusal.TheVariants.{Ends, Extra}
use Rattle.book.specs.Scan.{outcome_of}
use Rattle.checks.proofs.Chains.{passed_on}
use Rattle.book.proofs.Outcomes.{answered_by_refusal, answered_by_done, done_found_nothing, refused_found}
use Rattle.book.proofs.ReaderRefusals.{ends_before_count, count_not_taken, first_count_decides}
use Rattle.book.proofs.Longer.{extra_decides}
use Rattle.book.proofs.Reading.{FromTo, count_read_iff}
use Rattle.book.proofs.Scanned.{read_pattern_inside, pattern_decides, all_taken}
use Rattle.book.proofs.Taken.{step_to_next}
use Rattle.book.proofs.scanner.bytes_outcome.Invariants.{Scanned}
use Rattle.book.proofs.scanner.bytes_outcome.Goals as goal

-- the refusal of the first count is the answer
refused-by-count : (s : List ℕ) (r : Refusal) → count_read s 16 0 ≡ some r → Err r ≡ outcome_of (bytes_test s)
refused-by-count s r e = answered_by_refusal (bytes_test s) r (first_count_decides s r e)

module _ {s : List ℕ} {count at n : ℕ} (scanned : Scanned s count at n) where
  -- the tests of the n-th pattern are those of the one at the place
  by_place : pattern_read s (start s n) ≡ pattern_read s at
  by_place = ap (pattern_read s) (sym scanned.here)

  -- and where they find nothing, its pixels are there, and the scan goes on
  module _ (passes : pattern_read s at ≡ none) where
    pixels-inside : at + 1 + 2 * get_or s at 0 ≤ length s
    unfolding byte
    pixels-inside = read_pattern_inside s at passes

    goes_on : n < count → Scanned s count (at + 1 + 2 * get_or s at 0) (n + 1)
    unfolding byte
    goes_on h =
        record {
          below = omega arith;
          here = step_to_next s n scanned.here;
          inside = pixels-inside;
          passed = below_more _ _ scanned.passed (by_place ∙ passes);
        }

  -- after the last pattern the place is the end that the counts tell
  at-end : count ≤ n → at ≡ start s count
  at-end over = scanned.here ∙ ap (start s) (omega arith)

pub returns-then-s-eq0 : goal.returns-then-s-eq0
returns-then-s-eq0 c =
    ap (λ i. Err (Ends i)) (sym c.if-s-eq0.true) ∙ refused-by-count _ _ (ends_before_count _ 16 0 (omega arith))

pub overflow_cast-count : goal.overflow_cast-count
overflow_cast-count c = omega (arith, c.shared_slice_known-2-1.given 0)

pub returns-then-count-eq0 : goal.returns-then-count-eq0
unfolding byte
returns-then-count-eq0 c = refused-by-count _ _ (count_not_taken _ 16 0 (omega arith) (λ h. omega arith))

pub returns-then-count-gt16 : goal.returns-then-count-gt16
unfolding byte
returns-then-count-gt16 c = refused-by-count _ _ (count_not_taken _ 16 0 (omega arith) (λ h. omega arith))

pub loop-init : goal.loop-init
unfolding start
loop-init c =
    record { below = omega arith; here = refl; inside = omega arith; passed = λ m h. absurd (omega arith) }

-- in a turn, where the tests of the pattern at hand have answered
module _ {s : List ℕ} {count at n : ℕ} {outcome : Result Unit Refusal} (scanned : Scanned s count at n) (answer : outcome ≡ outcome_of (pattern_read s at)) where
  refused :
      {r : Refusal} → outcome ≡ Err r → 0 < length s → FromTo 16 (byte s 0) → n < byte s 0
      → outcome ≡ outcome_of (bytes_test s)
  refused {r} is counted legal below =
      is
      ∙ answered_by_refusal (bytes_test s) r
      (pattern_decides s counted legal n r below scanned.passed
      (by_place scanned ∙ refused_found _ answer is))

  -- and where they found nothing: the pattern's pixels are there
  pattern-inside : outcome ≡ Ok tt → at + 1 + 2 * get_or s at 0 ≤ length s
  pattern-inside done = pixels-inside scanned (done_found_nothing _ answer done)

pub returns-in_err-pattern_outcome : goal.returns-in_err-pattern_outcome
unfolding byte
returns-in_err-pattern_outcome c =
    passed_on _ c.from_residual.ensures c.in_err-pattern_outcome.was
    ∙ (refused c.loop.invariant c.pattern_outcome.ensures c.in_err-pattern_outcome.was (omega arith) (omega arith) (omega arith))

pub loop-preserved : goal.loop-preserved
loop-preserved c =
    goes_on c.loop.invariant (done_found_nothing _ c.pattern_outcome.ensures c.in_ok-pattern_outcome.was) (omega arith)

pub returns-then-at-s : goal.returns-then-at-s
unfolding byte
returns-then-at-s c =
    let scanned = c.loop.invariant in
    let end = at-end scanned c.loop-test.false in
    ap (λ i. Err (Extra i)) end
    ∙ answered_by_refusal _ _
    (extra_decides _ ((count_read_iff _ 16 0).1 (omega arith)) (λ n h. scanned.passed n (omega arith)) (omega arith))

pub returns : goal.returns
unfolding byte
returns c =
    let scanned = c.loop.invariant in
    let end = at-end scanned c.loop-test.false in
    answered_by_done _ (all_taken _ (omega arith) (omega arith) (λ n h. scanned.passed n (omega arith)) (omega arith))

pub pattern_outcome-requires : goal.pattern_outcome-requires
pattern_outcome-requires c =
    c.loop.invariant.inside

pub overflow_add-at : goal.overflow_add-at
overflow_add-at c =
    omega (arith, pattern-inside c.loop.invariant c.pattern_outcome.ensures c.in_ok-pattern_outcome.was)

pub bounds-s-at : goal.bounds-s-at
bounds-s-at c =
    omega (arith, pattern-inside c.loop.invariant c.pattern_outcome.ensures c.in_ok-pattern_outcome.was)

pub overflow_cast-at : goal.overflow_cast-at
overflow_cast-at c =
    omega (arith, pattern-inside c.loop.invariant c.pattern_outcome.ensures c.in_ok-pattern_outcome.was)

pub overflow_mul-at : goal.overflow_mul-at
overflow_mul-at c =
    omega (arith, pattern-inside c.loop.invariant c.pattern_outcome.ensures c.in_ok-pattern_outcome.was)

pub overflow_add-at-in-loop : goal.overflow_add-at-in-loop
overflow_add-at-in-loop c =
    omega (arith, pattern-inside c.loop.invariant c.pattern_outcome.ensures c.in_ok-pattern_outcome.was)
