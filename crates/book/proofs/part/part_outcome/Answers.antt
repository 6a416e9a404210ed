-- `book::part::part_outcome` meets its contract: the bytes' refusal if there is one, else 17 if there is no such pattern.
-- Assumes nothing.
use Rattle.std.specs.Prelude.{Result, Ok, Err}
use Prim.Native.Nat.{ℕ, ◌≤◌, ◌<◌}
use mathlib.Core.Path.{◌≡◌, ◌∙◌}
use mathlib.Core.Option.{none}
use mathlib.Core.List.{List}
use Rattle.scope.specs.Books.{byte}
use Rattle.scope.specs.Numbers.{bytes_test}
use Rattle.scope.specs.Calls.{part_test, part_outcome}
use Rattle.scope.specs.declared.Refusal.{Refusal}
use Rattle.book.specs.Scan.{outcome_of}
use Rattle.checks.proofs.Chains.{passed_on}
use Rattle.book.proofs.Outcomes.{answered_by_refusal, answered_by_done, done_found_nothing, refused_found}
use Rattle.book.proofs.Taken.{count_inside}
use Rattle.book.proofs.Parts.{part_test_iff}
use Rattle.book.proofs.ReaderRefusals.{part_of_refused, no_such_part}
use Rattle.book.proofs.part.part_outcome.Goals as goal

-- where the tests of the bytes s have answered
module _ (s : List ℕ) (n : ℕ) {outcome : Result Unit Refusal} (answer : outcome ≡ outcome_of (bytes_test s)) where
  bytes-refused : {r : Refusal} → outcome ≡ Err r → outcome ≡ part_outcome s n
  unfolding part_outcome
  bytes-refused {r} refused =
      refused
      ∙ answered_by_refusal (part_test s n) r
      (part_of_refused s n r (refused_found (bytes_test s) answer refused))

  module _ (done : outcome ≡ Ok tt) where
    taken : bytes_test s ≡ none
    taken = done_found_nothing (bytes_test s) answer done

    no-pattern : byte s 0 ≤ n → Err Refusal.NoPattern ≡ part_outcome s n
    unfolding part_outcome
    no-pattern h = answered_by_refusal (part_test s n) Refusal.NoPattern (no_such_part s n taken h)

    part-there : n < byte s 0 → (Ok tt) ≡ part_outcome s n
    unfolding part_outcome
    part-there h = answered_by_done (part_test s n) ((part_test_iff s n).1 (taken, h))

pub returns-in_err-bytes_outcome : goal.returns-in_err-bytes_outcome
returns-in_err-bytes_outcome c =
    passed_on _ c.from_residual.ensures c.in_err-bytes_outcome.was
    ∙ (bytes-refused _ _ c.bytes_outcome.ensures c.in_err-bytes_outcome.was)

pub bounds-s-0 : goal.bounds-s-0
bounds-s-0 c = count_inside _ (taken _ c.args.n c.bytes_outcome.ensures c.in_ok-bytes_outcome.was)

pub returns-then-s-n : goal.returns-then-s-n
unfolding byte
returns-then-s-n c = no-pattern _ _ c.bytes_outcome.ensures c.in_ok-bytes_outcome.was c.if-s-n.true

pub returns : goal.returns
unfolding byte
returns c = part-there _ _ c.bytes_outcome.ensures c.in_ok-bytes_outcome.was c.if-s-n.false
