-- What a test that found a refusal or nothing answers, what such an answer tells of its test (scope, Chains), and what a
-- loop that runs through tests answers.
-- Assumes nothing.
use Rattle.std.specs.Prelude.{Result, Ok, Err}
use Prim.Native.Nat.{ℕ, ◌<◌}
use native.Mathlib.Omega.{arith}
use mathlib.Core.Path.{◌≡◌, refl}
use mathlib.Core.Option.{Option, none, some}
use Rattle.scope.specs.Search.{first}
use Rattle.scope.specs.Numbers.{record_test}
use Rattle.scope.specs.Calls.{record_outcome}
use Rattle.scope.specs.declared.Book.{Book}
use Rattle.scope.specs.declared.Refusal.{Refusal}
use Rattle.checks.proofs.Searches.{found_from_0, none_first}
use Rattle.checks.proofs.Chains.{gives_value, gives_refusal}
use Rattle.book.specs.Scan.{outcome_of}
-- what an answer tells of its test
pub use Rattle.scope.proofs.Chains.{done_found_nothing, refused_found}

pub answered_by_refusal : (t : Option Refusal) (r : Refusal) → t ≡ some r → Err r ≡ outcome_of t
answered_by_refusal t r e = gives_refusal e Err (Ok tt)

pub answered_by_done : (t : Option Refusal) → t ≡ none → (Ok tt) ≡ outcome_of t
answered_by_done t e = gives_value e Err refl

pub done_not_refused : {r : Refusal} → ◌≡◌ {A = Result Unit Refusal} (Ok tt) (Err r) → ⊥
done_not_refused e = let z : ◌≡◌ {A = ℕ} 0 1 = cc in omega arith

-- the answer of `record_outcome`
module _ {outcome : Result Unit Refusal} (book : Book) (answer : outcome ≡ record_outcome book) where
  pub record_taken : outcome ≡ Ok tt → record_test book ≡ none
  unfolding record_outcome
  record_taken done = done_found_nothing (record_test book) answer done

  pub record_turned_down : {r : Refusal} → outcome ≡ Err r → record_test book ≡ some r
  unfolding record_outcome
  record_turned_down refused = refused_found (record_test book) answer refused

-- a loop: the refusal of the first test that finds one, and `Done` after the last
module _ {n : ℕ} {test : ℕ → Option Refusal} where
  pub refused_at :
      {e : ℕ} {r : Refusal} → ((l : ℕ) → l < e → test l ≡ none) → e < n → test e ≡ some r
      → Err r ≡ outcome_of (first 0 n test)
  refused_at {e} {r} before below here =
      answered_by_refusal (first 0 n test) r (found_from_0 n test e r below before here)

  pub done_after : ((l : ℕ) → l < n → test l ≡ none) → (Ok tt) ≡ outcome_of (first 0 n test)
  done_after before = answered_by_done (first 0 n test) (none_first 0 n test (λ i p q. before i (omega arith)))
