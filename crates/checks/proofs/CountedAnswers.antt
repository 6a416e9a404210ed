-- What a counted answer tells of the tests behind it: a number that they found nothing, a refusal that they found it.
-- Assumes nothing.
use Rattle.std.specs.Prelude.{Result, Ok, Err}
use Prim.Native.Nat.{ℕ}
use mathlib.Core.Path.{◌≡◌, refl, sym, ◌∙◌, ap}
use mathlib.Core.Option.{Option, none, some}
use Rattle.scope.specs.Numbers.{of_result}
use Rattle.scope.specs.Calls.{answered}
use Rattle.scope.specs.declared.Refusal.{Refusal}
use Rattle.checks.proofs.Chains.{value_injective, value_not_refusal, answered_value, answered_refused}

module _ {answer : Result ℕ Refusal} (t : Option Refusal) (n : ℕ) (is : answer ≡ answered t Err (Ok n)) where
  pub number_shows : {m : ℕ} → answer ≡ Ok m → (t ≡ none) × (n ≡ m)
  number_shows {m} e =
      let (passed, same) =
      answered_value of_result t Err (Ok n) m (λ r. refl) (ap of_result (sym is ∙ e)) in
      (passed, value_injective same)

  pub refusal_shows : {r : Refusal} → answer ≡ Err r → t ≡ some r
  refusal_shows {r} e =
      answered_refused t Err (Ok n) r (λ s h. cc) (λ h. value_not_refusal (ap of_result h)) (sym is ∙ e)
