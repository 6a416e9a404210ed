-- What a test or a chain of tests that finds nothing says, put together from what its parts say.
-- Assumes nothing.
use Prim.Native.Nat.{ℕ, ◌<◌}
use native.Mathlib.Omega.{arith}
use mathlib.Core.Path.{◌≡◌, refl}
use mathlib.Core.Logic.Iff
use mathlib.Core.Logic.{◌↔◌}
use mathlib.Core.Bool.{Bool, true, false, not}
use mathlib.Core.Option.{Option, none}
use mathlib.Core.List.{List, [], ◌∷◌}
use Rattle.integers.proofs.Comparisons.{not_iff}
use Rattle.scope.specs.Search.{first, whenever, first_of}
use Rattle.scope.specs.declared.Refusal.{Refusal}
use Rattle.checks.proofs.Searches.{whenever_none, none_whenever, first_none, none_first}
use Rattle.checks.proofs.Chains.{chain_none_iff}

module _ {P : Type 0} where
  -- a test that refuses where b holds
  pub refuses_iff : (b : Bool) (r : Refusal) → (b ≡ false) ↔ P → (whenever b r ≡ none) ↔ P
  refuses_iff b r h = Iff.trans (whenever_none b r, none_whenever b r) h

  -- a test that refuses where b fails
  pub demands_iff : (b : Bool) (r : Refusal) → (b ≡ true) ↔ P → (whenever (not b) r ≡ none) ↔ P
  demands_iff b r h = refuses_iff (not b) r (not_iff b h)

-- A chain of tests finds nothing exactly where P holds
pub record Clear (tests : List (Option Refusal)) (P : Type 0) : Type 0 where
  pub iff : (first_of tests ≡ none) ↔ P

-- The last test of a chain, and a test before the rest.
pub last_test : {P : Type 0} {t : Option Refusal} → (t ≡ none) ↔ P → Clear (t ∷ []) P
unfolding first_of
last_test {t} h = record { iff = Iff.trans (chain_none_iff t []) (λ e. h.0 e.0, λ p. (h.1 p, refl)) }

pub test_before :
    {P Q : Type 0} {t : Option Refusal} {ts : List (Option Refusal)} → (t ≡ none) ↔ P → Clear ts Q → Clear (t ∷ ts) (P × Q)
test_before {t} {ts} h k = record { iff = Iff.trans (chain_none_iff t ts) (Iff.and h k.iff) }

-- A search from 0 finds nothing exactly where P holds of each number of its range.
pub first_iff :
    {A : Type 0} (n : ℕ) (f : ℕ → Option A) (P : ℕ → Type 0) → ((i : ℕ) → (f i ≡ none) ↔ P i)
    → (first 0 n f ≡ none) ↔ ((i : ℕ) → i < n → P i)
first_iff n f P h = (
  λ e i p. (h i).0 (first_none 0 n f e i (omega arith) (omega arith)),
  λ b. none_first 0 n f (λ i p q. (h i).1 (b i (omega arith))),
)
