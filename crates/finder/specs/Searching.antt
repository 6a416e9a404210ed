-- What the finder's loops search for, by any tests of plans.
-- Assumes nothing.
use Rattle.scope.specs.declared.Refusal.{Refusal}
use Rattle.std.specs.Prelude.{ℕ, ◌≡◌, Bool, Result}
use Rattle.std.proofs.Math.Option.{Option}
use Rattle.scope.specs.Search.{first}
use Rattle.scope.specs.Finding.{trial}
use Rattle.scope.specs.Calls.{found}
use Rattle.scope.specs.declared.Plan.{Plan}

-- of the plans with n banks, this d and a b below m of which a test holds, the one with least b
unfoldable pub least_below : (Plan → Bool) → ℕ → ℕ → ℕ → Option Plan
unfolding first
least_below test n d m = first 0 m λ b. trial test n b d

-- r is what a search by a test gives, for each of these tests
pub record Searched (Tests : (Plan → Bool) → Type 0) (searched : (Plan → Bool) → Option Plan) (r : Result Plan Refusal) : Type 0 where
  pub is : (test : Plan → Bool) → Tests test → r ≡ found (searched test)
