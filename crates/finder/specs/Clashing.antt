-- A clash that a search found or did not find, and whether a plan suits a pattern, as the code's answers.
-- Assumes nothing.
use Rattle.std.specs.Prelude.{ℕ, List, [], ◌∷◌, Result, Ok, Err}
use Rattle.std.proofs.Math.Option.{Option, none, some}
use Rattle.scope.specs.Search.{first_of}
use Rattle.scope.specs.Plans.{pixels}
use Rattle.scope.specs.Cycles.{clash_in_for}
use Rattle.scope.specs.Numbers.{count_test, cycles_test, plan_test, suits_test}
use Rattle.scope.specs.Calls.{answered, clash_beside}
use Rattle.scope.specs.declared.Clash.{Clash}
use Rattle.scope.specs.declared.Pattern.{Pattern}
use Rattle.scope.specs.declared.Plan.{Plan}
use Rattle.scope.specs.declared.Refusal.{Refusal}
use Rattle.std.specs.Prelude.{Option as Optional, Some, None}

unfoldable pub met_at : Option Clash → Optional Clash
met_at none = None
met_at (some c) = Some c

-- the tests of a pattern, r and a plan by themselves: 2 for its pixel count, 20, 11
unfoldable pub single_test : Plan → Pattern → ℕ → Option Refusal
unfolding first_of count_test cycles_test plan_test
single_test p t r = first_of (count_test 64 t.used 0 ∷ cycles_test r ∷ plan_test p ∷ [])

-- the plan suits the pattern t, number n, for r, or these and 10
unfoldable pub suits_outcome : Plan → ℕ → Pattern → ℕ → Result Unit Refusal
unfolding answered first_of single_test suits_test
suits_outcome p n t r = answered (first_of (single_test p t r ∷ suits_test r p n t ∷ [])) Err (Ok tt)

-- and the positions of the clash in nine places
unfoldable pub suits_positions : Plan → ℕ → Pattern → ℕ → List ℕ
unfolding clash_beside single_test clash_in_for pixels
suits_positions p n t r = clash_beside (single_test p t r) (clash_in_for r p n (pixels t))
