-- `records::fill_answer` meets its contract: 11 and 12 come with the depth, then 14.
-- Assumes nothing.
use Rattle.std.specs.Prelude.{Result, Ok, Err}
use Prim.Native.Nat.{ℕ}
use mathlib.Core.Path.{◌≡◌, sym, ◌∙◌, ap}
use mathlib.Core.Bool.{Bool, true, false, not}
use mathlib.Core.Option.{Option, none, some}
use mathlib.Core.List.{[], ◌∷◌}
use Rattle.scope.specs.Search.{whenever, first_of}
use Rattle.scope.specs.Banks.{depth_of}
use Rattle.scope.specs.Numbers.{plan_test, sides_test}
use Rattle.scope.specs.Calls.{depth}
use Rattle.scope.specs.declared.Plan.{Plan}
use Rattle.scope.specs.declared.Refusal.{Refusal}
use Rattle.checks.proofs.Chains.{handed_on, chain_refuses, chain_goes_on, chain_of_one, tests_as_one, answered_none, answered_some}
use Rattle.checks.proofs.CountedAnswers.{number_shows, refusal_shows}
use Rattle.records.specs.Filling.{fill_answer}
use Rattle.records.proofs.fill_answer.Goals as goal

module _ (p : Plan) (W H : ℕ) (inside : Bool) where
  abbrev depthTest : Option Refusal
  depthTest = first_of (plan_test p ∷ sides_test W H ∷ [])

  abbrev last : Option Refusal
  last = whenever (not inside) Refusal.Outside

  abbrev tests : Option Refusal
  tests = first_of (plan_test p ∷ sides_test W H ∷ last ∷ [])

  -- 11 and 12 as one test
  depth-first : tests ≡ first_of (depthTest ∷ last ∷ [])
  depth-first = tests_as_one [] (plan_test p ∷ sides_test W H ∷ []) (last ∷ [])

  refused : (r : Refusal) → tests ≡ some r → Err r ≡ fill_answer p W H inside
  unfolding fill_answer
  refused r e = sym (answered_some tests Err (Ok tt) r e)

  done : tests ≡ none → (Ok tt) ≡ fill_answer p W H inside
  unfolding fill_answer
  done e = sym (answered_none tests Err (Ok tt) e)

  -- by what the depth's call answered
  module _ {D : Result ℕ Refusal} (D-is : D ≡ depth p W H) where
    no-depth : (r : Refusal) → D ≡ Err r → Err r ≡ fill_answer p W H inside
    unfolding depth
    no-depth r e = refused r (depth-first ∙ chain_refuses depthTest (last ∷ []) r (refusal_shows depthTest (depth_of p W H) D-is e))

    module _ {n : ℕ} (n-is : D ≡ Ok n) where
      past-depth : tests ≡ last
      unfolding depth
      past-depth =
          depth-first
          ∙ chain_goes_on depthTest (last ∷ []) (number_shows depthTest (depth_of p W H) D-is n-is).0
          ∙ chain_of_one last

      all-inside : inside ≡ true → (Ok tt) ≡ fill_answer p W H inside
      unfolding whenever
      all-inside e = done (past-depth ∙ ap (λ (b : Bool). whenever (not b) Refusal.Outside) e)

      one_outside : inside ≡ false → Err Refusal.Outside ≡ fill_answer p W H inside
      unfolding whenever
      one_outside e = refused Refusal.Outside (past-depth ∙ ap (λ (b : Bool). whenever (not b) Refusal.Outside) e)

pub returns-in_err-depth : goal.returns-in_err-depth
returns-in_err-depth c =
    handed_on _ c.from_residual.ensures
    ∙ (no-depth _ _ _ _ c.depth.ensures _ c.in_err-depth.was)

pub returns-then-inside : goal.returns-then-inside
returns-then-inside c = all-inside _ _ _ _ c.depth.ensures c.in_ok-depth.was c.if-inside.true

pub returns-else-inside : goal.returns-else-inside
returns-else-inside c = one_outside _ _ _ _ c.depth.ensures c.in_ok-depth.was c.if-inside.false
