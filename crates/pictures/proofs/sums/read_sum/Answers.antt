-- `pictures::sums::read_sum` meets its contract: 11, 13, 15, then the entry.
-- Assumes nothing.
use Rattle.std.specs.Prelude.{Ok, Err}
use Rattle.std.proofs.Common.{◌≡◌, ℕ, ◌<◌, ◌≤◌, true, false, List, [], ◌∷◌, length, get_or, refl, ◌∙◌, arith}
use mathlib.Core.Option.{some}
use Rattle.scope.specs.Search.{first_of}
use Rattle.scope.specs.Plans.{is_plan, banks}
use Rattle.scope.specs.Numbers.{plan_test, sums_test, bank_test}
use Rattle.scope.specs.Calls.{read_sum_test, read_sum}
use Rattle.scope.specs.declared.Plan.{Plan}
use Rattle.scope.specs.declared.Refusal.{Refusal}
use Rattle.scope.proofs.MethodAnswers.{fails, holds, demand_met, demand_fails}
use Rattle.checks.proofs.Chains.{chain_refuses, chain_goes_on, chain_of_one, gives_value, gives_refusal}
use Rattle.checks.proofs.Deciding.{sums_decide, bank_decides}
use Rattle.pictures.proofs.sums.read_sum.Lts as lts
use Rattle.pictures.proofs.sums.read_sum.Tie as tie
use Rattle.pictures.proofs.sums.read_sum.Reads as reads
use Rattle.pictures.proofs.sums.read_sum.Goals as goal

-- what is known at a step of the code
abbrev After-banks : Type 0
After-banks = lts.After-banks tie.the-claims reads.Pre reads.Post

module _ (p : Plan) (sums : List ℕ) (k : ℕ) where
  refused : {r : Refusal} → read_sum_test p (length sums) k ≡ some r → Err r ≡ read_sum p sums k
  unfolding read_sum
  refused e = gives_refusal e Err (Ok (get_or sums k 0))

  no-plan : is_plan p ≡ false → Err Refusal.NotPlan ≡ read_sum p sums k
  unfolding read_sum_test plan_test
  no-plan e = refused (chain_refuses _ (sums_test p (length sums) ∷ bank_test p k ∷ []) Refusal.NotPlan (demand_fails (is_plan p) Refusal.NotPlan e))

  module _ (plan : is_plan p ≡ true) {m : ℕ} (counted : m ≡ banks p) where
    past-plan : read_sum_test p (length sums) k ≡ first_of (sums_test p (length sums) ∷ bank_test p k ∷ [])
    unfolding read_sum_test plan_test
    past-plan = chain_goes_on _ (sums_test p (length sums) ∷ bank_test p k ∷ []) (demand_met (is_plan p) Refusal.NotPlan plan)

    too_few : length sums < m → Err Refusal.Memory ≡ read_sum p sums k
    too_few h =
        refused (past-plan ∙ chain_refuses _ (bank_test p k ∷ []) Refusal.Memory ((sums_decide p (length sums)).refuses (λ l. omega (arith, counted))))

    module _ (enough : m ≤ length sums) where
      past-sums : read_sum_test p (length sums) k ≡ bank_test p k
      past-sums =
          past-plan
          ∙ chain_goes_on _ (bank_test p k ∷ []) ((sums_decide p (length sums)).passes (omega (arith, counted)))
          ∙ chain_of_one (bank_test p k)

      no-bank : m ≤ k → Err Refusal.Cell ≡ read_sum p sums k
      no-bank h = refused (past-sums ∙ (bank_decides p k).refuses (λ l. omega (arith, counted)))

      entry : k < m → Ok (get_or sums k 0) ≡ read_sum p sums k
      unfolding read_sum
      entry h = gives_value (past-sums ∙ (bank_decides p k).passes (omega (arith, counted))) Err refl

pub returns-then-not-is_plan : goal.returns-then-not-is_plan
returns-then-not-is_plan c = no-plan _ _ _ (fails c.is_plan.ensures c.if-not-is_plan.true-raw)

-- past the test of the plan
is_one : (c : After-banks) → is_plan c.args.p ≡ true
is_one c = holds c.is_plan.ensures c.if-not-is_plan.false-raw

pub returns-then-sums-banks : goal.returns-then-sums-banks
returns-then-sums-banks c = too_few _ _ _ (is_one c.before.before) c.banks.ensures c.if-sums-banks.true

pub returns-then-banks-k : goal.returns-then-banks-k
returns-then-banks-k c =
    no-bank _ _ _ (is_one c.before.before.before.before) c.banks.ensures c.if-sums-banks.false (omega (arith, c.banks-2.ensures, c.banks.ensures, c.if-banks-k.true))

pub returns : goal.returns
returns c =
    entry _ _ _ (is_one c.before.before.before.before.before) c.banks.ensures c.if-sums-banks.false (omega (arith, c.banks-2.ensures, c.banks.ensures, c.if-banks-k.false))
