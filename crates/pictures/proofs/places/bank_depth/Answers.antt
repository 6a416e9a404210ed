-- `pictures::places::bank_depth` meets its contract: 11, 12, 13 come with the depth, then 15.
-- Assumes nothing.
use Rattle.std.specs.Prelude.{Result, Ok, Err}
use Rattle.std.proofs.Common.{◌≡◌, ℕ, ◌<◌, ◌≤◌, [], ◌∷◌, sym, ap, ◌∙◌, arith}
use mathlib.Core.Option.{none, some}
use Rattle.scope.specs.Plans.{banks}
use Rattle.scope.specs.Banks.{depth_of}
use Rattle.scope.specs.Numbers.{bank_test}
use Rattle.scope.specs.Calls.{picture_test, whole_bank_test}
use Rattle.scope.specs.declared.Plan.{Plan}
use Rattle.scope.specs.declared.Refusal.{Refusal}
use Rattle.checks.proofs.Chains.{passed_on, chain_refuses, chain_goes_on, chain_of_one, answered_none, answered_some}
use Rattle.checks.proofs.Deciding.{bank_decides}
use Rattle.pictures.specs.Places.{picture_depth, bank_depth}
use Rattle.pictures.proofs.PictureTests.{picture_shows, picture_refusal_shows}
use Rattle.pictures.proofs.places.bank_depth.Goals as goal

module _ (p : Plan) (W H words k : ℕ) where
  -- what the call answers, by its tests
  refused : (r : Refusal) → whole_bank_test p W H words k ≡ some r → bank_depth p W H words k ≡ Err r
  unfolding bank_depth
  refused = answered_some (whole_bank_test p W H words k) Err (Ok (depth_of p W H))

  given : whole_bank_test p W H words k ≡ none → bank_depth p W H words k ≡ Ok (depth_of p W H)
  unfolding bank_depth
  given = answered_none (whole_bank_test p W H words k) Err (Ok (depth_of p W H))

  -- and by what the callee answered
  module _ {answer : Result ℕ Refusal} (is : answer ≡ picture_depth p W H words) where
    no-picture : (r : Refusal) → answer ≡ Err r → answer ≡ bank_depth p W H words k
    unfolding whole_bank_test
    no-picture r e =
        e
        ∙ sym
        (refused r (chain_refuses (picture_test p W H words) (bank_test p k ∷ []) r (picture_refusal_shows p W H words is e)))

    module _ {n m : ℕ} (e : answer ≡ Ok n) (counted : m ≡ banks p) where
      past-picture : whole_bank_test p W H words k ≡ bank_test p k
      unfolding whole_bank_test
      past-picture =
          chain_goes_on (picture_test p W H words) (bank_test p k ∷ []) (picture_shows p W H words is e).0
          ∙ chain_of_one (bank_test p k)

      no-such-bank : m ≤ k → Err Refusal.Cell ≡ bank_depth p W H words k
      no-such-bank h = sym (refused Refusal.Cell (past-picture ∙ (bank_decides p k).refuses (λ l. omega (arith, counted))))

      bank-there : k < m → answer ≡ bank_depth p W H words k
      bank-there h =
          e
          ∙ ap Ok (sym (picture_shows p W H words is e).1)
          ∙ sym (given (past-picture ∙ (bank_decides p k).passes (omega (arith, counted))))

pub returns-then-banks-k : goal.returns-then-banks-k
returns-then-banks-k c =
    no-such-bank _ _ _ _ _ c.picture_depth.ensures c.in_ok-depth.was c.banks.ensures
    c.if-banks-k.true

pub returns : goal.returns
returns c =
    sym c.in_ok-depth.was ∙ bank-there _ _ _ _ _ c.picture_depth.ensures c.in_ok-depth.was c.banks.ensures c.if-banks-k.false

pub returns-in_err-depth : goal.returns-in_err-depth
returns-in_err-depth c =
    passed_on _ c.from_residual.ensures c.in_err-depth.was ∙ no-picture _ _ _ _ _ c.picture_depth.ensures _ c.in_err-depth.was
