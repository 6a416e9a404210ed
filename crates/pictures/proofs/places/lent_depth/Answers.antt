-- `pictures::places::lent_depth` meets its contract: 11, 12, 13 come with the depth, then 13 for the sums.
-- Assumes nothing.
use Rattle.std.specs.Prelude.{Result, Ok, Err}
use Rattle.std.proofs.Common.{◌≡◌, ℕ, ◌<◌, ◌≤◌, [], ◌∷◌, sym, ap, ◌∙◌, arith}
use mathlib.Core.Option.{Option}
use Rattle.scope.specs.Plans.{banks}
use Rattle.scope.specs.Banks.{depth_of}
use Rattle.scope.specs.Numbers.{sums_test}
use Rattle.scope.specs.Calls.{Size, picture_test, lent_test}
use Rattle.scope.specs.declared.Plan.{Plan}
use Rattle.scope.specs.declared.Refusal.{Refusal}
use Rattle.checks.proofs.Chains.{passed_on, chain_refuses, chain_goes_on, chain_of_one, gives_value, gives_refusal}
use Rattle.checks.proofs.Deciding.{sums_decide}
use Rattle.pictures.specs.Places.{picture_depth, lent_depth}
use Rattle.pictures.proofs.PictureTests.{picture_shows, picture_refusal_shows}
use Rattle.pictures.proofs.places.lent_depth.Goals as goal

-- what the call answers, by what the callee answered
module _ (p : Plan) (W H : ℕ) (s : Size) {answer : Result ℕ Refusal} (is : answer ≡ picture_depth p W H s.words) where
  abbrev picture : Option Refusal
  picture = picture_test p W H s.words

  abbrev enough : Option Refusal
  enough = sums_test p s.entries

  no-picture : (r : Refusal) → answer ≡ Err r → answer ≡ lent_depth p W H s
  unfolding lent_depth lent_test
  no-picture r e =
      e
      ∙ gives_refusal (chain_refuses picture (enough ∷ []) r (picture_refusal_shows p W H s.words is e)) Err
      (Ok (depth_of p W H))

  module _ {n m : ℕ} (e : answer ≡ Ok n) (counted : m ≡ banks p) where
    past-picture : lent_test p W H s ≡ enough
    unfolding lent_test
    past-picture =
        chain_goes_on picture (enough ∷ []) (picture_shows p W H s.words is e).0
        ∙ chain_of_one enough

    too_few : s.entries < m → Err Refusal.Memory ≡ lent_depth p W H s
    unfolding lent_depth
    too_few h =
        gives_refusal (past-picture ∙ (sums_decide p s.entries).refuses (λ l. omega (arith, counted))) Err
        (Ok (depth_of p W H))

    enough-sums : m ≤ s.entries → answer ≡ lent_depth p W H s
    unfolding lent_depth
    enough-sums h =
        e
        ∙ gives_value (past-picture ∙ (sums_decide p s.entries).passes (omega (arith, counted))) Err
        (ap Ok (sym (picture_shows p W H s.words is e).1))

pub returns-then-entries-banks : goal.returns-then-entries-banks
returns-then-entries-banks c =
    too_few _ _ _ _ c.picture_depth.ensures c.in_ok-depth.was c.banks.ensures c.if-entries-banks.true

pub returns : goal.returns
returns c =
    sym c.in_ok-depth.was ∙ enough-sums _ _ _ _ c.picture_depth.ensures c.in_ok-depth.was c.banks.ensures c.if-entries-banks.false

pub returns-in_err-depth : goal.returns-in_err-depth
returns-in_err-depth c =
    passed_on _ c.from_residual.ensures c.in_err-depth.was ∙ no-picture _ _ _ _ c.picture_depth.ensures _ c.in_err-depth.was
