-- `finder::clash::suits_answer` meets its contract: 2, 20, 11, then what the search met, with the positions of the class.
-- Assumes nothing.
use Rattle.scope.specs.declared.Refusal.{Refusal}
use Rattle.std.specs.Prelude.{Result, Ok, Err}
use native.Mathlib.Omega.{arith}
use Prim.Native.Nat.{ℕ}
use mathlib.Core.Path.{◌≡◌, ◌∙◌, ap}
use mathlib.Core.Option.{none}
use Rattle.scope.specs.declared.Clash.{Clash}
use Rattle.scope.specs.declared.Pattern.{Pattern}
use Rattle.scope.specs.declared.Plan.{Plan}
use Rattle.scope.specs.declared.Refusal.TheVariants.{Unsuited}
use Rattle.checks.proofs.Patterns.{length_pixels}
use Rattle.book.specs.Scan.{outcome_of}
use Rattle.book.proofs.Outcomes.{done_found_nothing}
use Rattle.finder.specs.Clashing.{single_test}
use Rattle.finder.proofs.MetAnswers.{at_clash, nowhere_clash, begins_below, class_is_clash, SingleLegal, single_legal_iff, refused_first, suits_clash, suits_done}
use Rattle.finder.proofs.clash.suits_answer.Goals as goal

-- where the tests of pattern, r and plan found nothing
module _ (p : Plan) (t : Pattern) (r : ℕ) {outcome : Result Unit Refusal} (told : outcome ≡ outcome_of (single_test p t r)) (done : outcome ≡ Ok tt) where
  passed : single_test p t r ≡ none
  passed = done_found_nothing (single_test p t r) told done

  legal : SingleLegal p t r
  legal = (single_legal_iff p t r).0 passed

pub returns-in-Err : goal.returns-in-Err
returns-in-Err c = refused_first _ _ _ _ c.single_outcome-outcome.ensures c.in-Err.is

pub invariant_of-tested : goal.invariant_of-tested
invariant_of-tested c =
    record { is = (legal c.args.p c.args.t c.args.r c.single_outcome-outcome.ensures c.in_default.is).plan }

pub overflow_cast-r : goal.overflow_cast-r
overflow_cast-r c = record { fits = omega (arith, (legal c.args.p c.args.t c.args.r c.single_outcome-outcome.ensures c.in_default.is).cycles_most) }

pub clash_in-met-requires : goal.clash_in-met-requires
clash_in-met-requires c =
    let l = legal c.args.p c.args.t c.args.r c.single_outcome-outcome.ensures c.in_default.is in
    (l.most, omega (arith, l.cycles_least))

pub overflow_cast-r-in-Some : goal.overflow_cast-r-in-Some
overflow_cast-r-in-Some c = record { fits = omega (arith, (legal c.args.p c.args.t c.args.r c.single_outcome-outcome.ensures c.in_default.is).cycles_most) }

pub class_positions-positions-requires : goal.class_positions-positions-requires
class_positions-positions-requires c =
    let l = legal c.args.p c.args.t c.args.r c.single_outcome-outcome.ensures c.in_default.is in
    let (clash, found, is) = at_clash _ c.clash_in-met.ensures c.in-Some.is in
    (l.most, omega (arith, begins_below _ _ _ _ found is, length_pixels c.args.t), omega (arith, l.cycles_most))

pub returns-in-Some : goal.returns-in-Some
returns-in-Some c =
    let (clash, found, is) = at_clash _ c.clash_in-met.ensures c.in-Some.is in
    let (refusal, positions) = suits_clash _ _ _ _ (passed c.args.p c.args.t c.args.r c.single_outcome-outcome.ensures c.in_default.is) clash found in
    (ap (λ (c : Clash). Err (Unsuited c)) is ∙ refusal, class_is_clash _ _ _ _ found is c.class_positions-positions.ensures ∙ positions)

pub returns : goal.returns
returns c =
    let none_met = nowhere_clash _ c.clash_in-met.ensures c.in_default-met.is in
    let (done, positions) = suits_done _ _ _ _ (passed c.args.p c.args.t c.args.r c.single_outcome-outcome.ensures c.in_default.is) none_met in
    (c.in_default.is ∙ done, positions)
