-- `scope::Plan::depth` meets its contract: 11, 12, then the depth.
-- Assumes nothing.
use Rattle.std.specs.Prelude.{Ok, Err}
use Prim.Native.Nat.{ℕ}
use mathlib.Core.Path.{◌≡◌, sym, ◌∙◌, ap}
use mathlib.Core.Option.{none, some}
use mathlib.Core.List.{[]}
use Rattle.scope.specs.Search.{first_of}
use Rattle.scope.specs.Banks.{depth_of}
use Rattle.scope.specs.Calls.{answered, depth}
use Rattle.scope.specs.declared.Plan.{Plan}
use Rattle.scope.specs.declared.Refusal.{Refusal}
use Rattle.scope.proofs.Chains.{handed_on, done_found_nothing, refused_found}
use Rattle.scope.proofs.MethodAnswers.{picture_tests, both_passed, refused_first, past_first}
use Rattle.scope.proofs.Plan.depth.Goals as goal

module _ (p : Plan) (W H : ℕ) where
  depth-refused : {r : Refusal} → picture_tests p W H ≡ some r → Err r ≡ depth p W H
  unfolding depth
  depth-refused = refused_first p W H Err (Ok (depth_of p W H)) []

  depth-given : picture_tests p W H ≡ none → Ok (depth_of p W H) ≡ depth p W H
  unfolding depth answered first_of
  depth-given e = sym (past_first p W H Err (Ok (depth_of p W H)) [] e)

pub returns-in_err-picture_outcome : goal.returns-in_err-picture_outcome
returns-in_err-picture_outcome c =
    handed_on _ c.from_residual.ensures ∙ depth-refused _ _ _ (refused_found _ c.picture_outcome.ensures c.in_err-picture_outcome.was)

pub invariant_of-tested : goal.invariant_of-tested
invariant_of-tested c =
    record { is = (both_passed _ _ _ (done_found_nothing _ c.picture_outcome.ensures c.in_ok-picture_outcome.was)).0 }

pub invariant_of-depth_number : goal.invariant_of-depth_number
invariant_of-depth_number c =
    record { sides = (both_passed _ _ _ (done_found_nothing _ c.picture_outcome.ensures c.in_ok-picture_outcome.was)).1 }

pub returns : goal.returns
returns c =
    ap Ok c.depth_number.ensures ∙ depth-given _ _ _ (done_found_nothing _ c.picture_outcome.ensures c.in_ok-picture_outcome.was)
