-- `scope::Plan::locate` meets its contract: 11, 12, then the pixel or 15.
-- Assumes nothing.
use Rattle.std.specs.Prelude.{Err}
use Prim.Native.Nat.{ℕ}
use mathlib.Core.Path.{◌∙◌, ◌≡◌}
use mathlib.Core.Option.{some}
use mathlib.Core.List.{[], ◌∷◌}
use Rattle.scope.specs.Numbers.{cell_test}
use Rattle.scope.specs.Calls.{locate}
use Rattle.scope.specs.declared.Plan.{Plan}
use Rattle.scope.specs.declared.Refusal.{Refusal}
use Rattle.scope.proofs.Chains.{handed_on}
use Rattle.scope.proofs.MethodAnswers.{picture_tests, refused_first}
use Rattle.scope.proofs.Plan.locate.Goals as goal

locate-refused : (p : Plan) (W H k i : ℕ) {r : Refusal} → picture_tests p W H ≡ some r → Err r ≡ locate p W H k i
unfolding locate
locate-refused p W H k i = refused_first p W H Err _ (cell_test p W H k i ∷ [])

pub returns-in_err-layout : goal.returns-in_err-layout
returns-in_err-layout c =
    handed_on _ c.from_residual.ensures ∙ (locate-refused _ _ _ _ _ c.in_err-layout.ensures)
