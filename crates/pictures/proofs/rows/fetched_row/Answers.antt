-- `pictures::rows::fetched_row` meets its contract.
-- Assumes nothing.
use Rattle.scope.specs.declared.Refusal.{Refusal}
use Rattle.std.specs.Prelude.{Result}
use Rattle.std.proofs.Common.{ℕ, suc, List, [], ◌∷◌, take, ◌∙◌}
use Rattle.scope.specs.Numbers.{Answer, with_positions, of_result}
use Rattle.pictures.specs.Lists.{answer_numbers}
use Rattle.pictures.proofs.ReplyRows.{same_row}
use Rattle.pictures.proofs.rows.fetched_row.Goals as goal

-- a counted answer with the positions that were handed in
abbrev told : ℕ → List ℕ → Result ℕ Refusal → Answer ℕ
told r positions counted = with_positions (take (suc r) positions) (of_result counted)

pub returns-in-Ok : goal.returns-in-Ok
unfolding answer_numbers
returns-in-Ok c =
    c.row.ensures ∙ same_row (told c.args.r c.args.a.positions) (λ n. n ∷ []) c.in-Ok.is

pub returns-in-Err : goal.returns-in-Err
returns-in-Err c =
    c.clash_row.ensures (λ n. n ∷ []) ∙ same_row (told c.args.r c.args.a.positions) (λ n. n ∷ []) c.in-Err.is
