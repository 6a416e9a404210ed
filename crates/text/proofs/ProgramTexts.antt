-- The program's text: a longer input than any book has that of its first bytes, and the code's struct has room for it.
-- Assumes nothing.
use Rattle.std.specs.Prelude.{Result, Ok, Err}
use Prim.Native.Nat.{ℕ, ◌≤◌}
use native.Mathlib.Omega.{arith}
use mathlib.Core.Path.{◌≡◌, refl, sym, ◌∙◌, ap}
use mathlib.Core.List.{List}
use lib.ListN.{length, replicate, length-replicate}
use Rattle.scope.specs.Plans.{patterns}
use Rattle.scope.specs.Cycles.{suitable_for}
use Rattle.scope.specs.Numbers.{of_result}
use Rattle.scope.specs.Calls.{read_book, find}
use Rattle.scope.specs.Program.{plan_text, program_text}
use Rattle.scope.specs.promises.Meaning.{IsPlan}
use Rattle.scope.specs.declared.Book.{Book}
use Rattle.scope.specs.declared.Plan.{Plan}
use Rattle.scope.specs.declared.Refusal.{Refusal}
use Rattle.scope.proofs.PlanFacts.{a_at_most, d_at_most}
use Rattle.checks.proofs.Outputs.{over_start_length}
use Rattle.text.proofs.ProgramText.{text_of_read, text_of_refused}
use Rattle.text.proofs.LongInput.{long_input_text}
use Rattle.finder.proofs.PlanSearch.{least_is_plan, least_plan_some}
use Rattle.finder.proofs.FindAnswers.{find_value_iff}
use Rattle.text.specs.Texts.{text_of, AlsoOfLonger}
use Rattle.text.specs.declared.Text.{Text}
use Rattle.text.proofs.LineParts.{plan_lines_at_most, refused_line_at_most}

-- The text for s is that of every longer input, where s is more than any book has.
pub also_of_longer : (s : List ℕ) (t : Text) → t ≡ text_of (program_text s) → AlsoOfLonger s t
also_of_longer s t e = record { is = λ rest long. e ∙ ap text_of (sym (long_input_text s rest long)) }

-- The text of a plan, of an answer and of an outcome has at most 80 bytes.
plan_text_at_most : (p : Plan) → IsPlan p → length (plan_text (Ok p)) ≤ 80
unfolding plan_text
plan_text_at_most p h =
    let a_most = a_at_most p h in
    let d_most = d_at_most p h in
    omega (arith, plan_lines_at_most p (omega arith) (omega (arith, h.b_below)) (omega arith))

answer_text_at_most : (book : Book) (answer : Result Plan Refusal) → find book 1 1024 ≡ answer → length (plan_text answer) ≤ 80
unfolding plan_text
answer_text_at_most book (Err r) e = omega (arith, refused_line_at_most r)
answer_text_at_most book (Ok p) e =
    let (legal, searched) = (find_value_iff book 1 1024 p).0 (ap of_result e) in
    let (least, within) = least_plan_some (suitable_for 1 (patterns book)) 1024 p searched in
    plan_text_at_most p (least_is_plan (suitable_for 1 (patterns book)) p least within)

outcome_text_at_most : (s : List ℕ) (o : Result Unit Refusal) → (read_book s).outcome ≡ o → length (program_text s) ≤ 80
outcome_text_at_most s (Err r) e = rw (← text_of_refused s e) (omega (arith, refused_line_at_most r))
outcome_text_at_most s (Ok tt) e = rw (← text_of_read s e) (answer_text_at_most (read_book s).book _ refl)

-- A text has room for what the program writes.
pub text_fits : (s : List ℕ) (t : Text) → t ≡ text_of (program_text s) → (t.length ≤ 80) × (length t.bytes ≡ 80)
unfolding text_of
text_fits s t e =
    let short = outcome_text_at_most s (read_book s).outcome refl in
    let zeros : length (replicate {A = ℕ} 80 0) ≡ 80 = length-replicate {A = ℕ} 80 0 in
    rw e (short, over_start_length (program_text s) (replicate 80 0) (omega (arith, short, zeros)) ∙ zeros)
