-- What the program writes: a plan's two lines, or one line with the number of the refusal.
-- Assumes nothing.
use Rattle.std.specs.Prelude.{Result, Ok, Err}
use Prim.Native.Nat.{ℕ}
use mathlib.Core.Path.{◌≡◌, refl, sym, ap}
use mathlib.Core.Option.{Option}
use mathlib.Core.List.{List, ◌++◌}
use Rattle.scope.specs.Numbers.{value, refusal, of_result}
use Rattle.scope.specs.Calls.{read_book, find}
use Rattle.scope.specs.Program.{ascii, decimal, plan_lines, refused_line, plan_text, program_text}
use Rattle.scope.specs.promises.BookPromises.{ProgramWrites}
use Rattle.scope.specs.declared.Plan.{Plan}
use Rattle.scope.specs.declared.Refusal.{Refusal}
use Rattle.scope.specs.Cycles.{LongClash}
use Rattle.checks.proofs.Chains.{value_not_refusal, value_injective, refusal_number}

-- what the program writes for an outcome of the reader and an answer of the finder
abbrev written : Result Unit Refusal → Result Plan Refusal → List ℕ
written o answer = elim o [ Ok u ↦ plan_text answer | Err r ↦ refused_line r ]

written_for_a_plan :
    (o : Result Unit Refusal) (answer : Result Plan Refusal) (p : Plan) → of_result o ≡ value tt → of_result answer ≡ value p
    → written o answer ≡ plan_lines p
unfolding plan_text
written_for_a_plan (Ok u) (Ok q) p done e = ap plan_lines (value_injective e)
written_for_a_plan (Ok u) (Err r) p done e = absurd (value_not_refusal (sym e))
written_for_a_plan (Err r) answer p done e = absurd (value_not_refusal (sym done))

written_for_a_refusal :
    (o : Result Unit Refusal) (answer : Result Plan Refusal) (n i : ℕ) (c : Option LongClash) → of_result o ≡ refusal n i c
    → written o answer ≡ ascii "refused " ++ decimal n ++ ascii "\n"
unfolding refused_line
written_for_a_refusal (Ok u) answer n i c e = absurd (value_not_refusal e)
written_for_a_refusal (Err r) answer n i c e =
    ap (λ k. ascii "refused " ++ decimal k ++ ascii "\n") (refusal_number e)

-- the text for a book that was read, and for one that was not
module _ (s : List ℕ) where
  pub text_of_read : (read_book s).outcome ≡ Ok tt → plan_text (find (read_book s).book 1 1024) ≡ program_text s
  unfolding program_text
  text_of_read done = rw (done, program_text) refl

  pub text_of_refused : {r : Refusal} → (read_book s).outcome ≡ Err r → refused_line r ≡ program_text s
  unfolding program_text
  text_of_refused refused = rw (refused, program_text) refl

-- The program writes the two lines of the plan that the finder gives with limit 1024, or the reader's refusal.
pub program_writes : ProgramWrites
unfolding program_text plan_lines
program_writes =
    record {
      plan_lines_lem = λ s p done e. written_for_a_plan (read_book s).outcome (find (read_book s).book 1 1024) p done e;
      refused_line_lem = λ s n i c e. written_for_a_refusal (read_book s).outcome (find (read_book s).book 1 1024) n i c e;
    }
