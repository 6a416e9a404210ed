-- `text::program::program_text` meets its contract: the reader's outcome and the finder's answer decide the text.
-- Assumes nothing.
use Rattle.scope.specs.declared.Plan.{Plan}
use Rattle.std.specs.Prelude.{Result, Ok, Err}
use Rattle.std.proofs.Common.{◌≡◌, ℕ, List, sym, ◌∙◌, ap}
use Rattle.scope.specs.Calls.{read_book, find}
use Rattle.scope.specs.Program.{plan_text, program_text, refused_line}
use Rattle.scope.specs.declared.Reading.{Reading}
use Rattle.scope.specs.declared.Refusal.{Refusal}
use Rattle.text.proofs.ProgramText.{text_of_read, text_of_refused}
use Rattle.text.proofs.ProgramTexts.{also_of_longer}
use Rattle.text.specs.Texts.{text_of}
use Rattle.text.proofs.program.program_text.Goals as goal
use Rattle.text.proofs.program.program_text.Goals.{After-refused_text, After-planned_text}

-- the text of a refusal by the reader, and that of the finder's answer for what was read
module _ (s : List ℕ) (reading : Reading) (is_read : reading ≡ read_book s) where
  outcome_is : (o : Result Unit Refusal) → reading.outcome ≡ o → (read_book s).outcome ≡ o
  outcome_is o e = sym (ap (λ x. x.outcome) is_read) ∙ e

  text_of_refusal : (r : Refusal) → reading.outcome ≡ Err r → refused_line r ≡ program_text s
  text_of_refusal r refused = text_of_refused s (outcome_is (Err r) refused)

  text_of_found :
      (p : Result Plan Refusal) → reading.outcome ≡ Ok tt → p ≡ find reading.book 1 1024 → plan_text p ≡ program_text s
  text_of_found p done found = ap plan_text (rw is_read at found) ∙ text_of_read s (outcome_is (Ok tt) done)

refused : (c : After-refused_text) → c.refused_text.result ≡ text_of (program_text c.args.s.now)
refused c =
    c.refused_text.ensures
    ∙ ap text_of (text_of_refusal c.args.s.now c.read_book-reading.result c.read_book-reading.ensures c.in-Err.r c.in-Err.is)

planned : (c : After-planned_text) → c.planned_text.result ≡ text_of (program_text c.args.s.now)
planned c =
    c.planned_text.ensures
    ∙ ap text_of
    (text_of_found c.args.s.now c.read_book-reading.result c.read_book-reading.ensures c.find.result c.in_default.is c.find.ensures)

pub returns-in-Err-clause-text : goal.returns-in-Err-clause-text
returns-in-Err-clause-text c = refused c

pub returns-in-Err-clause-longer : goal.returns-in-Err-clause-longer
returns-in-Err-clause-longer c = also_of_longer _ _ (refused c)

pub returns-clause-text : goal.returns-clause-text
returns-clause-text c = planned c

pub returns-clause-longer : goal.returns-clause-longer
returns-clause-longer c = also_of_longer _ _ (planned c)
