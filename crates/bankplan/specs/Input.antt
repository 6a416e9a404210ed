-- What the program answers for an input of which it has read the first bytes.
-- Assumes nothing.
use Rattle.std.specs.Prelude.{ℕ, ◌<◌, ◌≡◌, List, [], ◌++◌, length, take}
use Rattle.scope.specs.Program.{program_text}
use Rattle.text.specs.Texts.{text_of}
use Rattle.text.specs.declared.Text.{Text}
use Rattle.bankplan.specs.declared.Failure.{Failure}
use Rattle.bankplan.specs.declared.Failure.TheVariants.{Input, Output}

-- the first `count` bytes of the buffer were read, and the input goes on with `rest`, which is empty unless the buffer is full:
-- t is the text of that input
pub record AnswersInput (buf : List ℕ) (count : ℕ) (t : Text) : Type 0 where
  pub is :
      (rest : List ℕ) → (count < length buf → rest ≡ []) → t ≡ text_of (program_text (take count buf ++ rest))

-- where the input failed, P
abbrev pub OnInput : Failure → Type 0 → Type 0
OnInput (Input e) P = P
OnInput (Output e) P = Unit {0}
