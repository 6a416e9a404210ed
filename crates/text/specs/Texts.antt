-- A text as the code's struct, and when it is the text of a longer input too.
-- Assumes nothing.
use Rattle.std.specs.Prelude.{ℕ, ◌<◌, ◌≡◌, List, ◌++◌, length, replicate}
use Rattle.scope.specs.Banks.{over_start}
use Rattle.scope.specs.Program.{program_text}
use Rattle.text.specs.declared.Text.{Text}

-- the bytes xs, at most 80 of them
unfoldable pub text_of : List ℕ → Text
unfolding over_start
text_of xs = record { bytes = over_start xs (replicate 80 0); length = length xs }

-- the text of bytes that are more than any book has is the text of every input that begins with them
pub record AlsoOfLonger (s : List ℕ) (t : Text) : Type 0 where
  pub is : (rest : List ℕ) → 2065 < length s → t ≡ text_of (program_text (s ++ rest))
