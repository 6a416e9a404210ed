-- `text::lines::refused_text` meets its contract: a refusal's line fits into 80 bytes.
-- Assumes nothing.
use native.Mathlib.Omega.{arith}
use mathlib.Core.Path.{◌∙◌, ap}
use Rattle.scope.specs.Program.{ascii}
use Rattle.text.specs.Texts.{text_of}
use Rattle.text.proofs.LineParts.{refused_line_put}
use Rattle.text.proofs.lines.refused_text.Goals as goal

pub returns : goal.returns
unfolding ascii
returns c =
    c.finished.ensures
    ∙ ap text_of
    (rw (c.push_str.ensures.bytes, c.put_number.ensures.bytes, c.new-lines.ensures, c.number_of.ensures)
    (refused_line_put c.args.r (omega arith)))
