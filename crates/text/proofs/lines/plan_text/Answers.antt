-- `text::lines::plan_text` meets its contract: a plan's lines fit into 80 bytes.
-- Assumes nothing.
use native.Mathlib.Omega.{arith}
use mathlib.Core.Path.{◌∙◌, ap}
use Rattle.scope.specs.Program.{ascii}
use Rattle.text.specs.Texts.{text_of}
use Rattle.text.proofs.LineParts.{plan_lines_put}
use Rattle.text.proofs.lines.plan_text.Goals as goal

pub returns : goal.returns
unfolding ascii
returns c =
    c.finished.ensures
    ∙ ap text_of
    (rw (
      c.push_str.ensures.bytes,
      c.put_number-4.ensures.bytes,
      c.put_number-3.ensures.bytes,
      c.put_number-2.ensures.bytes,
      c.put_number.ensures.bytes,
      c.new-lines.ensures,
      c.banks.ensures,
    )
    (plan_lines_put c.args.p (omega arith) (omega arith) (omega arith)))
