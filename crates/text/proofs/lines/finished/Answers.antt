-- `text::lines::finished` meets its contract: the lines are put to the start of 80 zeros.
-- Assumes nothing.
use mathlib.Core.Path.{refl, ◌∙◌}
use Rattle.scope.specs.Banks.{over_start}
use Rattle.text.proofs.LineParts.{text_put}
use Rattle.text.proofs.lines.finished.Goals as goal

pub returns : goal.returns
unfolding over_start
returns c =
    let copied = c.copy_from_slice.ensures.after ∙ c.as_bytes.ensures.value ∙ c.as_str.ensures.value in
    text_put c.args.lines.bytes _ _ (c.len-length.ensures.value, rw (copied, c.len-length.ensures.value) refl)
