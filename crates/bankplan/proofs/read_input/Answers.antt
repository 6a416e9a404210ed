-- What `bankplan::read_input` has read is what the input had.
-- Assumes nothing.
use Rattle.std.proofs.Common.{rules}
use Rattle.bankplan.proofs.Written.{read_more}
use Rattle.bankplan.proofs.read_input.Goals as goal

pub loop-count-preserved : goal.loop-count-preserved
loop-count-preserved g c =
    record {
      within = search rules;
      same = search rules;
      bytes =
          read_more _ _ _ _ _ _ _ _ c.loop-count.invariant.within c.in_ok-more.ensures.bound.0 c.loop-count.invariant.bytes
          c.in_ok-more.ensures.bytes.0;
    }
