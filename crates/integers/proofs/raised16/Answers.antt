-- `integers::raised16` meets its contract.
-- Assumes nothing.
use mir.Syntax.{w16, w64}
use Rattle.integers.proofs.Raised.{widened_fits, sum_fits, unsigned_fits, raised_right}
use Rattle.integers.proofs.raised16.Goals as goal

pub overflow_cast-result : goal.overflow_cast-result
overflow_cast-result c = widened_fits w16 w64 tt c.args.z c.ranges.z

pub overflow_add-result : goal.overflow_add-result
overflow_add-result c = sum_fits w16 tt tt c.args.z c.ranges.z _ tt

pub overflow_cast-result-2 : goal.overflow_cast-result-2
overflow_cast-result-2 c = unsigned_fits w16 tt tt c.args.z c.ranges.z

pub returns : goal.returns
returns c = raised_right w16 tt tt c.args.z c.ranges.z
