-- `capi::flat::put_used` meets its contract. The loop's invariant: the first n entries are the record's.
-- Assumes nothing.
use lib.ListN.{replicate}
use Rattle.scope.specs.Plans.{pattern_at}
use Rattle.checks.proofs.FilledArrays.{Filled}
use Rattle.capi.proofs.flat.put_used.Given as goal

abbrev pub invariant-loop-n : goal.invariant-loop-n
invariant-loop-n l = Filled 0 (λ m. (pattern_at l.book m).used) l.n (replicate 16 0) l.out
