-- `pictures::rows::clash_row` meets its contract. The loop's invariant: the first e positions were put behind the pattern.
-- Assumes nothing.
use Rattle.std.proofs.Common.{◌++◌, take}
use Rattle.checks.proofs.Outputs.{Put}
use Rattle.pictures.proofs.rows.clash_row.Given as goal

abbrev pub invariant-loop-e : goal.invariant-loop-e
invariant-loop-e l =
    Put (take 3 l.initial.row ++ take l.e l.positions) l.initial.row l.row
