-- The loop of `records::fill_records`: every record before the index has its bank and its address.
-- Assumes nothing.
use Rattle.std.proofs.Common.{get_or}
use Rattle.scope.specs.promises.PicturePromises.{no_record}
use Rattle.checks.proofs.FilledArrays.{Filled}
use Rattle.records.specs.Filling.{placed_if}
use Rattle.records.proofs.fill_records.Given as goal

abbrev pub invariant-loop-i : goal.invariant-loop-i
invariant-loop-i l =
    Filled no_record (λ m. placed_if l.p l.w l.h (get_or l.initial.list m no_record)) l.i l.initial.list l.list
