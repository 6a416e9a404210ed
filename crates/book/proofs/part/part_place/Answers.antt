-- `book::part::part_place` meets its contract.
-- Assumes nothing.
use native.Mathlib.Omega.{arith}
use Rattle.book.proofs.PartAnswers.{refused_place, start_shows, taken_place, taken_bounds}
use Rattle.book.proofs.part.part_place.Goals as goal

pub returns-in-Err : goal.returns-in-Err
returns-in-Err c = refused_place _ _ c.part_outcome-outcome.ensures c.in-Err.is

pub start_of-requires : goal.start_of-requires
start_of-requires c = start_shows _ _ c.part_outcome-outcome.ensures c.in_default.is

pub overflow_add-result : goal.overflow_add-result
overflow_add-result c =
    omega (arith, taken_bounds _ _ c.part_outcome-outcome.ensures c.in_default.is c.start_of.ensures)

pub returns : goal.returns
returns c =
    taken_place _ _ c.part_outcome-outcome.ensures c.in_default.is c.start_of.ensures
