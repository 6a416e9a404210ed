-- `pictures::moving::all_inside` meets its contract. The loop's invariant: the moved pixels before e are inside.
-- Assumes nothing.
use Rattle.scope.specs.Plans.{at}
use Rattle.pictures.proofs.Moved.{InsideBefore}
use Rattle.pictures.proofs.moving.all_inside.Given as goal

abbrev pub invariant-loop-e : goal.invariant-loop-e
invariant-loop-e l = InsideBefore l.w l.h l.t (at l.i l.j) l.e
