-- `pictures::moving::find_places` meets its contract. The loop's invariant: the first e places are those of the pixels.
-- Assumes nothing.
use Rattle.checks.proofs.FilledArrays.{Filled}
use Rattle.scope.specs.Plans.{at}
use Rattle.pictures.proofs.Wrapped.{place_for}
use Rattle.pictures.proofs.moving.find_places.Given as goal

abbrev pub invariant-loop-e : goal.invariant-loop-e
invariant-loop-e l = Filled 0 (place_for l.p l.w l.h l.t (at l.i l.j)) l.e l.initial.places l.places
