-- `pictures::moving::put_words` meets its contract. The loop's invariant: the words at the first e places were put.
-- Assumes nothing.
use Rattle.checks.proofs.Outputs.{Put}
use Rattle.pictures.proofs.Wrapped.{words_from}
use Rattle.pictures.proofs.moving.put_words.Given as goal

abbrev pub invariant-loop-e : goal.invariant-loop-e
invariant-loop-e l = Put (words_from l.mem l.places l.e) l.initial.out l.out
