-- `pictures::sums::put_sums` meets its contract. The loop's invariant: the sums of the first k banks are put.
-- Assumes nothing.
use Rattle.std.proofs.Common.{ℕ, ◌+◌, ◌*◌, List, take, drop}
use mathlib.Core.List.{foldr}
use Rattle.scope.specs.Search.{gather}
use Rattle.checks.proofs.Outputs.{Put}
use Rattle.pictures.proofs.sums.put_sums.Given as goal

-- the sum of the words of bank k
abbrev pub sum_at : ℕ → List ℕ → ℕ → ℕ
sum_at deep mem k = foldr ◌+◌ 0 (take deep (drop (k * deep) mem))

abbrev pub invariant-loop-k : goal.invariant-loop-k
invariant-loop-k l = Put (gather 0 l.k (sum_at l.deep l.mem)) l.initial.sums l.sums
