-- `capi::flat::put_pixels` meets its contract. The loop's invariant: the first k entries are the record's.
-- Assumes nothing.
use Prim.Native.Nat.{ℕ, ◌/◌, ◌%◌}
use mathlib.Core.List.{List}
use lib.IntN.{ℤ, pos}
use lib.ListN.{get_or, replicate}
use Rattle.scope.specs.Plans.{pattern_at}
use Rattle.scope.specs.declared.Pattern.{Pattern}
use Rattle.scope.specs.declared.Book.{Book}
use Rattle.checks.proofs.FilledArrays.{Filled}
use Rattle.capi.proofs.flat.put_pixels.Given as goal

-- the first k entries of xs are those of the columns, or of the rows, of the patterns one after the other
abbrev pub Flattened : (Pattern → List ℤ) → Book → ℕ → List ℤ → Type 0
Flattened part book k xs =
    Filled (pos 0) (λ m. get_or (part (pattern_at book (m / 64))) (m % 64) (pos 0)) k (replicate 1024 (pos 0)) xs

abbrev pub invariant-loop-k : goal.invariant-loop-k
invariant-loop-k l =
    Flattened (λ t. t.columns) l.book l.k l.columns × Flattened (λ t. t.rows) l.book l.k l.rows
