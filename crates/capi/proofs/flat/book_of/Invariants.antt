-- `capi::flat::book_of` meets its contract. The loop's invariant: the first n patterns are those of the arrays, the others empty.
-- Assumes nothing.
use Prim.Native.Nat.{ℕ}
use mathlib.Core.Path.{◌≡◌}
use mathlib.Core.List.{List, []}
use lib.IntN.{ℤ}
use lib.ListN.{replicate}
use Rattle.scope.specs.Books.{pattern_of}
use Rattle.scope.specs.declared.Pattern.{Pattern}
use Rattle.checks.proofs.FilledArrays.{Filled}
use Rattle.capi.specs.Flat.{flat_pattern}
use Rattle.capi.proofs.flat.book_of.Given as goal

abbrev pub FilledTo : List ℤ → List ℤ → List ℕ → ℕ → List Pattern → Type 0
FilledTo columns rows used n patterns =
    Filled (pattern_of []) (flat_pattern columns rows used) n (replicate 16 (pattern_of [])) patterns

abbrev pub invariant-loop-n : goal.invariant-loop-n
invariant-loop-n l =
    FilledTo l.columns l.rows l.used l.n l.book.patterns × (l.book.count ≡ l.count)
