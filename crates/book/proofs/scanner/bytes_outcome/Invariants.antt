-- `book::scanner::bytes_outcome` meets its contract. The loop's invariant: the patterns before the n-th have passed their
-- tests, and the n-th stands at the place.
-- Assumes nothing.
use Prim.Native.Nat.{ℕ, ◌≤◌, ◌<◌}
use mathlib.Core.Path.{◌≡◌}
use mathlib.Core.Option.{none}
use mathlib.Core.List.{List}
use lib.ListN.{length}
use Rattle.scope.specs.Books.{start}
use Rattle.scope.specs.Numbers.{pattern_read}
use Rattle.book.proofs.scanner.bytes_outcome.Given as goal

-- the first n patterns have passed their tests, and the next place is where the n-th stands
pub record Scanned (s : List ℕ) (count at n : ℕ) : Type 0 where
  pub below : n ≤ count
  pub here : at ≡ start s n
  pub inside : at ≤ length s
  pub passed : (m : ℕ) → m < n → pattern_read s (start s m) ≡ none

abbrev pub invariant-loop : goal.invariant-loop
invariant-loop l = Scanned l.s l.count l.at l.counter
