-- `book::part::start_of` meets its contract: before each turn `at` is the place of the pixel count of the pattern whose number
-- the loop has reached.
-- Assumes nothing.
use Prim.Native.Nat.{ℕ, ◌+◌, ◌*◌, ◌≤◌, ◌<◌}
use native.Mathlib.Omega.{arith}
use mathlib.Core.Path.{◌≡◌, refl, ◌∙◌, ap}
use mathlib.Core.Option.{none}
use mathlib.Core.List.{List}
use lib.ListN.{length}
use Rattle.scope.specs.Numbers.{bytes_test}
use Rattle.scope.specs.Books.{byte, start}
use Rattle.book.proofs.Taken.{step_to_next, pattern_bounds}
use Rattle.book.proofs.part.start_of.Goals as goal

-- in a turn the counts are legal, and pattern m is inside
bounds :
    (s : List ℕ) {n m at : ℕ} → (bytes_test s ≡ none) × (n ≤ byte s 0) → m < n → at ≡ start s m
    → (m < 16) × (byte s at ≤ 64) × (at + 1 + 2 * byte s at ≤ length s)
bounds s {n} {m} legal below here = pattern_bounds s legal.0 m here (omega (arith, legal.1))

pub loop-init : goal.loop-init
unfolding start
loop-init c = refl

pub loop-preserved : goal.loop-preserved
unfolding byte
loop-preserved c = step_to_next c.args.s.now c.loop.counter c.loop.invariant

pub returns : goal.returns
returns c =
    let end : c.loop.counter ≡ c.args.n = omega arith in
    c.loop.invariant ∙ ap (start c.args.s.now) end

pub overflow_add-at : goal.overflow_add-at
overflow_add-at c =
    omega (arith, bounds _ c.requires c.loop-test.true c.loop.invariant)

pub bounds-s-at : goal.bounds-s-at
bounds-s-at c =
    omega (arith, bounds _ c.requires c.loop-test.true c.loop.invariant)

pub overflow_add-at-in-loop : goal.overflow_add-at-in-loop
unfolding byte
overflow_add-at-in-loop c =
    omega (arith, bounds _ c.requires c.loop-test.true c.loop.invariant)
