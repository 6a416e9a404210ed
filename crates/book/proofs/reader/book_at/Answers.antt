-- `book::reader::book_at` meets its contract: before each turn `at` is the place of pattern n's pixel count, and the
-- array is filled with the first n patterns.
-- Assumes nothing.
use Prim.Native.Nat.{ℕ, ◌+◌, ◌*◌, ◌≤◌, ◌<◌}
use native.Mathlib.Omega.{arith}
use mathlib.Core.Path.{◌≡◌, refl, ◌∙◌, ap}
use mathlib.Core.List.{List}
use mathlib.Core.Option.{none}
use lib.ListN.{length, get_or}
use Rattle.scope.specs.Books.{byte, start, pattern_from, pattern_of, book_in}
use Rattle.scope.specs.Numbers.{bytes_test}
use Rattle.checks.proofs.FilledArrays.{filled_none, filled_more}
use Rattle.book.proofs.Bytes.{pattern_in}
use Rattle.book.proofs.Taken.{step_to_next, pattern_bounds, count_inside}
use Rattle.book.proofs.Fills.{patterns_filled}
use Rattle.book.proofs.reader.book_at.Goals as goal

-- in a turn the counts are legal, and the pattern is inside
bounds :
    (s : List ℕ) {n at : ℕ} → bytes_test s ≡ none → n < get_or s 0 0 → at ≡ start s n
    → (n < 16) × (byte s at ≤ 64) × (at + 1 + 2 * byte s at ≤ length s)
unfolding byte
bounds s {n} legal below here = pattern_bounds s legal n here below

pub bounds-s-0 : goal.bounds-s-0
bounds-s-0 c = count_inside _ c.requires

pub loop-n-init : goal.loop-n-init
unfolding start
loop-n-init c = (refl, rw c.empty_pattern-empty.ensures (filled_none _))

pub loop-n-preserved : goal.loop-n-preserved
unfolding byte
loop-n-preserved c =
    let n = c.loop-n.n in
    let (here, filled) = c.loop-n.invariant in (
      step_to_next c.args.s.now n here,
      filled_more filled (c.pattern_at-t.ensures ∙ ap (λ i. pattern_of (pattern_from c.args.s.now i)) here),
    )

pub returns : goal.returns
unfolding book_in
returns c =
    let end : get_or c.args.s.now 0 0 ≡ c.loop-n.n = omega arith in
    rw (end, book_in) (patterns_filled (pattern_in c.args.s.now) c.loop-n.n c.loop-n.invariant.1)

pub pattern_at-t-requires : goal.pattern_at-t-requires
pattern_at-t-requires c =
    ((bounds _ c.requires c.loop-n-test.true c.loop-n.invariant.0).1, (bounds _ c.requires c.loop-n-test.true c.loop-n.invariant.0).2)

pub offset_bounds-patterns-n : goal.offset_bounds-patterns-n
offset_bounds-patterns-n c =
    omega (arith, bounds _ c.requires c.loop-n-test.true c.loop-n.invariant.0)

pub bounds-patterns-n : goal.bounds-patterns-n
bounds-patterns-n c =
    omega (arith, bounds _ c.requires c.loop-n-test.true c.loop-n.invariant.0)

pub overflow_add-at : goal.overflow_add-at
overflow_add-at c =
    omega (arith, bounds _ c.requires c.loop-n-test.true c.loop-n.invariant.0)

pub bounds-s-at : goal.bounds-s-at
bounds-s-at c =
    omega (arith, bounds _ c.requires c.loop-n-test.true c.loop-n.invariant.0)

pub overflow_cast-at : goal.overflow_cast-at
overflow_cast-at c =
    omega (arith, bounds _ c.requires c.loop-n-test.true c.loop-n.invariant.0)

pub overflow_mul-at : goal.overflow_mul-at
overflow_mul-at c =
    omega (arith, bounds _ c.requires c.loop-n-test.true c.loop-n.invariant.0)

pub overflow_add-at-in-loop-n : goal.overflow_add-at-in-loop-n
overflow_add-at-in-loop-n c =
    omega (arith, bounds _ c.requires c.loop-n-test.true c.loop-n.invariant.0)
