-- `book::writer::byte_count` meets its contract. The loop's invariant: `size` is the length of the pattern count and the bytes
-- of the first n patterns.
-- Assumes nothing.
use Prim.Native.Nat.{ℕ}
use native.Mathlib.Omega.{arith}
use mathlib.Core.Path.{◌≡◌, sym, ◌∙◌, ap}
use lib.ListN.{length}
use Rattle.scope.specs.Plans.{pattern_at}
use Rattle.book.proofs.PutBooks.{patterns_put, length_no_pattern, length_one_more_pattern, all_patterns_put}
use Rattle.book.proofs.PutBooks.{pattern_fits}
use Rattle.book.proofs.writer.byte_count.Goals as goal

pub loop-n-init : goal.loop-n-init
loop-n-init c = sym (length_no_pattern c.args.book)

pub loop-n-preserved : goal.loop-n-preserved
unfolding pattern_at
loop-n-preserved c =
    sym (length_one_more_pattern c.args.book c.loop-n.n ∙ omega (arith, c.loop-n.invariant))

pub returns : goal.returns
returns c =
    let book = c.args.book in
    let done : c.loop-n.n ≡ book.count = omega arith in
    c.loop-n.invariant ∙ ap (λ (n : ℕ). length (patterns_put book n)) done ∙ ap length (all_patterns_put book)

pub offset_bounds-book-n : goal.offset_bounds-book-n
offset_bounds-book-n c =
    omega (arith, pattern_fits c.args.book c.loop-n.n c.requires c.loop-n-test.true)

pub bounds-book-n : goal.bounds-book-n
bounds-book-n c =
    omega (arith, pattern_fits c.args.book c.loop-n.n c.requires c.loop-n-test.true)

pub overflow_add-size : goal.overflow_add-size
unfolding pattern_at
overflow_add-size c =
    omega (arith, pattern_fits c.args.book c.loop-n.n c.requires c.loop-n-test.true)

pub overflow_mul-size : goal.overflow_mul-size
unfolding pattern_at
overflow_mul-size c =
    omega (arith, pattern_fits c.args.book c.loop-n.n c.requires c.loop-n-test.true)

pub overflow_add-size-in-loop-n : goal.overflow_add-size-in-loop-n
unfolding pattern_at
overflow_add-size-in-loop-n c =
    omega (arith, pattern_fits c.args.book c.loop-n.n c.requires c.loop-n-test.true)
