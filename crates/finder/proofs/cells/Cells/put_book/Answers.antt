-- `finder::cells::Cells::put_book` meets its contract. The loop's invariant: the entries of the patterns before n are put.
-- Assumes nothing.
use Prim.Native.Nat.{ℕ, ◌*◌}
use native.Mathlib.Omega.{arith}
use mathlib.Core.Path.{refl, ◌∙◌, subst}
use mathlib.Core.List.{List}
use Rattle.scope.specs.Plans.{pattern_at}
use Rattle.checks.proofs.FilledArrays.{Filled, filled_none}
use Rattle.checks.proofs.BookTests.{book_legal_iff}
use Rattle.finder.proofs.BookCells.{entry_at, one_more_pattern, all_entries_put}
use Rattle.finder.proofs.cells.Cells.put_book.Goals as goal

pub loop-n-init : goal.loop-n-init
loop-n-init c = (filled_none _, refl)

pub put_entries-requires : goal.put_entries-requires
unfolding pattern_at
put_entries-requires c =
    let book = (book_legal_iff c.args.book.now).0 c.requires.0 in ((book.each c.loop-n.n c.loop-n-test.true).most, omega (arith, book.most, c.loop-n-test.true))

pub loop-n-preserved : goal.loop-n-preserved
unfolding pattern_at
loop-n-preserved c =
    (one_more_pattern c.args.book.now c.loop-n.n c.loop-n.invariant.0 c.put_entries.ensures.0, c.put_entries.ensures.1 ∙ c.loop-n.invariant.1)

pub returns : goal.returns
returns c =
    let book = c.args.book.now in
    let filled = c.loop-n.invariant.0 in (
      all_entries_put book (65 * c.loop-n.n)
          (subst (λ (xs : List ℕ). Filled 0 (entry_at book) (65 * c.loop-n.n) xs c.loop-n.self.entries) c.requires.1 filled)
          (omega arith),
      c.loop-n.invariant.1,
    )

pub offset_bounds-book-n : goal.offset_bounds-book-n
offset_bounds-book-n c = omega (arith, ((book_legal_iff c.args.book.now).0 c.requires.0).most)

pub bounds-book-n : goal.bounds-book-n
bounds-book-n c = omega (arith, ((book_legal_iff c.args.book.now).0 c.requires.0).most)
