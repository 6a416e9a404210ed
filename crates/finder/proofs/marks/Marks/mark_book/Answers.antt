-- `finder::marks::Marks::mark_book` meets its contract. The loop's invariant: the differences of the patterns before the n-th are marked.
-- Assumes nothing.
use Prim.Native.Nat.{ℕ}
use native.Mathlib.Numerals.{add-one}
use native.Mathlib.Omega.{arith}
use mathlib.Core.Path.{◌≡◌, ◌∙◌, ap}
use mathlib.Core.List.{List}
use Rattle.scope.specs.Plans.{pattern_at}
use Rattle.checks.proofs.BookTests.{book_legal_iff}
use Rattle.finder.specs.Table.{mark_pattern, mark_book}
use Rattle.finder.proofs.marks.Marks.mark_book.Goals as goal

pub loop-n-init : goal.loop-n-init
unfolding mark_book
loop-n-init c = c.requires.1

pub mark_pattern-requires : goal.mark_pattern-requires
unfolding pattern_at
mark_pattern-requires c = (((book_legal_iff c.args.book.now).0 c.requires.0).each c.loop-n.n (omega arith)).most

pub loop-n-preserved : goal.loop-n-preserved
unfolding mark_book
loop-n-preserved c =
    let t = pattern_at c.args.book.now c.loop-n.n in
    let turn : List ℕ → List ℕ = mark_pattern t t.used in
    rw (add-one c.loop-n.n) (c.mark_pattern.ensures ∙ ap turn c.loop-n.invariant)

pub returns : goal.returns
returns c =
    let book = c.args.book.now in
    let done : c.loop-n.n ≡ book.count = omega arith in
    c.loop-n.invariant ∙ ap (mark_book book) done

pub offset_bounds-book-n : goal.offset_bounds-book-n
offset_bounds-book-n c = omega (arith, ((book_legal_iff c.args.book.now).0 c.requires.0).most)

pub bounds-book-n : goal.bounds-book-n
bounds-book-n c = omega (arith, ((book_legal_iff c.args.book.now).0 c.requires.0).most)
