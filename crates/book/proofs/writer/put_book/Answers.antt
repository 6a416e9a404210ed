-- `book::writer::put_book` meets its contract. The loop's invariant: the pattern count and the bytes of the first n patterns
-- were put, and end at `at`.
-- Assumes nothing.
use Prim.Native.Nat.{ℕ, ◌+◌, ◌*◌, ◌-◌, ◌≤◌, ◌<◌}
use native.Mathlib.Omega.{arith}
use mathlib.Core.Path.{◌≡◌, sym, ◌∙◌}
use mathlib.Core.Option.{none}
use mathlib.Core.List.{List, flat_map}
use lib.ListN.{length, set, length-set, length-take, length-drop}
use Rattle.scope.specs.Search.{gather}
use Rattle.scope.specs.Plans.{pattern_at}
use Rattle.scope.specs.Books.{book_bytes}
use Rattle.scope.specs.Numbers.{record_test}
use Rattle.scope.specs.declared.Book.{Book}
use Rattle.checks.proofs.BookTests.{book_legal_iff}
use Rattle.checks.proofs.Outputs.{Put, first_put, all_put}
use Rattle.book.proofs.PutBooks.{patterns_put, length_no_pattern, length_one_more_pattern, pattern_put, all_patterns_put}
use Rattle.book.proofs.PutBooks.{PatternFits, pattern_fits}
use Rattle.book.proofs.writer.put_book.Goals as goal

-- in a turn the pattern is one of the book, and there is room for its bytes
module _ (book : Book) {n : ℕ} (legal : record_test book ≡ none) (below : n < book.count) where
  fits : PatternFits book n
  fits = pattern_fits book n legal below

  room :
      {at : ℕ} (before : List ℕ) {out : List ℕ} → length (book_bytes book) ≤ length before → at ≡ length (patterns_put book n)
      → Put (patterns_put book n) (set before 0 book.count) out → at + 1 + 2 * (pattern_at book n).used ≤ length out
  room before enough here put =
      omega (arith, fits, here, enough, put.same_length, length-set before 0 book.count)

pub overflow_cast-out : goal.overflow_cast-out
overflow_cast-out c = omega (arith, ((book_legal_iff c.args.book).0 c.requires.0).most)

pub bounds-out-0 : goal.bounds-out-0
unfolding book_bytes
bounds-out-0 c = omega (arith, c.requires.1)

pub loop-n-init : goal.loop-n-init
unfolding flat_map gather
loop-n-init c =
    let u = c.args in (sym (length_no_pattern u.book), first_put u.book.count u.out.now (bounds-out-0 c))

pub offset_bounds-book-n : goal.offset_bounds-book-n
offset_bounds-book-n c = omega (arith, fits c.args.book c.requires.0 c.loop-n-test.true)

pub bounds-book-n : goal.bounds-book-n
bounds-book-n c = omega (arith, fits c.args.book c.requires.0 c.loop-n-test.true)

pub slice_bounds-put_pattern-count : goal.slice_bounds-put_pattern-count
slice_bounds-put_pattern-count c = omega (arith, room c.args.book c.requires.0 c.loop-n-test.true _ c.requires.1 c.loop-n.invariant.0 c.loop-n.invariant.1)

pub slice_bounds-put_pattern-start : goal.slice_bounds-put_pattern-start
slice_bounds-put_pattern-start c = omega (arith, room c.args.book c.requires.0 c.loop-n-test.true _ c.requires.1 c.loop-n.invariant.0 c.loop-n.invariant.1)

pub put_pattern-requires : goal.put_pattern-requires
unfolding pattern_at
put_pattern-requires c = (
  (fits c.args.book c.requires.0 c.loop-n-test.true).pixel_count,
  simp (length-take, length-drop)
      (omega (arith, room c.args.book c.requires.0 c.loop-n-test.true _ c.requires.1 c.loop-n.invariant.0 c.loop-n.invariant.1)),
)

pub overflow_add-at : goal.overflow_add-at
unfolding pattern_at
overflow_add-at c = omega (arith, fits c.args.book c.requires.0 c.loop-n-test.true, c.loop-n.invariant.0)

pub overflow_mul-at : goal.overflow_mul-at
unfolding pattern_at
overflow_mul-at c = omega (arith, fits c.args.book c.requires.0 c.loop-n-test.true, c.loop-n.invariant.0)

pub overflow_add-at-in-loop-n : goal.overflow_add-at-in-loop-n
unfolding pattern_at
overflow_add-at-in-loop-n c = omega (arith, fits c.args.book c.requires.0 c.loop-n-test.true, c.loop-n.invariant.0)

pub loop-n-preserved : goal.loop-n-preserved
unfolding pattern_at
loop-n-preserved c =
    let book = c.args.book in
    let l = c.loop-n in
    let (place, put) = l.invariant in (
      sym (length_one_more_pattern book l.n ∙ omega (arith, place)),
      pattern_put book l.n c.put_pattern.new.out l.at (length l.out - l.at) put place
          (omega (arith, put.same_length))
          (omega (arith, room c.args.book c.requires.0 c.loop-n-test.true _ c.requires.1 c.loop-n.invariant.0 c.loop-n.invariant.1, put.same_length))
          c.put_pattern.ensures,
    )

pub shape_of-out : goal.shape_of-out
shape_of-out c = c.loop-n.invariant.1.same_length ∙ length-set c.args.out.now 0 _

pub returns : goal.returns
returns c =
    let u = c.args in
    let book = u.book in
    let done : c.loop-n.n ≡ book.count = omega arith in
    let put : Put (patterns_put book book.count) (set u.out.now 0 book.count) c.loop-n.out =
    rw done at c.loop-n.invariant.1 in
    all_put book.count book.count _ (book_bytes book) u.out.now c.loop-n.out put (all_patterns_put book)
