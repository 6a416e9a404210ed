-- `finder::checking::first_clash` meets its contract. The loop's invariant: the patterns before the n-th have no clash.
-- Assumes nothing.
use Prim.Native.Nat.{ℕ}
use native.Mathlib.Omega.{arith}
use mathlib.Core.Path.{◌≡◌, sym, ◌∙◌, ap}
use mathlib.Core.Option.{Option, map}
use borrow.Author.Count.{below_none, below_more}
use Rattle.scope.specs.Plans.{pattern_at}
use Rattle.scope.specs.Cycles.{LongClash, shortened}
use Rattle.scope.specs.promises.Meaning.{IsBook}
use Rattle.checks.proofs.BookTests.{book_legal_iff}
use Rattle.finder.proofs.Verdicts.{pattern_clash, clash_at_lem, clash_nowhere}
use Rattle.finder.specs.Clashing.{met_at}
use Rattle.std.specs.Prelude.{Some}
use Rattle.finder.proofs.MetAnswers.{at_clash, nowhere_clash}
use Rattle.finder.proofs.checking.first_clash.Lts as lts
use Rattle.finder.proofs.checking.first_clash.Tie as tie
use Rattle.finder.proofs.checking.first_clash.Reads as reads
use Rattle.finder.proofs.checking.first_clash.Goals as goal

-- what is known at a step of the code
abbrev After-clash_in-met : Type 0
After-clash_in-met = lts.After-clash_in tie.the-claims reads.Pre reads.Post goal.the-invariant-loop-n goal.the-decreases-loop-n

abbrev At-loop-n : Type 0
At-loop-n = lts.At-loop tie.the-claims reads.Pre reads.Post goal.the-invariant-loop-n goal.the-decreases-loop-n

pub loop-n-init : goal.loop-n-init
loop-n-init c = (omega arith, below_none _)

-- the book is legal
legal : (l : At-loop-n) → IsBook l.args.book
legal l = (book_legal_iff l.args.book).0 l.requires.0

pub offset_bounds-book-n : goal.offset_bounds-book-n
offset_bounds-book-n c = record { fits = omega (arith, (legal c.before).most) }

pub bounds-book-n : goal.bounds-book-n
bounds-book-n c = omega (arith, (legal c.before).most)

pub clash_in-met-requires : goal.clash_in-met-requires
unfolding pattern_at
clash_in-met-requires c =
    (((legal c.before.before).each c.loop-n.n c.loop-n-test.true).most, omega (arith, c.requires.1))

-- in a turn, where it is known what was met in the n-th pattern
module _ (c : After-clash_in-met) where
  abbrev head : At-loop-n
  head = c.before.before.before

  abbrev n : ℕ
  n = head.loop-n.n

  abbrev here : Option LongClash
  here = pattern_clash head.args.r head.args.p.plan head.args.book n

  pattern-answer : c.clash_in-met.result ≡ met_at (map shortened here)
  unfolding pattern_at
  pattern-answer = c.clash_in-met.ensures

pub returns-in-Some : goal.returns-in-Some
unfolding met_at
returns-in-Some c =
    let told = c.in-Some.is in
    let (l, found, is) = at_clash (here c.before) (pattern-answer c.before) told in
    told ∙ ap Some is
    ∙ ap (λ (o : Option LongClash). met_at (map shortened o))
    (sym (clash_at_lem _ _ _ (n c.before) l c.loop-n-test.true (head c.before).loop-n.invariant.1 found))

pub loop-n-preserved : goal.loop-n-preserved
loop-n-preserved c =
    (omega arith, below_more _ _ (head c.before).loop-n.invariant.1 (nowhere_clash (here c.before) (pattern-answer c.before) c.in_default.is))

pub returns : goal.returns
unfolding met_at
returns c =
    ap (λ (o : Option LongClash). met_at (map shortened o))
    (sym (clash_nowhere _ _ _ (λ n h. c.loop-n.invariant.1 n (omega (arith, c.loop-n-test.false)))))
