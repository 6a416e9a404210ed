-- `finder::checking::judge` meets its contract: the clash that was met is the book's, and the positions of its class are the clash's.
-- Assumes nothing.
use Prim.Native.Nat.{ℕ, ◌<◌}
use native.Mathlib.Omega.{arith}
use mathlib.Core.Path.{◌≡◌, sym, ◌∙◌, ap, subst}
use mathlib.Core.Option.{none, some}
use Rattle.scope.specs.Plans.{pattern_at, pixels, patterns}
use Rattle.scope.specs.Cycles.{LongClash, shortened, clash_in_for, clash_for}
use Rattle.scope.specs.Numbers.{places}
use Rattle.scope.specs.promises.Meaning.{IsBook}
use Rattle.scope.specs.declared.Plan.{Plan}
use Rattle.scope.specs.declared.Book.{Book}
use Rattle.scope.specs.declared.Pattern.{Pattern}
use Rattle.scope.specs.declared.Clash.{Clash}
use Rattle.scope.specs.declared.Verdict.{Verdict}
use Rattle.scope.proofs.PlanFacts.{plan_means}
use Rattle.checks.proofs.BookTests.{book_legal_iff}
use Rattle.checks.proofs.Patterns.{length_pixels}
use Rattle.finder.proofs.Checks.{judged_clash}
use Rattle.finder.proofs.Verdicts.{InItsPattern, in_its_pattern}
use Rattle.finder.proofs.MetAnswers.{at_clash, nowhere_clash, begins_below, class_is_clash}
use Rattle.finder.proofs.checking.judge.Lts as lts
use Rattle.finder.proofs.checking.judge.Tie as tie
use Rattle.finder.proofs.checking.judge.Reads as reads
use Rattle.finder.proofs.checking.judge.Goals as goal

-- what is known at a step of the code
abbrev Start : Type 0
Start = lts.Start tie.the-claims reads.Pre reads.Post

-- a clash was met
module _ (c : goal.In-Some) where
  abbrev start : Start
  start = c.before.before

  abbrev p : Plan
  p = start.args.p.plan

  abbrev book : Book
  book = start.args.book

  abbrev r : ℕ
  r = start.args.r

  abbrev given : Clash
  given = c.in-Some.c

  abbrev t : Pattern
  t = pattern_at book given.pattern

  legal : IsBook book
  legal = (book_legal_iff book).0 start.requires.0

  -- the clash of the book
  met-clash : (l : LongClash) × (clash_for r p (patterns book) ≡ some l) × (given ≡ shortened l)
  met-clash = at_clash _ c.first_clash-met.ensures c.in-Some.is

  abbrev l : LongClash
  l = met-clash.0

  -- is that of its pattern
  in-pattern : InItsPattern r p book l
  in-pattern = let is-plan = plan_means p start.args.p.is in in_its_pattern r p book is-plan.a_least is-plan.d_least l met-clash.1

  number : given.pattern ≡ l.pattern
  unfolding shortened
  number = ap (λ (k : Clash). k.pattern) met-clash.2

  below : given.pattern < book.count
  below = omega (arith, number, in-pattern.below)

  found : clash_in_for r p given.pattern (pixels t) ≡ some l
  found = subst (λ (n : ℕ). clash_in_for r p n (pixels (pattern_at book n)) ≡ some l) (sym number) in-pattern.here

pub offset_bounds-book-n : goal.offset_bounds-book-n
offset_bounds-book-n c = record { fits = omega (arith, below c, (legal c).most) }

pub bounds-book-n : goal.bounds-book-n
bounds-book-n c = omega (arith, below c, (legal c).most)

pub class_positions-positions-requires : goal.class_positions-positions-requires
unfolding pattern_at
class_positions-positions-requires c = (
  ((legal c.before).each (given c.before).pattern (below c.before)).most,
  omega (arith, begins_below (r c.before) (p c.before) (given c.before).pattern (pixels (t c.before)) (found c.before) (met-clash c.before).2, length_pixels (t c.before)),
  omega (arith, (start c.before).requires.2),
)

pub returns-in-Some : goal.returns-in-Some
unfolding pattern_at
returns-in-Some c = (
  ap Verdict.Clashes (met-clash c.before.before).2 ∙ sym (judged_clash (r c.before.before) (patterns (book c.before.before)) (p c.before.before) (l c.before.before) (met-clash c.before.before).1),
  class_is_clash (r c.before.before) (p c.before.before) (given c.before.before).pattern (pixels (t c.before.before)) (found c.before.before) (met-clash c.before.before).2 c.class_positions-positions.ensures
      ∙ ap places (sym (met-clash c.before.before).1),
)

-- nothing was met
no-clash : (c : goal.In_default) → clash_for c.args.r c.args.p.plan (patterns c.args.book) ≡ none
no-clash c = nowhere_clash _ c.first_clash-met.ensures c.in_default.is

pub surplus_of-requires : goal.surplus_of-requires
surplus_of-requires c = (c.requires.0, c.requires.1, c.requires.2, no-clash c)

pub returns : goal.returns
unfolding places
returns c = (c.surplus_of.ensures, ap places (sym (no-clash c.before)))
