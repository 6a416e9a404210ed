-- `finder::checking::surplus_of` meets its contract: a plan without a clash suits for r and has at least as many banks as the finder's,
-- so the surplus does not wrap.
-- Assumes nothing.
use Prim.Native.Nat.{ℕ, ◌-◌, ◌≤◌}
use native.Mathlib.Omega.{arith}
use mathlib.Core.Path.{◌≡◌, sym, ◌∙◌, ap}
use mathlib.Core.Bool.{true}
use mathlib.Core.Option.{none}
use Rattle.scope.specs.Plans.{patterns, banks}
use Rattle.scope.specs.Cycles.{suits_all_for, least_count_for}
use Rattle.scope.specs.Calls.{book_test}
use Rattle.scope.specs.promises.Meaning.{IsPlan}
use Rattle.scope.specs.declared.Plan.{Plan}
use Rattle.scope.specs.declared.Book.{Book}
use Rattle.scope.specs.declared.Verdict.{Verdict}
use Rattle.scope.proofs.PlanFacts.{plan_means}
use Rattle.checks.proofs.BookTests.{book_legal_iff, book_test_iff}
use Rattle.lattice.proofs.LongClashes.{long_clashes_lem}
use Rattle.finder.proofs.Checks.{judged_suits}
use Rattle.finder.proofs.LeastCounts.{least_count_at_most, number_is_least, book_is_counted}
use Rattle.finder.proofs.checking.surplus_of.Lts as lts
use Rattle.finder.proofs.checking.surplus_of.Tie as tie
use Rattle.finder.proofs.checking.surplus_of.Reads as reads
use Rattle.finder.proofs.checking.surplus_of.Goals as goal

-- what is known at a step of the code
abbrev After-least_count-least : Type 0
After-least_count-least = lts.After-least_count tie.the-claims reads.Pre reads.Post

abbrev Start : Type 0
Start = lts.Start tie.the-claims reads.Pre reads.Post

module _ (c : Start) where
  abbrev p : Plan
  p = c.args.p.plan

  abbrev book : Book
  book = c.args.book

  abbrev r : ℕ
  r = c.args.r

  is-plan : IsPlan p
  is-plan = plan_means p c.args.p.is

  legal : book_test book r ≡ none
  legal = (book_test_iff book r).1 ((book_legal_iff book).0 c.requires.0, (c.requires.1, c.requires.2))

  suiting : suits_all_for r p (patterns book) ≡ true
  suiting = ((long_clashes_lem r p is-plan.a_least is-plan.d_least).none_in_book (patterns book)).0 c.requires.3

-- the arm of a count
module _ (c : goal.After-banks) where
  abbrev counted : After-least_count-least
  counted = c.before.before.before

  abbrev start : Start
  start = counted.before

  abbrev n : ℕ
  n = c.in-Ok.n

  least-is : n ≡ least_count_for (r start) (patterns (book start))
  least-is = number_is_least (book start) (r start) (legal start) counted.least_count-least.ensures c.in-Ok.is

  most : c.banks.result ≤ 1024
  unfolding banks
  most = omega (arith, c.banks.ensures, (is-plan start).most)

  least-most : n ≤ c.banks.result
  least-most =
      omega (
        arith,
        least-is,
        c.banks.ensures,
        least_count_at_most (r start) (patterns (book start)) (p start) (is-plan start) (suiting start),
      )

  surplus-is : c.banks.result - n ≡ banks (p start) - least_count_for (r start) (patterns (book start))
  surplus-is = omega (arith, c.banks.ensures, least-is)

pub returns-in-Ok : goal.returns-in-Ok
returns-in-Ok c =
    let s = start c in
    ap (λ (surplus : ℕ). Verdict.Suits (record { plan = p s; surplus = surplus })) (surplus-is c)
    ∙ sym (judged_suits (r s) (patterns (book s)) (p s) s.requires.3)

-- a book is counted
pub returns-in-Err : goal.returns-in-Err
returns-in-Err c =
    absurd (book_is_counted _ _ (legal c.before.before) c.least_count-least.ensures c.in-Err.is)

pub overflow_sub-surplus : goal.overflow_sub-surplus
overflow_sub-surplus c =
    omega (arith, least-most c)

pub overflow_cast-surplus : goal.overflow_cast-surplus
overflow_cast-surplus c =
    omega (arith, most c)
