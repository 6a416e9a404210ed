-- `pictures::lists::starts_of` meets its contract. The loop's invariant: the first n entries are filled.
-- Assumes nothing.
use Rattle.scope.specs.declared.Refusal.{Refusal}
use Rattle.std.specs.Prelude.{Result}
use Rattle.std.proofs.Common.{◌≡◌, ℕ, ◌<◌, List, sym, ap, ◌∙◌, subst, ap₂, arith}
use lib.ListN.{length-replicate}
use Rattle.scope.specs.Plans.{pattern_at}
use Rattle.scope.specs.Calls.{book_test, picture_test}
use Rattle.scope.specs.declared.Book.{Book}
use Rattle.scope.specs.declared.Plan.{Plan}
use Rattle.scope.proofs.PlanFacts.{is_plan_iff}
use Rattle.checks.proofs.FilledArrays.{filled_none, filled_more}
use Rattle.book.proofs.Scanning.{entry_number_below}
use Rattle.finder.specs.declared.clash.Suited.{Suited}
use Rattle.pictures.specs.Fetching.{found_by, entry_for}
use Rattle.pictures.specs.Lists.{BegunAt}
use Rattle.pictures.proofs.CallTests.{picture_test_iff}
use Rattle.pictures.proofs.Starts.{found_by_lem, entry_is, entry_size, start_is}
use Rattle.pictures.proofs.lists.starts_of.Lts as lts
use Rattle.pictures.proofs.lists.starts_of.Tie as tie
use Rattle.pictures.proofs.lists.starts_of.Reads as reads
use Rattle.pictures.proofs.lists.starts_of.Invariants.{start_of, unset}
use Rattle.pictures.proofs.lists.starts_of.Goals as goal

-- what is known at a step of the code
abbrev Start : Type 0
Start = lts.Start tie.the-claims reads.Pre reads.Post goal.the-invariant-loop-n goal.the-decreases-loop-n

module _ {book : Book} {r : ℕ} {p : Plan} {W H words n : ℕ} {start : Suited} where
  begun-value : BegunAt book r p W H words n start → start ≡ start_of book r p W H words n
  begun-value begun =
      ap₂ (λ (o : Result Unit Refusal) (es : List ℕ). record { outcome = o; positions = es }) begun.outcome_is begun.positions_are

  value-begun : start ≡ start_of book r p W H words n → BegunAt book r p W H words n start
  value-begun e = record { outcome_is = ap (λ (s : Suited). s.outcome) e; positions_are = ap (λ (s : Suited). s.positions) e }

-- the book and the picture were tested, and the record that stands for a number is taken
module _ (c : goal.After-entry_number-k) where
  abbrev asked : goal.After-picture_outcome-picture
  asked = c.before.before.before

  abbrev given : Start
  given = asked.before.before

  book-found : found_by asked.book_outcome-tested.result ≡ book_test given.args.book given.args.r
  book-found = found_by_lem _ asked.book_outcome-tested.ensures

  picture-found : let u = given.args in found_by asked.picture_outcome-picture.result ≡ picture_test u.p u.w u.h u.words
  picture-found = found_by_lem _ asked.picture_outcome-picture.ensures

  below-16 : c.entry_number-k.result < 16
  below-16 = subst (λ (k : ℕ). k < 16) (sym c.entry_number-k.ensures) (entry_number_below c.loop-n.n)

  own-entry : pattern_at given.args.book c.entry_number-k.result ≡ entry_for given.args.book c.loop-n.n
  own-entry = entry_is _ _ c.entry_number-k.ensures

pub start_answer-requires : goal.start_answer-requires
unfolding pattern_at
start_answer-requires c = (
  λ passed. entry_size _ _ _ (book-found c.before) (own-entry c.before) passed,
  λ passed. (is_plan_iff _).1 ((picture_test_iff _ _ _ _).0 (sym (picture-found c.before) ∙ passed)).plan,
)

pub loop-n-preserved : goal.loop-n-preserved
unfolding pattern_at
loop-n-preserved c =
    filled_more c.loop-n.invariant
    (begun-value (start_is _ _ _ _ _ _ _ (book-found c.before.before) (picture-found c.before.before) (own-entry c.before.before) c.start_answer.ensures))

pub returns : goal.returns
returns c =
    let l = c.loop-n.invariant in
    record { found = λ m h. value-begun (l.new m (omega arith) (omega (arith, l.size, length-replicate 17 unset))) }

pub loop-n-init : goal.loop-n-init
loop-n-init c =
    filled_none _

pub offset_bounds-book-k : goal.offset_bounds-book-k
offset_bounds-book-k c =
    record { fits = omega (arith, below-16 c) }

pub bounds-book-k : goal.bounds-book-k
bounds-book-k c =
    below-16 c
