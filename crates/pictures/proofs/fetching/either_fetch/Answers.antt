-- `pictures::fetching::either_fetch` meets its contract: the first tests, then the rest with the record that stands for the pattern.
-- Assumes nothing.
use Rattle.std.proofs.Common.{◌≡◌, ℕ, ◌<◌, length, sym, ◌∙◌, subst, arith}
use Rattle.scope.specs.Calls.{book_test, picture_test}
use Rattle.scope.proofs.PlanFacts.{is_plan_iff}
use Rattle.scope.specs.Plans.{pattern_at}
use Rattle.book.proofs.Scanning.{entry_number_below}
use Rattle.pictures.specs.Fetching.{found_by, entry_for}
use Rattle.pictures.specs.Lists.{BegunAt}
use Rattle.pictures.proofs.CallTests.{picture_test_iff}
use Rattle.scope.proofs.PlanFacts.{pixel_handed}
use Rattle.pictures.proofs.Starts.{found_by_lem, entry_is, entry_size, start_is, started, fetched_by_entry}
use Rattle.pictures.proofs.fetching.either_fetch.Lts as lts
use Rattle.pictures.proofs.fetching.either_fetch.Tie as tie
use Rattle.pictures.proofs.fetching.either_fetch.Reads as reads
use Rattle.pictures.proofs.fetching.either_fetch.Goals as goal

-- what is known at a step of the code
abbrev After-entry_number-k : Type 0
After-entry_number-k = lts.After-entry_number tie.the-claims reads.Pre reads.Post tie.handed_clauses

abbrev After-picture_outcome-picture : Type 0
After-picture_outcome-picture = lts.After-picture_outcome tie.the-claims reads.Pre reads.Post tie.handed_clauses

abbrev After-start_answer-start : Type 0
After-start_answer-start = lts.After-start_answer tie.the-claims reads.Pre reads.Post tie.handed_clauses

abbrev Start : Type 0
Start = lts.Start tie.the-claims reads.Pre reads.Post tie.handed_clauses

-- the book and the picture were tested
module _ (c : After-picture_outcome-picture) where
  abbrev given : Start
  given = c.before.before.before.before

  book-found : found_by c.book_outcome-tested.result ≡ book_test given.args.book given.args.r
  book-found = found_by_lem _ c.book_outcome-tested.ensures

  picture-found :
      let u = given.args in
      found_by c.picture_outcome-picture.result ≡ picture_test u.p u.w u.h (length u.mem.now)
  picture-found = found_by_lem _ c.picture_outcome-picture.ensures

-- the record that stands for the pattern is taken
module _ (c : After-entry_number-k) where
  abbrev asked : After-picture_outcome-picture
  asked = c.before

  below-16 : c.entry_number-k.result < 16
  below-16 = subst (λ (k : ℕ). k < 16) (sym c.entry_number-k.ensures) (entry_number_below (given asked).args.n)

  own-entry : pattern_at (given asked).args.book c.entry_number-k.result ≡ entry_for (given asked).args.book (given asked).args.n
  own-entry = entry_is _ _ c.entry_number-k.ensures

pub start_answer-start-requires : goal.start_answer-start-requires
unfolding pattern_at
start_answer-start-requires c = (
  λ passed. entry_size _ _ _ (book-found (asked c.before.before)) (own-entry c.before.before) passed,
  λ passed. (is_plan_iff _).1 ((picture_test_iff _ _ _ _).0 (sym (picture-found (asked c.before.before)) ∙ passed)).plan,
)

-- and what a fetch begins with is known
begun :
    (c : After-start_answer-start) →
    let u = (given (asked c.before.before)).args in
    BegunAt u.book u.r u.p u.w u.h (length u.mem.now) u.n c.start_answer-start.result
unfolding pattern_at
begun c =
    start_is _ _ _ _ _ _ _ (book-found (asked c.before.before)) (picture-found (asked c.before.before)) (own-entry c.before.before) c.start_answer-start.ensures

pub fetch_rest-counted-requires : goal.fetch_rest-counted-requires
unfolding pattern_at
fetch_rest-counted-requires c =
    λ e.
    let shown = started _ _ _ _ _ _ _ (sym (found_by_lem _ (begun c.before.before.before).outcome_is) ∙ e) in
    (shown.picture, rw (own-entry c.before.before.before.before.before) shown.most)

pub returns : goal.returns
unfolding pattern_at
returns c =
    let f = (given (asked c.before.before.before.before.before.before.before.before)).ranges in
    let (answer, left) = fetched_by_entry _ _ _ _ _ _ _ _ _ _ (begun c.before.before.before.before.before.before) (own-entry c.before.before.before.before.before.before.before.before) (pixel_handed f.i f.j) c.fetch_rest-counted.ensures in
    record { answer = answer; left = left }

pub offset_bounds-book-k : goal.offset_bounds-book-k
offset_bounds-book-k c =
    record { fits = omega (arith, below-16 c.before) }

pub bounds-book-k : goal.bounds-book-k
bounds-book-k c =
    below-16 c.before
