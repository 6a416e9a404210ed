-- What a test refuses with where its condition does not hold, and what a call then answers: the refusal of the first such test.
-- Assumes nothing.
use Prim.Native.Nat.{ℕ, ◌*◌, ◌≤◌, ◌<◌}
use mathlib.Core.Path.{◌≡◌, ◌∙◌, ap}
use mathlib.Core.Logic.{◌↔◌}
use mathlib.Core.Bool.{Bool, not, ◌&&◌}
use mathlib.Core.Option.{Option, none, some}
use mathlib.Core.List.{List, ◌∷◌}
use lib.Dec.{leb, ltb, eqb}
use Rattle.scope.specs.Search.{whenever, first_of, every}
use Rattle.scope.specs.Plans.{Pixel, banks, is_plan, determinant_size}
use Rattle.scope.specs.Banks.{inside, depth_of}
use Rattle.scope.specs.Numbers.{Answer, turned_down, limit_test, cycles_test, dependent_test, large_test, plan_test, is_side, sides_test}
use Rattle.scope.specs.Numbers.{memory_test, sums_test, outside_test, bank_test, output_test, number_test, is_ring, ring_test}
use Rattle.scope.specs.Calls.{answered, changed, book_test, picture_test, lent_test, fetch_start, cycles_first}
use Rattle.scope.specs.promises.Meaning.{IsPlan, IsSide, AllInside, IsCycles, Independent, RingAllowed}
use Rattle.scope.specs.declared.Plan.{Plan}
use Rattle.scope.specs.declared.Book.{Book}
use Rattle.scope.specs.declared.Refusal.{Refusal}
use Rattle.scope.specs.declared.Refusal.TheVariants.{Limit, Dependent, Large, NotPlan, Sides, Memory}
use Rattle.scope.specs.declared.Refusal.TheVariants.{Outside, Cell, Output, NoPattern, Ring, Cycles}
use Rattle.checks.proofs.Searches.{whenever_some, whenever_not_none}
use Rattle.checks.proofs.Chains.{chain_refuses, chain_goes_on, answered_some, changed_answer}
use Rattle.checks.proofs.Chains.{book_tests, book_one_by_one, picture_tests, picture_one_by_one, lent_one_by_one, fetch_tests, fetch_one_by_one, cycles_one_by_one}
use Rattle.checks.proofs.Tests.{limit_legal_iff, cycles_legal_iff, independent_iff, size_within_iff, plan_legal_iff, sides_legal_iff, memory_enough_iff, sums_enough_iff}
use Rattle.checks.proofs.Tests.{all_inside_iff, bank_below_iff, output_enough_iff, number_in_book_iff, ring_allowed_iff}

-- The test t finds nothing exactly where P holds, r where it does not, and never another refusal.
pub record Decides (t : Option Refusal) (r : Refusal) (P : Type 0) : Type 0 where
  pub passes : P → t ≡ none
  pub refuses : (P → ⊥) → t ≡ some r
  pub no_other : (s : Refusal) → t ≡ some s → r ≡ s

-- a test with one refusal decides by what it means
whenever_decides : {P : Type 0} (b : Bool) (r : Refusal) → (whenever b r ≡ none) ↔ P → Decides (whenever b r) r P
whenever_decides b r means =
    record {
      passes = means.1;
      refuses = λ fails. whenever_not_none b r (λ e. fails (means.0 e));
      no_other = λ s e. (whenever_some b r s e).1;
    }

-- Each test but those of a book and of 10 has one refusal.
pub limit_decides : (limit : ℕ) → Decides (limit_test limit) Limit ((1 ≤ limit) × (limit ≤ 1024))
unfolding limit_test
limit_decides limit = whenever_decides (not (leb 1 limit && leb limit 1024)) Limit (limit_legal_iff limit)

pub cycles_decide : (r : ℕ) → Decides (cycles_test r) Cycles (IsCycles r)
unfolding cycles_test
cycles_decide r = whenever_decides (not (leb 1 r && leb r 8)) Cycles (cycles_legal_iff r)

pub independent_decides : (x y : Pixel) → Decides (dependent_test x y) Dependent (Independent x y)
unfolding dependent_test
independent_decides x y = whenever_decides (eqb (determinant_size x y) 0) Dependent (independent_iff x y)

pub size_decides : (x y : Pixel) → Decides (large_test x y) Large (determinant_size x y ≤ 1024)
unfolding large_test
size_decides x y = whenever_decides (ltb 1024 (determinant_size x y)) Large (size_within_iff x y)

pub plan_decides : (p : Plan) → Decides (plan_test p) NotPlan (IsPlan p)
unfolding plan_test
plan_decides p = whenever_decides (not (is_plan p)) NotPlan (plan_legal_iff p)

pub sides_decide : (W H : ℕ) → Decides (sides_test W H) Sides (IsSide W × IsSide H)
unfolding sides_test
sides_decide W H = whenever_decides (not (is_side W && is_side H)) Sides (sides_legal_iff W H)

pub memory_decides : (p : Plan) (W H words : ℕ) → Decides (memory_test p W H words) Memory (banks p * depth_of p W H ≤ words)
unfolding memory_test
memory_decides p W H words = whenever_decides (ltb words (banks p * depth_of p W H)) Memory (memory_enough_iff p W H words)

pub sums_decide : (p : Plan) (entries : ℕ) → Decides (sums_test p entries) Memory (banks p ≤ entries)
unfolding sums_test
sums_decide p entries = whenever_decides (ltb entries (banks p)) Memory (sums_enough_iff p entries)

pub inside_decides : (W H : ℕ) (vs : List Pixel) → Decides (outside_test W H vs) Outside (AllInside W H vs)
unfolding outside_test
inside_decides W H vs = whenever_decides (not (every (inside W H) vs)) Outside (all_inside_iff W H vs)

pub bank_decides : (p : Plan) (k : ℕ) → Decides (bank_test p k) Cell (k < banks p)
unfolding bank_test
bank_decides p k = whenever_decides (leb (banks p) k) Cell (bank_below_iff p k)

pub output_decides : (n room : ℕ) → Decides (output_test n room) Output (n ≤ room)
unfolding output_test
output_decides n room = whenever_decides (ltb room n) Output (output_enough_iff n room)

pub number_decides : (count n : ℕ) → Decides (number_test count n) NoPattern (n < count)
unfolding number_test
number_decides count n = whenever_decides (leb count n) NoPattern (number_in_book_iff count n)

pub ring_decides : (p : Plan) (W H : ℕ) → Decides (ring_test p W H) Ring (RingAllowed p W H)
unfolding ring_test
ring_decides p W H = whenever_decides (not (is_ring p W H)) Ring (ring_allowed_iff p W H)

-- The answer is the refusal that the chain of tests finds, if it finds one.
pub record Follows {A : Type 0} (tests : List (Option Refusal)) (answer : Answer A) : Type 0 where
  pub refused : (r : Refusal) → first_of tests ≡ some r → answer ≡ turned_down r

-- So of a call that gives a value, and of one that changes what it was lent.
module _ {X A : Type 0} (of : X → Answer A) {tests : List (Option Refusal)} {refused : Refusal → X} where
  pub answered_follows :
      (x : X) → ((r : Refusal) → of (refused r) ≡ turned_down r) → Follows tests (of (answered (first_of tests) refused x))
  answered_follows x reads =
      record { refused = λ r e. ap of (answered_some (first_of tests) refused x r e) ∙ reads r }

  pub changed_follows :
      {Y : Type 0} (old : Y) (x : X) (new : Y) → ((r : Refusal) → of (refused r) ≡ turned_down r)
      → Follows tests (of (changed (first_of tests) refused old x new).answer)
  changed_follows old x new reads =
      record { refused = λ r e. ap of (changed_answer (first_of tests) refused old x new) ∙ (answered_follows x reads).refused r e }

-- A chain whose first test is a chain of a book and r, of a call on a picture, of a fetch or of the cycles, test by test.
module _ {A : Type 0} {ts : List (Option Refusal)} {answer : Answer A} where
  pub book_follows : (book : Book) (r : ℕ) → Follows (book_test book r ∷ ts) answer → Follows (book_tests book r ts) answer
  book_follows book r chain = record { refused = λ f e. chain.refused f (book_one_by_one book r ts ∙ e) }

  pub cycles_follow :
      (book : Book) (r : ℕ) (p : Plan) (n : ℕ) → Follows (cycles_first book r p n ∷ ts) answer
      → Follows (book_tests book r (plan_test p ∷ number_test book.count n ∷ ts)) answer
  cycles_follow book r p n chain = record { refused = λ f e. chain.refused f (cycles_one_by_one book r p n ts ∙ e) }

module _ {A : Type 0} {ts : List (Option Refusal)} {answer : Answer A} (p : Plan) (W H words : ℕ) where
  pub picture_follows : Follows (picture_test p W H words ∷ ts) answer → Follows (picture_tests p W H words ts) answer
  picture_follows chain = record { refused = λ r e. chain.refused r (picture_one_by_one p W H words ts ∙ e) }

  pub lent_follows :
      (entries : ℕ) → Follows (lent_test p W H (record { words = words; entries = entries }) ∷ ts) answer
      → Follows (picture_tests p W H words (sums_test p entries ∷ ts)) answer
  lent_follows entries chain = record { refused = λ r e. chain.refused r (lent_one_by_one p W H words entries ts ∙ e) }

  pub fetch_follows :
      (book : Book) (r n : ℕ) → Follows (fetch_start book r p W H words n ∷ ts) answer → Follows (fetch_tests p W H words book r n ts) answer
  fetch_follows book r n chain = record { refused = λ f e. chain.refused f (fetch_one_by_one p W H words book r n ts ∙ e) }

module _ {A : Type 0} {t : Option Refusal} {ts : List (Option Refusal)} {answer : Answer A} (chain : Follows (t ∷ ts) answer) where
  -- What the first test finds is the answer; where it finds nothing, the answer follows the rest.
  pub refused_by_first : (r : Refusal) → t ≡ some r → answer ≡ turned_down r
  refused_by_first r e = chain.refused r (chain_refuses t ts r e)

  pub after_none : t ≡ none → Follows ts answer
  after_none e = record { refused = λ r h. chain.refused r (chain_goes_on t ts e ∙ h) }

  -- The same by the test's condition.
  module _ {r : Refusal} {P : Type 0} (test : Decides t r P) where
    pub refused_unless : (P → ⊥) → answer ≡ turned_down r
    refused_unless fails = refused_by_first r (test.refuses fails)

    pub after : P → Follows ts answer
    after holds = after_none (test.passes holds)
