-- Chains of tests, and how a call is taken apart: its tests found nothing and it gives its value, or it gives the first refusal.
-- Assumes nothing.
use Prim.Native.Nat.{ℕ}
use mathlib.Core.Path.{◌≡◌, refl, sym, ◌∙◌, ap}
use mathlib.Core.Logic.{◌⊎◌, inl, inr}
use mathlib.Core.Option.{Option, none, some}
use mathlib.Core.List.Memᴰ
use mathlib.Core.List.{List, [], ◌∷◌, ◌++◌, Memᴰ}
use Rattle.scope.specs.Search.{first_of}
use Rattle.scope.specs.Numbers.{Answer, value, refusal, number_of, place_of, clash_of, turned_down}
use Rattle.scope.specs.Plans.{pattern_at}
use Rattle.scope.specs.Numbers.{record_test, cycles_test, plan_test, sides_test, memory_test, sums_test, number_test, suits_test}
use Rattle.scope.specs.Calls.{After, answered, changed, book_test, picture_test, lent_test, fetch_first, fetch_start, cycles_first}
use Rattle.scope.specs.promises.Meaning.{ChainIsFirst}
use Rattle.scope.specs.declared.Book.{Book}
use Rattle.scope.specs.Cycles.{LongClash}
use Rattle.scope.specs.declared.Plan.{Plan}
use Rattle.scope.specs.declared.Refusal.{Refusal}
use Rattle.checks.proofs.Searches.{none_not_some}
-- what `scope` has of them
pub use Rattle.scope.proofs.Chains.{chain_none_iff, chain_refuses, chain_goes_on, chain_of_one, tests_as_one}
pub use Rattle.scope.proofs.Chains.{value_not_refusal, value_injective, answered_none, answered_some, answered_refused, answered_value}
pub use Rattle.scope.proofs.Chains.{gives_value, gives_refusal, handed_on, passed_on}

-- What a chain finds, its first test finds, or that finds nothing and the rest does.
pub chain_some : (t : Option Refusal) (ts : List (Option Refusal)) (r : Refusal) → first_of (t ∷ ts) ≡ some r
    → (t ≡ some r) ⊎ ((t ≡ none) × (first_of ts ≡ some r))
unfolding first_of
chain_some none ts r e = inr (refl, e)
chain_some (some s) ts r e = inl e

-- It finds nothing exactly where none of its tests does.
all_none : (tests : List (Option Refusal)) → first_of tests ≡ none → (t : Option Refusal) → Memᴰ t tests → t ≡ none
all_none [] e t m = absurd (Memᴰ.not-nil m)
all_none (s ∷ tests) e t m = by_place (Memᴰ.cases_cons m) (all_none tests ((chain_none_iff s tests).0 e).1 t)
  where
    by_place : (t ≡ s) ⊎ Memᴰ t tests → (Memᴰ t tests → t ≡ none) → t ≡ none
    by_place (inl d) r = d ∙ ((chain_none_iff s tests).0 e).0
    by_place (inr k) r = r k

none_all : (tests : List (Option Refusal)) → ((t : Option Refusal) → Memᴰ t tests → t ≡ none) → first_of tests ≡ none
unfolding first_of
none_all [] h = refl
none_all (t ∷ tests) h =
    (chain_none_iff t tests).1 (h t (Memᴰ.head refl), none_all tests (λ s m. h s (Memᴰ.tail m)))

-- It gives the first refusal whose test finds one.
first_after_none :
    (before after : List (Option Refusal)) (r : Refusal) → first_of before ≡ none
    → first_of (before ++ (some r ∷ after)) ≡ some r
unfolding first_of
first_after_none [] after r e = refl
first_after_none (none ∷ before) after r e = first_after_none before after r e
first_after_none (some s ∷ before) after r e = absurd (none_not_some (sym e))

pub chain_is_first : ChainIsFirst
chain_is_first = record { none_holds = λ tests. (all_none tests, none_all tests); first_holds = first_after_none }

-- A refusal says what it holds.
module _ {A : Type 0} where
  pub refusal_number : {n m i j : ℕ} {c d : Option LongClash} → ◌≡◌ {A = Answer A} (refusal n i c) (refusal m j d) → n ≡ m
  refusal_number e = cc

  pub refusal_place : {n m i j : ℕ} {c d : Option LongClash} → ◌≡◌ {A = Answer A} (refusal n i c) (refusal m j d) → i ≡ j
  refusal_place e = cc

  pub refusal_clash : {n m i j : ℕ} {c d : Option LongClash} → ◌≡◌ {A = Answer A} (refusal n i c) (refusal m j d) → c ≡ d
  refusal_clash e = cc

-- A call gives this answer and leaves this content.
abbrev pub Gives : {X Y : Type 0} → After X Y → X → Y → Type 0
Gives result answer content = (answer ≡ result.answer) × (content ≡ result.content)

pub same_gives :
    {X Y : Type 0} {R S : After X Y} {answer : X} {content : Y} → R ≡ S → Gives R answer content → Gives S answer content
same_gives {X} {Y} e (answer, content) = (answer ∙ ap (λ (R : After X Y). R.answer) e, content ∙ ap (λ (R : After X Y). R.content) e)

-- A call that changes what it was lent: its answer and the content, each as of a call that gives only that.
module _ {X Y : Type 0} (t : Option Refusal) (refused : Refusal → X) (old : Y) (x : X) (new : Y) where
  pub changed_answer : (changed t refused old x new).answer ≡ answered t refused x
  unfolding changed answered
  changed_answer = by_tests t
    where
      by_tests : (s : Option Refusal) → (changed s refused old x new).answer ≡ answered s refused x
      by_tests none = refl
      by_tests (some r) = refl

  pub changed_content : (changed t refused old x new).content ≡ answered t (λ r. old) new
  unfolding changed answered
  changed_content = by_tests t
    where
      by_tests : (s : Option Refusal) → (changed s refused old x new).content ≡ answered s (λ r. old) new
      by_tests none = refl
      by_tests (some r) = refl

  -- where the tests find nothing, and where they find a refusal
  pub changed_none_answer : t ≡ none → (changed t refused old x new).answer ≡ x
  changed_none_answer e = changed_answer ∙ answered_none t refused x e

  pub changed_none_content : t ≡ none → (changed t refused old x new).content ≡ new
  changed_none_content e = changed_content ∙ answered_none t (λ r. old) new e

  changed_some_answer : (r : Refusal) → t ≡ some r → (changed t refused old x new).answer ≡ refused r
  changed_some_answer r e = changed_answer ∙ answered_some t refused x r e

  changed_some_content : (r : Refusal) → t ≡ some r → (changed t refused old x new).content ≡ old
  changed_some_content r e = changed_content ∙ answered_some t (λ r. old) new r e

  pub value_given : t ≡ none → Gives (changed t refused old x new) x new
  value_given e = (sym (changed_none_answer e), sym (changed_none_content e))

  pub refusal_given : (r : Refusal) → t ≡ some r → Gives (changed t refused old x new) (refused r) old
  refusal_given r e = (sym (changed_some_answer r e), sym (changed_some_content r e))

-- The tests found a refusal with this number, place and clash.
abbrev pub RefusedBy : Option Refusal → ℕ → ℕ → Option LongClash → Type 0
RefusedBy t n i c = (r : Refusal) × (t ≡ some r) × (number_of r ≡ n) × (place_of r ≡ i) × (clash_of r ≡ c)

-- `of` reads an answer in numbers and values, and a refused call's as turned down.
module _ {X A : Type 0} (of : X → Answer A) (t : Option Refusal) (refused : Refusal → X) where
  -- a call that gives a refusal: its tests found it, or they found nothing and what it goes on to give is that refusal
  pub answered_refusal :
      (x : X) (n i : ℕ) (c : Option LongClash) → ((r : Refusal) → of (refused r) ≡ turned_down r)
      → of (answered t refused x) ≡ refusal n i c
      → RefusedBy t n i c ⊎ ((t ≡ none) × (of x ≡ refusal n i c))
  answered_refusal x n i c reads e = by_tests t refl
    where
      by_tests : (s : Option Refusal) → t ≡ s → RefusedBy t n i c ⊎ ((t ≡ none) × (of x ≡ refusal n i c))
      by_tests none h = inr (h, ap of (sym (answered_none t refused x h)) ∙ e)
      by_tests (some r) h =
          let d : ◌≡◌ {A = Answer A} (turned_down r) (refusal n i c) =
          sym (reads r) ∙ ap of (sym (answered_some t refused x r h)) ∙ e in
          inl (r, h, refusal_number d, refusal_place d, refusal_clash d)

  -- the same of a call that changes what it was lent
  pub changed_value :
      {Y : Type 0} (old : Y) (x : X) (new : Y) (v : A) → ((r : Refusal) → of (refused r) ≡ turned_down r)
      → of (changed t refused old x new).answer ≡ value v
      → (t ≡ none) × (of x ≡ value v)
  changed_value old x new v reads e = answered_value of t refused x v reads (ap of (sym (changed_answer t refused old x new)) ∙ e)

  pub changed_refusal :
      {Y : Type 0} (old : Y) (x : X) (new : Y) (n i : ℕ) (c : Option LongClash) → ((r : Refusal) → of (refused r) ≡ turned_down r)
      → of (changed t refused old x new).answer ≡ refusal n i c
      → RefusedBy t n i c ⊎ ((t ≡ none) × (of x ≡ refusal n i c))
  changed_refusal old x new n i c reads e = answered_refusal x n i c reads (ap of (sym (changed_answer t refused old x new)) ∙ e)

  -- a refused call leaves what it was lent as it was, if what it goes on to give is no refusal
  pub refusal_keeps_content :
      {Y : Type 0} (old : Y) (x : X) (new : Y) (n i : ℕ) (c : Option LongClash)
      → of (changed t refused old x new).answer ≡ refusal n i c
      → (of x ≡ refusal n i c → ⊥)
      → (changed t refused old x new).content ≡ old
  refusal_keeps_content old x new n i c e no-refusal = by_tests t refl
    where
      by_tests : (s : Option Refusal) → t ≡ s → (changed t refused old x new).content ≡ old
      by_tests none h = absurd (no-refusal (ap of (sym (changed_none_answer t refused old x new h)) ∙ e))
      by_tests (some r) h = changed_some_content t refused old x new r h

-- What stands in a chain after a refusal does not count,
chain_stops :
    (before after : List (Option Refusal)) (r : Refusal) → first_of before ≡ some r → first_of (before ++ after) ≡ some r
unfolding first_of
chain_stops [] after r e = absurd (none_not_some e)
chain_stops (none ∷ before) after r e = chain_stops before after r e
chain_stops (some s ∷ before) after r e = e

-- so two calls with the same first tests are alike if what they look at after them, v and v', is the same wherever these
-- tests find nothing.
pub changed_alike :
    {Z X Y : Type 0} {before before' : List (Option Refusal)} {v v' : Z} (after : Z → List (Option Refusal)) (refused : Refusal → X)
    (old : Y) (x : Z → X) (new : Z → Y) → before ≡ before' → (first_of before ≡ none → v ≡ v')
    → changed (first_of (before ++ after v)) refused old (x v) (new v)
    ≡ changed (first_of (before' ++ after v')) refused old (x v') (new v')
unfolding changed
changed_alike {before} {before'} {v} {v'} after refused old x new same alike = by_tests (first_of before) refl
  where
    by_tests :
        (t : Option Refusal) → first_of before ≡ t
        → changed (first_of (before ++ after v)) refused old (x v) (new v)
        ≡ changed (first_of (before' ++ after v')) refused old (x v') (new v')
    by_tests none e = cc (same, alike e)
    by_tests (some r) e =
        rw (chain_stops before (after v) r e, chain_stops before' (after v') r (ap first_of (sym same) ∙ e)) refl

-- A test that finds nothing can be left out.
pub without_second :
    (t s : Option Refusal) (ts : List (Option Refusal)) → s ≡ none → first_of (t ∷ s ∷ ts) ≡ first_of (t ∷ ts)
unfolding first_of
without_second none s ts e = chain_goes_on s ts e
without_second (some r) s ts e = refl

-- The tests of a book and r, one by one, and those after them,
abbrev pub book_tests : Book → ℕ → List (Option Refusal) → List (Option Refusal)
book_tests book r ts = record_test book ∷ cycles_test r ∷ ts

pub book_one_by_one :
    (book : Book) (r : ℕ) (ts : List (Option Refusal)) → first_of (book_test book r ∷ ts) ≡ first_of (book_tests book r ts)
unfolding book_test
book_one_by_one book r ts = sym (tests_as_one [] (record_test book ∷ cycles_test r ∷ []) ts)

-- those that a call on a picture and a fetch begin with,
module _ (p : Plan) (W H words : ℕ) where
  abbrev pub picture_tests : List (Option Refusal) → List (Option Refusal)
  picture_tests ts = plan_test p ∷ sides_test W H ∷ memory_test p W H words ∷ ts

  pub picture_one_by_one : (ts : List (Option Refusal)) → first_of (picture_test p W H words ∷ ts) ≡ first_of (picture_tests ts)
  unfolding picture_test
  picture_one_by_one ts = sym (tests_as_one [] (plan_test p ∷ sides_test W H ∷ memory_test p W H words ∷ []) ts)

  pub lent_one_by_one :
      (entries : ℕ) (ts : List (Option Refusal))
      → first_of (lent_test p W H (record { words = words; entries = entries }) ∷ ts) ≡ first_of (picture_tests (sums_test p entries ∷ ts))
  unfolding lent_test
  lent_one_by_one entries ts =
      sym (tests_as_one [] (picture_test p W H words ∷ sums_test p entries ∷ []) ts) ∙ picture_one_by_one (sums_test p entries ∷ ts)

  module _ (book : Book) (r n : ℕ) where
    abbrev pub number_and10 : List (Option Refusal) → List (Option Refusal)
    number_and10 ts = number_test book.count n ∷ suits_test r p n (pattern_at book n) ∷ ts

    abbrev pub fetch_tests : List (Option Refusal) → List (Option Refusal)
    fetch_tests ts = book_tests book r (picture_tests (number_and10 ts))

    pub fetch_one_by_one : (ts : List (Option Refusal)) → first_of (fetch_start book r p W H words n ∷ ts) ≡ first_of (fetch_tests ts)
    unfolding fetch_start fetch_first picture_test
    fetch_one_by_one ts =
        let suits : Option Refusal = suits_test r p n (pattern_at book n) in
        sym (tests_as_one [] (fetch_first book r p W H words n ∷ suits ∷ []) ts)
        ∙ sym (tests_as_one [] (book_test book r ∷ picture_test p W H words ∷ number_test book.count n ∷ []) (suits ∷ ts))
        ∙ book_one_by_one book r (picture_test p W H words ∷ number_and10 ts)
        ∙ sym
        (tests_as_one (book_tests book r []) (plan_test p ∷ sides_test W H ∷ memory_test p W H words ∷ []) (number_and10 ts))

-- and those that the cycles begin with
pub cycles_one_by_one :
    (book : Book) (r : ℕ) (p : Plan) (n : ℕ) (ts : List (Option Refusal))
    → first_of (cycles_first book r p n ∷ ts) ≡ first_of (book_tests book r (plan_test p ∷ number_test book.count n ∷ ts))
unfolding cycles_first
cycles_one_by_one book r p n ts =
    sym (tests_as_one [] (book_test book r ∷ plan_test p ∷ number_test book.count n ∷ []) ts)
    ∙ book_one_by_one book r (plan_test p ∷ number_test book.count n ∷ ts)
