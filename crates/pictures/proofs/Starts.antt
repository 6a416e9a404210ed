-- What a fetch begins with: what its first tests find and the positions of the clash, by the test that refuses; what that tells; and
-- that the record which stands for the pattern's number is then that pattern's own.
-- Assumes nothing.
use Rattle.std.specs.Prelude.{Result, Ok, Err}
use Rattle.std.proofs.Common.{◌≡◌, ℕ, ◌<◌, ◌≤◌, Bool, true, false, List, [], ◌∷◌, length, replicate, sym, refl, ap, ◌∙◌, arith}
use mathlib.Core.Option.{Option, none, some}
use Rattle.scope.specs.Search.{first_of}
use Rattle.scope.specs.Plans.{Pixel, pattern_at, pixels}
use Rattle.scope.specs.Cycles.{LongClash, clash_in_for}
use Rattle.scope.specs.Numbers.{number_test, suits_test, places}
use Rattle.scope.specs.Calls.{After, book_test, picture_test, clash_beside, beside_clash, fetch_first, fetch_start, fetch_rest, either_fetch, fetch, ring_fetch}
use Rattle.scope.specs.declared.Book.{Book}
use Rattle.scope.specs.declared.FetchAnswer.{FetchAnswer}
use Rattle.scope.specs.declared.Pattern.{Pattern}
use Rattle.scope.specs.declared.Plan.{Plan}
use Rattle.scope.specs.declared.Refusal.{Refusal}
use Rattle.scope.specs.declared.Refusal.TheVariants.{NoPattern}
use Rattle.checks.proofs.BookTests.{book_test_iff}
use Rattle.checks.proofs.Chains.{chain_refuses, chain_goes_on, chain_of_one, Gives, same_gives}
use Rattle.checks.proofs.ClashAnswers.{beside_none, beside_some}
use Rattle.checks.proofs.Deciding.{number_decides}
use Rattle.book.specs.Scan.{outcome_of, entry_number}
use Rattle.book.proofs.Outcomes.{answered_by_refusal, done_found_nothing, refused_found}
use Rattle.book.proofs.Scanning.{entry_number_is}
use Rattle.finder.specs.Clashing.{single_test, suits_outcome, suits_positions}
use Rattle.finder.specs.declared.clash.Suited.{Suited}
use Rattle.finder.proofs.MetAnswers.{SingleLegal, single_legal_iff, only_10, only_clash}
use Rattle.pictures.specs.Fetching.{found_by, entry_for, first_test, start_test, start_positions}
use Rattle.pictures.specs.Lists.{BegunAt}
use Rattle.pictures.proofs.CallTests.{picture_test_iff, fetch_first_iff, fetch_start_iff}
use Rattle.pictures.proofs.Deliveries.{rest_alike}

-- An outcome says what its tests found.
pub found_by_lem : {outcome : Result Unit Refusal} (t : Option Refusal) → outcome ≡ outcome_of t → found_by outcome ≡ t
found_by_lem {outcome = Ok tt} t e = sym (done_found_nothing t e refl)
found_by_lem {outcome = Err r} t e = sym (refused_found t e refl)

-- the entry for a number below 16 is that pattern's
entry_below : (book : Book) (n : ℕ) → n < 16 → entry_for book n ≡ pattern_at book n
unfolding entry_for
entry_below book n h = ap (pattern_at book) (entry_number_is n h)

module _ (tested picture : Option Refusal) (count : ℕ) (t : Pattern) (r : ℕ) (p : Plan) (n : ℕ) where
  abbrev before : Option Refusal
  before = first_test tested picture count n

  abbrev number : Option Refusal
  number = number_test count n

  abbrev suiting : Option Refusal
  suiting = suits_test r p n t

  abbrev found : Option LongClash
  found = clash_in_for r p n (pixels t)

  -- what a fetch begins with, as the code has it
  abbrev pub Begins : Result Unit Refusal → List ℕ → Type 0
  Begins outcome positions =
      (outcome ≡ outcome_of (start_test tested picture count t r p n)) × (positions ≡ start_positions tested picture count t r p n)

  -- A test before 10 refuses,
  refused_before : {f : Refusal} → before ≡ some f → Begins (Err f) (replicate 9 0)
  unfolding start_test start_positions places
  refused_before {f} e =
      (answered_by_refusal _ f (chain_refuses before (suiting ∷ []) f e), sym (beside_some before found f e))

  pub refused_by_tested : {f : Refusal} → tested ≡ some f → Begins (Err f) (replicate 9 0)
  unfolding first_test
  refused_by_tested {f} e = refused_before (chain_refuses tested (picture ∷ number ∷ []) f e)

  module _ (legal : tested ≡ none) where
    pub refused_by_picture : {f : Refusal} → picture ≡ some f → Begins (Err f) (replicate 9 0)
    unfolding first_test
    refused_by_picture {f} e =
        refused_before (chain_goes_on tested (picture ∷ number ∷ []) legal ∙ chain_refuses picture (number ∷ []) f e)

    module _ (here : picture ≡ none) where
      past_picture : before ≡ number
      unfolding first_test
      past_picture =
          chain_goes_on tested (picture ∷ number ∷ []) legal ∙ chain_goes_on picture (number ∷ []) here ∙ chain_of_one number

      pub refused_by_number : count ≤ n → Begins (Err NoPattern) (replicate 9 0)
      refused_by_number h = refused_before (past_picture ∙ (number_decides count n).refuses (λ below. omega arith))

      -- or what is left is whether the plan suits.
      pub as_it_suits :
          {outcome : Result Unit Refusal} {positions : List ℕ} → SingleLegal p t r → n < count → outcome ≡ suits_outcome p n t r
          → positions ≡ suits_positions p n t r → Begins outcome positions
      unfolding start_test start_positions
      as_it_suits legal below is are =
          let single : single_test p t r ≡ none = (single_legal_iff p t r).1 legal in
          let passed : before ≡ none = past_picture ∙ (number_decides count n).passes below in (
            is ∙ only_10 p n t r single ∙ sym (ap outcome_of (chain_goes_on before (suiting ∷ []) passed ∙ chain_of_one suiting)),
            are ∙ only_clash p n t r single ∙ sym (beside_none before found passed),
          )

-- The test for 10 and its clash count only where the tests before find nothing.
module _
    (r : ℕ) (p : Plan) {first first' : Option Refusal} (n n' : ℕ) (t t' : Pattern) (same : first ≡ first')
    (alike : first' ≡ none → (n ≡ n') × (t ≡ t'))
  where
    abbrev SameBegin : Type 0
    SameBegin =
        (first_of (first ∷ suits_test r p n t ∷ []) ≡ first_of (first' ∷ suits_test r p n' t' ∷ []))
        × (clash_beside first (clash_in_for r p n (pixels t)) ≡ clash_beside first' (clash_in_for r p n' (pixels t')))

    same_begin : SameBegin
    same_begin = by_first first' refl
      where
        by_first : (o : Option Refusal) → first' ≡ o → SameBegin
        by_first none e = (cc (same, (alike e).0, (alike e).1), cc (same, (alike e).0, (alike e).1))
        by_first (some f) e = (
          chain_refuses first (suits_test r p n t ∷ []) f (same ∙ e) ∙ sym (chain_refuses first' (suits_test r p n' t' ∷ []) f e),
          beside_some first _ f (same ∙ e) ∙ sym (beside_some first' _ f e),
        )

-- the entry that the code takes
pub entry_is : (book : Book) (n : ℕ) {k : ℕ} → k ≡ entry_number n → pattern_at book k ≡ entry_for book n
unfolding entry_for
entry_is book n e = ap (pattern_at book) e

module _ (book : Book) (r n : ℕ) where
  -- the record that stands for a number of a legal book is that pattern's, and its pixel count is legal
  pub entry_size :
      {tested : Option Refusal} {t : Pattern} → tested ≡ book_test book r → t ≡ entry_for book n → tested ≡ none
      → (1 ≤ r) × (r ≤ 8) × (n < book.count → (1 ≤ t.used) × (t.used ≤ 64))
  entry_size found entry e =
      let (legal, cycles) = (book_test_iff book r).0 (sym found ∙ e) in (
        cycles.0,
        cycles.1,
        λ below.
            let own = entry_below book n (omega (arith, legal.most)) in
            rw (entry ∙ own) ((legal.each n below).least, (legal.each n below).most),
      )

  module _ (p : Plan) (W H words : ℕ) where
    abbrev first : Option Refusal
    first = fetch_first book r p W H words n

    entry_own : first ≡ none → entry_for book n ≡ pattern_at book n
    entry_own passed =
        let ((legal, _), (_, below)) = (fetch_first_iff p W H words book r n).0 passed in
        entry_below book n (omega (arith, legal.most))

    -- With what the tests of the book and of the picture found, and that record, it is what both fetches begin with.
    pub start_is :
        {tested picture : Option Refusal} {t : Pattern} {start : Suited} → tested ≡ book_test book r
        → picture ≡ picture_test p W H words → t ≡ entry_for book n
        → Begins tested picture book.count t r p n start.outcome start.positions
        → BegunAt book r p W H words n start
    unfolding fetch_start fetch_first start_test start_positions first_test
    start_is {tested} {picture} {t} book-found picture-found entry (outcome, positions) =
        let same : first_test tested picture book.count n ≡ first = cc (book-found, picture-found) in
        let (tests, clash) = same_begin r p n n t (pattern_at book n) same (λ passed. (refl, entry ∙ entry_own passed)) in
        record { outcome_is = outcome ∙ ap outcome_of tests; positions_are = positions ∙ clash }

-- From 16 on all numbers begin alike: there is no such pattern.
module _ (book : Book) (r : ℕ) (p : Plan) (W H words : ℕ) where
  no_pattern_lem : (n : ℕ) → 16 ≤ n → book_test book r ≡ none → number_test book.count n ≡ some NoPattern
  no_pattern_lem n h e =
      let most = ((book_test_iff book r).0 e).0.most in
      (number_decides book.count n).refuses (λ below. omega arith)

  module _ (n : ℕ) (h : 16 ≤ n) where
    first_alike : fetch_first book r p W H words 16 ≡ fetch_first book r p W H words n
    unfolding fetch_first
    first_alike = by_book (book_test book r) refl
      where
        rest : ℕ → List (Option Refusal)
        rest m = picture_test p W H words ∷ number_test book.count m ∷ []

        by_book : (o : Option Refusal) → book_test book r ≡ o → first_of (book_test book r ∷ rest 16) ≡ first_of (book_test book r ∷ rest n)
        by_book none e = cc (no_pattern_lem 16 (omega arith) e, no_pattern_lem n h e)
        by_book (some f) e = chain_refuses (book_test book r) (rest 16) f e ∙ sym (chain_refuses (book_test book r) (rest n) f e)

    first_refuses : fetch_first book r p W H words n ≡ none → ⊥
    first_refuses e = let ((legal, _), (_, below)) = (fetch_first_iff p W H words book r n).0 e in omega (arith, legal.most, below)

    pub starts_alike : {start : Suited} → BegunAt book r p W H words 16 start → BegunAt book r p W H words n start
    unfolding fetch_start
    starts_alike begun =
        let (tests, clash) =
        same_begin r p 16 n (pattern_at book 16) (pattern_at book n) first_alike (λ passed. absurd (first_refuses passed)) in
        record { outcome_is = begun.outcome_is ∙ ap outcome_of tests; positions_are = begun.positions_are ∙ clash }

-- What the first tests of a fetch show where they find nothing.
module _ (book : Book) (r : ℕ) (p : Plan) (W H words n : ℕ) where
  pub record Started (t : Pattern) : Type 0 where
    pub picture : picture_test p W H words ≡ none
    pub own : t ≡ pattern_at book n
    pub most : t.used ≤ 64

  pub started : fetch_start book r p W H words n ≡ none → Started (entry_for book n)
  started e =
      let legal = (fetch_start_iff p W H words book r n).0 e in
      let own : entry_for book n ≡ pattern_at book n = entry_below book n (omega (arith, legal.number, legal.legal_book.most)) in
      record {
        picture = (picture_test_iff p W H words).1 legal.picture;
        own = own;
        most = rw own (legal.legal_book.each n legal.number).most;
      }

-- A fetch gives this count, leaves this content, and has these positions beside it.
abbrev pub GivesFetch : After FetchAnswer (List ℕ) → Result ℕ Refusal → List ℕ → List ℕ → Type 0
GivesFetch x counted positions content = ((counted ≡ x.answer.counted) × (positions ≡ x.answer.positions)) × (content ≡ x.content)

-- Fetch and ring fetch are either fetch; the position is as a call hands it on.
module _
    (book : Book) (r : ℕ) (p : Plan) (W H : ℕ) (mem : List ℕ) (n : ℕ) (o : Pixel) (out : List ℕ)
    {v : Pixel} {counted : Result ℕ Refusal} {positions content : List ℕ} (same : v ≡ o)
  where
    pub is_fetch :
        GivesFetch (either_fetch false book r p W H mem n v out) counted positions content
        → GivesFetch (fetch book r p W H mem n o out) counted positions content
    unfolding fetch
    is_fetch gives = rw (sym same) gives

    pub is_ring_fetch :
        GivesFetch (either_fetch true book r p W H mem n v out) counted positions content
        → GivesFetch (ring_fetch book r p W H mem n o out) counted positions content
    unfolding ring_fetch
    is_ring_fetch gives = rw (sym same) gives

-- A fetch by what it begins with, the record that stands for the pattern, and the position as a call hands it on, is the fetch of the
-- book.
pub fetched_by_entry :
    (ring : Bool) (book : Book) (r : ℕ) (p : Plan) (W H : ℕ) (mem : List ℕ) (n : ℕ) (o : Pixel) (out : List ℕ)
    {start : Suited} {t : Pattern} {v : Pixel} {counted : Result ℕ Refusal} {content : List ℕ}
    → BegunAt book r p W H (length mem) n start → t ≡ entry_for book n → v ≡ o
    → Gives (fetch_rest (found_by start.outcome) ring t p W H mem v out) counted content
    → GivesFetch (either_fetch ring book r p W H mem n o out) counted start.positions content
unfolding either_fetch beside_clash
fetched_by_entry ring book r p W H mem n o out {start} {t} {v} begun entry same gives =
    let found : found_by start.outcome ≡ fetch_start book r p W H (length mem) n = found_by_lem _ begun.outcome_is in
    let (counted, content) =
    same_gives
    (cc (found, same)
    ∙ rest_alike (fetch_start book r p W H (length mem) n) ring t (pattern_at book n) p W H mem o out
    (λ e. entry ∙ (started book r p W H (length mem) n e).own)) gives in
    ((counted, begun.positions_are), content)
