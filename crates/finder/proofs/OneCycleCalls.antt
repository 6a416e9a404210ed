-- At r = 1 the finder, the least count, the check and both fetches are what they were without r: 1 is legal, the same plans suit, and
-- the clash is the same.
-- Assumes nothing.
use Rattle.std.specs.Prelude.{Result, Ok, Err}
use Prim.Native.Nat.{ℕ, ◌-◌}
use mathlib.Core.Path.{◌≡◌, refl, sym, ◌∙◌, ap, ap₂}
use mathlib.Core.Bool.{Bool}
use mathlib.Core.Logic.{◌⊎◌, inl, inr}
use mathlib.Core.Option.{Option, none, some, map}
use mathlib.Core.List.{List, [], ◌∷◌}
use lib.ListN.{length, take}
use Rattle.scope.specs.Search.{first_of}
use Rattle.scope.specs.Plans.{Pixel, pattern_at, pixels, patterns, banks, normal_form}
use Rattle.scope.specs.Finding.{least_plan, least_count, clash_in, clash}
use Rattle.scope.specs.Cycles.{LongClash, lengthened, shortened, clash_in_for, clash_for}
use Rattle.scope.specs.Numbers.{refusal, of_verdict, of_result, of_check, of_fetch, record_test, limit_test, cycles_test, suits_test, dependent_test, large_test, number_test, output_test, places}
use Rattle.scope.specs.Calls.{answered, found, find, find_test, book_test, fewest, check_test, judged, check, picture_test, fetch_first, fetch_start, clash_beside, beside_clash, edge_test, moved, rest_test, fetch_rest, either_fetch, After}
use Rattle.scope.specs.promises.Meaning.{IsBook}
use Rattle.scope.specs.promises.OneCyclePromises.{find_before, fewest_before, judged_before, check_before, suits_test_before, start_before, fetch_before, OneCycleIsBefore}
use Rattle.scope.specs.declared.Plan.{Plan}
use Rattle.scope.specs.declared.Book.{Book}
use Rattle.scope.specs.declared.Pattern.{Pattern}
use Rattle.scope.specs.declared.Clash.{Clash}
use Rattle.scope.specs.declared.Refusal.{Refusal}
use Rattle.scope.specs.declared.Verdict.{Verdict}
use Rattle.checks.proofs.Chains.{value_not_refusal, refusal_clash, RefusedBy, answered_refusal, tests_as_one}
use Rattle.checks.proofs.Searches.{none_not_some, some_injective}
use Rattle.checks.proofs.ClashAnswers.{no_clash, same_positions, places_first, beside_none}
use Rattle.checks.proofs.BookTests.{book_test_iff}
use Rattle.lattice.proofs.OneCycle.{clash_for_one_in, clash_for_one}
use Rattle.finder.proofs.FindAnswers.{legal_find_iff}
use Rattle.finder.proofs.Checks.{check_legal_iff, check_refusals, judged_clash, judged_suits}
use Rattle.finder.proofs.OwnClashes.{OwnClash, own_clash, refused_by_tests, fetch_not_ten, rest_not_ten}
use Rattle.finder.proofs.OneCycle.{uncrowded_one, suits_one, least_plan_one, least_count_one}

-- a call that gives the same where its tests find nothing gives the same
answered_alike :
    {X : Type 0} (t : Option Refusal) (refused : Refusal → X) (x y : X) → (t ≡ none → x ≡ y) → answered t refused x ≡ answered t refused y
unfolding answered
answered_alike none refused x y same = same refl
answered_alike (some f) refused x y same = refl

-- 1 is legal, so 20 can be left out
book_test_one : (book : Book) → book_test book 1 ≡ record_test book
unfolding book_test cycles_test first_of
book_test_one book = by_test (record_test book)
  where
    by_test : (t : Option Refusal) → first_of (t ∷ none ∷ []) ≡ t
    by_test none = refl
    by_test (some f) = refl

find_test_one : (book : Book) (limit : ℕ) → find_test book 1 limit ≡ first_of (record_test book ∷ limit_test limit ∷ [])
unfolding find_test cycles_test first_of
find_test_one book limit = by_tests (record_test book) (limit_test limit)
  where
    by_tests : (t s : Option Refusal) → first_of (t ∷ s ∷ none ∷ []) ≡ first_of (t ∷ s ∷ [])
    by_tests none none = refl
    by_tests none (some f) = refl
    by_tests (some f) s = refl

module _ (book : Book) where
  abbrev ts : List (List Pixel)
  ts = patterns book

  find_one : (limit : ℕ) → find book 1 limit ≡ find_before book limit
  unfolding find find_before
  find_one limit =
      answered_alike (find_test book 1 limit) Err _ _
      (λ e. ap found (least_plan_one book ((legal_find_iff book 1 limit).0 e).legal_book limit))
      ∙ ap (λ (t : Option Refusal). answered t Err (found (least_plan ts limit))) (find_test_one book limit)

  fewest_one : fewest book 1 ≡ fewest_before book
  unfolding fewest fewest_before
  fewest_one =
      answered_alike (book_test book 1) Err _ _
      (λ e. ap Ok (least_count_one book ((book_test_iff book 1).0 e).0))
      ∙ ap (λ (t : Option Refusal). answered t Err (Ok (least_count ts))) (book_test_one book)

  -- the verdict on a plan
  judged_one : IsBook book → (p : Plan) → judged 1 ts p ≡ judged_before ts p
  unfolding judged_before shortened
  judged_one legal p = by_clash (clash p ts) refl
    where
      by_clash : (o : Option Clash) → clash p ts ≡ o → judged 1 ts p ≡ judged_before ts p
      by_clash none e =
          judged_suits 1 ts p (clash_for_one p ts ∙ ap (map lengthened) e)
          ∙ ap (λ (n : ℕ). Verdict.Suits (record { plan = p; surplus = banks p - n })) (least_count_one book legal)
          ∙ sym (rw (e, judged_before))
      by_clash (some c) e = judged_clash 1 ts p (lengthened c) (clash_for_one p ts ∙ ap (map lengthened) e) ∙ sym (rw (e, judged_before))

  module _ (x y : Pixel) where
    check_test_one : check_test book 1 x y ≡ first_of (record_test book ∷ dependent_test x y ∷ large_test x y ∷ [])
    unfolding check_test
    check_test_one = ap (λ (t : Option Refusal). first_of (t ∷ dependent_test x y ∷ large_test x y ∷ [])) (book_test_one book)

    check_one : (check book 1 x y).verdict ≡ check_before book x y
    unfolding check check_before
    check_one =
        answered_alike (check_test book 1 x y) Verdict.Refused _ _
        (λ e. judged_one ((check_legal_iff book 1 x y).0 e).0.0 (normal_form x y))
        ∙ ap (λ (t : Option Refusal). answered t Verdict.Refused (judged_before ts (normal_form x y))) check_test_one

    -- a clash of a check at r = 1 has two positions, those of the struct
    check_answer_one : of_check 1 (check book 1 x y) ≡ of_verdict (check_before book x y)
    unfolding check shortened
    check_answer_one = same_positions _ (of_verdict (check book 1 x y).verdict) two_told ∙ ap of_verdict check_one
      where
        p : Plan
        p = normal_form x y

        Told : LongClash → Type 0
        Told d = d.positions ≡ take 2 (check book 1 x y).positions

        by_clash :
            (n i : ℕ) (d : LongClash) → check_test book 1 x y ≡ none → (o : Option Clash) → clash p ts ≡ o
            → of_verdict (judged 1 ts p) ≡ refusal n i (some d) → Told d
        by_clash n i d passed none e v =
            absurd (value_not_refusal
            (ap of_verdict (sym (judged_suits 1 ts p (clash_for_one p ts ∙ ap (map lengthened) e))) ∙ v))
        by_clash n i d passed (some c) e v =
            let long : clash_for 1 p ts ≡ some (lengthened c) = clash_for_one p ts ∙ ap (map lengthened) e in
            let is : lengthened c ≡ d = some_injective (refusal_clash (ap of_verdict (sym (judged_clash 1 ts p (lengthened c) long)) ∙ v)) in
            ap (λ (k : LongClash). k.positions) (sym is)
            ∙ sym (places_first (lengthened c) 1 refl)
            ∙ ap (take 2) (sym (beside_none (check_test book 1 x y) (clash_for 1 p ts) passed ∙ ap places long))

        by_source :
            (n i : ℕ) (d : LongClash)
            → RefusedBy (check_test book 1 x y) n i (some d)
            ⊎ ((check_test book 1 x y ≡ none) × (of_verdict (judged 1 ts p) ≡ refusal n i (some d)))
            → Told d
        by_source n i d (inl (f, e, _, _, clash)) =
            absurd (none_not_some (sym (no_clash f (check_refusals book 1 x y f e)) ∙ clash))
        by_source n i d (inr (passed, v)) = by_clash n i d passed (clash p ts) refl v

        two_told : (n i : ℕ) (d : LongClash) → of_verdict (check book 1 x y).verdict ≡ refusal n i (some d) → Told d
        two_told n i d e =
            by_source n i d (answered_refusal of_verdict (check_test book 1 x y) Verdict.Refused (judged 1 ts p) n i (some d) (λ f. refl) e)

-- the test of 10
suits_test_one : (p : Plan) (n : ℕ) (t : Pattern) → suits_test 1 p n t ≡ suits_test_before p n t
unfolding suits_test suits_test_before shortened
suits_test_one p n t = by_clash (clash_in p n (pixels t)) refl
  where
    by_clash : (o : Option Clash) → clash_in p n (pixels t) ≡ o → suits_test 1 p n t ≡ suits_test_before p n t
    by_clash none e = rw (clash_for_one_in p n (pixels t), e, suits_test, suits_test_before)
    by_clash (some c) e = rw (clash_for_one_in p n (pixels t), e, suits_test, suits_test_before)

start_one : (book : Book) (p : Plan) (W H words n : ℕ) → fetch_start book 1 p W H words n ≡ start_before book p W H words n
unfolding fetch_start fetch_first start_before
start_one book p W H words n =
    sym (tests_as_one [] (book_test book 1 ∷ picture_test p W H words ∷ number_test book.count n ∷ []) (suits_test 1 p n (pattern_at book n) ∷ []))
    ∙ ap₂ (λ (t s : Option Refusal). first_of (t ∷ picture_test p W H words ∷ number_test book.count n ∷ s ∷ []))
    (book_test_one book)
    (suits_test_one p n (pattern_at book n))

-- Both fetches.
module _ (ring : Bool) (book : Book) (p : Plan) (W H : ℕ) (mem : List ℕ) (n : ℕ) (o : Pixel) (out : List ℕ) where
  abbrev t : Pattern
  t = pattern_at book n

  abbrev rest : Option Refusal → After (Result ℕ Refusal) (List ℕ)
  rest start = fetch_rest start ring t p W H mem o out

  same_rest : rest (fetch_start book 1 p W H (length mem) n) ≡ fetch_before ring book p W H mem n o out
  unfolding fetch_before
  same_rest = ap rest (start_one book p W H (length mem) n)

  fetch_one : (either_fetch ring book 1 p W H mem n o out).answer.counted ≡ (fetch_before ring book p W H mem n o out).answer
  unfolding either_fetch beside_clash
  fetch_one = ap (λ (x : After (Result ℕ Refusal) (List ℕ)). x.answer) same_rest

  fetched_one : (either_fetch ring book 1 p W H mem n o out).content ≡ (fetch_before ring book p W H mem n o out).content
  unfolding either_fetch beside_clash
  fetched_one = ap (λ (x : After (Result ℕ Refusal) (List ℕ)). x.content) same_rest

  fetch_answer_one :
      of_fetch 1 (either_fetch ring book 1 p W H mem n o out).answer ≡ of_result (fetch_before ring book p W H mem n o out).answer
  unfolding either_fetch beside_clash fetch_rest fetch_start rest_test shortened
  fetch_answer_one = same_positions _ (of_result (either_fetch ring book 1 p W H mem n o out).answer.counted) two_told ∙ ap of_result fetch_one
    where
      before : Option Refusal
      before = fetch_first book 1 p W H (length mem) n

      after : List (Option Refusal)
      after = edge_test ring p W H (moved t o) ∷ output_test t.used (length out) ∷ []

      found : Option LongClash
      found = clash_in_for 1 p n (pixels t)

      -- the clash of two pixels, as the struct holds it
      two_only : (k : LongClash) → found ≡ some k → lengthened (shortened k) ≡ k
      two_only k e = by_clash (clash_in p n (pixels t)) refl
        where
          by_clash : (c : Option Clash) → clash_in p n (pixels t) ≡ c → lengthened (shortened k) ≡ k
          by_clash none h = absurd (none_not_some (sym (clash_for_one_in p n (pixels t) ∙ ap (map lengthened) h) ∙ e))
          by_clash (some c) h =
              let is : lengthened c ≡ k = some_injective (sym (clash_for_one_in p n (pixels t) ∙ ap (map lengthened) h) ∙ e) in
              ap (λ (j : LongClash). lengthened (shortened j)) (sym is) ∙ is

      own : (m i : ℕ) (d : LongClash) → of_result (rest (fetch_start book 1 p W H (length mem) n)).answer ≡ refusal m i (some d)
          → OwnClash book 1 p n d before after d
      own m i d e =
          let k : RefusedBy (first_of (fetch_start book 1 p W H (length mem) n ∷ after)) m i (some d) =
          refused_by_tests (first_of (fetch_start book 1 p W H (length mem) n ∷ after)) _ out _ e in
          own_clash book 1 p n d before after (fetch_not_ten book 1 p W H (length mem) n) (rest_not_ten ring p W H (moved t o) t.used (length out)) d
          (rw (sym (tests_as_one [] (before ∷ suits_test 1 p n t ∷ []) after)) at k)

      two_told : (m i : ℕ) (d : LongClash) → of_result (rest (fetch_start book 1 p W H (length mem) n)).answer ≡ refusal m i (some d)
          → d.positions ≡ take 2 (clash_beside before found)
      two_told m i d e =
          let w = own m i d e in
          let k : LongClash = w.own in
          let same : d ≡ k = sym w.is ∙ two_only k w.found in
          ap (λ (j : LongClash). j.positions) same
          ∙ sym (places_first k 1 (ap (λ (j : LongClash). length j.positions) (sym (two_only k w.found))))
          ∙ ap (take 2) (sym (beside_none before found w.passed ∙ ap places w.found))

-- "At r = 1 everything agrees with the finder as it was."
pub one_cycle_is_before : OneCycleIsBefore
one_cycle_is_before =
    record {
      of_book = λ book legal.
          record {
            uncrowded = uncrowded_one book legal;
            suiting = suits_one book legal;
            least_plan_lem = least_plan_one book legal;
            least_count_lem = least_count_one book legal;
          };
      clashes = clash_for_one;
      finds = find_one;
      counts = fewest_one;
      checks = check_one;
      check_answers = check_answer_one;
      fetches = fetch_one;
      fetch_answers = fetch_answer_one;
      fetched = fetched_one;
    }
