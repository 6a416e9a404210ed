-- The unused entries of a record don't count: every call that is given a record answers alike on two that agree where it counts.
-- Assumes nothing.
use Rattle.std.specs.Prelude.{Result, Ok, Err}
use Prim.Native.Nat.{ℕ, ◌<◌}
use mathlib.Core.Path.{◌≡◌, refl, sym, ◌∙◌, ap}
use mathlib.Core.Bool.{Bool, true, false}
use mathlib.Core.Option.{Option, none, some}
use mathlib.Core.List.{List, [], ◌∷◌, ◌++◌, map, Memᴰ}
use lib.ListN.{length}
use Rattle.scope.specs.Search.{first_of}
use Rattle.scope.specs.Plans.{Pixel, plus, pattern_at, pixels}
use Rattle.scope.specs.Cycles.{LongClash, shortened, cycles, clash_in_for}
use Rattle.scope.specs.Banks.{word_in, over_start}
use Rattle.scope.specs.Books.{book_bytes}
use Rattle.scope.specs.Numbers.{plan_test, number_test, suits_test, output_test}
use Rattle.scope.specs.Calls.{changed, After, write_book, find_test, find, book_test, fewest, check_test, check}
use Rattle.scope.specs.Calls.{moved, edge_test, pixels_read, rest_test, fetch_rest, picture_test, fetch_first, fetch_start, beside_clash, either_fetch, fetch, ring_fetch}
use Rattle.scope.specs.Calls.{cycles_first, write_cycles_test, write_cycles}
use Rattle.scope.specs.promises.BookPromises.{SameUsed, UnusedDontCount}
use Rattle.scope.specs.declared.Plan.{Plan}
use Rattle.scope.specs.declared.Book.{Book}
use Rattle.scope.specs.declared.Pattern.{Pattern}
use Rattle.scope.specs.declared.Refusal.{Refusal}
use Rattle.scope.specs.declared.FetchAnswer.{FetchAnswer}
use Rattle.checks.proofs.Chains.{chain_is_first, changed_alike, tests_as_one}
use Rattle.checks.proofs.ClashAnswers.{beside_some}
use Rattle.checks.proofs.Tests.{number_in_book_iff}
use Rattle.book.proofs.Unused.{same_record_tests, same_pixels, same_patterns, rebuilt_same}

-- Finding, counting, checking and writing look at a record's tests, its count and its patterns.
module _ (book other : Book) (same : SameUsed book other) where
  same_finds : (r limit : ℕ) → find book r limit ≡ find other r limit
  unfolding find find_test
  same_finds r limit = cc (same_record_tests book other same, same_patterns book other same)

  same_counts : (r : ℕ) → fewest book r ≡ fewest other r
  unfolding fewest book_test
  same_counts r = cc (same_record_tests book other same, same_patterns book other same)

  same_checks : (r : ℕ) (x y : Pixel) → check book r x y ≡ check other r x y
  unfolding check check_test book_test
  same_checks r x y = cc (same_record_tests book other same, same_patterns book other same)

  same_bytes : book_bytes book ≡ book_bytes other
  unfolding book_bytes
  same_bytes = cc (same.count, same_patterns book other same)

  same_writes : (out : List ℕ) → write_book book out ≡ write_book other out
  unfolding write_book
  same_writes out = cc (same_record_tests book other same, same_bytes)

mem_last : (ts : List (Option Refusal)) (t : Option Refusal) → Memᴰ t (ts ++ (t ∷ []))
mem_last [] t = Memᴰ.head refl
mem_last (s ∷ ts) t = Memᴰ.tail (mem_last ts t)

-- A call for r on pattern n looks, up to the pattern's number, at the record's tests and its count, with its own tests in between,
module _ (book other : Book) (same : SameUsed book other) (r n : ℕ) (p : Plan) (out : List ℕ) (own : List (Option Refusal)) where
  abbrev before_pattern : Book → List (Option Refusal)
  before_pattern given = book_test given r ∷ (own ++ (number_test given.count n ∷ []))

  same_before : before_pattern book ≡ before_pattern other
  unfolding book_test
  same_before = cc (same_record_tests book other same, same.count)

  number_in_book : first_of (before_pattern book) ≡ none → n < book.count
  number_in_book e =
      (number_in_book_iff book.count n).0
      ((chain_is_first.none_holds (before_pattern book)).0 e (number_test book.count n)
      (Memᴰ.tail (mem_last own (number_test book.count n))))

  -- and from there on at the pattern's pixels and how many are used.
  abbrev pattern_seen : Book → List Pixel × ℕ
  pattern_seen given = (pixels (pattern_at given n), (pattern_at given n).used)

  same_seen : n < book.count → pattern_seen book ≡ pattern_seen other
  same_seen h = cc (same_pixels book other same n h, same.used n h)

  -- Its tests after 10, its count and what it leaves; beside it stands the clash.
  module _ (after : List Pixel × ℕ → List (Option Refusal)) (number : List Pixel × ℕ → Result ℕ Refusal) (left : List Pixel × ℕ → List ℕ) where
    abbrev pattern_tests : List Pixel × ℕ → List (Option Refusal)
    pattern_tests seen =
        elim (clash_in_for r p n seen.0) [ none ↦ none | some c ↦ some (Refusal.Unsuited (shortened c)) ] ∷ after seen

    abbrev counting : Book → After (Result ℕ Refusal) (List ℕ)
    counting given =
        let seen : List Pixel × ℕ = pattern_seen given in
        changed (first_of (before_pattern given ++ pattern_tests seen)) Err out (number seen) (left seen)

    abbrev beside : Book → After FetchAnswer (List ℕ)
    beside given = beside_clash (first_of (before_pattern given)) r p given n (counting given)

    same_beside : beside book ≡ beside other
    unfolding beside_clash
    same_beside = by_tests (first_of (before_pattern book)) refl
      where
        same_counting : counting book ≡ counting other
        same_counting = changed_alike pattern_tests Err out number left same_before (λ e. same_seen (number_in_book e))

        by_tests : (t : Option Refusal) → first_of (before_pattern book) ≡ t → beside book ≡ beside other
        by_tests none e = cc (same_counting, ap first_of same_before, same_pixels book other same n (number_in_book e))
        by_tests (some f) e =
            let clash_of : Book → Option LongClash = λ given. clash_in_for r p n (pixels (pattern_at given n)) in
            cc (
              same_counting,
              beside_some (first_of (before_pattern book)) (clash_of book) f e,
              beside_some (first_of (before_pattern other)) (clash_of other) f (ap first_of (sym same_before) ∙ e),
            )

-- Both fetches, with the tests of the edge and of the output after 10.
module _
    (book other : Book) (same : SameUsed book other) (r : ℕ) (p : Plan) (W H : ℕ) (mem : List ℕ) (n : ℕ) (o : Pixel) (out : List ℕ)
    (ring : Bool)
  where
    abbrev fetch_tests_lem : List Pixel × ℕ → List (Option Refusal)
    fetch_tests_lem (vs, used) = edge_test ring p W H (map (plus o) vs) ∷ output_test used (length out) ∷ []

    abbrev number_fetched : List Pixel × ℕ → Result ℕ Refusal
    number_fetched (vs, used) = Ok (length (pixels_read ring W H (map (plus o) vs)))

    abbrev output_after : List Pixel × ℕ → List ℕ
    output_after (vs, used) = over_start (map (word_in p W H mem) (pixels_read ring W H (map (plus o) vs))) out

    abbrev fetched : Book → After FetchAnswer (List ℕ)
    fetched = beside book other same r n p out (picture_test p W H (length mem) ∷ []) fetch_tests_lem number_fetched output_after

    is_fetched : (given : Book) → either_fetch ring given r p W H mem n o out ≡ fetched given
    unfolding either_fetch fetch_first fetch_rest fetch_start rest_test moved suits_test
    is_fetched given =
        let t : Pattern = pattern_at given n in
        let rest : List (Option Refusal) = edge_test ring p W H (moved t o) ∷ output_test t.used (length out) ∷ [] in
        ap
        (λ (tests : Option Refusal).
        beside_clash (fetch_first given r p W H (length mem) n) r p given n
        (changed tests Err out (number_fetched (pixels t, t.used)) (output_after (pixels t, t.used))))
        (sym (tests_as_one [] (fetch_first given r p W H (length mem) n ∷ suits_test r p n t ∷ []) rest)
        ∙ sym (tests_as_one [] (book_test given r ∷ picture_test p W H (length mem) ∷ number_test given.count n ∷ []) (suits_test r p n t ∷ rest)))

    same_fetched : either_fetch ring book r p W H mem n o out ≡ either_fetch ring other r p W H mem n o out
    same_fetched =
        is_fetched book
        ∙ same_beside book other same r n p out (picture_test p W H (length mem) ∷ []) fetch_tests_lem number_fetched output_after
        ∙ sym (is_fetched other)

-- The cycles, with the test of the output after 10.
module _ (book other : Book) (same : SameUsed book other) (r : ℕ) (p : Plan) (n : ℕ) (out : List ℕ) where
  abbrev written : Book → After FetchAnswer (List ℕ)
  written =
      beside book other same r n p out (plan_test p ∷ []) (λ seen. output_test seen.1 (length out) ∷ [])
      (λ seen. Ok (length (cycles p seen.0)))
      (λ seen. over_start (cycles p seen.0) out)

  is_written : (given : Book) → write_cycles given r p n out ≡ written given
  unfolding write_cycles cycles_first write_cycles_test suits_test
  is_written given =
      let t : Pattern = pattern_at given n in
      ap
      (λ (tests : Option Refusal).
      beside_clash (cycles_first given r p n) r p given n
      (changed tests Err out (Ok (length (cycles p (pixels t)))) (over_start (cycles p (pixels t)) out)))
      (sym
      (tests_as_one [] (book_test given r ∷ plan_test p ∷ number_test given.count n ∷ [])
      (suits_test r p n t ∷ output_test t.used (length out) ∷ [])))

  same_written : write_cycles book r p n out ≡ write_cycles other r p n out
  same_written =
      is_written book
      ∙ same_beside book other same r n p out (plan_test p ∷ []) (λ seen. output_test seen.1 (length out) ∷ [])
      (λ seen. Ok (length (cycles p seen.0)))
      (λ seen. over_start (cycles p seen.0) out)
      ∙ sym (is_written other)

-- "The unused entries don't count": such records are refused alike, have the same patterns, and every call answers alike.
pub unused_dont_count : UnusedDontCount
unfolding fetch ring_fetch
unused_dont_count =
    record {
      refused = same_record_tests;
      same = same_patterns;
      rebuilt = rebuilt_same;
      finds = same_finds;
      counts = same_counts;
      checks = same_checks;
      writes = same_writes;
      fetches = λ book other same r p W H mem n o out. same_fetched book other same r p W H mem n o out false;
      ring_fetches = λ book other same r p W H mem n o out. same_fetched book other same r p W H mem n o out true;
      writes_cycles = same_written;
    }
