-- Which number a call for r gives: the least count, the check, both fetches and the cycles. A refusal is told with the positions of its
-- clash beside it, which only 10 has.
-- Assumes nothing.
use Prim.Native.Nat.{ℕ, suc, ◌<◌}
use native.Mathlib.Omega.{arith}
use mathlib.Core.Path.{◌≡◌, refl, sym, ◌∙◌, ap}
use mathlib.Core.Bool.{Bool, true, false}
use mathlib.Core.Option.{Option, none, some}
use mathlib.Core.List.{List, [], ◌∷◌}
use lib.ListN.{length, take}
use Rattle.scope.specs.Plans.{Pixel, pixels, pattern_at, determinant_size}
use Rattle.scope.specs.Cycles.{suits_for, LongClash, shortened, lengthened}
use Rattle.scope.specs.Numbers.{Answer, refusal, turned_down, with_positions, of_result, of_verdict, of_check, of_fetch}
use Rattle.scope.specs.Numbers.{dependent_test, large_test, plan_test, output_test, suits_test, number_test}
use Rattle.scope.specs.Calls.{book_test, fewest, check_test, check, moved, edge_test, rest_test, fetch_rest, beside_clash, either_fetch, write_cycles_test, write_cycles}
use Rattle.scope.specs.promises.Meaning.{IsPlan, AllInside, IsPicture, IsBook, IsCycles, Independent, RingAllowed}
use Rattle.scope.specs.promises.PicturePromises.{LegalFetch, LegalCycles}
use Rattle.scope.specs.promises.RefusalPromises.{PlanRefused, PictureRefused, BookRefused, FetchRefused, CyclesRefused}
use Rattle.scope.specs.declared.Plan.{Plan}
use Rattle.scope.specs.declared.Book.{Book}
use Rattle.scope.specs.declared.Refusal.{Refusal}
use Rattle.scope.specs.declared.Refusal.TheVariants.{Outside, Ring}
use Rattle.checks.proofs.Searches.{true-not-false}
use Rattle.checks.proofs.Chains.{book_tests, fetch_tests}
use Rattle.checks.proofs.ClashAnswers.{without_clash, other_number}
use Rattle.checks.proofs.RefusalNumbers.{record_has_no_clash}
use Rattle.checks.proofs.Deciding.{Decides, Follows, book_follows, fetch_follows, cycles_follow, answered_follows, changed_follows, refused_by_first, after_none, refused_unless, after}
use Rattle.checks.proofs.Deciding.{independent_decides, plan_decides, inside_decides, number_decides, ring_decides}
use Rattle.lattice.proofs.TestMeanings.{tests_mean, suits_test_some}
use Rattle.claims.proofs.RefusalChains.{large_refused, output_refused, book_refused, after_cycles, picture_refused, after_picture}

-- What holds of an answer holds of it with positions beside it: no number but 10 has a clash.
module _ {A : Type 0} (es : List ℕ) {x : Answer A} where
  book_beside : {book : Book} {r : ℕ} → BookRefused book r x → BookRefused book r (with_positions es x)
  book_beside {book} h =
      record {
        book_2_3_4_19 = λ f e. other_number es x f (record_has_no_clash book f e) (h.book_2_3_4_19 f e);
        cycles_20 = λ legal fails. without_clash es x 20 0 (h.cycles_20 legal fails);
      }

  plan_beside : {p : Plan} {W H : ℕ} → PlanRefused p W H x → PlanRefused p W H (with_positions es x)
  plan_beside h =
      record {
        plan_11 = λ fails. without_clash es x 11 0 (h.plan_11 fails);
        sides_12 = λ plan fails. without_clash es x 12 0 (h.sides_12 plan fails);
      }

  picture_beside : {p : Plan} {W H words : ℕ} → PictureRefused p W H words x → PictureRefused p W H words (with_positions es x)
  picture_beside h =
      record {
        first = plan_beside h.first;
        memory_13 = λ plan w k short. without_clash es x 13 0 (h.memory_13 plan w k short);
      }

  clash_beside_lem : (c : LongClash) × (x ≡ refusal 10 0 (some c)) → (c : LongClash) × (with_positions es x ≡ refusal 10 0 (some c))
  clash_beside_lem (c, e) = (record { pattern = c.pattern; positions = es }, ap (with_positions es) e)

-- 10 for a pattern of the book
unsuited :
    (r : ℕ) (p : Plan) (n : ℕ) (book : Book) {ts : List (Option Refusal)} {x : Answer ℕ}
    → Follows (suits_test r p n (pattern_at book n) ∷ ts) x → IsPlan p → suits_for r p (pixels (pattern_at book n)) ≡ false
    → (c : LongClash) × (x ≡ refusal 10 0 (some c))
unsuited r p n book {x} chain plan fails = by_test (suits_test r p n (pattern_at book n)) refl
  where
    by_test : (t : Option Refusal) → suits_test r p n (pattern_at book n) ≡ t → (c : LongClash) × (x ≡ refusal 10 0 (some c))
    by_test none e = absurd (true-not-false (sym ((tests_mean.suits_10 r (pattern_at book n) p n plan).0 e) ∙ fails))
    by_test (some f) e =
        let (c, _, is) = suits_test_some r p n (pattern_at book n) f e in
        (lengthened (shortened c), refused_by_first chain f e ∙ ap turned_down is)

-- The chain of both fetches, with what is tested after 10,
module _
    (book : Book) (r : ℕ) (p : Plan) (W H words n : ℕ) {ts : List (Option Refusal)} {x : Answer ℕ}
    (chain : Follows (fetch_tests p W H words book r n ts) x)
  where
    after_number : IsBook book → IsCycles r → IsPicture p W H words → n < book.count → Follows (suits_test r p n (pattern_at book n) ∷ ts) x
    after_number legal cycles here below = after (after_picture (after_cycles chain legal cycles) here) (number_decides book.count n) below

    fetch_refused : FetchRefused book r p W H words n x
    fetch_refused =
        record {
          first = book_refused chain;
          picture = λ legal cycles. picture_refused (after_cycles chain legal cycles);
          number_17 = λ legal cycles here above.
              refused_unless (after_picture (after_cycles chain legal cycles) here) (number_decides book.count n) (λ below. omega arith);
          suits_10 = λ legal cycles here below. unsuited r p n book (after_number legal cycles here below) here.plan;
        }

    after_fetch : LegalFetch book r p W H words n → Follows ts x
    after_fetch l =
        after_none (after_number l.legal_book l.legal_cycles l.picture l.number)
        ((tests_mean.suits_10 r (pattern_at book n) p n l.picture.plan).1 l.suiting)

fetch_beside :
    (es : List ℕ) {book : Book} {r : ℕ} {p : Plan} {W H words n : ℕ} {x : Answer ℕ} → FetchRefused book r p W H words n x
    → FetchRefused book r p W H words n (with_positions es x)
fetch_beside es {x} h =
    record {
      first = book_beside es h.first;
      picture = λ legal cycles. picture_beside es (h.picture legal cycles);
      number_17 = λ legal cycles here above. without_clash es x 17 0 (h.number_17 legal cycles here above);
      suits_10 = λ legal cycles here below fails. clash_beside_lem es (h.suits_10 legal cycles here below fails);
    }

-- and of the cycles
module _
    (book : Book) (r : ℕ) (p : Plan) (n : ℕ) {ts : List (Option Refusal)} {x : Answer ℕ}
    (chain : Follows (book_tests book r (plan_test p ∷ number_test book.count n ∷ suits_test r p n (pattern_at book n) ∷ ts)) x)
  where
    after_plan : IsBook book → IsCycles r → IsPlan p → Follows (number_test book.count n ∷ suits_test r p n (pattern_at book n) ∷ ts) x
    after_plan legal cycles = after (after_cycles chain legal cycles) (plan_decides p)

    after_own_number : IsBook book → IsCycles r → IsPlan p → n < book.count → Follows (suits_test r p n (pattern_at book n) ∷ ts) x
    after_own_number legal cycles plan = after (after_plan legal cycles plan) (number_decides book.count n)

    cycles_refused : CyclesRefused book r p n x
    cycles_refused =
        record {
          first = book_refused chain;
          plan_11 = λ legal cycles. refused_unless (after_cycles chain legal cycles) (plan_decides p);
          number_17 = λ legal cycles plan above.
              refused_unless (after_plan legal cycles plan) (number_decides book.count n) (λ below. omega arith);
          suits_10 = λ legal cycles plan below. unsuited r p n book (after_own_number legal cycles plan below) plan;
        }

    after_suits : LegalCycles book r p n → Follows ts x
    after_suits l =
        after_none (after_own_number l.legal_book l.legal_cycles l.plan l.number)
        ((tests_mean.suits_10 r (pattern_at book n) p n l.plan).1 l.suiting)

cycles_beside :
    (es : List ℕ) {book : Book} {r : ℕ} {p : Plan} {n : ℕ} {x : Answer ℕ} → CyclesRefused book r p n x
    → CyclesRefused book r p n (with_positions es x)
cycles_beside es {x} h =
    record {
      first = book_beside es h.first;
      plan_11 = λ legal cycles fails. without_clash es x 11 0 (h.plan_11 legal cycles fails);
      number_17 = λ legal cycles plan above. without_clash es x 17 0 (h.number_17 legal cycles plan above);
      suits_10 = λ legal cycles plan below fails. clash_beside_lem es (h.suits_10 legal cycles plan below fails);
    }

-- The least count,
count_follows : (book : Book) (r : ℕ) → Follows (book_tests book r []) (of_result (fewest book r))
unfolding fewest book_test
count_follows book r = answered_follows of_result _ (λ f. refl)

pub count_refused : (book : Book) (r : ℕ) → BookRefused book r (of_result (fewest book r))
count_refused book r = book_refused (count_follows book r)

-- the check,
module _ (book : Book) (r : ℕ) (v w : Pixel) where
  abbrev positions : List ℕ
  positions = take (suc r) (check book r v w).positions

  check_follows : Follows (book_tests book r (dependent_test v w ∷ large_test v w ∷ [])) (of_verdict (check book r v w).verdict)
  unfolding check check_test
  check_follows = book_follows book r (answered_follows of_verdict _ (λ f. refl))

  pub check_refused : BookRefused book r (of_check r (check book r v w))
  check_refused = book_beside positions (book_refused check_follows)

  pub check_dependent : IsBook book → IsCycles r → (Independent v w → ⊥) → of_check r (check book r v w) ≡ refusal 8 0 none
  check_dependent legal cycles fails =
      without_clash positions _ 8 0 (refused_unless (after_cycles check_follows legal cycles) (independent_decides v w) fails)

  pub check_large : IsBook book → IsCycles r → 1024 < determinant_size v w → of_check r (check book r v w) ≡ refusal 9 0 none
  check_large legal cycles large =
      without_clash positions _ 9 0 (large_refused v w (after_cycles check_follows legal cycles) large)

-- both fetches,
module _ (ring : Bool) (book : Book) (r : ℕ) (p : Plan) (W H : ℕ) (mem : List ℕ) (n : ℕ) (o : Pixel) (out : List ℕ) where
  abbrev edge_and_output : List (Option Refusal)
  edge_and_output = edge_test ring p W H (moved (pattern_at book n) o) ∷ output_test (pattern_at book n).used (length out) ∷ []

  abbrev answer : Answer ℕ
  answer = of_fetch r (either_fetch ring book r p W H mem n o out).answer

  abbrev told : List ℕ
  told = take (suc r) (either_fetch ring book r p W H mem n o out).answer.positions

  abbrev plain : Answer ℕ
  plain = of_result (either_fetch ring book r p W H mem n o out).answer.counted

  either_follows : Follows (fetch_tests p W H (length mem) book r n edge_and_output) plain
  unfolding either_fetch beside_clash fetch_rest rest_test
  either_follows = fetch_follows p W H (length mem) book r n (changed_follows of_result _ _ _ (λ f. refl))

  pub either_refused : FetchRefused book r p W H (length mem) n answer
  either_refused = fetch_beside told (fetch_refused book r p W H (length mem) n either_follows)

  -- 14 or 18 where the edge's condition does not hold, and 16 where it does
  module _ {f : Refusal} {P : Type 0} (edge : Decides (edge_test ring p W H (moved (pattern_at book n) o)) f P) where
    edge_refused : LegalFetch book r p W H (length mem) n → (P → ⊥) → plain ≡ turned_down f
    edge_refused legal = refused_unless (after_fetch book r p W H (length mem) n either_follows legal) edge

    pub room_refused : LegalFetch book r p W H (length mem) n → P → length out < (pattern_at book n).used → answer ≡ refusal 16 0 none
    room_refused legal holds short =
        without_clash told plain 16 0
        (output_refused (pattern_at book n).used (length out) (after (after_fetch book r p W H (length mem) n either_follows legal) edge holds) short)

pub outside_edge : (p : Plan) (W H : ℕ) (vs : List Pixel) → Decides (edge_test false p W H vs) Outside (AllInside W H vs)
unfolding edge_test
outside_edge p W H vs = inside_decides W H vs

pub ring_edge : (p : Plan) (W H : ℕ) (vs : List Pixel) → Decides (edge_test true p W H vs) Ring (RingAllowed p W H)
unfolding edge_test
ring_edge p W H vs = ring_decides p W H

module _ (book : Book) (r : ℕ) (p : Plan) (W H : ℕ) (mem : List ℕ) (n : ℕ) (o : Pixel) (out : List ℕ) (legal : LegalFetch book r p W H (length mem) n) where
  pub fetch_outside : (AllInside W H (moved (pattern_at book n) o) → ⊥) → answer false book r p W H mem n o out ≡ refusal 14 0 none
  fetch_outside fails =
      without_clash _ _ 14 0 (edge_refused false book r p W H mem n o out (outside_edge p W H (moved (pattern_at book n) o)) legal fails)

  pub ring_refused : (RingAllowed p W H → ⊥) → answer true book r p W H mem n o out ≡ refusal 18 0 none
  ring_refused fails =
      without_clash _ _ 18 0 (edge_refused true book r p W H mem n o out (ring_edge p W H (moved (pattern_at book n) o)) legal fails)

-- and the cycles
module _ (book : Book) (r : ℕ) (p : Plan) (n : ℕ) (out : List ℕ) where
  abbrev beside : List ℕ
  beside = take (suc r) (write_cycles book r p n out).answer.positions

  abbrev counted : Answer ℕ
  counted = of_result (write_cycles book r p n out).answer.counted

  written_follows :
      Follows
      (book_tests book r
      (plan_test p ∷ number_test book.count n ∷ suits_test r p n (pattern_at book n) ∷ output_test (pattern_at book n).used (length out) ∷ []))
      counted
  unfolding write_cycles write_cycles_test beside_clash
  written_follows = cycles_follow book r p n (changed_follows of_result _ _ _ (λ f. refl))

  pub written_refused : CyclesRefused book r p n (of_fetch r (write_cycles book r p n out).answer)
  written_refused = cycles_beside beside (cycles_refused book r p n written_follows)

  pub written_short : LegalCycles book r p n → length out < (pattern_at book n).used → of_fetch r (write_cycles book r p n out).answer ≡ refusal 16 0 none
  written_short legal short =
      without_clash beside counted 16 0
      (output_refused (pattern_at book n).used (length out) (after_suits book r p n written_follows legal) short)
