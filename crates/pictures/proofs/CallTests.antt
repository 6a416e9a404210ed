-- What the chain of tests of each call on a picture means, as one condition.
-- Assumes nothing.
use Rattle.std.proofs.Common.{◌≡◌, ℕ, ◌<◌, ◌≤◌, Bool, true, false, ◌↔◌, List, [], ◌∷◌, refl}
use mathlib.Core.Logic.Iff
use mathlib.Core.Option.{none}
use mathlib.Core.List.Memᴰ
use Rattle.scope.specs.Plans.{Pixel, pattern_at, banks}
use Rattle.scope.specs.Numbers.{outside_test}
use Rattle.scope.specs.Calls.{Size, picture_test, lent_test, store_test, word_test, clear_test, whole_bank_test, read_sum_test, moved, fetch_first, fetch_start, edge_test, rest_test, fetch_test}
use Rattle.scope.specs.Calls.{cycles_first, write_cycles_test}
use Rattle.scope.specs.promises.Meaning.{IsPlan, IsBook, IsCycles, IsPicture, IsLent, Inside}
use Rattle.scope.specs.promises.Demand.{EdgeAllowed}
use Rattle.scope.specs.promises.PicturePromises.{LegalFetch, LegalCycles}
use Rattle.scope.specs.declared.Plan.{Plan}
use Rattle.scope.specs.declared.Book.{Book}
use Rattle.checks.proofs.Booleans.{last_test, test_before}
use Rattle.checks.proofs.Tests.{plan_legal_iff, sides_legal_iff, memory_enough_iff, sums_enough_iff, all_inside_iff, bank_below_iff}
use Rattle.checks.proofs.Tests.{output_enough_iff, number_in_book_iff, ring_allowed_iff}
use Rattle.checks.proofs.BookTests.{book_test_iff}
use Rattle.checks.proofs.Legal.{one_inside}
use Rattle.lattice.proofs.TestMeanings.{tests_mean}

-- one pixel inside
one_inside_iff : (W H : ℕ) (v : Pixel) → (outside_test W H (v ∷ []) ≡ none) ↔ Inside W H v
one_inside_iff W H v = Iff.trans (all_inside_iff W H (v ∷ [])) (λ h. h v (Memᴰ.head refl), one_inside W H v)

-- A sum that is read: a plan, sums that are long enough, and the bank below N.
pub read_sum_test_iff : (p : Plan) (entries k : ℕ) → (read_sum_test p entries k ≡ none) ↔ (IsPlan p × ((banks p ≤ entries) × (k < banks p)))
unfolding read_sum_test
read_sum_test_iff p entries k =
    (test_before (plan_legal_iff p) (test_before (sums_enough_iff p entries) (last_test (bank_below_iff p k)))).iff

-- The cycles of a pattern: legal ones, and room.
pub cycles_test_iff :
    (book : Book) (r : ℕ) (p : Plan) (n room : ℕ)
    → (write_cycles_test book r p n room ≡ none) ↔ (LegalCycles book r p n × ((pattern_at book n).used ≤ room))
unfolding write_cycles_test cycles_first
cycles_test_iff book r p n room =
    Iff.trans
    (test_before
    (test_before (book_test_iff book r) (test_before (plan_legal_iff p) (last_test (number_in_book_iff book.count n)))).iff
    (test_before Iff.rfl (last_test (output_enough_iff (pattern_at book n).used room)))).iff (
      λ ((book-legal, (plan, number)), (suiting, enough)). (
        record {
          legal_book = book-legal.0;
          legal_cycles = book-legal.1;
          plan = plan;
          number = number;
          suiting = (tests_mean.suits_10 r (pattern_at book n) p n plan).0 suiting;
        },
        enough,
      ),
      λ (l, enough). (
        ((l.legal_book, l.legal_cycles), (l.plan, l.number)),
        ((tests_mean.suits_10 r (pattern_at book n) p n l.plan).1 l.suiting, enough),
      ),
    )

module _ (p : Plan) (W H words : ℕ) where
  -- The tests of a picture: a plan, its sides, and a memory that is long enough.
  pub picture_test_iff : (picture_test p W H words ≡ none) ↔ IsPicture p W H words
  unfolding picture_test
  picture_test_iff =
      Iff.trans
      (test_before (plan_legal_iff p) (test_before (sides_legal_iff W H) (last_test (memory_enough_iff p W H words)))).iff (
        λ h. record { plan = h.0; w_side = h.1.0.0; h_side = h.1.0.1; memory = h.1.1 },
        λ h. (h.plan, ((h.w_side, h.h_side), h.memory)),
      )

  -- Load: a picture and its memory, and the pixel inside.
  pub word_test_iff : (v : Pixel) → (word_test p W H words v ≡ none) ↔ (IsPicture p W H words × Inside W H v)
  unfolding word_test
  word_test_iff v =
      (test_before picture_test_iff (last_test (one_inside_iff W H v))).iff

  -- Sum: a picture and its memory, and the bank below N.
  pub bank_test_iff : (k : ℕ) → (whole_bank_test p W H words k ≡ none) ↔ (IsPicture p W H words × (k < banks p))
  unfolding whole_bank_test
  bank_test_iff k = (test_before picture_test_iff (last_test (bank_below_iff p k))).iff

  -- The edge: every pixel inside, or sides that a ring fetch goes around.
  edge_iff : (ring : Bool) (vs : List Pixel) → (edge_test ring p W H vs ≡ none) ↔ EdgeAllowed ring p W H vs
  unfolding edge_test
  edge_iff false vs = all_inside_iff W H vs
  edge_iff true vs = ring_allowed_iff p W H

  module _ (book : Book) (r n : ℕ) where
    -- What both fetches test before 10: a book and r, a picture, and a number of the book.
    pub fetch_first_iff :
        (fetch_first book r p W H words n ≡ none) ↔ ((IsBook book × IsCycles r) × (IsPicture p W H words × (n < book.count)))
    unfolding fetch_first
    fetch_first_iff =
        (test_before (book_test_iff book r) (test_before picture_test_iff (last_test (number_in_book_iff book.count n)))).iff

    -- What both fetches begin with: a legal one.
    pub fetch_start_iff : (fetch_start book r p W H words n ≡ none) ↔ LegalFetch book r p W H words n
    unfolding fetch_start
    fetch_start_iff =
        Iff.trans (test_before fetch_first_iff (last_test Iff.rfl)).iff (
          λ ((book-legal, (picture, number)), suiting). record {
            legal_book = book-legal.0;
            legal_cycles = book-legal.1;
            picture = picture;
            number = number;
            suiting = (tests_mean.suits_10 r (pattern_at book n) p n picture.plan).0 suiting;
          },
          λ l. (
            ((l.legal_book, l.legal_cycles), (l.picture, l.number)),
            (tests_mean.suits_10 r (pattern_at book n) p n l.picture.plan).1 l.suiting,
          ),
        )

    -- Either fetch: a legal one, the edge, and room.
    pub fetch_test_iff :
        (ring : Bool) (o : Pixel) (room : ℕ) → (fetch_test ring book r p W H words n o room ≡ none)
        ↔ (LegalFetch book r p W H words n × (EdgeAllowed ring p W H (moved (pattern_at book n) o) × ((pattern_at book n).used ≤ room)))
    unfolding fetch_test rest_test
    fetch_test_iff ring o room =
        (test_before fetch_start_iff
        (test_before (edge_iff ring (moved (pattern_at book n) o)) (last_test (output_enough_iff (pattern_at book n).used room)))).iff

module _ (p : Plan) (W H : ℕ) (s : Size) where
  -- The tests of a picture that is lent with its sums.
  pub lent_test_iff : (lent_test p W H s ≡ none) ↔ IsLent p W H s
  unfolding lent_test
  lent_test_iff =
      Iff.trans (test_before (picture_test_iff p W H s.words) (last_test (sums_enough_iff p s.entries))).iff (
        λ h. record { picture = h.0; sums = h.1 },
        λ h. (h.picture, h.sums),
      )

  -- Store and clear: those, and the pixel inside or the bank below N.
  pub store_test_iff : (v : Pixel) → (store_test p W H s v ≡ none) ↔ (IsLent p W H s × Inside W H v)
  unfolding store_test
  store_test_iff v = (test_before lent_test_iff (last_test (one_inside_iff W H v))).iff

  pub clear_test_iff : (k : ℕ) → (clear_test p W H s k ≡ none) ↔ (IsLent p W H s × (k < banks p))
  unfolding clear_test
  clear_test_iff k = (test_before lent_test_iff (last_test (bank_below_iff p k))).iff
