-- The calls on a picture: a legal call is never refused and gives what it is for.
-- Assumes nothing.
use Rattle.std.specs.Prelude.{Ok, Err}
use Rattle.std.proofs.Common.{Result, ◌≡◌, ℕ, zero, suc, ◌+◌, ◌*◌, ◌<◌, ◌≤◌, List, [], ◌∷◌, map, length, get_or, refl, ap, ◌∙◌, arith}
use mathlib.Core.Option.{Option, none}
use lib.ListN.{length-map}
use Rattle.scope.specs.Plans.{Pixel, banks}
use Rattle.scope.specs.Banks.{bank_of, depth_of, word_of, word_in, after_store, after_clear, bank_sum, sums_after_store, sums_after_clear, fresh_sums}
use Rattle.scope.specs.Numbers.{value, of_result}
use Rattle.scope.specs.Calls.{changed, Lent, lent, size_of, store, load, whole_bank_test, clear, sum, make_sums, read_sum, record_pixel, placed, fill_records}
use Rattle.scope.specs.promises.Meaning.{IsPlan, IsSide, Inside, AllInside, IsPicture, IsLent}
use Rattle.scope.specs.promises.PicturePromises.{word_at, StoredOne, ClearedOne, SumsMade, total_below, no_record, FilledAll, PictureCalls}
use Rattle.scope.specs.declared.Plan.{Plan}
use Rattle.scope.specs.declared.PixelRecord.{PixelRecord}
use Rattle.scope.specs.declared.Refusal.{Refusal}
use Rattle.checks.proofs.Lists.{get_d_map}
use Rattle.checks.proofs.Legal.{fill_test_iff}
use Rattle.checks.proofs.Chains.{value_injective, answered_none, changed_none_answer, changed_none_content, answered_value}
use Rattle.lattice.proofs.SameBank.{banks_are_classes}
use Rattle.lattice.proofs.Words.{pixels_have_words, depth_at_most}
use Rattle.pictures.proofs.Memory.{bank_end, bank_in_picture, store_puts, store_elsewhere, store_past, store_length}
use Rattle.pictures.proofs.Memory.{clear_zeros, clear_before, clear_after, clear_past, clear_length}
use Rattle.pictures.proofs.BankSums.{bank_sum_is_total, total_below_lem}
use Rattle.pictures.proofs.CallTests.{word_test_iff, bank_test_iff, lent_test_iff, store_test_iff, clear_test_iff, read_sum_test_iff}
use Rattle.pictures.proofs.SumEntries.{same_size, store_sum, store_other_sums, store_sums_length, clear_sum, clear_other_sums, clear_sums_length}
use Rattle.pictures.proofs.SumEntries.{fresh_sum, fresh_past, fresh_length}
use Rattle.pictures.proofs.Fetches.{fetch_gives, ring_fetch_gives, cycles_given}

-- a call that changes what it was lent and whose tests found nothing is done, and leaves the new content
abbrev done : Result Unit Refusal
done = Ok tt

module _ {X : Type 0} {t : Option Refusal} (old new : X) (passed : t ≡ none) where
  is_done : of_result (changed t Err old done new).answer ≡ value tt
  is_done = ap of_result (changed_none_answer t Err old done new passed)

  content_is : (changed t Err old done new).content ≡ new
  content_is = changed_none_content t Err old done new passed

module _ (p : Plan) (W H : ℕ) (l : Lent) (legal : IsLent p W H (size_of l)) where
  abbrev held : List ℕ
  held = l.memory

  store_gives : (v : Pixel) (x : ℕ) → Inside W H v → StoredOne p W H l v x (store p W H l v x)
  unfolding store word_of word_in
  store_gives v x inside =
      let passed = (store_test_iff p W H (size_of l) v).1 (legal, inside) in
      let below : word_of p W H v < banks p * depth_of p W H = (pixels_have_words p W H legal.picture.plan).word_below v inside in
      let bank : bank_of p v < banks p = (banks_are_classes p legal.picture.plan).bank_below v in
      let after : Lent = lent (after_store p W H held v x) (sums_after_store p W H held l.sums v x) in
      let is = content_is l after passed in
      record {
        done = is_done l after passed;
        put = rw is (store_puts p W H held v x (omega (arith, legal.picture.memory)));
        elsewhere = λ i h. rw is (store_elsewhere p W H held v x i h);
        past = rw is (store_past p W H held v x (banks p * depth_of p W H) below);
        sum = rw is (store_sum p W H held l.sums v x (omega (arith, bank, legal.sums)));
        other_sums = λ k h. rw is (store_other_sums p W H held l.sums v x k h);
        as_long = rw is (same_size after l (store_length p W H held v x) (store_sums_length p W H held l.sums v x));
      }

  clear_gives : (k : ℕ) → k < banks p → ClearedOne p W H l k (clear p W H l k)
  unfolding clear
  clear_gives k below =
      let passed = (clear_test_iff p W H (size_of l) k).1 (legal, below) in
      let fits : bank_end p W H k ≤ length held = omega (arith, bank_in_picture p W H k below, legal.picture.memory) in
      let after : Lent = lent (after_clear p W H held k) (sums_after_clear l.sums k) in
      let is = content_is l after passed in
      record {
        done = is_done l after passed;
        zeros = λ i h. rw is (clear_zeros p W H held k fits i h);
        before = λ i h. rw is (clear_before p W H held k fits i h);
        after = λ i h. rw is (clear_after p W H held k fits i h);
        past = rw is (clear_past p W H held k fits (banks p * depth_of p W H) (bank_in_picture p W H k below));
        sum = rw is (clear_sum l.sums k (omega (arith, below, legal.sums)));
        other_sums = λ m h. rw is (clear_other_sums l.sums k m h);
        as_long = rw is (same_size after l (clear_length p W H held k fits) (clear_sums_length l.sums k));
      }

  sums_given : SumsMade p W H l (make_sums p W H l)
  unfolding make_sums
  sums_given =
      let passed = (lent_test_iff p W H (size_of l)).1 legal in
      let after : Lent = lent held (fresh_sums p W H held l.sums) in
      let is = content_is l after passed in
      record {
        done = is_done l after passed;
        each =
            λ k below.
            let fits : bank_end p W H k ≤ length held = omega (arith, bank_in_picture p W H k below, legal.picture.memory) in
            rw is (fresh_sum p W H held l.sums k below ∙ bank_sum_is_total p W H held k fits);
        past = rw is (fresh_past p W H held l.sums);
        memory_kept = rw is refl;
        as_long = rw is (same_size after l refl (fresh_length p W H held l.sums legal.sums));
      }

sum_read :
    (p : Plan) (sums : List ℕ) (k : ℕ) → IsPlan p → banks p ≤ length sums → k < banks p
    → of_result (read_sum p sums k) ≡ value (get_or sums k 0)
unfolding read_sum
sum_read p sums k plan enough below =
    ap of_result
    (answered_none _ Err (Ok (get_or sums k 0)) ((read_sum_test_iff p (length sums) k).1 (plan, (enough, below))))

module _ (p : Plan) (W H : ℕ) (mem : List ℕ) where
  load_gives : (v : Pixel) → IsPicture p W H (length mem) → Inside W H v → of_result (load p W H mem v) ≡ value (word_at p W H mem v)
  unfolding load word_in word_of
  load_gives v legal inside =
      ap of_result
      (answered_none _ Err (Ok (word_in p W H mem v)) ((word_test_iff p W H (length mem) v).1 (legal, inside)))

  module _ (k : ℕ) (legal : IsPicture p W H (length mem)) (below : k < banks p) where
    passed : whole_bank_test p W H (length mem) k ≡ none
    passed = (bank_test_iff p W H (length mem) k).1 (legal, below)

    fits : bank_end p W H k ≤ length mem
    fits = omega (arith, bank_in_picture p W H k below)

    sum_gives : of_result (sum p W H mem k) ≡ value (total_below (depth_of p W H) (λ i. get_or mem (k * depth_of p W H + i) 0))
    unfolding sum
    sum_gives =
        ap of_result (answered_none _ Err (Ok (bank_sum p W H mem k)) passed)
        ∙ ap value (bank_sum_is_total p W H mem k fits)

  -- at most 4096 × 4096 words below 65536
  sum_below :
      (k n : ℕ) → ((i : ℕ) → get_or mem i 0 < 65536) → of_result (sum p W H mem k) ≡ value n → n < 0x1_0000_0000_0000_0000
  unfolding sum
  sum_below k n small e =
      let t = answered_value of_result _ Err (Ok (bank_sum p W H mem k)) n (λ r. refl) e in
      let (legal, below) = (bank_test_iff p W H (length mem) k).0 t.0 in
      omega (
        arith,
        value_injective t.1,
        bank_sum_is_total p W H mem k (fits k legal below),
        total_below_lem (depth_of p W H) 65536 (λ i. get_or mem (k * depth_of p W H + i) 0) (λ i. small (k * depth_of p W H + i)),
        depth_at_most p W H legal.plan legal.w_side legal.h_side,
      )

module _ (p : Plan) (W H : ℕ) where
  -- a filled record has the pixel it had; past the end there is no record, before and after
  pixel_kept :
      (rs : List PixelRecord) (i : ℕ)
      → record_pixel (get_or (map (placed p W H) rs) i no_record) ≡ record_pixel (get_or rs i no_record)
  unfolding placed record_pixel
  pixel_kept [] i = refl
  pixel_kept (r ∷ rs) zero = refl
  pixel_kept (r ∷ rs) (suc i) = pixel_kept rs i

  fill_gives :
      (rs : List PixelRecord) → IsPlan p → IsSide W → IsSide H → AllInside W H (map record_pixel rs)
      → FilledAll p W H rs (fill_records p W H rs)
  unfolding fill_records placed
  fill_gives rs plan w_side h_side inside =
      let passed = (fill_test_iff p W H (map record_pixel rs)).1 (plan, ((w_side, h_side), inside)) in
      let is = content_is rs (map (placed p W H) rs) passed in
      record {
        done = is_done rs (map (placed p W H) rs) passed;
        as_long = rw is (length-map rs (placed p W H));
        pixel = λ i. rw is (pixel_kept rs i);
        bank = λ i h. rw is (ap (λ (r : PixelRecord). r.bank) (get_d_map (placed p W H) rs i no_record no_record h));
        address = λ i h. rw is (ap (λ (r : PixelRecord). r.address) (get_d_map (placed p W H) rs i no_record no_record h));
      }

-- A legal call on a picture is never refused and gives what it is for.
pub picture_calls : PictureCalls
picture_calls =
    record {
      stores = λ p W H l v x legal. store_gives p W H l legal v x;
      loads = load_gives;
      clears = λ p W H l k legal. clear_gives p W H l legal k;
      sums = sum_gives;
      sum_fits = sum_below;
      makes_sums = sums_given;
      reads_sum = sum_read;
      fetches = λ book r p W H mem n o out legal inside enough. fetch_gives book r p W H mem n o out legal enough inside;
      ring_fetches = λ book r p W H mem n o out legal allowed enough. ring_fetch_gives book r p W H mem n o out legal enough allowed;
      writes_cycles = cycles_given;
      fills = fill_gives;
    }
