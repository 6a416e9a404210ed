-- What a legal fetch gives, plain or ring: the words of its pixels in order, at most one from each bank in each of r cycles. And what
-- the call for the cycles gives: the cycles of its pixels in order.
-- Assumes nothing.
use Rattle.std.specs.Prelude.{Result, Ok, Err}
use Rattle.std.proofs.Common.{◌≡◌, ℕ, suc, ◌<◌, ◌≤◌, Bool, true, false, List, map, length, get_or, take, drop, refl, ap, ◌∙◌, subst, arith}
use mathlib.Core.Option.{Option, none}
use lib.ListN.{length-map}
use Rattle.scope.specs.Plans.{Pixel, pattern_at, pixels}
use Rattle.scope.specs.Banks.{word_of, word_in, over_start, wrapped}
use Rattle.scope.specs.Cycles.{cycle_of, cycles}
use Rattle.scope.specs.Numbers.{value, with_positions, of_result, of_fetch}
use Rattle.scope.specs.Calls.{After, changed, moved, ring_moved, beside_clash, pixels_read, fetch_first, fetch_rest, fetch_test, either_fetch, fetch, ring_fetch}
use Rattle.scope.specs.Calls.{cycles_first, write_cycles_test, write_cycles}
use Rattle.scope.specs.promises.Meaning.{AllInside, RingAllowed}
use Rattle.scope.specs.promises.Demand.{EdgeAllowed}
use Rattle.scope.specs.promises.PicturePromises.{FetchedAll, LegalFetch, LegalCycles, WrittenCycles}
use Rattle.scope.specs.declared.Plan.{Plan}
use Rattle.scope.specs.declared.Book.{Book}
use Rattle.scope.specs.declared.Pattern.{Pattern}
use Rattle.scope.specs.declared.FetchAnswer.{FetchAnswer}
use Rattle.scope.specs.declared.Refusal.{Refusal}
use Rattle.checks.proofs.Chains.{changed_none_answer, changed_none_content}
use Rattle.checks.proofs.Patterns.{origin, length_pixels}
use Rattle.checks.proofs.Lists.{get_d_map}
use Rattle.checks.proofs.Outputs.{over_start_words, over_start_rest, over_start_length}
use Rattle.lattice.proofs.Rings.{read_in_cycles}
use Rattle.lattice.proofs.Cycles.{cycle_below, cycles_part}
use Rattle.lattice.proofs.Formulas.{moved_size}
use Rattle.pictures.proofs.CallTests.{fetch_test_iff, cycles_test_iff}

-- A call that puts the numbers xs, m of them, at the start of its output, beside a clash: what it gives where its tests find nothing.
module _
    (before : Option Refusal) (r : ℕ) (p : Plan) (book : Book) (n : ℕ) (t : Option Refusal) (m : ℕ) (xs out : List ℕ)
  where
    abbrev putting : After FetchAnswer (List ℕ)
    putting = beside_clash before r p book n (changed t Err out (Ok m) (over_start xs out))

    record PutAll : Type 0 where
      count : of_fetch r putting.answer ≡ value m
      numbers : (e : ℕ) → e < m → get_or putting.content e 0 ≡ get_or xs e 0
      rest : drop m putting.content ≡ drop m out
      as_long : length putting.content ≡ length out

    counted_is : t ≡ none → of_fetch r putting.answer ≡ value m
    unfolding beside_clash
    counted_is passed =
        ap (λ (c : Result ℕ Refusal). with_positions (take (suc r) putting.answer.positions) (of_result c))
        (changed_none_answer t Err out (Ok m) (over_start xs out) passed)

    content_is : t ≡ none → putting.content ≡ over_start xs out
    unfolding beside_clash
    content_is passed = changed_none_content t Err out _ _ passed

    put_all : t ≡ none → length xs ≡ m → m ≤ length out → PutAll
    put_all passed size room =
        record {
          count = counted_is passed;
          numbers = λ e h. rw (content_is passed) (over_start_words xs out e (omega (arith, size)));
          rest = rw (content_is passed) (rw size at (over_start_rest xs out));
          as_long = rw (content_is passed) (over_start_length xs out (omega (arith, size)));
        }

-- as many pixels are read, wrapped or not
pub length_read : (ring : Bool) (W H : ℕ) (vs : List Pixel) → length (pixels_read ring W H vs) ≡ length vs
unfolding pixels_read
length_read false W H vs = refl
length_read true W H vs = length-map vs (wrapped W H)

module _
    (book : Book) (r : ℕ) (p : Plan) (W H : ℕ) (mem : List ℕ) (n : ℕ) (o : Pixel) (out : List ℕ)
    (legal : LegalFetch book r p W H (length mem) n) (enough : (pattern_at book n).used ≤ length out)
  where
    abbrev t : Pattern
    t = pattern_at book n

    -- either fetch, where its tests find nothing
    module _ (ring : Bool) where
      abbrev vs : List Pixel
      vs = pixels_read ring W H (moved t o)

      abbrev words : List ℕ
      words = map (word_in p W H mem) vs

      either_gives : EdgeAllowed ring p W H (moved t o) → FetchedAll r p W H mem t vs out (either_fetch ring book r p W H mem n o out)
      unfolding either_fetch fetch_rest fetch_test word_in word_of
      either_gives allowed =
          let here = legal.picture in
          let put =
          put_all (fetch_first book r p W H (length mem) n) r p book n (fetch_test ring book r p W H (length mem) n o (length out))
          (length vs) words out ((fetch_test_iff p W H (length mem) book r n ring o (length out)).1 (legal, (allowed, enough)))
          (length-map vs (word_in p W H mem))
          (omega (arith, length_read ring W H (moved t o), moved_size t o)) in
          record {
            count = put.count;
            words = λ e h. put.numbers e h ∙ get_d_map (word_in p W H mem) vs e origin 0 h;
            rest = put.rest;
            as_long = put.as_long;
            in_cycles = read_in_cycles p W H here.w_side.0 here.h_side.0 ring r t o here.plan allowed legal.suiting;
          }

    -- A legal fetch gives the words of its pixels.
    pub fetch_gives : AllInside W H (moved t o) → FetchedAll r p W H mem t (moved t o) out (fetch book r p W H mem n o out)
    unfolding fetch pixels_read
    fetch_gives = either_gives false

    -- A legal ring fetch gives the words of its wrapped pixels.
    pub ring_fetch_gives : RingAllowed p W H → FetchedAll r p W H mem t (ring_moved W H t o) out (ring_fetch book r p W H mem n o out)
    unfolding ring_fetch pixels_read ring_moved
    ring_fetch_gives = either_gives true

-- The call for the cycles, where it is legal, gives those of its pixels.
pub cycles_given :
    (book : Book) (r : ℕ) (p : Plan) (n : ℕ) (out : List ℕ) → LegalCycles book r p n → (pattern_at book n).used ≤ length out
    → WrittenCycles r p (pattern_at book n) out (write_cycles book r p n out)
unfolding write_cycles
cycles_given book r p n out legal enough =
    record {
      count = put.count ∙ ap value as_many;
      bytes = byte;
      below = λ e h. omega (arith, byte e h, cycle_below p legal.plan vs r legal.suiting e (omega (arith, size)));
      rest = subst (λ (k : ℕ). drop k (write_cycles book r p n out).content ≡ drop k out) as_many put.rest;
      as_long = put.as_long;
    }
  where
    vs : List Pixel
    vs = pixels (pattern_at book n)

    size : length vs ≡ (pattern_at book n).used
    size = length_pixels (pattern_at book n)

    as_many : length (cycles p vs) ≡ (pattern_at book n).used
    as_many = cycles_part.as_many p vs ∙ size

    put :
        PutAll (cycles_first book r p n) r p book n (write_cycles_test book r p n (length out)) (length (cycles p vs)) (cycles p vs) out
    put =
        put_all (cycles_first book r p n) r p book n (write_cycles_test book r p n (length out)) (length (cycles p vs)) (cycles p vs) out
        ((cycles_test_iff book r p n (length out)).1 (legal, enough)) refl (omega (arith, as_many))

    byte : (e : ℕ) → e < (pattern_at book n).used → get_or (write_cycles book r p n out).content e 0 ≡ cycle_of p vs e
    byte e h = put.numbers e (omega (arith, as_many)) ∙ cycles_part.in_order p vs e (omega (arith, size))
