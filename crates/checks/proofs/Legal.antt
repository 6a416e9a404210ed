-- A legal call, of the test of a record, the writer or plans, is never refused, and a refused call leaves what it was lent
-- as it was.
-- Assumes nothing.
use Rattle.std.specs.Prelude.{Ok, Err}
use Prim.Native.Nat.{ℕ, ◌≤◌}
use mathlib.Core.Path.{◌≡◌, ap}
use mathlib.Core.Logic.{◌↔◌}
use mathlib.Core.Bool.{Bool, true, false}
use mathlib.Core.Option.{Option, none}
use mathlib.Core.List.Memᴰ
use mathlib.Core.List.{List, [], ◌∷◌, map}
use lib.ListN.{length}
use Rattle.scope.specs.Search.{first_of}
use Rattle.scope.specs.Plans.{Pixel, pattern_at, pixels, determinant_size, normal_form}
use Rattle.scope.specs.Banks.{bank_of, address_of, depth_of, word_in, over_start}
use Rattle.scope.specs.Books.{book_bytes}
use Rattle.scope.specs.Numbers.{value, refusal, of_result, of_fetch, record_test, plan_test, sides_test, outside_test}
use Rattle.scope.specs.Numbers.{output_test}
use Rattle.scope.specs.Calls.{changed, record_outcome, write_book, normal, bank, depth, address, store, clear}
use Rattle.scope.specs.Calls.{size_of, lent_test, store_test, clear_test, make_sums, moved, pixels_read, beside_clash, fetch_first, fetch_test, fetch_rest, either_fetch, fetch, ring_fetch, cycles_first, write_cycles_test, write_cycles, record_pixel, placed, fill_records}
use Rattle.scope.specs.promises.Meaning.{IsPlan, IsSide, Inside, AllInside, IsBook, Independent, LegalCallsAnswer}
use Rattle.scope.specs.promises.PicturePromises.{RefusalsChangeNothing}
use Rattle.scope.specs.declared.Plan.{Plan}
use Rattle.scope.specs.declared.Book.{Book}
use Rattle.scope.specs.Cycles.{LongClash, cycles}
use Rattle.scope.specs.declared.Refusal.{Refusal}
use Rattle.checks.proofs.Chains.{value_not_refusal, answered_none, changed_none_answer, refusal_keeps_content}
use Rattle.checks.proofs.ClashAnswers.{with_refusal}
use Rattle.checks.proofs.Booleans.{last_test, test_before}
use Rattle.checks.proofs.Tests.{independent_iff, size_within_iff, plan_legal_iff, sides_legal_iff, all_inside_iff, output_enough_iff}
use Rattle.checks.proofs.BookTests.{book_legal_iff}

-- one pixel that is inside is a list of such
pub one_inside : (W H : ℕ) (v : Pixel) → Inside W H v → AllInside W H (v ∷ [])
one_inside W H v h w m = rw (Memᴰ.eq_of_singleton m) h

-- the writer's tests: a legal book, and room for its bytes
pub write_test_iff :
    (book : Book) (room : ℕ)
    → (first_of (record_test book ∷ output_test (length (book_bytes book)) room ∷ []) ≡ none)
    ↔ (IsBook book × (length (book_bytes book) ≤ room))
write_test_iff book room = (test_before (book_legal_iff book) (last_test (output_enough_iff (length (book_bytes book)) room))).iff

-- the tests of a record list, and of the address of one pixel: a plan, the sides, and every pixel inside
pub fill_test_iff :
    (p : Plan) (W H : ℕ) (vs : List Pixel)
    → (first_of (plan_test p ∷ sides_test W H ∷ outside_test W H vs ∷ []) ≡ none)
    ↔ (IsPlan p × ((IsSide W × IsSide H) × AllInside W H vs))
fill_test_iff p W H vs =
    (test_before (plan_legal_iff p) (test_before (sides_legal_iff W H) (last_test (all_inside_iff W H vs)))).iff

record_answers : (book : Book) → IsBook book → of_result (record_outcome book) ≡ value tt
unfolding record_outcome
record_answers book legal =
    ap of_result (answered_none (record_test book) Err (Ok tt) ((book_legal_iff book).1 legal))

write_answers :
    (book : Book) (out : List ℕ) → IsBook book → length (book_bytes book) ≤ length out
    → of_result (write_book book out).answer ≡ value (length (book_bytes book))
unfolding write_book
write_answers book out legal room =
    ap of_result
    (changed_none_answer _ Err out (Ok (length (book_bytes book))) (over_start (book_bytes book) out)
    ((write_test_iff book (length out)).1 (legal, room)))

normal_answers : (x y : Pixel) → Independent x y → determinant_size x y ≤ 1024 → of_result (normal x y) ≡ value (normal_form x y)
unfolding normal
normal_answers x y independent small =
    ap of_result
    (answered_none _ Err (Ok (normal_form x y))
    ((test_before (independent_iff x y) (last_test (size_within_iff x y))).iff.1 (independent, small)))

pub bank_answers : (p : Plan) (v : Pixel) → IsPlan p → of_result (bank p v) ≡ value (bank_of p v)
unfolding bank
bank_answers p v plan = ap of_result (answered_none _ Err (Ok (bank_of p v)) ((plan_legal_iff p).1 plan))

depth_answers : (p : Plan) (W H : ℕ) → IsPlan p → IsSide W → IsSide H → of_result (depth p W H) ≡ value (depth_of p W H)
unfolding depth
depth_answers p W H plan w h =
    ap of_result
    (answered_none _ Err (Ok (depth_of p W H))
    ((test_before (plan_legal_iff p) (last_test (sides_legal_iff W H))).iff.1 (plan, (w, h))))

address_answers :
    (p : Plan) (W H : ℕ) (v : Pixel) → IsPlan p → IsSide W → IsSide H → Inside W H v
    → of_result (address p W H v) ≡ value (address_of p W H v)
unfolding address
address_answers p W H v plan w h inside =
    ap of_result
    (answered_none _ Err (Ok (address_of p W H v))
    ((fill_test_iff p W H (v ∷ [])).1 (plan, ((w, h), one_inside W H v inside))))

-- A legal call, of the test of a record, the writer or plans, gives its value.
pub legal_calls_answer : LegalCallsAnswer
legal_calls_answer =
    record {
      record_outcome_lem = record_answers;
      write = write_answers;
      normal_form_lem = normal_answers;
      bank_is = bank_answers;
      depth_is = depth_answers;
      address_is = address_answers;
    }

-- a call that answers a value or a refusal
unchanged :
    {X Y : Type 0} (t : Option Refusal) (old : Y) (x : X) (new : Y) (n i : ℕ) (c : Option LongClash)
    → of_result (changed t Err old (Ok x) new).answer ≡ refusal n i c
    → (changed t Err old (Ok x) new).content ≡ old
unchanged t old x new n i c e = refusal_keeps_content of_result t Err old (Ok x) new n i c e value_not_refusal

-- and one that counts beside a clash
beside_unchanged :
    (before : Option Refusal) (r : ℕ) (p : Plan) (book : Book) (m : ℕ) (t : Option Refusal) (old : List ℕ) (count : ℕ) (new : List ℕ)
    (n i : ℕ) (c : Option LongClash)
    → of_fetch r (beside_clash before r p book m (changed t Err old (Ok count) new)).answer ≡ refusal n i c
    → (beside_clash before r p book m (changed t Err old (Ok count) new)).content ≡ old
unfolding beside_clash
beside_unchanged before r p book m t old count new n i c e =
    let inner = with_refusal _ (of_result (changed t Err old (Ok count) new).answer) n i c e in
    unchanged t old count new n i inner.0 inner.1

either_unchanged :
    (ring : Bool) (book : Book) (r : ℕ) (p : Plan) (W H : ℕ) (mem : List ℕ) (m : ℕ) (o : Pixel) (out : List ℕ) (n i : ℕ) (c : Option LongClash)
    → of_fetch r (either_fetch ring book r p W H mem m o out).answer ≡ refusal n i c
    → (either_fetch ring book r p W H mem m o out).content ≡ out
unfolding either_fetch fetch_rest fetch_test
either_unchanged ring book r p W H mem m o out =
    beside_unchanged (fetch_first book r p W H (length mem) m) r p book m (fetch_test ring book r p W H (length mem) m o (length out)) out _
    (over_start (map (word_in p W H mem) (pixels_read ring W H (moved (pattern_at book m) o))) out)

-- On a refusal, buffers and lists stay unchanged.
pub refusals_change_nothing : RefusalsChangeNothing
unfolding write_book store clear make_sums fetch ring_fetch write_cycles fill_records
refusals_change_nothing =
    record {
      writes =
          λ book out.
          unchanged (first_of (record_test book ∷ output_test (length (book_bytes book)) (length out) ∷ [])) out
          (length (book_bytes book))
          (over_start (book_bytes book) out);
      stores = λ p W H l v x. unchanged (store_test p W H (size_of l) v) l tt _;
      clears = λ p W H l k. unchanged (clear_test p W H (size_of l) k) l tt _;
      makes_sums = λ p W H l. unchanged (lent_test p W H (size_of l)) l tt _;
      fetches = either_unchanged false;
      ring_fetches = either_unchanged true;
      writes_cycles =
          λ book r p m out.
          beside_unchanged (cycles_first book r p m) r p book m (write_cycles_test book r p m (length out)) out _
          (over_start (cycles p (pixels (pattern_at book m))) out);
      fills =
          λ p W H rs.
          unchanged (first_of (plan_test p ∷ sides_test W H ∷ outside_test W H (map record_pixel rs) ∷ [])) rs tt (map (placed p W H) rs);
    }
