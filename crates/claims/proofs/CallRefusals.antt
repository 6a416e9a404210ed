-- Where a condition of the table holds, and none that is tested before it, a call gives that number.
-- Assumes nothing.
use Rattle.std.specs.Prelude.{Ok, Err}
use Prim.Native.Nat.{ℕ}
use native.Mathlib.Omega.{arith}
use mathlib.Core.Path.{refl, ap}
use mathlib.Core.Bool.{true, false}
use mathlib.Core.List.{List, [], ◌∷◌, map}
use lib.ListN.{length}
use Rattle.scope.specs.Plans.{Pixel, pattern_at}
use Rattle.scope.specs.Books.{book_bytes}
use Rattle.scope.specs.Numbers.{of_result, of_located}
use Rattle.scope.specs.Numbers.{record_test, limit_test, cycles_test, dependent_test, large_test, plan_test, sides_test, sums_test, outside_test, bank_test, cell_test, output_test}
use Rattle.scope.specs.Calls.{record_outcome, write_book, normal, find, find_test, bank, depth, address, locate, Lent, size_of, store, load, clear, make_sums, read_sum}
use Rattle.scope.specs.Calls.{sum, moved, fetch, ring_fetch, record_pixel, fill_records}
use Rattle.scope.specs.promises.RefusalPromises.{CallsRefuse}
use Rattle.scope.specs.declared.Plan.{Plan}
use Rattle.scope.specs.declared.Book.{Book}
use Rattle.scope.specs.declared.Refusal.TheVariants.{NotPlan}
use Rattle.scope.specs.declared.PixelRecord.{PixelRecord}
use Rattle.checks.proofs.Chains.{answered_some, picture_tests}
use Rattle.checks.proofs.Deciding.{Follows, picture_follows, lent_follows, answered_follows, changed_follows, refused_by_first, refused_unless, after}
use Rattle.checks.proofs.Deciding.{limit_decides, cycles_decide, independent_decides, plan_decides, inside_decides, sums_decide, bank_decides}
use Rattle.claims.proofs.RefusalChains.{one_outside, after_book, large_refused, output_refused, plan_refused, after_sides, lent_refused, after_lent, word_refused, bank_refused}
use Rattle.claims.proofs.CycleRefusals.{count_refused, check_refused, check_dependent, check_large, either_refused, room_refused, outside_edge, ring_edge}
use Rattle.claims.proofs.CycleRefusals.{fetch_outside, ring_refused, written_refused, written_short}

-- Each call's answer follows its chain.
normal_follows : (x y : Pixel) → Follows (dependent_test x y ∷ large_test x y ∷ []) (of_result (normal x y))
unfolding normal
normal_follows x y = answered_follows of_result _ (λ r. refl)

find_follows :
    (book : Book) (r limit : ℕ) → Follows (record_test book ∷ limit_test limit ∷ cycles_test r ∷ []) (of_result (find book r limit))
unfolding find find_test
find_follows book r limit = answered_follows of_result _ (λ r. refl)

write_follows :
    (book : Book) (out : List ℕ)
    → Follows (record_test book ∷ output_test (length (book_bytes book)) (length out) ∷ []) (of_result (write_book book out).answer)
unfolding write_book
write_follows book out = changed_follows of_result _ _ _ (λ r. refl)

address_follows :
    (p : Plan) (W H : ℕ) (v : Pixel)
    → Follows (plan_test p ∷ sides_test W H ∷ outside_test W H (v ∷ []) ∷ []) (of_result (address p W H v))
unfolding address
address_follows p W H v = answered_follows of_result _ (λ r. refl)

fill_follows :
    (p : Plan) (W H : ℕ) (rs : List PixelRecord)
    → Follows (plan_test p ∷ sides_test W H ∷ outside_test W H (map record_pixel rs) ∷ []) (of_result (fill_records p W H rs).answer)
unfolding fill_records
fill_follows p W H rs = changed_follows of_result _ _ _ (λ r. refl)

store_follows :
    (p : Plan) (W H : ℕ) (l : Lent) (v : Pixel) (x : ℕ)
    → Follows (picture_tests p W H (length l.memory) (sums_test p (length l.sums) ∷ outside_test W H (v ∷ []) ∷ []))
    (of_result (store p W H l v x).answer)
unfolding store
store_follows p W H l v x = lent_follows p W H (length l.memory) (length l.sums) (changed_follows of_result _ _ _ (λ r. refl))

clear_follows :
    (p : Plan) (W H : ℕ) (l : Lent) (k : ℕ)
    → Follows (picture_tests p W H (length l.memory) (sums_test p (length l.sums) ∷ bank_test p k ∷ [])) (of_result (clear p W H l k).answer)
unfolding clear
clear_follows p W H l k = lent_follows p W H (length l.memory) (length l.sums) (changed_follows of_result _ _ _ (λ r. refl))

make_follows :
    (p : Plan) (W H : ℕ) (l : Lent)
    → Follows (picture_tests p W H (length l.memory) (sums_test p (length l.sums) ∷ [])) (of_result (make_sums p W H l).answer)
unfolding make_sums
make_follows p W H l = picture_follows p W H (length l.memory) (changed_follows of_result _ _ _ (λ r. refl))

read_follows :
    (p : Plan) (sums : List ℕ) (k : ℕ)
    → Follows (plan_test p ∷ sums_test p (length sums) ∷ bank_test p k ∷ []) (of_result (read_sum p sums k))
unfolding read_sum
read_follows p sums k = answered_follows of_result _ (λ r. refl)

-- A call that is turned down gives the number of the first condition that holds.
pub calls_refuse : CallsRefuse
unfolding record_outcome bank depth locate store load clear sum fetch ring_fetch
calls_refuse =
    record {
      normal_8 = λ x y. refused_unless (normal_follows x y) (independent_decides x y);
      normal_9 = λ x y. large_refused x y (normal_follows x y);
      find_2_3_4_19 = λ book r limit. refused_by_first (find_follows book r limit);
      find_6 = λ book r limit legal. refused_unless (after_book (find_follows book r limit) legal) (limit_decides limit);
      find_20 = λ book r limit legal least most.
          refused_unless (after (after_book (find_follows book r limit) legal) (limit_decides limit) (least, most)) (cycles_decide r);
      counts = count_refused;
      checks = check_refused;
      check_8 = check_dependent;
      check_9 = check_large;
      record_2_3_4_19 = λ book f e. ap of_result (answered_some (record_test book) Err (Ok tt) f e);
      write_2_3_4_19 = λ book out. refused_by_first (write_follows book out);
      write_16 = λ book out legal. output_refused (length (book_bytes book)) (length out) (after_book (write_follows book out) legal);
      bank_11 = λ p v fails. ap of_result (answered_some (plan_test p) Err _ NotPlan ((plan_decides p).refuses fails));
      depths = λ p W H. plan_refused {ts = []} (answered_follows of_result _ (λ r. refl));
      addresses = λ p W H v. plan_refused (address_follows p W H v);
      address_14 = λ p W H v plan w h outside.
          refused_unless (after_sides (address_follows p W H v) plan w h) (inside_decides W H (v ∷ [])) (one_outside outside);
      locates = λ p W H k i. plan_refused {ts = cell_test p W H k i ∷ []} (answered_follows of_located _ (λ r. refl));
      stores = λ p W H l v x. lent_refused {s = size_of l} (store_follows p W H l v x);
      store_14 = λ p W H l v x legal outside.
          refused_unless (after_lent (store_follows p W H l v x) legal) (inside_decides W H (v ∷ [])) (one_outside outside);
      loads = λ p W H mem v. word_refused (answered_follows of_result _ (λ r. refl));
      clears = λ p W H l k. lent_refused {s = size_of l} (clear_follows p W H l k);
      clear_15 = λ p W H l k legal above. refused_unless (after_lent (clear_follows p W H l k) legal) (bank_decides p k) (λ below. omega arith);
      sums = λ p W H mem k. bank_refused (answered_follows of_result _ (λ r. refl));
      makes_sums = λ p W H l. lent_refused {s = size_of l} (make_follows p W H l);
      read_sum_11 = λ p sums k. refused_unless (read_follows p sums k) (plan_decides p);
      read_sum_13 = λ p sums k plan few.
          refused_unless (after (read_follows p sums k) (plan_decides p) plan) (sums_decide p (length sums)) (λ enough. omega arith);
      read_sum_15 = λ p sums k plan enough above.
          refused_unless (after (after (read_follows p sums k) (plan_decides p) plan) (sums_decide p (length sums)) enough) (bank_decides p k)
          (λ below. omega arith);
      fetches = either_refused false;
      fetch_14 = fetch_outside;
      fetch_16 = λ book r p W H mem n o out. room_refused false book r p W H mem n o out (outside_edge p W H (moved (pattern_at book n) o));
      ring_fetches = either_refused true;
      ring_18 = ring_refused;
      ring_16 = λ book r p W H mem n o out. room_refused true book r p W H mem n o out (ring_edge p W H (moved (pattern_at book n) o));
      writes_cycles = written_refused;
      write_cycles_16 = written_short;
      fills = λ p W H rs. plan_refused (fill_follows p W H rs);
      fill_14 = λ p W H rs plan w h.
          refused_unless (after_sides (fill_follows p W H rs) plan w h) (inside_decides W H (map record_pixel rs));
    }
