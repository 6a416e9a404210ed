-- The clash for r of its own pattern that a fetch or the cycles are turned down by: the search found it, and the nine places hold it.
-- Assumes nothing.
use Rattle.std.specs.Prelude.{Ok, Err}
use Prim.Native.Nat.{ℕ, suc, ◌≤◌, ◌<◌}
use native.Mathlib.Omega.{arith}
use mathlib.Core.Path.{◌≡◌, refl, sym, ◌∙◌, ap, ap₂}
use mathlib.Core.Logic.{◌⊎◌, inl, inr}
use mathlib.Core.Bool.{Bool, true, false}
use mathlib.Core.Option.{Option, none, some}
use mathlib.Core.List.{List, [], ◌∷◌}
use lib.ListN.{length, take, drop}
use Rattle.scope.specs.Search.{first_of}
use Rattle.scope.specs.Plans.{Pixel, pattern_at, pixels}
use Rattle.scope.specs.Cycles.{LongClash, lengthened, shortened, clash_in_for}
use Rattle.scope.specs.Numbers.{refusal, of_result, of_fetch, number_of, clash_of, suits_test}
use Rattle.scope.specs.Numbers.{output_test, number_test, places}
use Rattle.scope.specs.Calls.{changed, clash_beside, moved, edge_test, fetch_first, fetch_start, rest_test, fetch_rest}
use Rattle.scope.specs.Calls.{book_test, picture_test, beside_clash, either_fetch, cycles_first, write_cycles_test, write_cycles}
use Rattle.scope.specs.promises.Meaning.{IsPlan, IsCycles}
use Rattle.scope.specs.promises.CyclePromises.{LongClashIsFirst}
use Rattle.scope.specs.promises.PlanPromises.{ClashOf}
use Rattle.scope.specs.declared.Plan.{Plan}
use Rattle.scope.specs.declared.Book.{Book}
use Rattle.scope.specs.declared.Pattern.{Pattern}
use Rattle.scope.specs.declared.Refusal.{Refusal}
use Rattle.checks.proofs.Searches.{some_injective}
use Rattle.checks.proofs.Chains.{value_not_refusal, RefusedBy, chain_some, changed_refusal, tests_as_one}
use Rattle.checks.proofs.ClashAnswers.{clash_is_ten, ClashWith, with_clash, places_first, places_rest, beside_none, nine_beside}
use Rattle.checks.proofs.Tests.{plan_legal_iff, sides_legal_iff, memory_enough_iff, number_in_book_iff}
use Rattle.checks.proofs.BookTests.{book_test_iff}
use Rattle.checks.proofs.Booleans.{last_test, test_before}
use Rattle.checks.proofs.Deciding.{cycles_decide, plan_decides, sides_decide, memory_decides, inside_decides, output_decides, number_decides, ring_decides}
use Rattle.checks.proofs.RefusalNumbers.{Numbers, ChainNumbers, decided_numbers, numbers_before, last_numbers, record_numbers}
use Rattle.lattice.proofs.TestMeanings.{suits_test_some}
use Rattle.lattice.proofs.LongClashes.{long_clashes_lem}

-- What the tests before 10 leave where they find nothing.
pub record BeforeTen (book : Book) (r : ℕ) (p : Plan) (n : ℕ) : Type 0 where
  pub cycles : IsCycles r
  pub plan : IsPlan p
  pub number : n < book.count

-- A call on pattern n that gave 10: these tests passed, the search found c, and the nine places hold its positions.
pub record FoundIn (book : Book) (r : ℕ) (p : Plan) (n : ℕ) (c : LongClash) (nine : List ℕ) : Type 0 where
  pub before : BeforeTen book r p n
  pub found : clash_in_for r p n (pixels (pattern_at book n)) ≡ some c
  pub is : nine ≡ places (some c)

-- so c is the first clash for r of the pattern
pub first_found : {book : Book} {r : ℕ} {p : Plan} {n : ℕ} {c : LongClash} {nine : List ℕ} → FoundIn book r p n c nine → ClashOf book r p n c nine
first_found {book} {r} {p} {n} {c} h =
    let b = h.before in
    let (number, first) = (long_clashes_lem r p b.plan.a_least b.plan.d_least).in_pattern n (pixels (pattern_at book n)) c h.found in
    record { in_book_lem = b.number; pattern = number; first = first; rest = ap (drop (suc r)) h.is ∙ places_rest c r first.size b.cycles.1 }

same_clash : {c k : LongClash} → c.pattern ≡ k.pattern → c.positions ≡ k.positions → c ≡ k
same_clash = ap₂ (λ (n : ℕ) (es : List ℕ). the_clash n es)
  where
    the_clash : ℕ → List ℕ → LongClash
    the_clash n es = record { pattern = n; positions = es }

-- a clash has r + 1 positions, r up to 8
pub own_size :
    (book : Book) (r : ℕ) (p : Plan) (n : ℕ) → BeforeTen book r p n
    → (r ≤ 8) × ((c : LongClash) → clash_in_for r p n (pixels (pattern_at book n)) ≡ some c → length c.positions ≡ suc r)
own_size book r p n b =
    (b.cycles.1, λ c e. ((long_clashes_lem r p b.plan.a_least b.plan.d_least).in_pattern n (pixels (pattern_at book n)) c e).1.size)

-- A clash that is told with the first r + 1 of the nine places is the one that the places hold.
pub told_whole :
    (r : ℕ) (c k : LongClash) (nine : List ℕ) → length k.positions ≡ suc r → nine ≡ places (some k)
    → c.pattern ≡ k.pattern → c.positions ≡ take (suc r) nine → c ≡ k
told_whole r c k nine size is pattern positions =
    same_clash pattern (positions ∙ ap (take (suc r)) is ∙ places_first k r size)

-- a number that is not 10
abbrev pub NotTen : ℕ → Type 0
NotTen n = n ≡ 10 → ⊥

-- a call that counts what it puts is refused only by its tests
pub refused_by_tests :
    (t : Option Refusal) (count : ℕ) (old new : List ℕ) {n i : ℕ} {c : Option LongClash}
    → of_result (changed t Err old (Ok count) new).answer ≡ refusal n i c
    → RefusedBy t n i c
refused_by_tests t count old new {n} {i} {c} h =
    by_source (changed_refusal of_result t Err old (Ok count) new n i c (λ f. refl) h)
  where
    by_source : RefusedBy t n i c ⊎ ((t ≡ none) × (of_result (Ok count) ≡ refusal n i c)) → RefusedBy t n i c
    by_source (inl k) = k
    by_source (inr k) = absurd (value_not_refusal k.1)

-- A call on pattern n that gives 10, where the tests before and after that never do: the clash is the first one of its own pattern.
module _ (book : Book) (r : ℕ) (p : Plan) (n : ℕ) (c : LongClash) (before : Option Refusal) (after : List (Option Refusal)) where
  abbrev t : Pattern
  t = pattern_at book n

  abbrev tests : Option Refusal
  tests = first_of (before ∷ suits_test r p n t ∷ after)

  abbrev l : Option LongClash
  l = clash_in_for r p n (pixels t)

  -- the tests passed up to 10, which found this clash
  pub record OwnClash (d : LongClash) : Type 0 where
    pub passed : before ≡ none
    pub own : LongClash
    pub found : l ≡ some own
    pub is : lengthened (shortened own) ≡ d

  pub own_clash :
      Numbers NotTen before → ChainNumbers NotTen after → (d : LongClash) {m i : ℕ} → RefusedBy tests m i (some d) → OwnClash d
  own_clash not_before others d (f, e, _, _, clash) = by_first (chain_some before (suits_test r p n t ∷ after) f e)
    where
      ten : number_of f ≡ 10
      ten = clash_is_ten f d clash

      by_second : before ≡ none → (suits_test r p n t ≡ some f) ⊎ ((suits_test r p n t ≡ none) × (first_of after ≡ some f)) → OwnClash d
      by_second passed (inr (_, e)) = absurd (others.chain.each f e ten)
      by_second passed (inl e) =
          let (k, found, s) = suits_test_some r p n t f e in
          record { passed = passed; own = k; found = found; is = some_injective (ap clash_of (sym s) ∙ clash) }

      by_first : (before ≡ some f) ⊎ ((before ≡ none) × (first_of (suits_test r p n t ∷ after) ≡ some f)) → OwnClash d
      by_first (inl e) = absurd (not_before.each f e ten)
      by_first (inr (passed, e)) = by_second passed (chain_some (suits_test r p n t) after f e)

  clash_of_counted :
      (count : ℕ) (old new : List ℕ) → Numbers NotTen before → ChainNumbers NotTen after → (before ≡ none → BeforeTen book r p n)
      → of_fetch r (beside_clash before r p book n (changed tests Err old (Ok count) new)).answer ≡ refusal 10 0 (some c)
      → FoundIn book r p n c (beside_clash before r p book n (changed tests Err old (Ok count) new)).answer.positions
  unfolding beside_clash shortened
  clash_of_counted count old new not_before others legal h =
      record { before = b; found = o.found ∙ ap some (sym same); is = is ∙ ap (λ (d : LongClash). places (some d)) (sym same) }
    where
      nine : List ℕ
      nine = clash_beside before l

      w : ClashWith (take (suc r) nine) (of_result (changed tests Err old (Ok count) new).answer) 10 0 c
      w = with_clash _ _ 10 0 c h

      o : OwnClash w.inner
      o = own_clash not_before others w.inner (refused_by_tests tests count old new w.answer)

      b : BeforeTen book r p n
      b = legal o.passed

      laws : LongClashIsFirst r p
      laws = long_clashes_lem r p b.plan.a_least b.plan.d_least

      is : nine ≡ places (some o.own)
      is = beside_none before l o.passed ∙ ap places o.found

      same : c ≡ o.own
      same =
          told_whole r c o.own nine (laws.in_pattern n (pixels t) o.own o.found).1.size is
          (w.pattern ∙ ap (λ (d : LongClash). d.pattern) (sym o.is)) w.positions

-- The tests of a book and r, of a picture and of the edge never give 10.
book_not_ten : (book : Book) (r : ℕ) → Numbers NotTen (book_test book r)
unfolding book_test
book_not_ten book r =
    (numbers_before {these = NotTen} (record_numbers (λ e. omega arith) (λ e. omega arith) (λ e. omega arith) (λ e. omega arith) book)
    (last_numbers (decided_numbers (cycles_decide r) (λ e. omega arith)))).chain

picture_not_ten : (p : Plan) (W H words : ℕ) → Numbers NotTen (picture_test p W H words)
unfolding picture_test
picture_not_ten p W H words =
    (numbers_before {these = NotTen} (decided_numbers (plan_decides p) (λ e. omega arith))
    (numbers_before (decided_numbers (sides_decide W H) (λ e. omega arith))
    (last_numbers (decided_numbers (memory_decides p W H words) (λ e. omega arith))))).chain

number_not_ten : (count n : ℕ) → ChainNumbers NotTen (number_test count n ∷ [])
number_not_ten count n = last_numbers (decided_numbers (number_decides count n) (λ e. omega arith))

edge_not_ten : (ring : Bool) (p : Plan) (W H : ℕ) (vs : List Pixel) → Numbers NotTen (edge_test ring p W H vs)
unfolding edge_test
edge_not_ten false p W H vs = decided_numbers (inside_decides W H vs) (λ e. omega arith)
edge_not_ten true p W H vs = decided_numbers (ring_decides p W H) (λ e. omega arith)

output_not_ten : (n room : ℕ) → ChainNumbers NotTen (output_test n room ∷ [])
output_not_ten n room = last_numbers (decided_numbers (output_decides n room) (λ e. omega arith))

-- where they pass, r, the plan and the number are legal
pub fetch_passed : (book : Book) (r : ℕ) (p : Plan) (W H words n : ℕ) → fetch_first book r p W H words n ≡ none → BeforeTen book r p n
unfolding fetch_first picture_test
fetch_passed book r p W H words n e =
    let picture = (test_before (plan_legal_iff p) (test_before (sides_legal_iff W H) (last_test (memory_enough_iff p W H words)))).iff in
    let ((_, cycles), ((plan, _), number)) =
    (test_before (book_test_iff book r) (test_before picture (last_test (number_in_book_iff book.count n)))).iff.0 e in
    record { cycles = cycles; plan = plan; number = number }

cycles_passed : (book : Book) (r : ℕ) (p : Plan) (n : ℕ) → cycles_first book r p n ≡ none → BeforeTen book r p n
unfolding cycles_first
cycles_passed book r p n e =
    let ((_, cycles), (plan, number)) =
    (test_before (book_test_iff book r) (test_before (plan_legal_iff p) (last_test (number_in_book_iff book.count n)))).iff.0 e in
    record { cycles = cycles; plan = plan; number = number }

pub fetch_not_ten : (book : Book) (r : ℕ) (p : Plan) (W H words n : ℕ) → Numbers NotTen (fetch_first book r p W H words n)
unfolding fetch_first
fetch_not_ten book r p W H words n =
    (numbers_before (book_not_ten book r) (numbers_before (picture_not_ten p W H words) (number_not_ten book.count n))).chain

pub rest_not_ten :
    (ring : Bool) (p : Plan) (W H : ℕ) (vs : List Pixel) (n room : ℕ)
    → ChainNumbers NotTen (edge_test ring p W H vs ∷ output_test n room ∷ [])
rest_not_ten ring p W H vs n room = numbers_before (edge_not_ten ring p W H vs) (output_not_ten n room)

pub clash_of_fetch :
    (ring : Bool) (book : Book) (r : ℕ) (p : Plan) (W H : ℕ) (mem : List ℕ) (n : ℕ) (o : Pixel) (out : List ℕ) (c : LongClash)
    → of_fetch r (either_fetch ring book r p W H mem n o out).answer ≡ refusal 10 0 (some c)
    → FoundIn book r p n c (either_fetch ring book r p W H mem n o out).answer.positions
unfolding either_fetch fetch_start fetch_rest rest_test beside_clash
clash_of_fetch ring book r p W H mem n o out c h =
    let t : Pattern = pattern_at book n in
    let before : Option Refusal = fetch_first book r p W H (length mem) n in
    let after : List (Option Refusal) = edge_test ring p W H (moved t o) ∷ output_test t.used (length out) ∷ [] in
    clash_of_counted book r p n c before after _ out _
    (fetch_not_ten book r p W H (length mem) n)
    (rest_not_ten ring p W H (moved t o) t.used (length out))
    (fetch_passed book r p W H (length mem) n)
    (rw (sym (tests_as_one [] (before ∷ suits_test r p n t ∷ []) after)) at h)

pub clash_of_cycles :
    (book : Book) (r : ℕ) (p : Plan) (n : ℕ) (out : List ℕ) (c : LongClash)
    → of_fetch r (write_cycles book r p n out).answer ≡ refusal 10 0 (some c)
    → FoundIn book r p n c (write_cycles book r p n out).answer.positions
unfolding write_cycles cycles_first write_cycles_test
clash_of_cycles book r p n out c h =
    clash_of_counted book r p n c (cycles_first book r p n) (output_test (pattern_at book n).used (length out) ∷ []) _ out _
    (numbers_before (book_not_ten book r)
    (numbers_before (decided_numbers (plan_decides p) (λ e. omega arith)) (number_not_ten book.count n))).chain
    (output_not_ten (pattern_at book n).used (length out))
    (cycles_passed book r p n)
    h

-- The positions beside a fetch and beside the cycles are nine.
pub first_nine :
    (book : Book) (r : ℕ) (p : Plan) (W H words n : ℕ)
    → length (clash_beside (fetch_first book r p W H words n) (clash_in_for r p n (pixels (pattern_at book n)))) ≡ 9
first_nine book r p W H words n =
    nine_beside (fetch_first book r p W H words n) (clash_in_for r p n (pixels (pattern_at book n))) r
    (λ passed. own_size book r p n (fetch_passed book r p W H words n passed))

pub fetch_nine :
    (ring : Bool) (book : Book) (r : ℕ) (p : Plan) (W H : ℕ) (mem : List ℕ) (n : ℕ) (o : Pixel) (out : List ℕ)
    → length (either_fetch ring book r p W H mem n o out).answer.positions ≡ 9
unfolding either_fetch beside_clash
fetch_nine ring book r p W H mem n o out = first_nine book r p W H (length mem) n

pub cycles_nine : (book : Book) (r : ℕ) (p : Plan) (n : ℕ) (out : List ℕ) → length (write_cycles book r p n out).answer.positions ≡ 9
unfolding write_cycles beside_clash
cycles_nine book r p n out =
    nine_beside (cycles_first book r p n) (clash_in_for r p n (pixels (pattern_at book n))) r
    (λ passed. own_size book r p n (cycles_passed book r p n passed))
