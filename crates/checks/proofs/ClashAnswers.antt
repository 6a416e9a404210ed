-- An answer with the positions of a clash beside it: only the clash's positions differ, and the nine places hold them, then 0.
-- Assumes nothing.
use Prim.Native.Nat.{ℕ, zero, suc, ◌+◌, ◌-◌, ◌≤◌}
use native.Mathlib.Omega.{arith}
use native.Mathlib.Decide.{ℕ_discrete}
use mathlib.Core.Path.{◌≡◌, refl, sym, ◌∙◌, ap}
use mathlib.Core.Option.{Option, none, some}
use mathlib.Core.List.{List}
use lib.ListN.{length, take, drop, replicate}
use Rattle.scope.specs.Cycles.{LongClash}
use Rattle.scope.specs.Banks.{over_start}
use Rattle.scope.specs.Numbers.{Answer, value, refusal, number_of, clash_of, turned_down, places, with_positions}
use Rattle.scope.specs.Calls.{clash_beside}
use Rattle.scope.specs.declared.Refusal.{Refusal}
use Rattle.scope.specs.declared.Refusal.TheVariants.{Ends, Count, Coordinate, Repeat, Extra, Limit, NoPlan, Dependent, Large, Unsuited, NotPlan, Sides, Memory, Outside, Cell, Output, NoPattern, Ring, Lower, Cycles}
use Rattle.checks.proofs.Chains.{value_not_refusal, refusal_number, refusal_place, refusal_clash, answered_none, answered_some}
use Rattle.checks.proofs.Searches.{none_not_some}
use Rattle.checks.proofs.Outputs.{over_start_first, over_start_rest, over_start_length}

-- only 10 has a clash
pub no_clash : (f : Refusal) → (number_of f ≡ 10 → ⊥) → clash_of f ≡ none
no_clash (Ends i) h = refl
no_clash (Count i) h = refl
no_clash (Coordinate i) h = refl
no_clash (Repeat i) h = refl
no_clash (Extra i) h = refl
no_clash Limit h = refl
no_clash NoPlan h = refl
no_clash Dependent h = refl
no_clash Large h = refl
no_clash (Unsuited c) h = absurd (h refl)
no_clash NotPlan h = refl
no_clash Sides h = refl
no_clash Memory h = refl
no_clash Outside h = refl
no_clash Cell h = refl
no_clash Output h = refl
no_clash NoPattern h = refl
no_clash Ring h = refl
no_clash (Lower i) h = refl
no_clash Cycles h = refl

pub clash_is_ten : (f : Refusal) (c : LongClash) → clash_of f ≡ some c → number_of f ≡ 10
clash_is_ten f c e = by_number (ℕ_discrete (number_of f) 10)
  where
    by_number : Dec (number_of f ≡ 10) → number_of f ≡ 10
    by_number (yes h) = h
    by_number (no h) = absurd (none_not_some (sym (no_clash f h) ∙ e))

-- an answer by 10 has the positions that it is told with
pub record ClashWith {A : Type 0} (es : List ℕ) (a : Answer A) (n i : ℕ) (c : LongClash) : Type 0 where
  pub inner : LongClash
  pub answer : a ≡ refusal n i (some inner)
  pub pattern : c.pattern ≡ inner.pattern
  pub positions : c.positions ≡ es

module _ {A : Type 0} (es : List ℕ) where
  pub with_value : (a : Answer A) (v : A) → with_positions es a ≡ value v → a ≡ value v
  with_value (value x) v e = e
  with_value (refusal n i none) v e = absurd (value_not_refusal (sym e))
  with_value (refusal n i (some c)) v e = absurd (value_not_refusal (sym e))

  pub with_refusal : (a : Answer A) (n i : ℕ) (c : Option LongClash) → with_positions es a ≡ refusal n i c → (d : Option LongClash) × (a ≡ refusal n i d)
  with_refusal (value x) n i c e = absurd (value_not_refusal e)
  with_refusal (refusal m j none) n i c e = (none, cc (refusal_number e, refusal_place e))
  with_refusal (refusal m j (some d)) n i c e = (some d, cc (refusal_number e, refusal_place e))

  pub with_clash : (a : Answer A) (n i : ℕ) (c : LongClash) → with_positions es a ≡ refusal n i (some c) → ClashWith es a n i c
  with_clash (value x) n i c e = absurd (value_not_refusal e)
  with_clash (refusal m j none) n i c e = absurd (none_not_some (refusal_clash e))
  with_clash (refusal m j (some d)) n i c e =
      let same : record { pattern = d.pattern; positions = es } ≡ c = cc (refusal_clash e) in
      record {
        inner = d;
        answer = cc (refusal_number e, refusal_place e);
        pattern = ap (λ (k : LongClash). k.pattern) (sym same);
        positions = ap (λ (k : LongClash). k.positions) (sym same);
      }

  -- an answer without a clash, one whose clash has these positions, and a refusal by another number are told as they are
  pub without_clash : (a : Answer A) (n i : ℕ) → a ≡ refusal n i none → with_positions es a ≡ refusal n i none
  without_clash a n i e = rw e refl

  pub same_positions :
      (a : Answer A) → ((n i : ℕ) (c : LongClash) → a ≡ refusal n i (some c) → c.positions ≡ es) → with_positions es a ≡ a
  same_positions (value x) h = refl
  same_positions (refusal n i none) h = refl
  same_positions (refusal n i (some c)) h = ap told (sym (h n i c refl))
    where
      told : List ℕ → Answer A
      told ps = refusal n i (some (record { pattern = c.pattern; positions = ps }))

  pub other_number : (a : Answer A) (f : Refusal) → clash_of f ≡ none → a ≡ turned_down f → with_positions es a ≡ turned_down f
  other_number a f h e = rw (e, h) refl

drop_replicate : (n m k : ℕ) → k ≡ n + m → drop {A = ℕ} n (replicate k 0) ≡ replicate m 0
drop_replicate zero m k e = let same : k ≡ m = omega (arith, e) in ap (λ i. replicate {A = ℕ} i 0) same
drop_replicate (suc n) m zero e = absurd (omega (arith, e))
drop_replicate (suc n) m (suc k) e = drop_replicate n m k (omega (arith, e))

-- The nine places: the positions of a clash of r + 1, then 0.
module _ (c : LongClash) (r : ℕ) (size : length c.positions ≡ suc r) where
  pub places_first : take (suc r) (places (some c)) ≡ c.positions
  unfolding places
  places_first = ap (λ n. take n (over_start c.positions (replicate 9 0))) (sym size) ∙ over_start_first c.positions (replicate 9 0)

  pub places_rest : r ≤ 8 → drop (suc r) (places (some c)) ≡ replicate (8 - r) 0
  unfolding places
  places_rest below =
      ap (λ n. drop n (over_start c.positions (replicate 9 0))) (sym size)
      ∙ over_start_rest c.positions (replicate 9 0)
      ∙ ap (λ n. drop n (replicate 9 0)) size
      ∙ drop_replicate (suc r) (8 - r) 9 (omega (arith, below))

-- what stands beside an answer: nothing where a test before 10 refused, else the clash
pub beside_none : (before : Option Refusal) (l : Option LongClash) → before ≡ none → clash_beside before l ≡ places l
unfolding clash_beside
beside_none before l e = answered_none before (λ f. places none) (places l) e

pub beside_some : (before : Option Refusal) (l : Option LongClash) (f : Refusal) → before ≡ some f → clash_beside before l ≡ places none
unfolding clash_beside
beside_some before l f e = answered_some before (λ f. places none) (places l) f e

-- They are nine, as where the tests before 10 pass a clash has r + 1 positions, r up to 8.
pub nine_beside :
    (before : Option Refusal) (l : Option LongClash) (r : ℕ)
    → (before ≡ none → (r ≤ 8) × ((c : LongClash) → l ≡ some c → length c.positions ≡ suc r))
    → length (clash_beside before l) ≡ 9
unfolding places
nine_beside before l r legal = by_tests before refl
  where
    by_clash : (o : Option LongClash) → l ≡ o → before ≡ none → length (places l) ≡ 9
    by_clash none e passed = ap (λ (o : Option LongClash). length (places o)) e
    by_clash (some c) e passed =
        let (most, size) = legal passed in
        ap (λ (o : Option LongClash). length (places o)) e
        ∙ over_start_length c.positions (replicate 9 0) (omega (arith, size c e, most))

    by_tests : (t : Option Refusal) → before ≡ t → length (clash_beside before l) ≡ 9
    by_tests none e = ap length (beside_none before l e) ∙ by_clash l refl e
    by_tests (some f) e = ap length (beside_some before l f e)
