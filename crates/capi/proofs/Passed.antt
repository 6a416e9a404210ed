-- How an answer is told: as the value or the refusal that it is, and as the answer that it equals.
-- Assumes nothing.
use Rattle.pictures.specs.declared.lists.ListFault.{ListFault}
use Rattle.std.specs.Prelude.{ℤ, Result, Ok, Err}
use Prim.Native.Nat.{ℕ}
use native.Mathlib.Omega.{arith}
use mathlib.Core.Path.{◌≡◌, refl, sym, ◌∙◌, ap, ap₂, subst}
use mathlib.Core.Option.{Option, none, some}
use mathlib.Core.List.{List, ◌∷◌}
use Rattle.scope.specs.Numbers.{Answer, value, refusal, number_of, place_of, clash_of, turned_down, of_result, of_located, with_positions}
use Rattle.scope.specs.Calls.{After}
use Rattle.scope.specs.Plans.{Pixel}
use Rattle.scope.specs.declared.Book.{Book}
use Rattle.scope.specs.declared.Plan.{Plan}
use Rattle.scope.specs.declared.Refusal.{Refusal}
use Rattle.scope.specs.Cycles.{LongClash}
use Rattle.scope.specs.declared.Reading.{Reading}
use Rattle.scope.specs.declared.Verdict.{Verdict}
use Rattle.scope.specs.declared.CheckAnswer.{CheckAnswer}
use Rattle.scope.specs.declared.FetchAnswer.{FetchAnswer}
use Rattle.checks.proofs.Chains.{Gives}
use Rattle.capi.specs.Told.{Tells, number_told, row_in, plan_row, pixel_row, pair_row, no_row, put_from, placed_at, of_listed, of_found_run}
use Rattle.claims.specs.Demanded.{FoundRun}
use Rattle.claims.specs.Demanded.{find_and_run, Demanded}
use Rattle.scope.specs.promises.Demand.{Setting}
use Rattle.pictures.specs.Lists.{clash_numbers, Buffers, run_list, SumsDemanded}
use Rattle.pictures.specs.Lists.{Listed}
use Rattle.capi.specs.Flat.{of_reading, when_read}

pub told_of :
    {A B : Type 0} {row : A → List ℕ} (of : B → Answer A) {x y : B} {before after : List ℕ} {n : ℕ} → x ≡ y
    → Tells row (of x) before after n → Tells row (of y) before after n
told_of {row} of {before} {after} {n} e told = subst (λ z. Tells row (of z) before after n) e told

-- the same of a call that changes what it was lent
pub told_given :
    {A B C : Type 0} {row : A → List ℕ} (of : B → Answer A) {result : After B C} {x : B} {content : C}
    {before after : List ℕ} {n : ℕ} → Gives result x content → Tells row (of x) before after n
    → Tells row (of result.answer) before after n × (content ≡ result.content)
told_given of (answer, same) told = (told_of of answer told, same)

-- the same where the pixel that it was handed is o
pub told_at :
    {A B C D : Type 0} {row : A → List ℕ} (of : B → Answer A) (call : Pixel → D → After B C) {v o : Pixel} {y : D} {x : B}
    {content : C} {before after : List ℕ} {n : ℕ} → v ≡ o → Gives (call v y) x content → Tells row (of x) before after n
    → Tells row (of (call o y).answer) before after n × (content ≡ (call o y).content)
told_at of call {y} {x} {content} e given told = told_given of (subst (λ u. Gives (call u y) x content) e given) told

-- The same of a list of calls, with the claim on its sums.
pub listed_told :
    (g : Setting) (numbers : List ℕ) (b : Buffers) {left : Buffers} {x : Listed} {before after : List ℕ} {n : ℕ}
    → (x ≡ (run_list g numbers b).answer) × ((left ≡ (run_list g numbers b).content) × SumsDemanded x g numbers b left)
    → Tells no_row (of_listed x) before after n
    → Tells no_row (of_listed (run_list g numbers b).answer) before after n
    × ((left ≡ (run_list g numbers b).content) × SumsDemanded (run_list g numbers b).answer g numbers b left)
listed_told g numbers b {left} (answer, (same, kept)) told =
    (told_of of_listed answer told, (same, subst (λ (y : Listed). SumsDemanded y g numbers b left) answer kept))

-- What an enum tells: a value, and a refusal.
pub told_value :
    {A : Type 0} {row : A → List ℕ} {x : Answer A} {v : A} {before after : List ℕ} {n : ℕ} → x ≡ value v
    → (n ≡ 0) × (after ≡ put_from 0 (row v) before) → Tells row x before after n
told_value {row} {before} e (zero, put) =
    record { number = zero ∙ sym (ap number_told e); row_put = put ∙ sym (ap (λ a. put_from 0 (row_in row a) before) e) }

pub told_refusal :
    {A : Type 0} {row : A → List ℕ} {x : Answer A} {m place : ℕ} {clash : Option LongClash} {before after : List ℕ} {n : ℕ}
    → x ≡ refusal m place clash → (n ≡ m) × (after ≡ put_from 0 (place ∷ clash_numbers clash) before) → Tells row x before after n
told_refusal {row} {before} e (number, put) =
    record {
      number = number ∙ sym (ap number_told e);
      row_put = put ∙ sym (ap (λ a. put_from 0 (row_in row a) before) e);
    }

-- a pixel told by its two numbers
pub located_told :
    (l : Result (ℤ × ℤ) Refusal) {before after : List ℕ} {n : ℕ}
    → Tells pair_row (of_result l) before after n → Tells pixel_row (of_located l) before after n
located_told (Ok v) told = record { number = told.number; row_put = told.row_put }
located_told (Err f) told = record { number = told.number; row_put = told.row_put }

-- Two answers are one if what they say and the positions beside it are.
pub same_check : {a b : CheckAnswer} → a.verdict ≡ b.verdict → a.positions ≡ b.positions → a ≡ b
same_check = ap₂ (λ (v : Verdict) (es : List ℕ). the_check v es)
  where
    the_check : Verdict → List ℕ → CheckAnswer
    the_check v es = record { verdict = v; positions = es }

pub same_fetch : {a b : FetchAnswer} → a.counted ≡ b.counted → a.positions ≡ b.positions → a ≡ b
same_fetch = ap₂ (λ (c : Result ℕ Refusal) (es : List ℕ). the_fetch c es)
  where
    the_fetch : Result ℕ Refusal → List ℕ → FetchAnswer
    the_fetch c es = record { counted = c; positions = es }

-- a refusal told with these positions
pub placed_refusal :
    {A : Type 0} (es : List ℕ) (f : Refusal)
    → ◌≡◌ {A = Answer A} (with_positions es (turned_down f)) (refusal (number_of f) (place_of f) (placed_at es (clash_of f)))
placed_refusal {A} es f = by_clash (clash_of f)
  where
    by_clash :
        (c : Option LongClash)
        → ◌≡◌ {A = Answer A} (with_positions es (refusal (number_of f) (place_of f) c)) (refusal (number_of f) (place_of f) (placed_at es c))
    by_clash none = refl
    by_clash (some c) = refl

-- a reading that was done, and one that was refused
module _ (x : Reading) where
  pub reading_done : x.outcome ≡ Ok tt → of_reading x ≡ value x.book
  reading_done e = ap (λ (o : Result Unit Refusal). elim o [ Ok u ↦ value x.book | Err q ↦ turned_down q ]) e

  pub reading_refused : {r : Refusal} → x.outcome ≡ Err r → of_reading x ≡ turned_down r
  reading_refused e = ap (λ (o : Result Unit Refusal). elim o [ Ok u ↦ value x.book | Err q ↦ turned_down q ]) e

  module _ {A : Type 0} (flat : Book → List A) (out : List A) where
    pub filled_read : x.outcome ≡ Ok tt → flat x.book ≡ when_read flat x out
    filled_read e = sym (ap (λ (o : Result Unit Refusal). elim o [ Ok u ↦ flat x.book | Err q ↦ out ]) e)

    pub kept_refused : {r : Refusal} → x.outcome ≡ Err r → out ≡ when_read flat x out
    kept_refused e = sym (ap (λ (o : Result Unit Refusal). elim o [ Ok u ↦ flat x.book | Err q ↦ out ]) e)

-- What came of a list under the finder's plan: the plan's numbers where it was made, and what was wrong where it was not.
module _ {p : Plan} {l : Listed} {r : FoundRun} {before mid : List ℕ} {n : ℕ} (is : r ≡ Ok (p, l)) (told : Tells no_row (of_listed l) before mid n) where
  pub found_made : {after : List ℕ} → n ≡ 0 → after ≡ put_from 0 (plan_row p) mid → Tells plan_row (of_found_run r) before after n
  found_made {after} zero put = by_listed l is told
    where
      by_listed : (m : Listed) → r ≡ Ok (p, m) → Tells no_row (of_listed m) before mid n → Tells plan_row (of_found_run r) before after n
      by_listed (Ok u) e t =
          record {
            number = zero ∙ sym (ap (λ x. number_told (of_found_run x)) e);
            row_put =
                put
                ∙ ap (put_from 0 (plan_row p)) t.row_put
                ∙ sym (ap (λ x. put_from 0 (row_in plan_row (of_found_run x)) before) e);
          }
      by_listed (Err (ListFault.NotCalls k)) e t = absurd (omega (arith, t.number))
      by_listed (Err ListFault.Short) e t = absurd (omega (arith, t.number))

  pub found_wrong : (n ≡ 0 → ⊥) → Tells plan_row (of_found_run r) before mid n
  found_wrong not-zero = by_listed l is told
    where
      by_listed : (m : Listed) → r ≡ Ok (p, m) → Tells no_row (of_listed m) before mid n → Tells plan_row (of_found_run r) before mid n
      by_listed (Ok u) e t = absurd (not-zero t.number)
      by_listed (Err (ListFault.NotCalls k)) e t = rw e (record { number = t.number; row_put = t.row_put })
      by_listed (Err ListFault.Short) e t = rw e (record { number = t.number; row_put = t.row_put })

-- The finder and a list under its plan: what it answers is told, and what it left, and that demand 3 is met.
pub found_told :
    (book : Book) (r limit W H : ℕ) (numbers : List ℕ) (b : Buffers) {own : Book} {x : FoundRun} {left : Buffers}
    {before after : List ℕ} {n : ℕ} → own ≡ book →
    let ran = find_and_run own r limit W H numbers b in
    let due = find_and_run book r limit W H numbers b in
    (x ≡ ran.answer) × ((left ≡ ran.content) × Demanded x own r W H numbers b left)
    → Tells plan_row (of_found_run x) before after n
    → Tells plan_row (of_found_run due.answer) before after n
    × ((left ≡ due.content) × Demanded due.answer book r W H numbers b left)
found_told book r limit W H numbers b is (answer, (content, demand)) told =
    rw (← is) (told_of of_found_run answer told, (content, rw (← answer) demand))
