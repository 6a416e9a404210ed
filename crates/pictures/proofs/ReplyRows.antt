-- A reply's twelve numbers: how the code makes them, that they are twelve, and that they tell the answer.
-- Assumes nothing.
use Rattle.std.specs.Prelude.{Option as Optional, Some, None, Result, Ok, Err}
use Rattle.std.proofs.Common.{◌≡◌, ℕ, suc, ◌≤◌, Bool, true, false, cond, eqb, List, [], ◌∷◌, length, get_or, take, drop, replicate, sym, refl, ap, ◌∙◌, arith, length-take, ne_eqb}
use mathlib.Core.Option.{Option, none, some}
use lib.Seq.{take-append_seam}
use Rattle.scope.specs.Cycles.{LongClash, lengthened}
use Rattle.scope.specs.Numbers.{Answer, value, refusal, row_of, place_of, turned_down, with_positions, of_result, of_fetch}
use Rattle.scope.specs.Calls as Calls
use Rattle.scope.specs.Calls.{Lent, beside_clash, either_fetch}
use Rattle.scope.specs.code.RefusalRows.{row_clash}
use Rattle.scope.specs.promises.Demand.{Call, write, read, load, fetch, sum, read_sum, Setting, read_reply, reply, write_result}
use Rattle.scope.specs.declared.Clash.{Clash}
use Rattle.scope.specs.declared.Refusal.{Refusal}
use Rattle.scope.specs.declared.Refusal.TheVariants.{Ends, Count, Coordinate, Repeat, Extra, Limit, NoPlan, Dependent, Large, Unsuited, NotPlan, Sides, Memory, Outside, Cell, Output, NoPattern, Ring, Lower, Cycles}
use Rattle.scope.specs.declared.FetchAnswer.{FetchAnswer}
use Rattle.checks.proofs.Outputs.{over_start_length}
use Rattle.pictures.specs.Lists.{clash_numbers, answer_numbers, twelve, reply_numbers, OneMade}
use Rattle.pictures.proofs.Positions.{told, told_most}

-- a clash with these positions
abbrev pub clash_at : Clash → List ℕ → LongClash
clash_at k es = record { pattern = k.pattern; positions = es }

-- c where the number is 10
abbrev clash_if : ℕ → Clash → Option LongClash
clash_if n c = cond (eqb n 10) (some (lengthened c)) none

-- A refusal of number n at place i, which has a clash where n is 10.
abbrev refused : {A : Type 0} → ℕ → ℕ → LongClash → Answer A
refused n i c = refusal n i (cond (eqb n 10) (some c) none)

module _ {A : Type 0} {s : ℕ × ℕ × Option LongClash} {n i : ℕ} (k : Clash) (row : s ≡ (n, i, clash_if n k)) where
  row_refused : ◌≡◌ {A = Answer A} (refusal s.0 s.1 s.2) (refused n i (lengthened k))
  row_refused = ap (λ t. refusal t.0 t.1 t.2) row

  -- told with other positions
  row_refused_with : (es : List ℕ) → ◌≡◌ {A = Answer A} (with_positions es (refusal s.0 s.1 s.2)) (refused n i (clash_at k es))
  row_refused_with es = ap (with_positions es) row_refused ∙ by_number (eqb n 10)
    where
      by_number :
          (b : Bool)
          → ◌≡◌ {A = Answer A} (with_positions es (refusal n i (cond b (some (lengthened k)) none))) (refusal n i (cond b (some (clash_at k es)) none))
      by_number true = refl
      by_number false = refl

-- The numbers that the code puts, by the clash of the refusal's row: with its positions, or with these.
abbrev placed : List ℕ → Option LongClash → Option LongClash
placed es none = none
placed es (some c) = some (record { pattern = c.pattern; positions = es })

module _ {s : ℕ × ℕ × Option LongClash} {n i : ℕ} {o k : Optional Clash} (row : s ≡ (n, i, row_clash o)) (is : o ≡ k) where
  pub refusal_numbers : twelve (n ∷ i ∷ clash_numbers (row_clash k)) ≡ twelve (s.0 ∷ s.1 ∷ clash_numbers s.2)
  refusal_numbers = rw (← is) (sym (ap (λ t. twelve (t.0 ∷ t.1 ∷ clash_numbers t.2)) row))

  pub clash_numbers_lem :
      {A : Type 0} (values : A → List ℕ) (es : List ℕ)
      → twelve (n ∷ i ∷ clash_numbers (placed es (row_clash k)))
      ≡ twelve (answer_numbers values (with_positions es (refusal s.0 s.1 s.2)))
  unfolding answer_numbers
  clash_numbers_lem values es =
      by_clash k
      ∙ ap (λ o. twelve (answer_numbers values (with_positions es (refusal n i (row_clash o))))) (sym is)
      ∙ sym (ap (λ t. twelve (answer_numbers values (with_positions es (refusal t.0 t.1 t.2)))) row)
    where
      by_clash :
          (o : Optional Clash)
          → twelve (n ∷ i ∷ clash_numbers (placed es (row_clash o))) ≡ twelve (answer_numbers values (with_positions es (refusal n i (row_clash o))))
      by_clash None = refl
      by_clash (Some c) = refl

-- the numbers of the answer that it equals
pub same_row :
    {A B : Type 0} (of : B → Answer A) (values : A → List ℕ) {x y : B} → x ≡ y
    → twelve (answer_numbers values (of y)) ≡ twelve (answer_numbers values (of x))
same_row of values e = sym (ap (λ z. twelve (answer_numbers values (of z))) e)

-- The row of each refusal: no number is 0, and only 10 has a clash.
no : Clash
no = record { pattern = 0; earlier = 0; later = 0 }

has_row : (f : Refusal) → (k : ℕ) × (c : Clash) × (row_of f ≡ (suc k, place_of f, clash_if (suc k) c))
has_row (Ends i) = (0, no, refl)
has_row (Count i) = (1, no, refl)
has_row (Coordinate i) = (2, no, refl)
has_row (Repeat i) = (3, no, refl)
has_row (Extra i) = (4, no, refl)
has_row Limit = (5, no, refl)
has_row NoPlan = (6, no, refl)
has_row Dependent = (7, no, refl)
has_row Large = (8, no, refl)
has_row (Unsuited c) = (9, c, refl)
has_row NotPlan = (10, no, refl)
has_row Sides = (11, no, refl)
has_row Memory = (12, no, refl)
has_row Outside = (13, no, refl)
has_row Cell = (14, no, refl)
has_row Output = (15, no, refl)
has_row NoPattern = (16, no, refl)
has_row Ring = (17, no, refl)
has_row (Lower i) = (18, no, refl)
has_row Cycles = (19, no, refl)

-- The numbers of a reply are twelve.
length_twelve : (xs : List ℕ) → length xs ≤ 12 → length (twelve xs) ≡ 12
unfolding twelve
length_twelve xs h = over_start_length xs (replicate 12 0) h

module _ {A : Type 0} (values : A → List ℕ) where
  length_refused :
      (n i : ℕ) (c : LongClash) {a : Answer A} → a ≡ refused n i c → length c.positions ≤ 9
      → length (twelve (answer_numbers values a)) ≡ 12
  unfolding answer_numbers
  length_refused n i c e h = ap (λ a. length (twelve (answer_numbers values a))) e ∙ length_twelve _ (by_number (eqb n 10))
    where
      by_number : (b : Bool) → length (n ∷ i ∷ clash_numbers (cond b (some c) none)) ≤ 12
      by_number true = omega arith
      by_number false = omega arith

  length_turned_down : (f : Refusal) → length (twelve (answer_numbers values (turned_down f))) ≡ 12
  length_turned_down f =
      let (k, c, row) = has_row f in length_refused (suc k) (place_of f) (lengthened c) (row_refused c row) (omega arith)

  length_turned_down_with :
      (es : List ℕ) → length es ≤ 9 → (f : Refusal) → length (twelve (answer_numbers values (with_positions es (turned_down f)))) ≡ 12
  length_turned_down_with es h f =
      let (k, c, row) = has_row f in length_refused (suc k) (place_of f) (clash_at c es) (row_refused_with c row es) h

length_outcome : (o : Result Unit Refusal) → length (twelve (answer_numbers (λ x. []) (of_result o))) ≡ 12
unfolding twelve answer_numbers
length_outcome (Ok u) = refl
length_outcome (Err f) = length_turned_down {A = Unit} (λ x. []) f

length_loaded : (l : Result ℕ Refusal) → length (twelve (answer_numbers (λ n. n ∷ []) (of_result l))) ≡ 12
unfolding twelve answer_numbers
length_loaded (Ok x) = refl
length_loaded (Err f) = length_turned_down (λ n. n ∷ []) f

length_counted :
    (es : List ℕ) → length es ≤ 9 → (c : Result ℕ Refusal) → length (twelve (answer_numbers (λ n. n ∷ []) (with_positions es (of_result c)))) ≡ 12
unfolding twelve answer_numbers
length_counted es h (Ok x) = refl
length_counted es h (Err f) = length_turned_down_with (λ n. n ∷ []) es h f

length_number : (c : Result ℕ Refusal) → length (twelve (answer_numbers (λ n. n ∷ []) (of_result c))) ≡ 12
unfolding twelve answer_numbers
length_number (Ok x) = refl
length_number (Err f) = length_turned_down (λ n. n ∷ []) f

pub length_reply : (g : Setting) (l : Lent) (c : Call) → length (reply_numbers (reply g l c)) ≡ 12
unfolding reply_numbers reply read_reply either_fetch beside_clash
length_reply g l (write w) = length_outcome (write_result g l w).answer
length_reply g l (read (load v)) = length_loaded (Calls.load g.plan g.W g.H l.memory v)
length_reply g l (read (fetch ring n o out)) =
    length_counted (told g.book g.r g.plan g.W g.H (length l.memory) n)
    (told_most g.book g.r g.plan g.W g.H (length l.memory) n)
    (either_fetch ring g.book g.r g.plan g.W g.H l.memory n o out).answer.counted
length_reply g l (read (sum k)) = length_number (Calls.sum g.plan g.W g.H l.memory k)
length_reply g l (read (read_sum k)) = length_number (Calls.read_sum g.plan l.sums k)

pub row_long :
    {g : Setting} {l next : Lent} {c : Call} {old row out : List ℕ} → OneMade g l c old row next out → length row ≡ 12
row_long {g} {l} {c} made = ap length made.row_is ∙ length_reply g l c

-- An answer is read off its numbers: 0 is no refusal's number, and a refusal has a clash, of m positions, exactly if its number is 10.
module _ {A : Type 0} (from : ℕ → A) (m : ℕ) where
  clash_in : List ℕ → LongClash
  clash_in xs = record { pattern = get_or xs 2 0; positions = take m (drop 3 xs) }

  answer_in : List ℕ → Answer A
  unfolding clash_in
  answer_in xs = cond (eqb (get_or xs 0 0) 0) (value (from (get_or xs 1 0))) (refused (get_or xs 0 0) (get_or xs 1 0) (clash_in xs))

  refused_read :
      (values : A → List ℕ) (k i : ℕ) (c : LongClash) {a : Answer A} → length c.positions ≡ m → a ≡ refused (suc k) i c
      → answer_in (twelve (answer_numbers values a)) ≡ a
  unfolding answer_in twelve answer_numbers
  refused_read values k i c size e =
      ap (λ t. answer_in (twelve (answer_numbers values t))) e ∙ by_number (eqb (suc k) 10) refl ∙ sym e
    where
      by_number : (b : Bool) → eqb (suc k) 10 ≡ b → answer_in (twelve (answer_numbers values (refused (suc k) i c))) ≡ refused (suc k) i c
      by_number true q =
          rw (q, ne_eqb (suc k) 0 (λ h. omega arith), ← size)
          (ap (λ (es : List ℕ). refusal (suc k) i (some (record { pattern = c.pattern; positions = es })))
          (take-append_seam c.positions (drop (length c.positions) (replicate 9 0))))
      by_number false q = rw (q, ne_eqb (suc k) 0 (λ h. omega arith)) refl

  turned_down_read :
      (values : A → List ℕ) → m ≡ 2 → (f : Refusal) → answer_in (twelve (answer_numbers values (turned_down f))) ≡ turned_down f
  turned_down_read values two f =
      let (k, c, row) = has_row f in refused_read values k (place_of f) (lengthened c) (sym two) (row_refused c row)

  turned_down_with_read :
      (values : A → List ℕ) (es : List ℕ) → length es ≡ m → (f : Refusal)
      → answer_in (twelve (answer_numbers values (with_positions es (turned_down f)))) ≡ with_positions es (turned_down f)
  turned_down_with_read values es size f =
      let (k, c, row) = has_row f in refused_read values k (place_of f) (clash_at c es) size (row_refused_with c row es)

outcome_read : (o : Result Unit Refusal) → answer_in (λ n. tt) 2 (twelve (answer_numbers (λ x. []) (of_result o))) ≡ of_result o
unfolding answer_in twelve answer_numbers
outcome_read (Ok u) = refl
outcome_read (Err f) = turned_down_read (λ n. tt) 2 (λ x. []) refl f

loaded_read : (l : Result ℕ Refusal) → answer_in (λ n. n) 2 (twelve (answer_numbers (λ n. n ∷ []) (of_result l))) ≡ of_result l
unfolding answer_in twelve answer_numbers
loaded_read (Ok x) = refl
loaded_read (Err f) = turned_down_read (λ n. n) 2 (λ n. n ∷ []) refl f

number_read : (c : Result ℕ Refusal) → answer_in (λ n. n) 2 (twelve (answer_numbers (λ n. n ∷ []) (of_result c))) ≡ of_result c
unfolding answer_in twelve answer_numbers
number_read (Ok x) = refl
number_read (Err f) = turned_down_read (λ n. n) 2 (λ n. n ∷ []) refl f

counted_read :
    (m : ℕ) (es : List ℕ) → length es ≡ m → (c : Result ℕ Refusal) →
    let a = with_positions es (of_result c) in
    answer_in (λ n. n) m (twelve (answer_numbers (λ n. n ∷ []) a)) ≡ a
unfolding answer_in twelve answer_numbers
counted_read m es size (Ok x) = refl
counted_read m es size (Err f) = turned_down_with_read (λ n. n) m (λ n. n ∷ []) es size f

-- So two answers with the same twelve numbers are the same.
row_tells :
    {A : Type 0} (values : A → List ℕ) (from : ℕ → A) (m : ℕ) (x y : Answer A)
    → answer_in from m (twelve (answer_numbers values x)) ≡ x → answer_in from m (twelve (answer_numbers values y)) ≡ y
    → twelve (answer_numbers values x) ≡ twelve (answer_numbers values y) → x ≡ y
row_tells values from m x y x-read y-read e = sym x-read ∙ ap (answer_in from m) e ∙ y-read

pub outcome_row_tells :
    (o p : Result Unit Refusal) → twelve (answer_numbers (λ x. []) (of_result o)) ≡ twelve (answer_numbers (λ x. []) (of_result p))
    → of_result o ≡ of_result p
outcome_row_tells o p = row_tells (λ x. []) (λ n. tt) 2 (of_result o) (of_result p) (outcome_read o) (outcome_read p)

pub loaded_row_tells :
    (l m : Result ℕ Refusal)
    → twelve (answer_numbers (λ n. n ∷ []) (of_result l)) ≡ twelve (answer_numbers (λ n. n ∷ []) (of_result m))
    → of_result l ≡ of_result m
loaded_row_tells l m = row_tells (λ n. n ∷ []) (λ n. n) 2 (of_result l) (of_result m) (loaded_read l) (loaded_read m)

pub counted_row_tells :
    (c d : Result ℕ Refusal)
    → twelve (answer_numbers (λ n. n ∷ []) (of_result c)) ≡ twelve (answer_numbers (λ n. n ∷ []) (of_result d))
    → of_result c ≡ of_result d
counted_row_tells c d = row_tells (λ n. n ∷ []) (λ n. n) 2 (of_result c) (of_result d) (number_read c) (number_read d)

-- two fetches for the same r, with as many positions beside them
pub fetched_row_tells :
    (r : ℕ) (a b : FetchAnswer) → length a.positions ≡ length b.positions
    → twelve (answer_numbers (λ n. n ∷ []) (of_fetch r a)) ≡ twelve (answer_numbers (λ n. n ∷ []) (of_fetch r b))
    → of_fetch r a ≡ of_fetch r b
fetched_row_tells r a b same =
    let m : ℕ = length (take (suc r) b.positions) in
    let size : length (take (suc r) a.positions) ≡ m =
    omega (arith, length-take (suc r) a.positions, length-take (suc r) b.positions, same) in
    row_tells (λ n. n ∷ []) (λ n. n) m (of_fetch r a) (of_fetch r b) (counted_read m _ size a.counted) (counted_read m _ refl b.counted)
