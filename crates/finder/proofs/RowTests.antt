-- The finder's tests of a row and of the rows: what they find, and that a search from s by steps of a passes no number that
-- such a test can hold of.
-- Assumes nothing.
use Prim.Native.Nat.{ℕ, zero, suc, ◌+◌, ◌-◌, ◌*◌, ◌/◌, ◌%◌, ◌≤◌, ◌<◌}
use native.Mathlib.Omega.{arith}
use native.Mathlib.Decide.{dec_le}
use native.Mathlib.Nat.{mul-le-mul_right, mod-lt, mod-eq_of_lt, mod-add-mod, mod-eq-sub-mod, add-div_right, div_self}
use mathlib.Core.Path.{◌≡◌, sym, ◌∙◌, ap}
use mathlib.Core.Logic.{◌↔◌}
use mathlib.Core.Bool.{Bool, true, false, ◌&&◌}
use mathlib.Core.List.{List}
use lib.Dec.{leb, eqb}
use lib.ListN.{get_or}
use Rattle.integers.specs.Gcd.{Multiple}
use Rattle.integers.proofs.Comparisons.{leb_iff, eqb_iff, and_iff}
use Rattle.integers.proofs.Divisions.{no_remainder_iff}
use Rattle.scope.specs.Search.{some_below}
use Rattle.checks.proofs.Searches.{some_below_iff, none_some_below, not_true_is_false, true-not-false}
use Rattle.finder.specs.Table.{row_marked, rows_marked}

-- f holds of none but s, s + a, s + 2 × a, ..
record OnSteps (f : ℕ → Bool) (s a : ℕ) : Type 0 where
  step : (y : ℕ) → f y ≡ true → (l : ℕ) × (y ≡ s + l * a)

-- x is one of s, s + a, s + 2 × a, .., and f fails of the numbers before it
record Passed (f : ℕ → Bool) (s a x : ℕ) : Type 0 where
  turns : ℕ
  is : x ≡ s + turns * a
  before : (y : ℕ) → y < x → f y ≡ false

module _ {f : ℕ → Bool} {s a : ℕ} where
  passed_none : OnSteps f s a → Passed f s a s
  passed_none on =
      record {
        turns = 0;
        is = omega arith;
        before = λ y h. not_true_is_false (f y) (λ e. omega (arith, (on.step y e).1));
      }

  passed_one : {x : ℕ} → OnSteps f s a → Passed f s a x → f x ≡ false → Passed f s a (x + a)
  passed_one {x} on p fails =
      record {
        turns = suc p.turns;
        is = omega (arith, p.is);
        before = λ y h. not_true_is_false (f y) (λ e. later y h e (dec_le x y));
      }
    where
      same : (y l : ℕ) → y ≡ s + l * a → x ≤ y → y < x + a → Dec (l ≤ p.turns) → y ≡ x
      same y l e k h (yes d) = omega (arith, p.is, mul-le-mul_right a d)
      same y l e k h (no d) = absurd (omega (arith, p.is, mul-le-mul_right {m = suc p.turns} {n = l} a (omega arith)))

      later : (y : ℕ) → y < x + a → f y ≡ true → Dec (x ≤ y) → ⊥
      later y h e (yes k) =
          let t = on.step y e in
          true-not-false (sym e ∙ ap f (same y t.0 t.1 k h (dec_le t.0 p.turns)) ∙ fails)
      later y h e (no k) = true-not-false (sym e ∙ p.before y (omega arith))

  passed_all : {n x : ℕ} → Passed f s a x → n ≤ x → false ≡ some_below n f
  passed_all {n} p h = sym (none_some_below n f (λ y k. p.before y (omega arith)))

-- what `row_marked` asks of a cell x of row j, and that it finds such a cell
abbrev pub Marked : List ℕ → ℕ → ℕ → Type 0
Marked marks j x = get_or marks (63 * j + x) 0 ≡ 1

abbrev cell_test : List ℕ → ℕ → ℕ → ℕ → ℕ → Bool
cell_test marks a j s x = leb s x && eqb ((x - s) % a) 0 && eqb (get_or marks (63 * j + x) 0) 1

module _ (marks : List ℕ) (a j s : ℕ) where
  cell_test_iff : (x : ℕ) → (cell_test marks a j s x ≡ true) ↔ (((s ≤ x) × ((x - s) % a ≡ 0)) × Marked marks j x)
  cell_test_iff x =
      and_iff _ _ (and_iff _ _ (leb_iff s x) (eqb_iff ((x - s) % a) 0)) (eqb_iff (get_or marks (63 * j + x) 0) 1)

  pub row_marked_iff :
      (row_marked marks a j s ≡ true) ↔ ((x : ℕ) × (x < 63) × (((s ≤ x) × ((x - s) % a ≡ 0)) × Marked marks j x))
  unfolding row_marked
  row_marked_iff = some_below_iff 63 _ _ cell_test_iff

  cells_on_steps : OnSteps (cell_test marks a j s) s a
  cells_on_steps =
      record {
        step = λ x e.
            let ((from, multiple), _) = (cell_test_iff x).0 e in
            let (l, is) = (no_remainder_iff (x - s) a).0 multiple in
            (l, omega arith);
      }

-- x is one of the cells s, s + a, .. of row j, and none before it is marked
pub record CellsPassed (marks : List ℕ) (a j s x : ℕ) : Type 0 where
  passed : Passed (cell_test marks a j s) s a x

module _ {marks : List ℕ} {a j s : ℕ} where
  pub no_cell_passed : CellsPassed marks a j s s
  no_cell_passed = record { passed = passed_none (cells_on_steps marks a j s) }

  pub cell_passed : {x : ℕ} → CellsPassed marks a j s x → (Marked marks j x → ⊥) → CellsPassed marks a j s (x + a)
  cell_passed {x} p h =
      let fails = not_true_is_false (cell_test marks a j s x) (λ e. h ((cell_test_iff marks a j s x).0 e).1) in
      record { passed = passed_one (cells_on_steps marks a j s) p.passed fails }

  pub cell_found : {x : ℕ} → CellsPassed marks a j s x → x < 63 → Marked marks j x → true ≡ row_marked marks a j s
  cell_found {x} p h m =
      let e = p.passed.is in
      let multiple = (no_remainder_iff (x - s) a).1 (p.passed.turns, omega arith) in
      sym ((row_marked_iff marks a j s).1 (x, h, ((omega arith, multiple), m)))

  pub row_unmarked : {x : ℕ} → CellsPassed marks a j s x → 63 ≤ x → false ≡ row_marked marks a j s
  unfolding row_marked
  row_unmarked p h = passed_all p.passed h

-- the first cell that the lattice has in row i
abbrev pub row_start : ℕ → ℕ → ℕ → ℕ → ℕ
row_start a b d i = (31 + b * (i / d)) % a

-- in the next row it is b more, up to a multiple of a
next_start : (a b d : ℕ) → 1 ≤ d → (i : ℕ) → (row_start a b d i + b) % a ≡ row_start a b d (i + d)
next_start a b d h i = mod-add-mod (31 + b * (i / d)) a b ∙ ap (λ (n : ℕ). n % a) (rw (add-div_right i h) (omega arith))

-- what `rows_marked` asks of row i, and that it finds such a row
abbrev row_test : List ℕ → ℕ → ℕ → ℕ → ℕ → Bool
row_test marks a b d i = leb 1 i && eqb (i % d) 0 && row_marked marks a i (row_start a b d i)

module _ (marks : List ℕ) (a b d : ℕ) where
  row_test_iff :
      (i : ℕ)
      → (row_test marks a b d i ≡ true) ↔ (((1 ≤ i) × (i % d ≡ 0)) × (row_marked marks a i (row_start a b d i) ≡ true))
  row_test_iff i = and_iff _ _ (and_iff _ _ (leb_iff 1 i) (eqb_iff (i % d) 0)) (λ e. e, λ e. e)

  pub rows_marked_iff :
      (rows_marked marks a b d ≡ true)
      ↔ ((i : ℕ) × (i < 32) × (((1 ≤ i) × (i % d ≡ 0)) × (row_marked marks a i (row_start a b d i) ≡ true)))
  unfolding rows_marked
  rows_marked_iff = some_below_iff 32 _ _ row_test_iff

  rows_on_steps : OnSteps (row_test marks a b d) d d
  rows_on_steps =
      record { step = λ i e. let t = ((row_test_iff i).0 e).0 in at_multiple i t.0 ((no_remainder_iff i d).0 t.1) }
    where
      at_multiple : (i : ℕ) → 1 ≤ i → Multiple d i → (l : ℕ) × (i ≡ d + l * d)
      at_multiple i h (zero, e) = absurd (omega arith)
      at_multiple i h (suc l, e) = (l, omega arith)

-- i is one of the rows d, 2 × d, .., the lattice's cells in it start with `from`, and none in the rows 1 to i - 1 is marked
pub record RowsPassed (marks : List ℕ) (a b d i from : ℕ) : Type 0 where
  d_least : 1 ≤ d
  b_below : b < a
  passed : Passed (row_test marks a b d) d d i
  start : from ≡ row_start a b d i

module _ {marks : List ℕ} {a b d : ℕ} where
  pub start_small : {i from : ℕ} → RowsPassed marks a b d i from → from < a
  start_small {i} p = omega (arith, p.start, mod-lt (31 + b * (i / d)) {m = a} (omega (arith, p.b_below)))

  start_follows : {i from : ℕ} → RowsPassed marks a b d i from → (from + b) % a ≡ row_start a b d (i + d)
  start_follows {i} p = ap (λ (n : ℕ). (n + b) % a) p.start ∙ next_start a b d p.d_least i

  next_passed :
      {i from : ℕ} → RowsPassed marks a b d i from → false ≡ row_marked marks a i from → Passed (row_test marks a b d) d d (i + d)
  next_passed {i} p e =
      let unmarked : row_marked marks a i (row_start a b d i) ≡ false = sym (rw p.start at e) in
      passed_one (rows_on_steps marks a b d) p.passed
      (not_true_is_false (row_test marks a b d i) (λ t. true-not-false (sym ((row_test_iff marks a b d i).0 t).1 ∙ unmarked)))

  pub no_row_passed : {s : ℕ} → 1 ≤ d → b < a → s ≡ (31 + b) % a → RowsPassed marks a b d d s
  no_row_passed h l e =
      record {
        d_least = h;
        b_below = l;
        passed = passed_none (rows_on_steps marks a b d);
        start = e ∙ ap (λ (q : ℕ). (31 + q) % a) (rw (div_self h) (omega arith));
      }

  -- one row further, where the start stays below a and where it does not
  next_row :
      {i from s : ℕ} → RowsPassed marks a b d i from → false ≡ row_marked marks a i from → s ≡ (from + b) % a
      → RowsPassed marks a b d (i + d) s
  next_row p e same =
      record { d_least = p.d_least; b_below = p.b_below; passed = next_passed p e; start = same ∙ start_follows p }

  pub row_passed :
      {i from : ℕ} → RowsPassed marks a b d i from → false ≡ row_marked marks a i from → from + b < a
      → RowsPassed marks a b d (i + d) (from + b)
  row_passed p e k = next_row p e (sym (mod-eq_of_lt k))

  pub row_passed_around :
      {i from : ℕ} → RowsPassed marks a b d i from → false ≡ row_marked marks a i from → a ≤ from + b
      → RowsPassed marks a b d (i + d) (from + b - a)
  row_passed_around p e k =
      next_row p e (sym (mod-eq_of_lt (omega (arith, start_small p, p.b_below))) ∙ sym (mod-eq-sub-mod k))

  pub row_found :
      {i from : ℕ} → RowsPassed marks a b d i from → i < 32 → true ≡ row_marked marks a i from → true ≡ rows_marked marks a b d
  row_found {i} p k m =
      let e = p.passed.is in
      let multiple = (no_remainder_iff i d).1 (suc p.passed.turns, omega arith) in
      sym ((rows_marked_iff marks a b d).1 (i, k, ((omega arith, multiple), sym (rw p.start at m))))

  pub rows_unmarked : {i from : ℕ} → RowsPassed marks a b d i from → 32 ≤ i → false ≡ rows_marked marks a b d
  unfolding rows_marked
  rows_unmarked p k = passed_all p.passed k
