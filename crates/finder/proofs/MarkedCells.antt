-- What the finder's table holds: a cell of the half window is marked exactly if its vector is the difference of two pixels of
-- one pattern.
-- Assumes nothing.
use Prim.Native.Nat.{ℕ, zero, suc, ◌+◌, ◌-◌, ◌*◌, ◌≤◌, ◌<◌}
use native.Mathlib.Omega.{arith}
use native.Mathlib.Decide.{ℕ_discrete}
use mathlib.Core.Path.{◌≡◌, refl, sym, ◌∙◌, ap, subst}
use mathlib.Core.Logic.Iff
use mathlib.Core.Logic.{◌↔◌, ◌⊎◌, inl, inr}
use mathlib.Core.Bool.{Bool, true, false}
use mathlib.Core.List.{List, [], ◌∷◌}
use lib.IntN.{ℤ, pos, negsuc, nat_abs, ◌+ℤ◌, ◌-ℤ◌}
use lib.ListN.{length, get_or, set, replicate, length-set, length-replicate, get_or-replicate}
use Rattle.integers.proofs.Comparisons.{leb_iff}
use Rattle.integers.proofs.Integers.{above, below, same_integer, same_difference, own_parts, parts_add}
use Rattle.integers.proofs.Ring.{ring, reify}
use Rattle.scope.specs.Plans.{Pixel, minus, pixel_at, pattern_at}
use Rattle.scope.specs.declared.Pattern.{Pattern}
use Rattle.scope.specs.declared.Book.{Book}
use Rattle.checks.proofs.Searches.{true-not-false}
use Rattle.checks.proofs.Lists.{get_or-set_same, get_or-set_other}
use Rattle.checks.proofs.Patterns.{same_coordinates}
use Rattle.finder.specs.Table.{is_row, in_half, table_cell, mark_from, mark_pattern, mark_book}
use Rattle.finder.proofs.Marking.{in_half_iff, cell_inside, cell_outside}

-- a cell of the half window: its row and its place in the row, its number, and its vector
pub record Cell : Type 0 where
  pub j : ℕ
  pub x : ℕ
  pub j_below : j < 32
  pub x_below : x < 63

abbrev pub number : Cell → ℕ
number c = 63 * c.j + c.x

abbrev pub vector : Cell → Pixel
vector c = record { column = pos c.x -ℤ pos 31; row = pos c.j }

-- v is the vector of a cell
record Placed (v : Pixel) : Type 0 where
  cell : Cell
  is : v ≡ vector cell

-- the columns of cells are those of size at most 31
pub column_place : (z : ℤ) → nat_abs z ≤ 31 → (x : ℕ) × (x < 63) × (z ≡ pos x -ℤ pos 31)
column_place (pos n) h = (31 + n, omega arith, ring (pos n ∷ []) (search reify depth 40 fits 9000) refl)
column_place (negsuc n) h = (
  30 - n,
  omega arith,
  same_integer (own_parts (negsuc n)) (parts_add (own_parts (pos (30 - n))) (own_parts (negsuc 30))) (omega arith),
)

column_size : (x : ℕ) → x < 63 → nat_abs (pos x -ℤ pos 31) ≤ 31
column_size x h =
    by_value (pos x -ℤ pos 31)
    (omega (arith, same_difference refl (own_parts (pos x -ℤ pos 31)) (parts_add (own_parts (pos x)) (own_parts (negsuc 30)))))
  where
    by_value : (z : ℤ) → above z + 31 ≡ x + below z → nat_abs z ≤ 31
    by_value (pos n) e = omega arith
    by_value (negsuc n) e = omega arith

in_half_is_placed : (v : Pixel) → in_half v ≡ true → Placed v
unfolding is_row
in_half_is_placed v h =
    let (narrow, low) = (in_half_iff v).0 h in
    by_row (column_place v.column narrow) v.row refl low
  where
    by_row : (x : ℕ) × (x < 63) × (v.column ≡ pos x -ℤ pos 31) → (z : ℤ) → v.row ≡ z → is_row z ≡ true → Placed v
    by_row (x, x_below, column) (pos j) row low =
        record {
          cell = record { j = j; x = x; j_below = omega (arith, (leb_iff j 31).0 low); x_below = x_below };
          is = same_coordinates column row;
        }
    by_row place (negsuc j) row low = absurd (true-not-false (sym low))

-- a vector's cell
cell_of_vector : (c : Cell) → table_cell (vector c) ≡ number c
unfolding is_row
cell_of_vector c =
    let back : pos c.x -ℤ pos 31 +ℤ pos 31 ≡ pos c.x = ring (pos c.x ∷ []) (search reify depth 40 fits 9000) refl in
    cell_inside (vector c)
    ((in_half_iff (vector c)).1 (column_size c.x c.x_below, (leb_iff c.j 31).1 (omega (arith, c.j_below))))
    ∙ ap (λ (z : ℤ). 63 * c.j + nat_abs z) back

-- a cell is that of one vector only
cell_iff : (c : Cell) (v : Pixel) → (table_cell v ≡ number c) ↔ (v ≡ vector c)
cell_iff c v = (by_half (in_half v) refl, λ e. ap table_cell e ∙ cell_of_vector c)
  where
    in_cell : Placed v → table_cell v ≡ number c → v ≡ vector c
    in_cell p e =
        let here : table_cell v ≡ number p.cell = ap table_cell p.is ∙ cell_of_vector p.cell in
        let same_row : p.cell.j ≡ c.j = omega (arith, p.cell.x_below, c.x_below) in
        let same_place : p.cell.x ≡ c.x = omega arith in
        p.is ∙ same_coordinates (ap (λ (x : ℕ). pos x -ℤ pos 31) same_place) (ap pos same_row)

    by_half : (b : Bool) → in_half v ≡ b → table_cell v ≡ number c → v ≡ vector c
    by_half true h e = in_cell (in_half_is_placed v h) e
    by_half false h e = absurd (omega (arith, cell_outside v h, c.j_below, c.x_below))

-- The table has all its cells, and one of the half window is marked exactly if P holds of its vector.
record Holds (marks : List ℕ) (P : Pixel → Type 0) : Type 0 where
  size : length marks ≡ 2017
  marked : (c : Cell) → (get_or marks (number c) 0 ≡ 1) ↔ P (vector c)

-- a property of some number below n
abbrev pub SomeBelow : ℕ → (ℕ → Type 0) → Type 0
SomeBelow n Q = (i : ℕ) × (i < n) × Q i

holds_same : {marks : List ℕ} {P Q : Pixel → Type 0} → ((v : Pixel) → P v ↔ Q v) → Holds marks P → Holds marks Q
holds_same same h =
    record { size = h.size; marked = λ c. Iff.trans (h.marked c) (same (vector c)) }

none_marked : Holds (replicate 2017 0) (λ w. ⊥)
none_marked =
    record {
      size = length-replicate {A = ℕ} 2017 0;
      marked = λ c.
          let e = get_or-replicate {A = ℕ} 2017 (number c) 0 0 (omega (arith, c.j_below, c.x_below)) in
          (λ h. omega arith, λ h. absurd h);
    }

one_more_marked :
    {marks : List ℕ} {P : Pixel → Type 0} → Holds marks P → (v : Pixel) → Holds (set marks (table_cell v) 1) (λ w. P w ⊎ (v ≡ w))
one_more_marked {marks} {P} h v =
    record {
      size = length-set marks (table_cell v) 1 ∙ h.size;
      marked = λ c. at_cell c (ℕ_discrete (table_cell v) (number c));
    }
  where
    at_cell :
        (c : Cell) → Dec (table_cell v ≡ number c)
        → (get_or (set marks (table_cell v) 1) (number c) 0 ≡ 1) ↔ (P (vector c) ⊎ (v ≡ vector c))
    at_cell c (yes d) = (
      λ e. inr ((cell_iff c v).0 d),
      λ p. rw (← d) (get_or-set_same marks (table_cell v) 1 0 (omega (arith, h.size, c.j_below, c.x_below))),
    )
    at_cell c (no d) = (λ e. inl ((h.marked c).0 (sym other ∙ e)), back)
      where
        other : get_or (set marks (table_cell v) 1) (number c) 0 ≡ get_or marks (number c) 0
        other = get_or-set_other marks (table_cell v) (number c) 1 0 (λ e. d (sym e))

        back : P (vector c) ⊎ (v ≡ vector c) → get_or (set marks (table_cell v) 1) (number c) 0 ≡ 1
        back (inl p) = other ∙ (h.marked c).1 p
        back (inr e) = absurd (d ((cell_iff c v).1 e))

-- a table made in steps, of which step n marks the vectors of Q n
module _ (g : ℕ → List ℕ) {P : Pixel → Type 0} (Q : ℕ → Pixel → Type 0)
    (step : (n : ℕ) (R : Pixel → Type 0) → Holds (g n) R → Holds (g (suc n)) (λ w. R w ⊎ Q n w)) where
  steps_hold : Holds (g 0) P → (n : ℕ) → Holds (g n) (λ w. P w ⊎ SomeBelow n (λ i. Q i w))
  steps_hold h zero = holds_same (λ v. (inl, none_below v)) h
    where
      none_below : (v : Pixel) → P v ⊎ SomeBelow 0 (λ i. Q i v) → P v
      none_below v (inl p) = p
      none_below v (inr (i, less, q)) = absurd (omega arith)
  steps_hold h (suc n) = holds_same (λ v. (there v, back v)) (step n _ (steps_hold h n))
    where
      there : (v : Pixel) → (P v ⊎ SomeBelow n (λ i. Q i v)) ⊎ Q n v → P v ⊎ SomeBelow (suc n) (λ i. Q i v)
      there v (inl (inl p)) = inl p
      there v (inl (inr (i, less, q))) = inr (i, omega arith, q)
      there v (inr q) = inr (n, omega arith, q)

      back : (v : Pixel) → P v ⊎ SomeBelow (suc n) (λ i. Q i v) → (P v ⊎ SomeBelow n (λ i. Q i v)) ⊎ Q n v
      back v (inl p) = inl (inl p)
      back v (inr (i, less, q)) = by_number (ℕ_discrete i n)
        where
          by_number : Dec (i ≡ n) → (P v ⊎ SomeBelow n (λ i. Q i v)) ⊎ Q n v
          by_number (yes e) = inr (subst (λ k. Q k v) e q)
          by_number (no e) = inl (inr (i, omega arith, q))

-- v is the difference of pixel e and a pixel of t, of two pixels of t, and of two pixels of one of the first n patterns
abbrev IsFrom : Pattern → ℕ → Pixel → Type 0
IsFrom t e v = SomeBelow t.used (λ l. minus (pixel_at t l) (pixel_at t e) ≡ v)

abbrev IsOf : Pattern → Pixel → Type 0
IsOf t v = SomeBelow t.used (λ e. IsFrom t e v)

abbrev pub IsDifference : Book → ℕ → Pixel → Type 0
IsDifference book n v = SomeBelow n (λ m. IsOf (pattern_at book m) v)

-- the three are marked in turn
pixel_marked :
    {marks : List ℕ} {P : Pixel → Type 0} (t : Pattern) (e : ℕ) → Holds marks P
    → Holds (mark_from t e t.used marks) (λ v. P v ⊎ IsFrom t e v)
unfolding mark_from
pixel_marked {marks} t e h =
    steps_hold (λ l. mark_from t e l marks) (λ l v. minus (pixel_at t l) (pixel_at t e) ≡ v)
    (λ l _ k. one_more_marked k (minus (pixel_at t l) (pixel_at t e)))
    h
    t.used

pattern_marked :
    {marks : List ℕ} {P : Pixel → Type 0} (t : Pattern) → Holds marks P
    → Holds (mark_pattern t t.used marks) (λ v. P v ⊎ IsOf t v)
unfolding mark_pattern
pattern_marked {marks} t h = steps_hold (λ e. mark_pattern t e marks) (IsFrom t) (λ e _ k. pixel_marked t e k) h t.used

book_marked : (book : Book) (n : ℕ) → Holds (mark_book book n) (λ v. ⊥ ⊎ IsDifference book n v)
unfolding mark_book
book_marked book n =
    steps_hold (mark_book book) (λ m. IsOf (pattern_at book m)) (λ m _ k. pattern_marked (pattern_at book m) k) none_marked n

-- A cell is marked exactly if its vector is the difference of two pixels of one of the first n patterns.
pub marked_iff : (book : Book) (n : ℕ) (c : Cell) → (get_or (mark_book book n) (number c) 0 ≡ 1) ↔ IsDifference book n (vector c)
marked_iff book n c = Iff.trans ((book_marked book n).marked c) (there, inr)
  where
    there : ⊥ ⊎ IsDifference book n (vector c) → IsDifference book n (vector c)
    there (inl h) = elim h [ ]
    there (inr h) = h
