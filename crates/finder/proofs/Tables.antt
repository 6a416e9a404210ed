-- A plan suits a legal book exactly if the searches of the book's table find nothing.
-- Assumes nothing.
use Prim.Native.Nat.{ℕ, zero, suc, ◌+◌, ◌≤◌, ◌<◌}
use native.Mathlib.Omega.{arith}
use mathlib.Core.Path.{◌≡◌, refl, sym, ◌∙◌, ap, ap₂, subst}
use mathlib.Core.Logic.{◌⊎◌, inl, inr, ⊎_elim}
use mathlib.Core.Bool.{true, not, ◌&&◌}
use mathlib.Core.Option.{none}
use mathlib.Core.List.{List, [], ◌∷◌, Memᴰ}
use lib.IntN.{ℤ, pos, negsuc, neg_ℤ, nat_abs, ◌-ℤ◌, +ℤ_invr}
use Rattle.integers.proofs.Comparisons.{same_truth}
use Rattle.integers.proofs.Integers.{size_of_neg, pos_injective}
use Rattle.integers.proofs.Ring.{ring, reify}
use Rattle.integers.proofs.Polynomials.{no_difference}
use Rattle.scope.specs.Plans.{Pixel, minus, plan, pixel_at, pattern_at, pixels, patterns, lattice_test, suits, suits_all}
use Rattle.scope.specs.Numbers.{record_test}
use Rattle.scope.specs.promises.Meaning.{IsPattern, IsBook}
use Rattle.scope.specs.declared.Plan.{Plan}
use Rattle.scope.specs.declared.Pattern.{Pattern}
use Rattle.scope.specs.declared.Book.{Book}
use Rattle.checks.proofs.BookTests.{book_legal_iff}
use Rattle.checks.proofs.Patterns.{same_coordinates, pattern_in_range, mem_pixels, pixels_mem, mem_patterns, patterns_mem}
use Rattle.lattice.proofs.Membership.{lattice_means, lattice_symmetric}
use Rattle.lattice.proofs.Suits.{suits_means, suits_all_iff}
use Rattle.finder.specs.Table.{mark_book, row_marked, rows_marked}
use Rattle.finder.proofs.MarkedCells.{Cell, number, vector, column_place, IsDifference, marked_iff}
use Rattle.finder.proofs.Boxes.{range_difference}
use Rattle.finder.proofs.Hits.{Hit, no_hit_iff}

-- v is the vector of a cell past that of vector 0
record Ahead (v : Pixel) : Type 0 where
  cell : Cell
  ahead : 31 < number cell
  is : v ≡ vector cell

abbrev pair : ℤ → ℤ → Pixel
pair c r = record { column = c; row = r }

ahead_above : (z : ℤ) (n : ℕ) → nat_abs z < 32 → suc n < 32 → Ahead (pair z (pos (suc n)))
ahead_above z n h k =
    let (x, x_below, column) = column_place z (omega arith) in
    record {
      cell = record { j = suc n; x = x; j_below = k; x_below = x_below };
      ahead = omega arith;
      is = same_coordinates column refl;
    }

ahead_beside : (n : ℕ) → 0 < n → n < 32 → Ahead (pair (pos n) (pos 0))
ahead_beside n h k =
    let column : pos n ≡ pos (31 + n) -ℤ pos 31 = ring (pos n ∷ []) (search reify depth 40 fits 9000) refl in
    record {
      cell = record { j = 0; x = 31 + n; j_below = omega arith; x_below = omega arith };
      ahead = omega arith;
      is = same_coordinates column refl;
    }

-- of a small vector and its negative one is ahead, unless it is 0
one_is_ahead :
    (c r : ℤ) → nat_abs c < 32 → nat_abs r < 32 → (c ≡ pos 0 → r ≡ pos 0 → ⊥) → Ahead (pair c r) ⊎ Ahead (pair (neg_ℤ c) (neg_ℤ r))
one_is_ahead c (pos (suc n)) h k other = inl (ahead_above c n h k)
one_is_ahead c (negsuc n) h k other = inr (ahead_above (neg_ℤ c) n (omega (arith, size_of_neg c)) k)
one_is_ahead (pos (suc m)) (pos zero) h k other = inl (ahead_beside (suc m) (omega arith) h)
one_is_ahead (negsuc m) (pos zero) h k other = inr (ahead_beside (suc m) (omega arith) h)
one_is_ahead (pos zero) (pos zero) h k other = absurd (other refl refl)

-- so one of the two differences of two different pixels of a pattern is ahead
difference_ahead :
    (t : Pattern) → IsPattern t → (v w : Pixel) → Memᴰ v (pixels t) → Memᴰ w (pixels t) → (v ≡ w → ⊥)
    → Ahead (minus v w) ⊎ Ahead (minus w v)
unfolding minus
difference_ahead t legal v w in-v in-w other =
    let (i, j) = pattern_in_range t legal in-v in
    let (k, l) = pattern_in_range t legal in-w in
    ⊎_elim inl (λ h. inr (subst Ahead (same_coordinates (turned v.column w.column) (turned v.row w.row)) h))
    (one_is_ahead (v.column -ℤ w.column) (v.row -ℤ w.row) (range_difference _ _ i k) (range_difference _ _ j l)
    (λ c r. other (same_coordinates (no_difference c) (no_difference r))))
  where
    turned : (y z : ℤ) → neg_ℤ (y -ℤ z) ≡ z -ℤ y
    turned y z = ring (y ∷ z ∷ []) (search reify depth 40 fits 9000) refl

-- two pixels whose difference is ahead are different
ahead_not_same : (v w : Pixel) (c : Cell) → minus v w ≡ vector c → 31 < number c → v ≡ w → ⊥
unfolding minus
ahead_not_same v w c is ahead same =
    let apart : minus v w ≡ pair (pos 0) (pos 0) = rw same (same_coordinates (+ℤ_invr w.column) (+ℤ_invr w.row)) in
    let here : vector c ≡ pair (pos 0) (pos 0) = sym is ∙ apart in
    let row : c.j ≡ 0 = pos_injective (ap (λ (u : Pixel). u.row) here) in
    let place : c.x ≡ 31 = pos_injective (no_difference (ap (λ (u : Pixel). u.column) here)) in
    omega arith

-- A plan suits a legal book exactly if its table has no hit.
module _ (book : Book) (p : Plan) (a_least : 1 ≤ p.a) (d_least : 1 ≤ p.d) where
  suits_means_no_hit : suits_all p (patterns book) ≡ true → Hit (mark_book book book.count) p → ⊥
  suits_means_no_hit suiting h = at_pixels ((marked_iff book book.count h.cell).0 h.marked)
    where
      at_pixels : IsDifference book book.count (vector h.cell) → ⊥
      at_pixels (n, n-below, (e, e_below, (l, l_below, is))) =
          let t : Pattern = pattern_at book n in
          let suiting_t : suits p (pixels t) ≡ true = (suits_all_iff p (patterns book)).0 suiting (pixels t) (patterns_mem book n n-below) in
          (suits_means p a_least d_least (pixels t)).0 suiting_t
          (pixel_at t l) (pixel_at t e) (pixels_mem t l l_below) (pixels_mem t e e_below)
          (ahead_not_same (pixel_at t l) (pixel_at t e) h.cell is h.ahead)
          ((lattice_means p a_least d_least (minus (pixel_at t l) (pixel_at t e))).0 (ap (lattice_test p) is ∙ h.in_lattice))

  no_hit_means_suits : IsBook book → (Hit (mark_book book book.count) p → ⊥) → suits_all p (patterns book) ≡ true
  no_hit_means_suits legal free = (suits_all_iff p (patterns book)).1 (λ t m. in_list (mem_patterns book m))
    where
      not_ahead :
          (n : ℕ) → n < book.count → (v w : Pixel) → Memᴰ v (pixels (pattern_at book n))
          → Memᴰ w (pixels (pattern_at book n)) → lattice_test p (minus v w) ≡ true → Ahead (minus v w) → ⊥
      not_ahead n n-below v w in-v in-w h a =
          let (l, l_below, l-is) = mem_pixels (pattern_at book n) in-v in
          let (e, e_below, e-is) = mem_pixels (pattern_at book n) in-w in
          free (record {
            cell = a.cell;
            ahead = a.ahead;
            in_lattice = ap (lattice_test p) (sym a.is) ∙ h;
            marked =
                (marked_iff book book.count a.cell).1
                (n, n-below, (e, e_below, (l, l_below, ap₂ minus l-is e-is ∙ a.is)));
          })

      in_list : {t : List Pixel} → (n : ℕ) × (n < book.count) × (pixels (pattern_at book n) ≡ t) → suits p t ≡ true
      in_list (n, n-below, is) =
          subst (λ t. suits p t ≡ true) is
          ((suits_means p a_least d_least (pixels (pattern_at book n))).1
          (λ v w in-v in-w other c.
          let h : lattice_test p (minus v w) ≡ true = (lattice_means p a_least d_least (minus v w)).1 c in
          ⊎_elim (not_ahead n n-below v w in-v in-w h)
          (not_ahead n n-below w v in-w in-v (lattice_symmetric p a_least d_least w v ∙ h))
          (difference_ahead (pattern_at book n) (legal.each n n-below) v w in-v in-w other)))

-- The finder's test of a plan by the table is that the plan suits.
pub suits_by_table :
    (book : Book) → record_test book ≡ none → (a b d : ℕ) → 1 ≤ d → b < a
    → suits_all (plan a b d) (patterns book)
    ≡ not (row_marked (mark_book book book.count) a 0 (31 + a)) && not (rows_marked (mark_book book book.count) a b d)
unfolding plan
suits_by_table book legal a b d d_least b_below =
    let no_hit = no_hit_iff (mark_book book book.count) a b d (omega arith) in
    let free = suits_means_no_hit book (plan a b d) (omega arith) d_least in
    let suiting = no_hit_means_suits book (plan a b d) (omega arith) d_least ((book_legal_iff book).0 legal) in
    same_truth _ _ (λ e. no_hit.1 (free e)) (λ e. suiting (no_hit.0 e))
