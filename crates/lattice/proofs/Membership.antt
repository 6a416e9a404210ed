-- Combinations of two vectors: a combination of combinations is one too, and a plan's test decides which pixels are in its lattice.
-- Assumes nothing.
use Prim.Native.Nat.{◌≤◌}
use mathlib.Core.Path.{◌≡◌, refl, ◌∙◌}
use mathlib.Core.Logic.Iff
use mathlib.Core.Logic.{◌↔◌}
use mathlib.Core.Bool.{true}
use mathlib.Core.List.{[], ◌∷◌}
use lib.IntN.{ℤ, pos, negsuc, neg_ℤ, ◌+ℤ◌, ◌*ℤ◌, ◌-ℤ◌}
use Rattle.integers.specs.Division.{floor_div}
use Rattle.integers.proofs.Ring.{ring, linear, ◌·◌, reify}
use Rattle.integers.proofs.Divisions.{Divides, divides_iff, quotient_of_multiple}
use Rattle.integers.proofs.Comparisons.{and_iff, same_truth}
use Rattle.scope.specs.Plans.{Pixel, at, plus, minus, Combination, InLattice, lattice_test}
use Rattle.scope.specs.promises.Meaning.{LatticeMeans}
use Rattle.scope.specs.declared.Plan.{Plan}

-- a combination of x and y, its factors the same in both coordinates
coordinate_wise :
    {x y : Pixel} (f : ℤ → ℤ → ℤ) (m n : ℤ) → ((i j : ℤ) → f i j ≡ m *ℤ i +ℤ n *ℤ j)
    → Combination x y (at (f x.column y.column) (f x.row y.row))
unfolding at
coordinate_wise {x} {y} f m n law =
    record { m = m; n = n; columns = law x.column y.column; rows = law x.row y.row }

-- i and j are combinations of s and t, and k of i and j, so k is one of s and t
one_coordinate :
    {i j k : ℤ} (s t m n p q e f : ℤ) → i ≡ m *ℤ s +ℤ n *ℤ t → j ≡ p *ℤ s +ℤ q *ℤ t → k ≡ e *ℤ i +ℤ f *ℤ j
    → k ≡ (e *ℤ m +ℤ f *ℤ p) *ℤ s +ℤ (e *ℤ n +ℤ f *ℤ q) *ℤ t
one_coordinate {i} {j} {k} s t m n p q e f g h l =
    linear ((e · g) ∷ (f · h) ∷ (pos 1 · l) ∷ [])
    (ring (i ∷ j ∷ k ∷ s ∷ t ∷ m ∷ n ∷ p ∷ q ∷ e ∷ f ∷ []) (search reify depth 40 fits 9000) refl)

module _ {x y : Pixel} where
  -- a combination of two combinations is a combination
  pub combination_of_combinations :
      {u v w : Pixel} → Combination x y v → Combination x y w → Combination v w u → Combination x y u
  combination_of_combinations c d e =
      record {
        m = e.m *ℤ c.m +ℤ e.n *ℤ d.m;
        n = e.m *ℤ c.n +ℤ e.n *ℤ d.n;
        columns =
            one_coordinate x.column y.column c.m c.n d.m d.n e.m e.n c.columns d.columns e.columns;
        rows = one_coordinate x.row y.row c.m c.n d.m d.n e.m e.n c.rows d.rows e.rows;
      }

  -- so are the sum and the difference of two combinations
  pub combination_of_sum : {v w : Pixel} → Combination x y v → Combination x y w → Combination x y (plus v w)
  unfolding at plus
  combination_of_sum c d =
      combination_of_combinations c d
      (coordinate_wise (λ i j. i +ℤ j) (pos 1) (pos 1) (λ i j. ring (i ∷ j ∷ []) (search reify depth 40 fits 9000) refl))

  pub combination_of_difference : {v w : Pixel} → Combination x y v → Combination x y w → Combination x y (minus v w)
  unfolding at minus
  combination_of_difference c d =
      combination_of_combinations c d
      (coordinate_wise (λ i j. i -ℤ j) (pos 1) (negsuc 0) (λ i j. ring (i ∷ j ∷ []) (search reify depth 40 fits 9000) refl))

  -- x and y themselves, and 0
  pub first_is_combination : Combination x y x
  unfolding at
  first_is_combination =
      coordinate_wise (λ i j. i) (pos 1) (pos 0) (λ i j. ring (i ∷ j ∷ []) (search reify depth 40 fits 9000) refl)

  pub second_is_combination : Combination x y y
  unfolding at
  second_is_combination =
      coordinate_wise (λ i j. j) (pos 0) (pos 1) (λ i j. ring (i ∷ j ∷ []) (search reify depth 40 fits 9000) refl)

  pub zero_is_combination : Combination x y (at (pos 0) (pos 0))
  zero_is_combination =
      coordinate_wise (λ i j. pos 0) (pos 0) (pos 0) (λ i j. ring (i ∷ j ∷ []) (search reify depth 40 fits 9000) refl)

  -- a difference the other way round
  pub combination_of_negative : (v w : Pixel) → Combination x y (minus v w) → Combination x y (minus w v)
  unfolding minus
  combination_of_negative v w c =
      combination_of_combinations c c
      (record { m = negsuc 0; n = pos 0; columns = negative v.column w.column; rows = negative v.row w.row })
    where
      negative : (i j : ℤ) → j -ℤ i ≡ negsuc 0 *ℤ (i -ℤ j) +ℤ pos 0 *ℤ (i -ℤ j)
      negative i j = ring (i ∷ j ∷ []) (search reify depth 40 fits 9000) refl

-- the row of a pixel of the lattice is a multiple of d
pub row_of_lattice : (p : Plan) {v : Pixel} → InLattice p v → Divides p.d v.row
row_of_lattice p c =
    record { times = c.n; is = c.rows ∙ ring (c.m ∷ c.n ∷ pos p.d ∷ []) (search reify depth 40 fits 9000) refl }

-- the column less b × (row/d)
abbrev pub unslanted : Plan → Pixel → ℤ
unslanted p v = v.column -ℤ pos p.b *ℤ floor_div v.row p.d

-- A pixel is in the lattice exactly if d divides its row and a that difference: its factors are those of the two divisions.
module _ (p : Plan) (d_least : 1 ≤ p.d) (v : Pixel) where
  lattice_of_divisors : Divides p.d v.row → Divides p.a (unslanted p v) → InLattice p v
  lattice_of_divisors j i =
      record {
        m = i.times;
        n = j.times;
        columns =
            linear ((pos 1 · i.is) ∷ (pos p.b · quotient_of_multiple p.d d_least j) ∷ [])
            (ring (v.column ∷ i.times ∷ j.times ∷ floor_div v.row p.d ∷ pos p.a ∷ pos p.b ∷ [])
            (search reify depth 40 fits 9000)
            refl);
        rows = j.is ∙ ring (i.times ∷ j.times ∷ pos p.d ∷ []) (search reify depth 40 fits 9000) refl;
      }

  unslanted_of_lattice : InLattice p v → Divides p.a (unslanted p v)
  unfolding row_of_lattice
  unslanted_of_lattice c =
      record {
        times = c.m;
        is =
            linear ((pos 1 · c.columns) ∷ (neg_ℤ (pos p.b) · quotient_of_multiple p.d d_least (row_of_lattice p c)) ∷ [])
            (ring (v.column ∷ c.m ∷ c.n ∷ floor_div v.row p.d ∷ pos p.a ∷ pos p.b ∷ [])
            (search reify depth 40 fits 9000)
            refl);
      }

  pub lattice_by_divisors : (Divides p.d v.row × Divides p.a (unslanted p v)) ↔ InLattice p v
  lattice_by_divisors = (λ (j, i). lattice_of_divisors j i, λ c. (row_of_lattice p c, unslanted_of_lattice c))

-- The test of the lattice says exactly that a pixel is a combination of (a, 0) and (b, d).
pub lattice_means : LatticeMeans
unfolding lattice_test
lattice_means p a_least d_least v =
    Iff.trans
    (and_iff _ _ (divides_iff p.d d_least v.row) (divides_iff p.a a_least (unslanted p v)))
    (lattice_by_divisors p d_least v)

-- The test does not depend on which of two pixels is taken from the other.
pub lattice_symmetric :
    (p : Plan) → 1 ≤ p.a → 1 ≤ p.d → (v w : Pixel) → lattice_test p (minus v w) ≡ lattice_test p (minus w v)
lattice_symmetric p a_least d_least v w =
    same_truth (lattice_test p (minus v w)) (lattice_test p (minus w v)) (turned v w) (turned w v)
  where
    turned : (v w : Pixel) → lattice_test p (minus v w) ≡ true → lattice_test p (minus w v) ≡ true
    turned v w e =
        (lattice_means p a_least d_least (minus w v)).1
        (combination_of_negative v w ((lattice_means p a_least d_least (minus v w)).0 e))
