-- Pairs of vectors with the same combinations and the same determinant but for its sign.
-- Assumes nothing.
use Prim.Native.Nat.{ℕ, zero, suc, ◌*◌}
use mathlib.Core.Path.{◌≡◌, refl, sym, ap, ◌∙◌}
use mathlib.Core.Logic.{◌↔◌}
use mathlib.Core.List.{[], ◌∷◌}
use native.Mathlib.Omega.{arith}
use lib.IntN.{ℤ, pos, neg_ℤ, nat_abs, ◌+ℤ◌, ◌*ℤ◌, ◌-ℤ◌}
use Rattle.integers.proofs.Integers.{size_of_product}
use Rattle.integers.proofs.Ring.{ring, linear, ◌·◌, reify}
use Rattle.integers.proofs.Identities.{det2, det2_of_product}
use Rattle.scope.specs.Plans.{Pixel, Combination, determinant, determinant_size}
use Rattle.lattice.proofs.Membership.{combination_of_combinations}

-- v, w is as good a basis as x, y
pub record SameBasis (x y v w : Pixel) : Type 0 where
  pub same : (u : Pixel) → Combination x y u ↔ Combination v w u
  pub size : determinant_size x y ≡ determinant_size v w

-- a basis for itself, and one basis after another
pub same_basis_itself : {x y : Pixel} → SameBasis x y x y
same_basis_itself = record { same = λ u. (λ c. c, λ c. c); size = refl }

pub same_basis_then :
    {x y v w s t : Pixel} → SameBasis x y v w → SameBasis v w s t → SameBasis x y s t
same_basis_then h k =
    record {
      same = λ u. (λ c. (k.same u).0 ((h.same u).0 c), λ c. (h.same u).1 ((k.same u).1 c));
      size = h.size ∙ k.size;
    }

-- only 1 and -1 have the square 1
size_of_unit : (z : ℤ) → z *ℤ z ≡ pos 1 → nat_abs z ≡ 1
size_of_unit z e = by_size (nat_abs z) (sym (size_of_product z z) ∙ ap nat_abs e)
  where
    by_size : (n : ℕ) → n * n ≡ 1 → n ≡ 1
    by_size zero e = absurd (omega arith)
    by_size (suc zero) e = refl
    by_size (suc (suc n)) e = absurd (omega arith)

-- i = m k + n l and j = p k + q l, with m q - n p equal to 1 or -1, solved for k and l
module _ (m n p q s : ℤ) (unit : s *ℤ (m *ℤ q -ℤ n *ℤ p) ≡ pos 1)
    {i j : ℤ} (k l : ℤ) (first : i ≡ m *ℤ k +ℤ n *ℤ l) (second : j ≡ p *ℤ k +ℤ q *ℤ l) where
  solved_first : k ≡ s *ℤ q *ℤ i +ℤ neg_ℤ (s *ℤ n) *ℤ j
  solved_first =
      linear ((neg_ℤ (s *ℤ q) · first) ∷ (s *ℤ n · second) ∷ (neg_ℤ k · unit) ∷ [])
      (ring (i ∷ j ∷ k ∷ l ∷ m ∷ n ∷ p ∷ q ∷ s ∷ []) (search reify depth 40 fits 9000) refl)

  solved_second : l ≡ neg_ℤ (s *ℤ p) *ℤ i +ℤ s *ℤ m *ℤ j
  solved_second =
      linear ((s *ℤ p · first) ∷ (neg_ℤ (s *ℤ m) · second) ∷ (neg_ℤ l · unit) ∷ [])
      (ring (i ∷ j ∷ k ∷ l ∷ m ∷ n ∷ p ∷ q ∷ s ∷ []) (search reify depth 40 fits 9000) refl)

module _ {x y v w : Pixel} (c : Combination x y v) (d : Combination x y w) where
  -- v = m x + n y and w = p x + q y have m q - n p times the determinant of x and y
  abbrev cross : ℤ
  cross = det2 c.m c.n d.m d.n

  determinant_of_combinations : determinant v w ≡ cross *ℤ determinant x y
  unfolding determinant
  determinant_of_combinations =
      rw (c.columns, c.rows, d.columns, d.rows)
      (det2_of_product c.m c.n d.m d.n x.column x.row y.column y.row)

  -- two combinations where that factor is 1 or -1 are a basis as good as x, y
  pub unit_gives_basis : cross *ℤ cross ≡ pos 1 → SameBasis x y v w
  unfolding determinant_size
  unit_gives_basis unit =
      record {
        same = λ u. (combination_of_combinations first second, combination_of_combinations c d);
        size = sym (rw (determinant_of_combinations, size_of_product, size_of_unit cross unit) (omega arith));
      }
    where
      first : Combination v w x
      first =
          record {
            m = cross *ℤ d.n;
            n = neg_ℤ (cross *ℤ c.n);
            columns = solved_first c.m c.n d.m d.n cross unit x.column y.column c.columns d.columns;
            rows = solved_first c.m c.n d.m d.n cross unit x.row y.row c.rows d.rows;
          }

      second : Combination v w y
      second =
          record {
            m = neg_ℤ (cross *ℤ d.m);
            n = cross *ℤ c.m;
            columns = solved_second c.m c.n d.m d.n cross unit x.column y.column c.columns d.columns;
            rows = solved_second c.m c.n d.m d.n cross unit x.row y.row c.rows d.rows;
          }
