-- The order of pixels by row, then column (document 02, Card 3): it is linear, and what the test of a pixel by the one before it
-- means.
-- Assumes nothing.
use Prim.Native.Nat.{ℕ, zero, suc}
use native.Mathlib.Omega.{arith}
use mathlib.Core.Path.{◌≡◌, refl, sym, ◌∙◌, ap, subst}
use mathlib.Core.Logic.{◌↔◌, ◌⊎◌, inl, inr, ⊎_elim}
use mathlib.Core.Bool.{Bool, true, false, ◌&&◌, ◌||◌}
use lib.IntN.{ℤ, ◌+ℤ◌}
use lib.Signed.{lt_z, ◌<ℤ◌}
use Rattle.integers.specs.Division.{same_number}
use Rattle.integers.proofs.Order.{less_iff, Compared, less, same, more, compared, lt_transitive, lt_not_same, lt_of_moved}
use Rattle.integers.proofs.Divisions.{same_number_means}
use Rattle.integers.proofs.Comparisons.{and_iff}
use Rattle.scope.specs.Plans.{Pixel, lower, plus}
use Rattle.scope.specs.Numbers.{falls}
use Rattle.scope.specs.promises.Meaning.{Lower, LowerMeans}
use Rattle.checks.proofs.Searches.{true-not-false, not_true_is_false}
use Rattle.checks.proofs.Patterns.{same_coordinates}

-- One of two tests holds.
either_iff : {P Q R : Type 0} (a b : Bool) → (a ≡ true) ↔ P → (b ≡ true) ↔ Q → (P → R) → (Q → R) → (R → P ⊎ Q) → (a || b ≡ true) ↔ R
either_iff true b h k left right back = (λ e. left (h.0 refl), λ r. refl)
either_iff false b h k left right back =
    (λ e. right (k.0 e), λ r. ⊎_elim (λ p. absurd (true-not-false (sym (h.1 p)))) (λ q. k.1 q) (back r))

pub lower_iff : LowerMeans
unfolding lower
lower_iff p q =
    either_iff (lt_z p.row q.row) (same_number p.row q.row && lt_z p.column q.column)
    (less_iff p.row q.row)
    (and_iff _ _ (same_number_means p.row q.row) (less_iff p.column q.column))
    Lower.by_row
    (λ t. Lower.by_column t.0 t.1)
    apart
  where
    apart : Lower p q → (p.row <ℤ q.row) ⊎ ((p.row ≡ q.row) × (p.column <ℤ q.column))
    apart (Lower.by_row h) = inl h
    apart (Lower.by_column e h) = inr (e, h)

-- No pixel is lower than itself, the order goes on, and of two different pixels one is lower.
pub not_lower_than_itself : (v w : Pixel) → v ≡ w → Lower v w → ⊥
not_lower_than_itself v w e (Lower.by_row h) = lt_not_same v.row w.row (ap (λ (u : Pixel). u.row) e) h
not_lower_than_itself v w e (Lower.by_column r h) = lt_not_same v.column w.column (ap (λ (u : Pixel). u.column) e) h

pub lower_goes_on : {u v w : Pixel} → Lower u v → Lower v w → Lower u w
lower_goes_on {u} {v} {w} (Lower.by_row h) (Lower.by_row k) = Lower.by_row (lt_transitive u.row v.row w.row h k)
lower_goes_on {u} {v} {w} (Lower.by_row h) (Lower.by_column e k) = Lower.by_row (subst (λ (z : ℤ). u.row <ℤ z) e h)
lower_goes_on {u} {v} {w} (Lower.by_column e h) (Lower.by_row k) = Lower.by_row (subst (λ (z : ℤ). z <ℤ w.row) (sym e) k)
lower_goes_on {u} {v} {w} (Lower.by_column e h) (Lower.by_column d k) =
    Lower.by_column (e ∙ d) (lt_transitive u.column v.column w.column h k)

pub lower_or : (v w : Pixel) → (v ≡ w → ⊥) → (Lower w v → ⊥) → Lower v w
lower_or v w other not-above = by_rows (compared v.row w.row)
  where
    by_columns : v.row ≡ w.row → Compared v.column w.column → Lower v w
    by_columns e (less h) = Lower.by_column e h
    by_columns e (same d) = absurd (other (same_coordinates d e))
    by_columns e (more h) = absurd (not-above (Lower.by_column (sym e) h))

    by_rows : Compared v.row w.row → Lower v w
    by_rows (less h) = Lower.by_row h
    by_rows (same e) = by_columns e (compared v.column w.column)
    by_rows (more h) = absurd (not-above (Lower.by_row h))

-- moving both keeps the order
pub lower_moved : (o : Pixel) {v w : Pixel} → Lower v w → Lower (plus o v) (plus o w)
unfolding plus
lower_moved o {v} {w} (Lower.by_row h) = Lower.by_row (lt_of_moved v.row w.row o.row h)
lower_moved o {v} {w} (Lower.by_column e h) =
    Lower.by_column (ap (λ (z : ℤ). o.row +ℤ z) e) (lt_of_moved v.column w.column o.column h)

-- 19: a pixel is not lower than the one before it
pub no_fall_iff : (pixel : ℕ → Pixel) (e : ℕ) → (falls pixel e ≡ false) ↔ ((l : ℕ) → suc l ≡ e → Lower (pixel e) (pixel l) → ⊥)
unfolding falls
no_fall_iff pixel zero = (λ h l q. absurd (omega arith), λ h. refl)
no_fall_iff pixel (suc e) = (
  λ h l q k. true-not-false (sym ((lower_iff (pixel (suc e)) (pixel e)).1 (subst (λ m. Lower (pixel (suc e)) (pixel m)) (omega arith) k)) ∙ h),
  λ h. not_true_is_false (lower (pixel (suc e)) (pixel e)) (λ t. h e refl ((lower_iff (pixel (suc e)) (pixel e)).0 t)),
)
