-- Identities of determinants, of two and of three vectors, by the ring solver.
-- Assumes nothing.
use mathlib.Core.Path.{◌≡◌, refl}
use mathlib.Core.List.{[], ◌∷◌}
use lib.IntN.{ℤ, neg_ℤ, ◌+ℤ◌, ◌*ℤ◌, ◌-ℤ◌}
use Rattle.integers.proofs.Ring.{ring, reify}

-- two vectors: det(M × N) = det M × det N
abbrev pub det2 : (x₁ x₂ y₁ y₂ : ℤ) → ℤ
det2 x₁ x₂ y₁ y₂ = x₁ *ℤ y₂ -ℤ x₂ *ℤ y₁

pub det2_of_product :
    (a b c d x y z w : ℤ)
    → det2 (a *ℤ x +ℤ b *ℤ z) (a *ℤ y +ℤ b *ℤ w) (c *ℤ x +ℤ d *ℤ z) (c *ℤ y +ℤ d *ℤ w) ≡ det2 a b c d *ℤ det2 x y z w
det2_of_product a b c d x y z w =
    ring (a ∷ b ∷ c ∷ d ∷ x ∷ y ∷ z ∷ w ∷ []) (search reify depth 40 fits 9000) refl

-- three vectors
abbrev pub det3 : (x₁ x₂ x₃ y₁ y₂ y₃ z₁ z₂ z₃ : ℤ) → ℤ
det3 x₁ x₂ x₃ y₁ y₂ y₃ z₁ z₂ z₃ = x₁ *ℤ det2 y₂ y₃ z₂ z₃ -ℤ x₂ *ℤ det2 y₁ y₃ z₁ z₃ +ℤ x₃ *ℤ det2 y₁ y₂ z₁ z₂

-- m of the first vector added to the second changes nothing
pub det3_of_shear :
    (m x₁ x₂ x₃ y₁ y₂ y₃ z₁ z₂ z₃ : ℤ)
    → det3 x₁ x₂ x₃ (y₁ +ℤ m *ℤ x₁) (y₂ +ℤ m *ℤ x₂) (y₃ +ℤ m *ℤ x₃) z₁ z₂ z₃ ≡ det3 x₁ x₂ x₃ y₁ y₂ y₃ z₁ z₂ z₃
det3_of_shear m x₁ x₂ x₃ y₁ y₂ y₃ z₁ z₂ z₃ =
    ring (m ∷ x₁ ∷ x₂ ∷ x₃ ∷ y₁ ∷ y₂ ∷ y₃ ∷ z₁ ∷ z₂ ∷ z₃ ∷ []) (search reify depth 60 fits 9000) refl

-- two vectors exchanged change the sign
pub det3_of_exchange :
    (x₁ x₂ x₃ y₁ y₂ y₃ z₁ z₂ z₃ : ℤ) → det3 y₁ y₂ y₃ x₁ x₂ x₃ z₁ z₂ z₃ ≡ neg_ℤ (det3 x₁ x₂ x₃ y₁ y₂ y₃ z₁ z₂ z₃)
det3_of_exchange x₁ x₂ x₃ y₁ y₂ y₃ z₁ z₂ z₃ =
    ring (x₁ ∷ x₂ ∷ x₃ ∷ y₁ ∷ y₂ ∷ y₃ ∷ z₁ ∷ z₂ ∷ z₃ ∷ []) (search reify depth 60 fits 9000) refl
