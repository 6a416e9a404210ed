-- The pigeonhole: if m numbers below n are all different, m is at most n.
-- Assumes nothing.
use Prim.Native.Nat.{ℕ, zero, suc, ◌-◌, ◌≤◌, ◌<◌}
use mathlib.Core.Path.{◌≡◌, refl}
use mathlib.Core.Logic.{◌⊎◌, inl, inr}
use mathlib.Core.Bool.{Bool, true, false, cond}
use native.Mathlib.Omega.{arith}
use borrow.Author.Tests.{ltb-true, ltb-false}
use lib.Dec.{ltb}

-- the values above v move down by one, so that v is left out
close : ℕ → ℕ → ℕ
close v x = cond (ltb v x) (x - 1) x

abbrev Closed : ℕ → ℕ → ℕ → Type 0
Closed v x y = ((v < x) × (y ≡ x - 1)) ⊎ ((x ≤ v) × (y ≡ x))

close_is : (v x : ℕ) → Closed v x (close v x)
unfolding close
close_is v x = by_test (ltb v x) (ltb-true v x) (ltb-false v x)
  where
    by_test : (t : Bool) → (t ≡ true → v < x) → (t ≡ false → x ≤ v) → Closed v x (cond t (x - 1) x)
    by_test true more less = inl (more refl, refl)
    by_test false more less = inr (less refl, refl)

close_below : (v x n : ℕ) → v < suc n → x < suc n → (x ≡ v → ⊥) → close v x < n
close_below v x n h k other = by_side (close_is v x)
  where
    by_side : Closed v x (close v x) → close v x < n
    by_side (inl above) = omega arith
    by_side (inr below) = omega arith

close_apart : (v x y : ℕ) → (x ≡ v → ⊥) → (y ≡ v → ⊥) → close v x ≡ close v y → x ≡ y
close_apart v x y other-x other-y e = by_sides (close_is v x) (close_is v y)
  where
    by_sides : Closed v x (close v x) → Closed v y (close v y) → x ≡ y
    by_sides (inl h) (inl k) = omega arith
    by_sides (inl h) (inr k) = omega arith
    by_sides (inr h) (inl k) = omega arith
    by_sides (inr h) (inr k) = omega arith

-- The values of f at the numbers below m are all different and below n, so m is at most n.
pub pigeonhole :
    (m n : ℕ) (f : ℕ → ℕ) → ((i : ℕ) → i < m → f i < n) → ((e l : ℕ) → e < l → l < m → f e ≡ f l → ⊥) → m ≤ n
pigeonhole zero n f below apart = omega arith
pigeonhole (suc m) zero f below apart = absurd (omega (arith, below m (omega arith)))
pigeonhole (suc m) (suc n) f below apart =
    omega (
      arith,
      pigeonhole m n (λ i. close (f m) (f i))
          (λ i h. close_below (f m) (f i) n (below m (omega arith)) (below i (omega arith)) (not_last i h))
          (λ e l h k same. apart e l h (omega arith) (close_apart (f m) (f e) (f l) (not_last e (omega arith)) (not_last l k) same)),
    )
  where
    not_last : (i : ℕ) → i < m → f i ≡ f m → ⊥
    not_last i h = apart i m h (omega arith)
