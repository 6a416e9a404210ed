-- Linear facts of ℤ: both sides of an equation or an inequality as naturals, which `omega` reads. A goal goes through
-- `le_by ρ (search reify depth 40) (omega (arith, ..))`, a hypothesis h through `of_le ρ h (search reify depth 40)`; of <ℤ
-- through `lt_by` and `of_lt`.
-- Assumes nothing.
use Prim.Native.Nat.{ℕ, ◌+◌, ◌*◌, ◌≤◌, ◌<◌}
use mathlib.Core.Path.{◌≡◌, refl, sym, subst}
use mathlib.Core.Logic.{◌↔◌, ◌⊎◌, inl, inr}
use mathlib.Core.Bool.{Bool, true, false, not}
use mathlib.Core.List.{List, [], ◌∷◌}
use native.Mathlib.Omega.{arith}
use native.Mathlib.Nat.{mul-le-mul_left}
use native.Mathlib.Decide.{dec_lt}
use lib.IntN.{ℤ, pos, neg_ℤ, ◌+ℤ◌, ◌*ℤ◌}
use lib.Dec.{T}
use lib.Signed.{lt_z, ◌≤ℤ◌, ◌<ℤ◌, lt_z_no, clash_ℤ}
use Rattle.integers.proofs.Integers.{Difference, above, below, own_parts, same_integer, same_difference, parts_add, parts_mul, parts_neg, le_by_parts, parts_of_le}
use Rattle.integers.proofs.Polynomials.{Expr, var, con, ◌⊕◌, ◌⊗◌, neg, value_at, meaning}
use Rattle.integers.proofs.Ring.{Read, read, expr, Sides, sides, reify}

-- an expression is what is added (true) less what is taken away (false)
abbrev pub part : Bool → List ℤ → Expr → ℕ
part true ρ (var i) = above (value_at ρ i)
part false ρ (var i) = below (value_at ρ i)
part true ρ (con c) = above c
part false ρ (con c) = below c
part true ρ (a ⊕ b) = part true ρ a + part true ρ b
part false ρ (a ⊕ b) = part false ρ a + part false ρ b
part true ρ (a ⊗ b) = part true ρ a * part true ρ b + part false ρ a * part false ρ b
part false ρ (a ⊗ b) = part true ρ a * part false ρ b + part false ρ a * part true ρ b
part true ρ (neg a) = part false ρ a
part false ρ (neg a) = part true ρ a

parts : (ρ : List ℤ) (e : Expr) → Difference (meaning ρ e) (part true ρ e) (part false ρ e)
parts ρ (var i) = own_parts (value_at ρ i)
parts ρ (con c) = own_parts c
parts ρ (a ⊕ b) = parts_add (parts ρ a) (parts ρ b)
parts ρ (a ⊗ b) = parts_mul (parts ρ a) (parts ρ b)
parts ρ (neg a) = parts_neg (parts ρ a)

parts_of_read : {ρ : List ℤ} {x : ℤ} (r : Read ρ x) → Difference x (part true ρ (expr r)) (part false ρ (expr r))
parts_of_read {ρ} (read e p) = rw p at (parts ρ e)

-- x ≤ y exactly if `lesser` ≤ `greater`, and x = y exactly if they are equal
abbrev pub lesser : {ρ : List ℤ} {x y : ℤ} → Sides ρ x y → ℕ
lesser {ρ} (sides a b) = part true ρ (expr a) + part false ρ (expr b)

abbrev pub greater : {ρ : List ℤ} {x y : ℤ} → Sides ρ x y → ℕ
greater {ρ} (sides a b) = part true ρ (expr b) + part false ρ (expr a)

-- the test of <
pub less_iff : (x y : ℤ) → (lt_z x y ≡ true) ↔ (x <ℤ y)
less_iff x y = (λ e. record { lt = subst T (sym e) tt }, λ h. by_test (lt_z x y) refl h.lt)
  where
    by_test : (t : Bool) → lt_z x y ≡ t → T (lt_z x y) → lt_z x y ≡ true
    by_test true e h = e
    by_test false e h = absurd (subst T e h)

not_less_means : (x y : ℤ) → lt_z x y ≡ false → y ≤ℤ x
not_less_means x y e = lt_z_no (subst (λ t. T (not t)) (sym e) tt)

module _ {x y : ℤ} (ρ : List ℤ) where
  -- a goal in naturals
  pub le_by : (s : Sides ρ x y) → lesser s ≤ greater s → x ≤ℤ y
  le_by (sides a b) h = le_by_parts (parts_of_read a) (parts_of_read b) h

  pub eq_by : (s : Sides ρ x y) → lesser s ≡ greater s → x ≡ y
  eq_by (sides a b) h = same_integer (parts_of_read a) (parts_of_read b) h

  -- a hypothesis in naturals
  pub of_le : x ≤ℤ y → (s : Sides ρ x y) → lesser s ≤ greater s
  of_le h (sides a b) = parts_of_le h (parts_of_read a) (parts_of_read b)

  pub of_eq : x ≡ y → (s : Sides ρ x y) → lesser s ≡ greater s
  of_eq h (sides a b) = same_difference h (parts_of_read a) (parts_of_read b)

  -- the same of <: it fails exactly where y ≤ x
  pub lt_by : (s : Sides ρ x y) → lesser s < greater s → x <ℤ y
  lt_by (sides a b) h = by_test (lt_z x y) refl
    where
      by_test : (t : Bool) → lt_z x y ≡ t → x <ℤ y
      by_test true e = (less_iff x y).0 e
      by_test false e = absurd (omega (arith, parts_of_le (not_less_means x y e) (parts_of_read b) (parts_of_read a)))

  pub of_lt : x <ℤ y → (s : Sides ρ x y) → lesser s < greater s
  of_lt h (sides a b) = by_test (dec_lt _ _)
    where
      by_test :
          Dec (part true ρ (expr a) + part false ρ (expr b) < part true ρ (expr b) + part false ρ (expr a))
          → part true ρ (expr a) + part false ρ (expr b) < part true ρ (expr b) + part false ρ (expr a)
      by_test (yes k) = k
      by_test (no k) = clash_ℤ h (le_by_parts (parts_of_read b) (parts_of_read a) (omega arith))

-- ≤ is a linear order
pub le_transitive : (x y z : ℤ) → x ≤ℤ y → y ≤ℤ z → x ≤ℤ z
le_transitive x y z h k =
    let ρ : List ℤ = x ∷ y ∷ z ∷ [] in
    le_by ρ (search reify depth 40) (omega (arith, of_le ρ h (search reify depth 40), of_le ρ k (search reify depth 40)))

pub le_antisymmetric : (x y : ℤ) → x ≤ℤ y → y ≤ℤ x → x ≡ y
le_antisymmetric x y h k =
    let ρ : List ℤ = x ∷ y ∷ [] in
    eq_by ρ (search reify depth 40) (omega (arith, of_le ρ h (search reify depth 40), of_le ρ k (search reify depth 40)))

pub le_total : (x y : ℤ) → (x ≤ℤ y) ⊎ (y ≤ℤ x)
le_total x y = by_test (dec_lt (above y + below x) (above x + below y))
  where
    by_test : Dec (above y + below x < above x + below y) → (x ≤ℤ y) ⊎ (y ≤ℤ x)
    by_test (yes h) = inr (le_by_parts (own_parts y) (own_parts x) (omega arith))
    by_test (no h) = inl (le_by_parts (own_parts x) (own_parts y) (omega arith))

-- of two numbers one is less, or they are the same
pub data Compared (x y : ℤ) : Type 0 where
  less : x <ℤ y → Compared x y
  same : x ≡ y → Compared x y
  more : y <ℤ x → Compared x y

pub compared : (x y : ℤ) → Compared x y
compared x y = by_tests (lt_z x y) refl (lt_z y x) refl
  where
    by_tests : (s : Bool) → lt_z x y ≡ s → (t : Bool) → lt_z y x ≡ t → Compared x y
    by_tests true e t d = less ((less_iff x y).0 e)
    by_tests false e true d = more ((less_iff y x).0 d)
    by_tests false e false d = same (le_antisymmetric x y (not_less_means y x d) (not_less_means x y e))

-- < goes on, fails of the same number, and stays where both are moved
pub lt_transitive : (x y z : ℤ) → x <ℤ y → y <ℤ z → x <ℤ z
lt_transitive x y z h k =
    let ρ : List ℤ = x ∷ y ∷ z ∷ [] in
    lt_by ρ (search reify depth 40) (omega (arith, of_lt ρ h (search reify depth 40), of_lt ρ k (search reify depth 40)))

pub lt_not_same : (x y : ℤ) → x ≡ y → x <ℤ y → ⊥
lt_not_same x y e h =
    let ρ : List ℤ = x ∷ y ∷ [] in
    omega (arith, of_lt ρ h (search reify depth 40), of_eq ρ e (search reify depth 40))

pub lt_of_moved : (x y z : ℤ) → x <ℤ y → (z +ℤ x) <ℤ (z +ℤ y)
lt_of_moved x y z h =
    let ρ : List ℤ = x ∷ y ∷ z ∷ [] in lt_by ρ (search reify depth 40) (omega (arith, of_lt ρ h (search reify depth 40)))

-- sums, negatives, and a factor that is not negative
pub le_of_sums : (x y z w : ℤ) → x ≤ℤ y → z ≤ℤ w → (x +ℤ z) ≤ℤ (y +ℤ w)
le_of_sums x y z w h k =
    let ρ : List ℤ = x ∷ y ∷ z ∷ w ∷ [] in
    le_by ρ (search reify depth 40) (omega (arith, of_le ρ h (search reify depth 40), of_le ρ k (search reify depth 40)))

pub le_of_negatives : (x y : ℤ) → x ≤ℤ y → neg_ℤ y ≤ℤ neg_ℤ x
le_of_negatives x y h =
    let ρ : List ℤ = x ∷ y ∷ [] in
    le_by ρ (search reify depth 40) (omega (arith, of_le ρ h (search reify depth 40)))

pub le_of_multiples : (n : ℕ) (x y : ℤ) → x ≤ℤ y → (pos n *ℤ x) ≤ℤ (pos n *ℤ y)
le_of_multiples n x y h =
    let ρ : List ℤ = pos n ∷ x ∷ y ∷ [] in
    le_by ρ (search reify depth 40) (omega (arith, mul-le-mul_left n (of_le ρ h (search reify depth 40))))
