-- The ring solver in use. An identity is `ring (x ∷ y ∷ []) (search reify depth 40 fits 9000) refl`, the list naming the
-- numbers that are not taken apart. From equations h, k in hand, `linear ((c · h) ∷ (e · k) ∷ []) (ring ..)` proves x ≡ y
-- where x - y is c times the difference of h's sides plus e times that of k's.
-- Assumes nothing.
use Prim.Native.Nat.{ℕ, suc, ◌+◌, ◌*◌, compare, Ordering}
use mathlib.Core.Path.{◌≡◌, refl, sym, ◌∙◌}
use mathlib.Core.List.{List, [], ◌∷◌}
use lib.IntN.{ℤ, pos, negsuc, neg_ℤ, ◌+ℤ◌, ◌*ℤ◌, ◌-ℤ◌, +ℤ_invr, *ℤ-zero}
use Rattle.integers.proofs.Polynomials.{Expr, var, con, ◌⊕◌, ◌⊗◌, neg, value_at, meaning, none_left, normal, no_difference, solve}

-- A number with an expression for it, which `search reify` finds. (They are data: `search` would make up a record.)
pub data Named (ρ : List ℤ) (z : ℤ) : Type 0 where
  named : (i : ℕ) → value_at ρ i ≡ z → Named ρ z

pub data Read (ρ : List ℤ) (z : ℤ) : Type 0 where
  read : (e : Expr) → meaning ρ e ≡ z → Read ρ z

-- the expression of a number that was read
abbrev pub expr : {ρ : List ℤ} {z : ℤ} → Read ρ z → Expr
expr (read e p) = e

expr_means : {ρ : List ℤ} {z : ℤ} (r : Read ρ z) → meaning ρ (expr r) ≡ z
expr_means (read e p) = p

-- the rules: a place of the list, a number at a place, a sum, a product, a negative
abbrev pub named_here : {ρ : List ℤ} {x : ℤ} → Named (x ∷ ρ) x
named_here = named 0 refl

abbrev pub named_later : {ρ : List ℤ} {x y : ℤ} → Named ρ x → Named (y ∷ ρ) x
named_later (named i p) = named (suc i) p

abbrev pub read_name : {ρ : List ℤ} {x : ℤ} → Named ρ x → Read ρ x
read_name (named i p) = read (var i) p

abbrev pub read_sum_lem : {ρ : List ℤ} {x y : ℤ} → Read ρ x → Read ρ y → Read ρ (x +ℤ y)
read_sum_lem (read e p) (read f q) = read (e ⊕ f) (λ i. p i +ℤ q i)

abbrev pub read_product : {ρ : List ℤ} {x y : ℤ} → Read ρ x → Read ρ y → Read ρ (x *ℤ y)
read_product (read e p) (read f q) = read (e ⊗ f) (λ i. p i *ℤ q i)

abbrev pub read_neg : {ρ : List ℤ} {x : ℤ} → Read ρ x → Read ρ (neg_ℤ x)
read_neg (read e p) = read (neg e) (λ i. neg_ℤ (p i))

-- a sum and a product of naturals under `pos`
abbrev pub read_pos_sum : {ρ : List ℤ} {m n : ℕ} → Read ρ (pos m) → Read ρ (pos n) → Read ρ (pos (m + n))
read_pos_sum (read e p) (read f q) = read (e ⊕ f) (λ i. p i +ℤ q i)

abbrev pub read_pos_product : {ρ : List ℤ} {m n : ℕ} → Read ρ (pos m) → Read ρ (pos n) → Read ρ (pos (m * n))
read_pos_product (read e p) (read f q) = read (e ⊗ f) (λ i. p i *ℤ q i)

-- a numeral and nothing else: at a variable the premise does not compute, and the search passes on
pub data Settled : Type 0 where
  settled : Settled

abbrev pub Numeral : Ordering → Type 0
Numeral Ordering.lt = Settled
Numeral Ordering.eq = Settled
Numeral Ordering.gt = Settled

abbrev pub read_numeral : {ρ : List ℤ} (n : ℕ) → Numeral (compare n 0) → Read ρ (pos n)
read_numeral n l = read (con (pos n)) refl

abbrev pub read_negative : {ρ : List ℤ} (n : ℕ) → Numeral (compare n 0) → Read ρ (negsuc n)
read_negative n l = read (con (negsuc n)) refl

-- both sides of an equation or an inequality, and what their difference is
pub data Sides (ρ : List ℤ) (x y : ℤ) : Type 0 where
  sides : Read ρ x → Read ρ y → Sides ρ x y

abbrev pub gap : {ρ : List ℤ} {x y : ℤ} → Sides ρ x y → Expr
gap (sides a b) = expr a ⊕ neg (expr b)

pub ruleset reify = (
  sides,
  read_sum_lem,
  read_product,
  read_neg,
  read_name,
  named_here,
  named_later,
  read_pos_sum,
  read_pos_product,
  read_numeral,
  read_negative,
  settled,
)

-- an equation whose sides have no difference in normal form
pub ring : {x y : ℤ} (ρ : List ℤ) (s : Sides ρ x y) → normal (gap s) ≡ none_left → x ≡ y
ring ρ (sides a b) e = sym (expr_means a) ∙ solve ρ (expr a) (expr b) e ∙ expr_means b

-- an equation in hand with its factor
infix 5 ◌·◌
pub data Fact : Type 0 where
  fact : (c u v : ℤ) → u ≡ v → Fact

abbrev pub ◌·◌ : {u v : ℤ} → ℤ → u ≡ v → Fact
◌·◌ {u} {v} c h = fact c u v h

-- the sum of the differences, each times its factor, which is 0
abbrev pub combined : List Fact → ℤ
combined [] = pos 0
combined (fact c u v h ∷ facts) = c *ℤ (u -ℤ v) +ℤ combined facts

combined_is_zero : (facts : List Fact) → combined facts ≡ pos 0
combined_is_zero [] = refl
combined_is_zero (fact c u v h ∷ facts) = rw (h, +ℤ_invr v, *ℤ-zero c, combined_is_zero facts)

-- an equation whose difference is such a sum
pub linear : {x y : ℤ} (facts : List Fact) → x -ℤ y ≡ combined facts → x ≡ y
linear facts e = no_difference (e ∙ combined_is_zero facts)
