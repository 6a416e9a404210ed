-- Identities of commutative rings over ℤ by computation: an expression is brought to a sorted list of monomials, and two
-- expressions are equal where their difference comes to nothing.
-- Assumes nothing.
use Prim.Native.Nat.{ℕ, zero, suc, compare, Ordering}
use mathlib.Core.Path.{◌≡◌, refl, sym, ap, ◌∙◌}
use mathlib.Core.Bool.{Bool, true, false}
use mathlib.Core.List.{List, [], ◌∷◌}
use native.Mathlib.Omega.{arith}
use lib.Dec.{T, compare_is_eq, leb, eqb→eq}
use lib.IntN.{ℤ, pos, negsuc, neg_ℤ, ◌+ℤ◌, ◌*ℤ◌, ◌-ℤ◌, +ℤ_assoc, +ℤ_idl, +ℤ_idr, zero-*ℤ, *ℤ-zero, neg_ℤ-+ℤ, -ℤ-+ℤ_cancel}
use Rattle.integers.proofs.Integers.{own_parts, same_integer, parts_add, parts_mul, product_assoc, product_of_sum, sum_times, sum_swap, product_swap, neg_times, one_times, times_one}

infixl 6 ◌⊕◌
infixl 7 ◌⊗◌
-- expressions; a variable is its place in a list of values
pub data Expr : Type 0 where
  var : ℕ → Expr
  con : ℤ → Expr
  ◌⊕◌ ◌⊗◌ : Expr → Expr → Expr
  neg : Expr → Expr

abbrev pub value_at : List ℤ → ℕ → ℤ
value_at [] i = pos 0
value_at (x ∷ xs) zero = x
value_at (x ∷ xs) (suc i) = value_at xs i

abbrev pub meaning : List ℤ → Expr → ℤ
meaning ρ (var i) = value_at ρ i
meaning ρ (con c) = c
meaning ρ (a ⊕ b) = meaning ρ a +ℤ meaning ρ b
meaning ρ (a ⊗ b) = meaning ρ a *ℤ meaning ρ b
meaning ρ (neg a) = neg_ℤ (meaning ρ a)

-- a sum of monomials, each a factor and a sorted list of variables
pub data Poly : Type 0 where
  none_left : Poly
  mono : ℤ → List ℕ → Poly → Poly

abbrev insert : ℕ → List ℕ → List ℕ
insert i [] = i ∷ []
insert i (j ∷ m) = elim (leb i j) [ true ↦ i ∷ j ∷ m | false ↦ j ∷ insert i m ]

abbrev merge : List ℕ → List ℕ → List ℕ
merge [] n = n
merge (i ∷ m) n = insert i (merge m n)

abbrev order : List ℕ → List ℕ → Ordering
order [] [] = Ordering.eq
order [] (j ∷ n) = Ordering.lt
order (i ∷ m) [] = Ordering.gt
order (i ∷ m) (j ∷ n) =
    elim (compare i j) [ Ordering.lt ↦ Ordering.gt | Ordering.eq ↦ order m n | Ordering.gt ↦ Ordering.lt ]

-- a monomial in front, unless its factor is 0
abbrev front : ℤ → List ℕ → Poly → Poly
front (pos zero) m p = p
front (pos (suc n)) m p = mono (pos (suc n)) m p
front (negsuc n) m p = mono (negsuc n) m p

-- a monomial put at its place; `rest` adds what follows it
abbrev put : ℤ → List ℕ → (Poly → Poly) → Poly → Poly
put c m rest none_left = mono c m (rest none_left)
put c m rest (mono d n q) =
    elim (order m n) [
      | Ordering.lt ↦ mono d n (put c m rest q)
      | Ordering.eq ↦ front (c +ℤ d) n (rest q)
      | Ordering.gt ↦ mono c m (rest (mono d n q))
    ]

abbrev add : Poly → Poly → Poly
add none_left q = q
add (mono c m p) q = put c m (λ r. add p r) q

abbrev scale : ℤ → List ℕ → Poly → Poly
scale c m none_left = none_left
scale c m (mono d n q) = mono (c *ℤ d) (merge m n) (scale c m q)

abbrev multiply : Poly → Poly → Poly
multiply none_left q = none_left
multiply (mono c m p) q = add (scale c m q) (multiply p q)

abbrev negate : Poly → Poly
negate none_left = none_left
negate (mono c m p) = mono (neg_ℤ c) m (negate p)

abbrev pub normal : Expr → Poly
normal (var i) = mono (pos 1) (i ∷ []) none_left
normal (con c) = front c [] none_left
normal (a ⊕ b) = add (normal a) (normal b)
normal (a ⊗ b) = multiply (normal a) (normal b)
normal (neg a) = negate (normal a)

-- what monomials and sums stand for
abbrev product : List ℤ → List ℕ → ℤ
product ρ [] = pos 1
product ρ (i ∷ m) = value_at ρ i *ℤ product ρ m

abbrev sum : List ℤ → Poly → ℤ
sum ρ none_left = pos 0
sum ρ (mono c m p) = c *ℤ product ρ m +ℤ sum ρ p

like_terms : (c d n p q : ℤ) → (c +ℤ d) *ℤ n +ℤ (p +ℤ q) ≡ c *ℤ n +ℤ p +ℤ (d *ℤ n +ℤ q)
like_terms c d n p q =
    same_integer
    (parts_add (parts_mul (parts_add (own_parts c) (own_parts d)) (own_parts n)) (parts_add (own_parts p) (own_parts q)))
    (parts_add (parts_add (parts_mul (own_parts c) (own_parts n)) (own_parts p))
    (parts_add (parts_mul (own_parts d) (own_parts n)) (own_parts q)))
    (omega arith)

factors_swap : (c d m n : ℤ) → c *ℤ d *ℤ (m *ℤ n) ≡ c *ℤ m *ℤ (d *ℤ n)
factors_swap c d m n = product_assoc c d (m *ℤ n) ∙ ap (λ z. c *ℤ z) (product_swap d m n) ∙ sym (product_assoc c m (d *ℤ n))

-- each step keeps the value
module _ (ρ : List ℤ) where
  insert_keeps : (i : ℕ) (m : List ℕ) → product ρ (insert i m) ≡ value_at ρ i *ℤ product ρ m
  insert_keeps i [] = refl
  insert_keeps i (j ∷ m) = by_test (leb i j) (insert_keeps i m)
    where
      by_test :
          (b : Bool) → product ρ (insert i m) ≡ value_at ρ i *ℤ product ρ m
          → product ρ (elim b [ true ↦ i ∷ j ∷ m | false ↦ j ∷ insert i m ]) ≡ value_at ρ i *ℤ (value_at ρ j *ℤ product ρ m)
      by_test true later = refl
      by_test false later =
          ap (λ z. value_at ρ j *ℤ z) later ∙ product_swap (value_at ρ j) (value_at ρ i) (product ρ m)

  merge_keeps : (m n : List ℕ) → product ρ (merge m n) ≡ product ρ m *ℤ product ρ n
  merge_keeps [] n = sym (one_times (product ρ n))
  merge_keeps (i ∷ m) n =
      insert_keeps i (merge m n) ∙ ap (λ z. value_at ρ i *ℤ z) (merge_keeps m n)
      ∙ sym (product_assoc (value_at ρ i) (product ρ m) (product ρ n))

  equal_order : (m n : List ℕ) → T (compare_is_eq (order m n)) → product ρ m ≡ product ρ n
  equal_order [] [] e = refl
  equal_order [] (j ∷ n) e = absurd e
  equal_order (i ∷ m) [] e = absurd e
  equal_order (i ∷ m) (j ∷ n) e = by_heads (compare i j) (eqb→eq i j) (λ t. equal_order m n t) e
    where
      by_heads :
          (o : Ordering) → (T (compare_is_eq o) → i ≡ j) → (T (compare_is_eq (order m n)) → product ρ m ≡ product ρ n)
          → T (compare_is_eq (elim o [ Ordering.lt ↦ Ordering.gt | Ordering.eq ↦ order m n | Ordering.gt ↦ Ordering.lt ]))
          → value_at ρ i *ℤ product ρ m ≡ value_at ρ j *ℤ product ρ n
      by_heads Ordering.lt heads tails t = absurd t
      by_heads Ordering.eq heads tails t =
          let h : i ≡ j = heads tt in
          let k : product ρ m ≡ product ρ n = tails t in
          rw (h, k)
      by_heads Ordering.gt heads tails t = absurd t

  front_keeps : (c : ℤ) (m : List ℕ) (p : Poly) → sum ρ (front c m p) ≡ c *ℤ product ρ m +ℤ sum ρ p
  front_keeps (pos zero) m p = sym (ap (λ z. z +ℤ sum ρ p) (zero-*ℤ (product ρ m)) ∙ +ℤ_idl (sum ρ p))
  front_keeps (pos (suc n)) m p = refl
  front_keeps (negsuc n) m p = refl

  put_keeps :
      (c : ℤ) (m : List ℕ) (rest : Poly → Poly) (p : Poly) → ((r : Poly) → sum ρ (rest r) ≡ sum ρ p +ℤ sum ρ r)
      → (q : Poly) → sum ρ (put c m rest q) ≡ c *ℤ product ρ m +ℤ sum ρ p +ℤ sum ρ q
  put_keeps c m rest p adds none_left = rw (adds none_left) (sym (+ℤ_assoc (c *ℤ product ρ m) (sum ρ p) (pos 0)))
  put_keeps c m rest p adds (mono d n q) = by_order (order m n) (equal_order m n) (put_keeps c m rest p adds q)
    where
      whole : ℤ
      whole = c *ℤ product ρ m +ℤ sum ρ p +ℤ (d *ℤ product ρ n +ℤ sum ρ q)

      by_order :
          (o : Ordering) → (T (compare_is_eq o) → product ρ m ≡ product ρ n)
          → sum ρ (put c m rest q) ≡ c *ℤ product ρ m +ℤ sum ρ p +ℤ sum ρ q
          → sum ρ (elim o [
            | Ordering.lt ↦ mono d n (put c m rest q)
            | Ordering.eq ↦ front (c +ℤ d) n (rest q)
            | Ordering.gt ↦ mono c m (rest (mono d n q))
          ])
          ≡ whole
      by_order Ordering.lt same later =
          ap (λ z. d *ℤ product ρ n +ℤ z) later ∙ sum_swap (d *ℤ product ρ n) (c *ℤ product ρ m +ℤ sum ρ p) (sum ρ q)
      by_order Ordering.eq same later =
          front_keeps (c +ℤ d) n (rest q) ∙ rw (adds q, same tt) (like_terms c d (product ρ n) (sum ρ p) (sum ρ q))
      by_order Ordering.gt same later =
          rw (adds (mono d n q)) (sym (+ℤ_assoc (c *ℤ product ρ m) (sum ρ p) (d *ℤ product ρ n +ℤ sum ρ q)))

  add_keeps : (p q : Poly) → sum ρ (add p q) ≡ sum ρ p +ℤ sum ρ q
  add_keeps none_left q = sym (+ℤ_idl (sum ρ q))
  add_keeps (mono c m p) q = put_keeps c m (λ r. add p r) p (λ r. add_keeps p r) q

  scale_keeps : (c : ℤ) (m : List ℕ) (q : Poly) → sum ρ (scale c m q) ≡ c *ℤ product ρ m *ℤ sum ρ q
  scale_keeps c m none_left = sym (*ℤ-zero (c *ℤ product ρ m))
  scale_keeps c m (mono d n q) =
      rw (merge_keeps m n, scale_keeps c m q)
      (rw (factors_swap c d (product ρ m) (product ρ n)) (sym (product_of_sum (c *ℤ product ρ m) (d *ℤ product ρ n) (sum ρ q))))

  multiply_keeps : (p q : Poly) → sum ρ (multiply p q) ≡ sum ρ p *ℤ sum ρ q
  multiply_keeps none_left q = sym (zero-*ℤ (sum ρ q))
  multiply_keeps (mono c m p) q =
      add_keeps (scale c m q) (multiply p q)
      ∙ rw (scale_keeps c m q, multiply_keeps p q) (sym (sum_times (c *ℤ product ρ m) (sum ρ p) (sum ρ q)))

  negate_keeps : (p : Poly) → sum ρ (negate p) ≡ neg_ℤ (sum ρ p)
  negate_keeps none_left = refl
  negate_keeps (mono c m p) = rw (negate_keeps p, neg_times c (product ρ m)) (sym (neg_ℤ-+ℤ (c *ℤ product ρ m) (sum ρ p)))

  normal_keeps : (e : Expr) → sum ρ (normal e) ≡ meaning ρ e
  normal_keeps (var i) =
      +ℤ_idr (pos 1 *ℤ (value_at ρ i *ℤ pos 1)) ∙ one_times (value_at ρ i *ℤ pos 1) ∙ times_one (value_at ρ i)
  normal_keeps (con c) = front_keeps c [] none_left ∙ (+ℤ_idr (c *ℤ pos 1) ∙ times_one c)
  normal_keeps (a ⊕ b) = add_keeps (normal a) (normal b) ∙ rw (normal_keeps a, normal_keeps b)
  normal_keeps (a ⊗ b) = multiply_keeps (normal a) (normal b) ∙ rw (normal_keeps a, normal_keeps b)
  normal_keeps (neg a) = negate_keeps (normal a) ∙ rw (normal_keeps a)

-- numbers without a difference are equal
pub no_difference : {x y : ℤ} → x -ℤ y ≡ pos 0 → x ≡ y
no_difference {x} {y} e = sym (-ℤ-+ℤ_cancel x y) ∙ ap (λ z. z +ℤ y) e ∙ +ℤ_idl y

-- Two expressions whose difference has the normal form 0 mean the same number. (To compare two normal forms part by part
-- would cost twice as much at each level.)
pub solve : (ρ : List ℤ) (a b : Expr) → normal (a ⊕ neg b) ≡ none_left → meaning ρ a ≡ meaning ρ b
solve ρ a b e = no_difference (sym (normal_keeps ρ (a ⊕ neg b)) ∙ ap (sum ρ) e)
