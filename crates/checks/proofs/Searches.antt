-- Laws of the searches and lists of Search.antt: what they give, where they give nothing, and that they see only their range.
-- Assumes nothing.
use Prim.Native.Nat.{ℕ, zero, suc, ◌+◌, ◌≤◌, ◌<◌}
use native.Mathlib.Nat.{add-zero, add-suc, suc-add}
use native.Mathlib.Omega.{arith}
use native.Mathlib.Decide.{ℕ_discrete}
use mathlib.Core.Path.{◌≡◌, refl, sym, ◌∙◌, ap, ap₂}
use mathlib.Core.Logic.Iff
use mathlib.Core.Logic.{◌↔◌, ◌⊎◌, inl, inr}
use mathlib.Core.Bool.{Bool, true, false, ◌||◌, not-eq-not}
pub use mathlib.Core.Bool.{true≢false as true-not-false}
use mathlib.Core.Option.{Option, none, some, map}
use mathlib.Core.List.Memᴰ
use mathlib.Core.List.{List, [], ◌∷◌, ◌++◌, Memᴰ}
use lib.ListN.{length, get_or}
use Rattle.scope.specs.Search.{first, gather, whenever, every, some_below}
pub use Rattle.scope.proofs.Chains.{whenever_none, none_whenever, some_whenever}

-- two constructors are never equal, and `some` is injective
pub none_not_some : {A : Type 0} {x : A} → ◌≡◌ {A = Option A} none (some x) → ⊥
none_not_some e = let z : ◌≡◌ {A = ℕ} 0 1 = cc in omega arith

pub some_injective : {A : Type 0} {x y : A} → ◌≡◌ {A = Option A} (some x) (some y) → x ≡ y
some_injective e = cc

-- a test fails exactly where it does not hold
pub fails_iff : (b : Bool) → (b ≡ false) ↔ (b ≡ true → ⊥)
fails_iff b = Iff.symm (not-eq-not {b = false})

pub not_true_is_false : (b : Bool) → (b ≡ true → ⊥) → b ≡ false
not_true_is_false b = (fails_iff b).1

not_false_is_true : (b : Bool) → (b ≡ false → ⊥) → b ≡ true
not_false_is_true b = (not-eq-not {b = true}).0

-- where a search from k over n numbers stops: at its first number that gives something, which is x
pub record Found {A : Type 0} (k n : ℕ) (f : ℕ → Option A) (x : A) : Type 0 where
  pub where_is : ℕ
  pub from : k ≤ where_is
  pub below : where_is < k + n
  pub here : f where_is ≡ some x
  pub before : (i : ℕ) → k ≤ i → i < where_is → f i ≡ none

-- a search from k: what k gives, or what the numbers after it give
module _ {A : Type 0} (f : ℕ → Option A) (k n : ℕ) where
  pub first_here : (x : A) → f k ≡ some x → first k (suc n) f ≡ some x
  unfolding first
  first_here x e = rw (e, first)

  pub first_beyond : f k ≡ none → first k (suc n) f ≡ first (suc k) n f
  unfolding first
  first_beyond e = rw (e, first)

module _ {A : Type 0} where
  -- what a search gives stands first
  pub first_found : (k n : ℕ) (f : ℕ → Option A) (x : A) → first k n f ≡ some x → Found k n f x
  unfolding first
  first_found k zero f x e = absurd (none_not_some e)
  first_found k (suc n) f x e = by_start (f k) refl (first_found (suc k) n f x)
    where
      later : f k ≡ none → Found (suc k) n f x → Found k (suc n) f x
      later h t =
          record {
            where_is = t.where_is;
            from = omega (arith, t.from);
            below = omega (arith, t.below);
            here = t.here;
            before = λ i p q. at_number i p q (ℕ_discrete i k);
          }
        where
          at_number : (i : ℕ) → k ≤ i → i < t.where_is → Dec (i ≡ k) → f i ≡ none
          at_number i p q (yes d) = ap f d ∙ h
          at_number i p q (no d) = t.before i (omega arith) q

      by_start : (o : Option A) → f k ≡ o → (first (suc k) n f ≡ some x → Found (suc k) n f x) → Found k (suc n) f x
      by_start none h r = later h (r (rw (h, first) at e))
      by_start (some y) h r =
          record {
            where_is = k;
            from = omega arith;
            below = omega arith;
            here = h ∙ (rw (h, first) at e);
            before = λ i p q. absurd (omega arith);
          }

  pub found_first : (k n : ℕ) (f : ℕ → Option A) (x : A) → Found k n f x → first k n f ≡ some x
  unfolding first
  found_first k zero f x t = absurd (omega (arith, t.from, t.below))
  found_first k (suc n) f x t = by_place (ℕ_discrete t.where_is k) (found_first (suc k) n f x)
    where
      by_place : Dec (t.where_is ≡ k) → (Found (suc k) n f x → first (suc k) n f ≡ some x) → first k (suc n) f ≡ some x
      by_place (yes d) r = let h : f k ≡ some x = ap f (sym d) ∙ t.here in rw (h, first)
      by_place (no d) r =
          let h : f k ≡ none = t.before k (omega arith) (omega (arith, t.from)) in
          rw (h, first) (r (record {
            where_is = t.where_is;
            from = omega (arith, t.from);
            below = omega (arith, t.below);
            here = t.here;
            before = λ i p q. t.before i (omega arith) q;
          }))

  pub found_from_0 :
      (n : ℕ) (f : ℕ → Option A) (i : ℕ) (x : A) → i < n → ((j : ℕ) → j < i → f j ≡ none) → f i ≡ some x → first 0 n f ≡ some x
  found_from_0 n f i x h b e =
      found_first 0 n f x (record { where_is = i; from = omega arith; below = omega arith; here = e; before = λ j p q. b j q })

  -- a search gives nothing exactly where each of its numbers gives nothing
  pub first_none : (k n : ℕ) (f : ℕ → Option A) → first k n f ≡ none → (i : ℕ) → k ≤ i → i < k + n → f i ≡ none
  unfolding first
  first_none k zero f e i p q = absurd (omega arith)
  first_none k (suc n) f e i p q = by_start (f k) refl (ℕ_discrete i k) (first_none (suc k) n f)
    where
      by_start : (o : Option A) → f k ≡ o → Dec (i ≡ k)
          → (first (suc k) n f ≡ none → (i : ℕ) → suc k ≤ i → i < suc k + n → f i ≡ none) → f i ≡ none
      by_start none h (yes d) r = ap f d ∙ h
      by_start none h (no d) r = r (rw (h, first) at e) i (omega arith) (omega arith)
      by_start (some y) h d r = absurd (none_not_some (sym (rw (h, first) at e)))

  pub none_first : (k n : ℕ) (f : ℕ → Option A) → ((i : ℕ) → k ≤ i → i < k + n → f i ≡ none) → first k n f ≡ none
  unfolding first
  none_first k zero f b = refl
  none_first k (suc n) f b =
      let h : f k ≡ none = b k (omega arith) (omega arith) in
      rw (h, first) (none_first (suc k) n f (λ i p q. b i (omega arith) (omega arith)))

  -- a search sees only the numbers of its range
  pub first_same : (k n : ℕ) (f g : ℕ → Option A) → ((i : ℕ) → k ≤ i → i < k + n → f i ≡ g i) → first k n f ≡ first k n g
  unfolding first
  first_same k zero f g b = refl
  first_same k (suc n) f g b =
      ap₂ {C = Option A} (λ o rest. elim o [ none ↦ rest | some x ↦ some x ]) (b k (omega arith) (omega arith))
      (first_same (suc k) n f g (λ i p q. b i (omega arith) (omega arith)))

  -- what is found, taken over by g
  pub first_mapped :
      {B : Type 0} (g : A → B) (k n : ℕ) (f : ℕ → Option A) → first k n (λ i. map g (f i)) ≡ map g (first k n f)
  unfolding first
  first_mapped g k zero f = refl
  first_mapped g k (suc n) f = by_start (f k) refl (first_mapped g (suc k) n f)
    where
      by_start : (o : Option A) → f k ≡ o → first (suc k) n (λ i. map g (f i)) ≡ map g (first (suc k) n f)
          → first k (suc n) (λ i. map g (f i)) ≡ map g (first k (suc n) f)
      by_start none h r = first_beyond (λ i. map g (f i)) k n (ap (map g) h) ∙ r ∙ sym (ap (map g) (first_beyond f k n h))
      by_start (some x) h r =
          first_here (λ i. map g (f i)) k n (g x) (ap (map g) h) ∙ sym (ap (map g) (first_here f k n x h))

  -- a gathered list by length and by entry
  pub length_gather : (k n : ℕ) (f : ℕ → A) → length (gather k n f) ≡ n
  unfolding gather
  length_gather k zero f = refl
  length_gather k (suc n) f = ap suc (length_gather (suc k) n f)

  pub get_d_gather : (k n : ℕ) (f : ℕ → A) (i : ℕ) (x : A) → i < n → get_or (gather k n f) i x ≡ f (k + i)
  unfolding gather
  get_d_gather k zero f i x h = absurd (omega arith)
  get_d_gather k (suc n) f zero x h = ap f (sym (add-zero k))
  get_d_gather k (suc n) f (suc i) x h = get_d_gather (suc k) n f i x (omega arith) ∙ ap f (suc-add k i ∙ sym (add-suc k i))

  -- one number more of the range is one entry more at the end
  pub gather_one_more : (k n : ℕ) (f : ℕ → A) → gather k (suc n) f ≡ gather k n f ++ (f (k + n) ∷ [])
  unfolding gather
  gather_one_more k zero f = ap {B = List A} (λ i. f i ∷ []) (sym (add-zero k))
  gather_one_more k (suc n) f =
      ap {B = List A} (λ xs. f k ∷ xs) (gather_one_more (suc k) n f)
      ∙ ap {B = List A} (λ i. f k ∷ (gather (suc k) n f ++ (f i ∷ []))) (suc-add k n ∙ sym (add-suc k n))

  -- it sees only the numbers of its range
  pub gather_same : (k n : ℕ) (f g : ℕ → A) → ((i : ℕ) → k ≤ i → i < k + n → f i ≡ g i) → gather k n f ≡ gather k n g
  unfolding gather
  gather_same k zero f g b = refl
  gather_same k (suc n) f g b =
      ap₂ {C = List A} ◌∷◌ (b k (omega arith) (omega arith)) (gather_same (suc k) n f g (λ i p q. b i (omega arith) (omega arith)))

-- where f takes the value x, from k over n numbers
pub record At {A : Type 0} (k n : ℕ) (f : ℕ → A) (x : A) : Type 0 where
  pub index : ℕ
  pub from : k ≤ index
  pub below : index < k + n
  pub is : f index ≡ x

module _ {A : Type 0} where
  -- the entries of a gathered list are the values over its range, and the other way round
  pub mem_gather : (k n : ℕ) (f : ℕ → A) (x : A) → Memᴰ x (gather k n f) → At k n f x
  unfolding gather
  mem_gather k zero f x m = absurd (Memᴰ.not-nil m)
  mem_gather k (suc n) f x m = by_place (Memᴰ.cases_cons m) (mem_gather (suc k) n f x)
    where
      by_place :
          (x ≡ f k) ⊎ Memᴰ x (gather (suc k) n f) → (Memᴰ x (gather (suc k) n f) → At (suc k) n f x)
          → At k (suc n) f x
      by_place (inl e) r = record { index = k; from = omega arith; below = omega arith; is = sym e }
      by_place (inr t) r =
          let a = r t in
          record { index = a.index; from = omega (arith, a.from); below = omega (arith, a.below); is = a.is }

  pub gather_mem : (k n : ℕ) (f : ℕ → A) (i : ℕ) → k ≤ i → i < k + n → Memᴰ (f i) (gather k n f)
  unfolding gather
  gather_mem k zero f i p q = absurd (omega arith)
  gather_mem k (suc n) f i p q = by_place (ℕ_discrete i k) (gather_mem (suc k) n f i)
    where
      by_place :
          Dec (i ≡ k) → (suc k ≤ i → i < suc k + n → Memᴰ (f i) (gather (suc k) n f))
          → Memᴰ (f i) (f k ∷ gather (suc k) n f)
      by_place (yes d) r = Memᴰ.head (ap f d)
      by_place (no d) r = Memᴰ.tail (r (omega arith) (omega arith))

  -- `whenever` gives its entry only where the test holds
  pub whenever_some : (b : Bool) (x y : A) → whenever b x ≡ some y → (b ≡ true) × (x ≡ y)
  unfolding whenever
  whenever_some true x y e = (refl, some_injective e)
  whenever_some false x y e = absurd (none_not_some e)

  -- where it does not give nothing, it gives its entry
  pub whenever_not_none : (b : Bool) (x : A) → (whenever b x ≡ none → ⊥) → whenever b x ≡ some x
  unfolding whenever
  whenever_not_none true x h = refl
  whenever_not_none false x h = absurd (h refl)

  -- `every` holds exactly where the test holds of each entry, and fails exactly where it fails of one
  pub every_holds : (f : A → Bool) (xs : List A) → every f xs ≡ true → (x : A) → Memᴰ x xs → f x ≡ true
  unfolding every
  every_holds f [] e x m = absurd (Memᴰ.not-nil m)
  every_holds f (y ∷ xs) e x m = by_test (f y) refl (Memᴰ.cases_cons m) (every_holds f xs)
    where
      by_test : (b : Bool) → f y ≡ b → (x ≡ y) ⊎ Memᴰ x xs
          → (every f xs ≡ true → (x : A) → Memᴰ x xs → f x ≡ true) → f x ≡ true
      by_test true h (inl d) r = ap f d ∙ h
      by_test true h (inr t) r = r (rw (h, every) at e) x t
      by_test false h m r = absurd (true-not-false (sym (rw (h, every) at e)))

  pub every_fails : (f : A → Bool) (xs : List A) → every f xs ≡ false → (x : A) × Memᴰ x xs × (f x ≡ false)
  unfolding every
  every_fails f [] e = absurd (true-not-false e)
  every_fails f (y ∷ xs) e = by_test (f y) refl (every_fails f xs)
    where
      by_test : (b : Bool) → f y ≡ b → (every f xs ≡ false → (x : A) × Memᴰ x xs × (f x ≡ false))
          → (x : A) × Memᴰ x (y ∷ xs) × (f x ≡ false)
      by_test true h r = let t = r (rw (h, every) at e) in (t.0, Memᴰ.tail t.1, t.2)
      by_test false h r = (y, Memᴰ.head refl, h)

  pub holds_every : (f : A → Bool) (xs : List A) → ((x : A) → Memᴰ x xs → f x ≡ true) → every f xs ≡ true
  holds_every f xs h =
      not_false_is_true (every f xs) (λ e. let t = every_fails f xs e in true-not-false (sym (h t.0 t.1) ∙ t.2))

  pub fails_every : (f : A → Bool) (xs : List A) (x : A) → Memᴰ x xs → f x ≡ false → every f xs ≡ false
  fails_every f xs x m h = not_true_is_false (every f xs) (λ e. true-not-false (sym (every_holds f xs e x m) ∙ h))

-- `some_below` holds exactly where the test holds of a number below n, and sees only these
pub some_below_found : (n : ℕ) (f : ℕ → Bool) → some_below n f ≡ true → (i : ℕ) × (i < n) × (f i ≡ true)
unfolding some_below
some_below_found zero f e = absurd (true-not-false (sym e))
some_below_found (suc n) f e = by_test (some_below n f) refl (some_below_found n f)
  where
    by_test :
        (b : Bool) → some_below n f ≡ b → (some_below n f ≡ true → (i : ℕ) × (i < n) × (f i ≡ true))
        → (i : ℕ) × (i < suc n) × (f i ≡ true)
    by_test true h r = let t = r h in (t.0, omega (arith, t.1), t.2)
    by_test false h r = (n, omega arith, ap (λ (b : Bool). b || f n) (sym h) ∙ e)

pub found_some_below : (n : ℕ) (f : ℕ → Bool) (i : ℕ) → i < n → f i ≡ true → some_below n f ≡ true
unfolding some_below
found_some_below zero f i p h = absurd (omega arith)
found_some_below (suc n) f i p h = by_test (some_below n f) refl (ℕ_discrete i n) (found_some_below n f i)
  where
    by_test :
        (b : Bool) → some_below n f ≡ b → Dec (i ≡ n) → (i < n → f i ≡ true → some_below n f ≡ true)
        → (some_below n f || f n) ≡ true
    by_test true e d r = ap (λ (b : Bool). b || f n) e
    by_test false e (yes d) r = ap (λ (b : Bool). b || f n) e ∙ ap f (sym d) ∙ h
    by_test false e (no d) r = absurd (true-not-false (sym (r (omega arith) h) ∙ e))

pub some_below_iff :
    (n : ℕ) (f : ℕ → Bool) (P : ℕ → Type 0) → ((i : ℕ) → (f i ≡ true) ↔ P i)
    → (some_below n f ≡ true) ↔ ((i : ℕ) × (i < n) × P i)
some_below_iff n f P h = (
  λ e. let (i, less, found) = some_below_found n f e in (i, less, (h i).0 found),
  λ (i, less, p). found_some_below n f i less ((h i).1 p),
)

pub some_below_none : (n : ℕ) (f : ℕ → Bool) → some_below n f ≡ false → (i : ℕ) → i < n → f i ≡ false
some_below_none n f e i p = not_true_is_false (f i) (λ h. true-not-false (sym (found_some_below n f i p h) ∙ e))

pub none_some_below : (n : ℕ) (f : ℕ → Bool) → ((i : ℕ) → i < n → f i ≡ false) → some_below n f ≡ false
none_some_below n f b =
    not_true_is_false (some_below n f) (λ h. let t = some_below_found n f h in true-not-false (sym t.2 ∙ b t.0 t.1))

pub some_below_same : (n : ℕ) (f g : ℕ → Bool) → ((i : ℕ) → i < n → f i ≡ g i) → some_below n f ≡ some_below n g
unfolding some_below
some_below_same zero f g b = refl
some_below_same (suc n) f g b = ap₂ ◌||◌ (some_below_same n f g (λ i p. b i (omega arith))) (b n (omega arith))
