-- The numbers of a range that pass a test: which they are, that they ascend, that no ascending list of such numbers is longer or
-- anywhere before them, and how many they are.
-- Assumes nothing.
use Prim.Native.Nat.{ℕ, zero, suc, ◌+◌, ◌-◌, ◌≤◌, ◌<◌}
use native.Mathlib.Omega.{arith}
use native.Mathlib.Nat.{add-zero, zero-add}
use native.Mathlib.Decide.{dec_lt, ℕ_discrete}
use mathlib.Core.Path.{◌≡◌, refl, sym, ◌∙◌, ap, ap₂}
use mathlib.Core.Logic.{◌⊎◌, inl, inr}
use mathlib.Core.Bool.{Bool, true, false}
use mathlib.Core.Option.{Option, none, some}
use mathlib.Core.List.Memᴰ
use mathlib.Core.List.{List, [], ◌∷◌, ◌++◌, Memᴰ}
use lib.ListN.{length, get_or, take, length-append}
use lib.Seq.{length-take-le, get_or-take}
use Rattle.scope.specs.Search.{first, picked, whenever}
use Rattle.scope.specs.promises.CyclePromises.{Ascending, NotAfter}
use Rattle.checks.proofs.Searches.{true-not-false, first_here, first_beyond, none_whenever, some_whenever}
use Rattle.checks.proofs.Lists.{mem_get_d, get_d_mem}

-- a number of the range that passes
pub record Passes (k n : ℕ) (f : ℕ → Bool) (i : ℕ) : Type 0 where
  pub from : k ≤ i
  pub below : i < k + n
  pub passes : f i ≡ true

-- a range that begins sooner holds it too
passes_sooner : {k n : ℕ} {f : ℕ → Bool} {i : ℕ} → Passes (suc k) n f i → Passes k (suc n) f i
passes_sooner q = record { from = omega (arith, q.from); below = omega (arith, q.below); passes = q.passes }

-- ls is no longer than es, and at no place before it
pub record Ahead (es ls : List ℕ) : Type 0 where
  pub as_long : length ls ≤ length es
  pub ahead : (i : ℕ) → i < length ls → get_or es i 0 ≤ get_or ls i 0

ahead_of_none : (es : List ℕ) → Ahead es []
ahead_of_none es = record { as_long = omega arith; ahead = λ i h. absurd (omega arith) }

ahead_cons : (k l : ℕ) (es ls : List ℕ) → k ≤ l → Ahead es ls → Ahead (k ∷ es) (l ∷ ls)
ahead_cons k l es ls h a = record { as_long = omega (arith, a.as_long); ahead = at_place }
  where
    at_place : (i : ℕ) → i < suc (length ls) → get_or (k ∷ es) i 0 ≤ get_or (l ∷ ls) i 0
    at_place zero j = h
    at_place (suc i) j = a.ahead i (omega arith)

-- An ascending list by its first number and the rest.
pub ascending_rest : (l : ℕ) (ls : List ℕ) → Ascending (l ∷ ls) → Ascending ls
ascending_rest l ls up i j h k = up (suc i) (suc j) (omega arith) (omega arith)

pub ascending_above : (l : ℕ) (ls : List ℕ) → Ascending (l ∷ ls) → (i : ℕ) → Memᴰ i ls → l < i
ascending_above l ls up i m =
    let (j, below, is) = get_d_mem ls 0 m in
    rw is at (up 0 (suc j) (omega arith) (omega arith))

pub ascending_cons : (k : ℕ) (es : List ℕ) → ((i : ℕ) → Memᴰ i es → k < i) → Ascending es → Ascending (k ∷ es)
ascending_cons k es above up zero zero h j = absurd (omega arith)
ascending_cons k es above up zero (suc l) h j = above (get_or es l 0) (mem_get_d es l 0 (omega arith))
ascending_cons k es above up (suc i) zero h j = absurd (omega arith)
ascending_cons k es above up (suc i) (suc l) h j = up i l (omega arith) (omega arith)

pub ascending_none : Ascending []
ascending_none i l h k = absurd (omega arith)

module _ (f : ℕ → Bool) where
  -- the first number of the range passes, or does not
  pub picked_here : (k n : ℕ) → f k ≡ true → picked k (suc n) f ≡ k ∷ picked (suc k) n f
  unfolding picked
  picked_here k n e = rw (e, picked)

  pub picked_beyond : (k n : ℕ) → f k ≡ false → picked k (suc n) f ≡ picked (suc k) n f
  unfolding picked
  picked_beyond k n e = rw (e, picked)

  pub mem_picked : (k n i : ℕ) → Memᴰ i (picked k n f) → Passes k n f i
  unfolding picked
  mem_picked k zero i m = absurd (Memᴰ.not-nil m)
  mem_picked k (suc n) i m = by_test (f k) refl (mem_picked (suc k) n i)
    where
      by_test : (b : Bool) → f k ≡ b → (Memᴰ i (picked (suc k) n f) → Passes (suc k) n f i) → Passes k (suc n) f i
      by_test false e r = passes_sooner (r (rw (picked_beyond k n e) at m))
      by_test true e r = by_place (Memᴰ.cases_cons (rw (picked_here k n e) at m))
        where
          by_place : (i ≡ k) ⊎ Memᴰ i (picked (suc k) n f) → Passes k (suc n) f i
          by_place (inl h) = record { from = omega arith; below = omega arith; passes = ap f h ∙ e }
          by_place (inr h) = passes_sooner (r h)

  -- An ascending list of numbers that pass is no longer than the picked ones, and at no place before them.
  abbrev FirstFrom : ℕ → ℕ → Type 0
  FirstFrom k n = (ls : List ℕ) → Ascending ls → ((i : ℕ) → Memᴰ i ls → Passes k n f i) → Ahead (picked k n f) ls

  none_first : (k : ℕ) → FirstFrom k 0
  none_first k [] up all = ahead_of_none _
  none_first k (l ∷ ls) up all =
      let q : Passes k 0 f l = all l (Memᴰ.head refl) in absurd (omega (arith, q.from, q.below))

  skipped_first : (k n : ℕ) → f k ≡ false → FirstFrom (suc k) n → FirstFrom k (suc n)
  skipped_first k n e r ls up all = rw (picked_beyond k n e) (r ls up λ i m. not_here i (all i m) (ℕ_discrete i k))
    where
      not_here : (i : ℕ) → Passes k (suc n) f i → Dec (i ≡ k) → Passes (suc k) n f i
      not_here i q (yes h) = absurd (true-not-false (sym q.passes ∙ ap f h ∙ e))
      not_here i q (no h) = record { from = omega (arith, q.from); below = omega (arith, q.below); passes = q.passes }

  taken_first : (k n : ℕ) → f k ≡ true → FirstFrom (suc k) n → FirstFrom k (suc n)
  taken_first k n e r [] up all = ahead_of_none _
  taken_first k n e r (l ∷ ls) up all =
      rw (picked_here k n e)
      (ahead_cons k l (picked (suc k) n f) ls (all l (Memᴰ.head refl)).from
      (r ls (ascending_rest l ls up) λ i m. after i m (all i (Memᴰ.tail m))))
    where
      after : (i : ℕ) → Memᴰ i ls → Passes k (suc n) f i → Passes (suc k) n f i
      after i m q =
          record {
            from = omega (arith, ascending_above l ls up i m, (all l (Memᴰ.head refl)).from);
            below = omega (arith, q.below);
            passes = q.passes;
          }

  pub picked_first : (n k : ℕ) → FirstFrom k n
  picked_first zero k = none_first k
  picked_first (suc n) k = by_test (f k) refl (picked_first n (suc k))
    where
      by_test : (b : Bool) → f k ≡ b → FirstFrom (suc k) n → FirstFrom k (suc n)
      by_test false e r = skipped_first k n e r
      by_test true e r = taken_first k n e r

  -- The picked ones ascend.
  pub picked_ascend : (n k : ℕ) → Ascending (picked k n f)
  unfolding picked
  picked_ascend zero k = ascending_none
  picked_ascend (suc n) k = by_test (f k) refl (picked_ascend n (suc k))
    where
      by_test : (b : Bool) → f k ≡ b → Ascending (picked (suc k) n f) → Ascending (picked k (suc n) f)
      by_test false e r = rw (picked_beyond k n e) r
      by_test true e r = rw (picked_here k n e) (ascending_cons k (picked (suc k) n f) (λ i m. omega (arith, (mem_picked (suc k) n i m).from)) r)

  -- After the first picked one come those of the range behind it.
  pub record FirstPicked (k n l : ℕ) (ls : List ℕ) : Type 0 where
    pub here : Passes k n f l
    pub rest : ls ≡ picked (suc l) (k + n - suc l) f

  pub first_picked : (n k l : ℕ) (ls : List ℕ) → picked k n f ≡ l ∷ ls → FirstPicked k n l ls
  unfolding picked
  first_picked zero k l ls e = absurd (omega (arith, ap length e))
  first_picked (suc n) k l ls e = by_test (f k) refl (first_picked n (suc k) l ls)
    where
      later : FirstPicked (suc k) n l ls → FirstPicked k (suc n) l ls
      later q =
          let same : suc k + n ≡ k + suc n = omega arith in
          record { here = passes_sooner q.here; rest = q.rest ∙ ap (λ (m : ℕ). picked (suc l) (m - suc l) f) same }

      by_test : (b : Bool) → f k ≡ b → (picked (suc k) n f ≡ l ∷ ls → FirstPicked (suc k) n l ls) → FirstPicked k (suc n) l ls
      by_test false h r = later (r (sym (picked_beyond k n h) ∙ e))
      by_test true h r =
          let same : k ∷ picked (suc k) n f ≡ l ∷ ls = sym (picked_here k n h) ∙ e in
          let first : k ≡ l = cc same in
          let behind : n ≡ k + suc n - suc k = omega arith in
          record {
            here = record { from = omega arith; below = omega arith; passes = ap f (sym first) ∙ h };
            rest = sym (cc same) ∙ ap₂ (λ (i j : ℕ). picked i j f) (ap suc first) (behind ∙ ap (λ (i : ℕ). k + suc n - suc i) first);
          }

  -- One range after the other, and how many are in both.
  pub picked_append : (m k n : ℕ) → picked k (m + n) f ≡ picked k m f ++ picked (k + m) n f
  unfolding picked
  picked_append zero k n = ap₂ (λ (i j : ℕ). picked i j f) (sym (add-zero k)) (zero-add n)
  picked_append (suc m) k n = by_test (f k) refl (picked_append m (suc k) n)
    where
      more : suc m + n ≡ suc (m + n)
      more = omega arith

      moved : suc k + m ≡ k + suc m
      moved = omega arith

      by_test :
          (b : Bool) → f k ≡ b → picked (suc k) (m + n) f ≡ picked (suc k) m f ++ picked (suc k + m) n f
          → picked k (suc m + n) f ≡ picked k (suc m) f ++ picked (k + suc m) n f
      by_test false e r = rw (more, picked_beyond k (m + n) e, picked_beyond k m e, ← moved) r
      by_test true e r = rw (more, picked_here k (m + n) e, picked_here k m e, ← moved) (ap (λ (es : List ℕ). k ∷ es) r)

  count_splits : (m n : ℕ) → length (picked 0 (m + n) f) ≡ length (picked 0 m f) + length (picked m n f)
  count_splits m n =
      ap length (picked_append m 0 n) ∙ length-append (picked 0 m f) (picked (0 + m) n f)
      ∙ ap (λ (k : ℕ). length (picked 0 m f) + length (picked k n f)) (zero-add m)

  -- They are no more than the range has numbers.
  pub picked_at_most : (n k : ℕ) → length (picked k n f) ≤ n
  unfolding picked
  picked_at_most zero k = omega arith
  picked_at_most (suc n) k = by_test (f k) refl (picked_at_most n (suc k))
    where
      by_test : (b : Bool) → f k ≡ b → length (picked (suc k) n f) ≤ n → length (picked k (suc n) f) ≤ suc n
      by_test false e r = rw (picked_beyond k n e) (omega arith)
      by_test true e r = rw (picked_here k n e) (omega arith)

  -- A number that passes counts in each longer range.
  pub picked_more : (e l : ℕ) → e < l → f e ≡ true → length (picked 0 e f) < length (picked 0 l f)
  picked_more e l h pass =
      let parts : l ≡ e + suc (l - suc e) = omega arith in
      omega (
        arith,
        ap (λ (n : ℕ). length (picked 0 n f)) parts ∙ count_splits e (suc (l - suc e)),
        ap length (picked_here e (l - suc e) pass),
      )

  -- One number more: it counts if it passes.
  one_more_splits : (n : ℕ) → length (picked 0 (suc n) f) ≡ length (picked 0 n f) + length (picked n 1 f)
  one_more_splits n = let more : suc n ≡ n + 1 = omega arith in ap (λ (m : ℕ). length (picked 0 m f)) more ∙ count_splits n 1

  pub picked_one_more : (n : ℕ) → f n ≡ true → length (picked 0 (suc n) f) ≡ suc (length (picked 0 n f))
  unfolding picked
  picked_one_more n e = omega (arith, one_more_splits n, ap length (picked_here n 0 e))

  pub picked_no_more : (n : ℕ) → f n ≡ false → length (picked 0 (suc n) f) ≡ length (picked 0 n f)
  unfolding picked
  picked_no_more n e = omega (arith, one_more_splits n, ap length (picked_beyond n 0 e))

  -- The last of them comes after all others.
  abbrev pub LastPicked : ℕ → Type 0
  LastPicked n = (l : ℕ) × (l < n) × (f l ≡ true) × (length (picked 0 n f) ≡ suc (length (picked 0 l f)))

  pub last_picked : (n : ℕ) → (length (picked 0 n f) ≡ 0) ⊎ LastPicked n
  unfolding picked
  last_picked zero = inl refl
  last_picked (suc n) = by_test (f n) refl (last_picked n)
    where
      by_test : (b : Bool) → f n ≡ b → (length (picked 0 n f) ≡ 0) ⊎ LastPicked n → (length (picked 0 (suc n) f) ≡ 0) ⊎ LastPicked (suc n)
      by_test true e r = inr (n, omega arith, e, picked_one_more n e)
      by_test false e (inl no_one) = inl (picked_no_more n e ∙ no_one)
      by_test false e (inr (l, below, pass, size)) = inr (l, omega arith, pass, picked_no_more n e ∙ size)

  -- A search for the first number that passes gives the first picked one.
  pub first_is_picked :
      {A : Type 0} (g : ℕ → A) (n k : ℕ)
      → first k n (λ l. whenever (f l) (g l)) ≡ elim (picked k n f) [ [] ↦ none | l ∷ ls ↦ some (g l) ]
  unfolding first picked
  first_is_picked g zero k = refl
  first_is_picked {A} g (suc n) k = by_test (f k) refl (first_is_picked g n (suc k))
    where
      searched : ℕ → Option A
      searched l = whenever (f l) (g l)

      head : List ℕ → Option A
      head es = elim es [ [] ↦ none | l ∷ ls ↦ some (g l) ]

      by_test : (b : Bool) → f k ≡ b → first (suc k) n searched ≡ head (picked (suc k) n f) → first k (suc n) searched ≡ head (picked k (suc n) f)
      by_test true e r = first_here searched k n (g k) (some_whenever (f k) (g k) e) ∙ sym (ap head (picked_here k n e))
      by_test false e r = first_beyond searched k n (none_whenever (f k) (g k) e) ∙ r ∙ sym (ap head (picked_beyond k n e))

-- Two tests that agree in the range pick the same numbers.
pub picked_same : (f g : ℕ → Bool) (n k : ℕ) → ((i : ℕ) → k ≤ i → i < k + n → f i ≡ g i) → picked k n f ≡ picked k n g
unfolding picked
picked_same f g zero k same = refl
picked_same f g (suc n) k same =
    ap₂ {C = List ℕ} (λ b rest. elim b [ true ↦ k ∷ rest | false ↦ rest ]) (same k (omega arith) (omega arith))
    (picked_same f g n (suc k) (λ i p q. same i (omega arith) (omega arith)))

-- What is nowhere behind ls comes first, also when only as many are taken as ls has.
pub ahead_not_after : (r : ℕ) (es ls : List ℕ) → length ls ≡ r → Ahead es ls → NotAfter (take r es) ls
ahead_not_after zero es ls size a = tt
ahead_not_after (suc r) [] ls size a = tt
ahead_not_after (suc r) (e ∷ es) [] size a = absurd (omega arith)
ahead_not_after (suc r) (e ∷ es) (l ∷ ls) size a = by_order (dec_lt e l) (ahead_not_after r es ls (omega arith) rest)
  where
    rest : Ahead es ls
    rest = record { as_long = omega (arith, a.as_long); ahead = λ i h. a.ahead (suc i) (omega arith) }

    by_order : Dec (e < l) → NotAfter (take r es) ls → (e < l) ⊎ ((e ≡ l) × NotAfter (take r es) ls)
    by_order (yes h) n = inl h
    by_order (no h) n = inr (omega (arith, a.ahead 0 (omega arith)), n)

-- The first entries of a list are entries of it, and ascend with it.
pub take_mem : (r : ℕ) (es : List ℕ) (i : ℕ) → Memᴰ i (take r es) → Memᴰ i es
take_mem zero es i m = absurd (Memᴰ.not-nil m)
take_mem (suc r) [] i m = m
take_mem (suc r) (e ∷ es) i m = by_place (Memᴰ.cases_cons m) (take_mem r es i)
  where
    by_place : (i ≡ e) ⊎ Memᴰ i (take r es) → (Memᴰ i (take r es) → Memᴰ i es) → Memᴰ i (e ∷ es)
    by_place (inl h) k = Memᴰ.head h
    by_place (inr h) k = Memᴰ.tail (k h)

pub take_ascend : (r : ℕ) (es : List ℕ) → r ≤ length es → Ascending es → Ascending (take r es)
take_ascend r es within up i l h k =
    let size : length (take r es) ≡ r = length-take-le r es within in
    rw (get_or-take r es i 0 (omega arith), get_or-take r es l 0 (omega arith)) (up i l h (omega arith))
