-- Laws of lists: membership, entries by index, and `flat_map`. Those that the library has are passed on under the names used here.
-- Assumes nothing.
use Prim.Native.Nat.{ℕ, zero, suc, ◌*◌, ◌<◌}
use native.Mathlib.Nat.{zero-mul}
use native.Mathlib.Omega.{arith}
use mathlib.Core.Path.{◌≡◌, refl, sym, ◌∙◌, ap}
use mathlib.Core.Logic.{◌⊎◌, inl, inr}
use mathlib.Core.List.Memᴰ
use mathlib.Core.List.{List, [], ◌∷◌, ◌++◌, map, flat_map, Memᴰ}
use lib.ListN
use lib.ListN.{length, get_or, length-append, length-map}
-- membership in a mapped list
pub use mathlib.Core.List.Memᴰ.{map as map-mem}
pub use mathlib.Core.List.Memᴰ.{of_map as mem-map}
pub use mathlib.Core.List.{append_assoc, append-nil}
-- entries of two lists together, of a part, and after a change
pub use lib.Seq.{get_or-append-add as get_or-append_right, get_or-take, get_or-drop, get_or-set_same, get_or-set_other}
-- parts of two lists together, of a part, and after a change
pub use lib.Seq.{drop-append_seam as drop-append, drop-drop, drop-set-lt as drop-set}

module _ {A : Type 0} where
  -- what stands at an index of a list is an entry of it, and each entry stands at an index
  pub mem_get_d : (xs : List A) (i : ℕ) (d : A) → i < length xs → Memᴰ (get_or xs i d) xs
  mem_get_d [] i d h = absurd (omega arith)
  mem_get_d (x ∷ xs) zero d h = Memᴰ.head refl
  mem_get_d (x ∷ xs) (suc i) d h = Memᴰ.tail (mem_get_d xs i d (omega arith))

  pub get_d_mem : {v : A} (xs : List A) (d : A) → Memᴰ v xs → (i : ℕ) × (i < length xs) × (get_or xs i d ≡ v)
  get_d_mem [] d m = absurd (Memᴰ.not-nil m)
  get_d_mem {v} (x ∷ xs) d m = by_place (Memᴰ.cases_cons m) (get_d_mem xs d)
    where
      by_place : (v ≡ x) ⊎ Memᴰ v xs → (Memᴰ v xs → (i : ℕ) × (i < length xs) × (get_or xs i d ≡ v))
          → (i : ℕ) × (i < suc (length xs)) × (get_or (x ∷ xs) i d ≡ v)
      by_place (inl e) r = (0, omega arith, sym e)
      by_place (inr t) r = let k = r t in (suc k.0, omega (arith, k.1), k.2)

  -- inside a list the value given for the outside does not tell
  get_d_other : (xs : List A) (i : ℕ) (d e : A) → i < length xs → get_or xs i d ≡ get_or xs i e
  get_d_other [] i d e h = absurd (omega arith)
  get_d_other (x ∷ xs) zero d e h = refl
  get_d_other (x ∷ xs) (suc i) d e h = get_d_other xs i d e (omega arith)

-- an entry of a mapped list is the image of the entry
pub get_d_map :
    {A B : Type 0} (f : A → B) (xs : List A) (i : ℕ) (d : A) (e : B) → i < length xs → get_or (map f xs) i e ≡ f (get_or xs i d)
get_d_map f xs i d e h = get_d_other (map f xs) i e (f d) (omega (arith, length-map xs f)) ∙ ListN.get_or-map f xs i d

module _ {A B : Type 0} (f : A → List B) where
  -- the entries of a joined list are the entries of its parts
  pub mem_flat_map : {y : B} (xs : List A) → Memᴰ y (flat_map f xs) → (x : A) × Memᴰ x xs × Memᴰ y (f x)
  unfolding flat_map
  mem_flat_map [] m = absurd (Memᴰ.not-nil m)
  mem_flat_map {y} (x ∷ xs) m = by_place (Memᴰ.append_cases (f x) m) (mem_flat_map xs)
    where
      by_place :
          Memᴰ y (f x) ⊎ Memᴰ y (flat_map f xs)
          → (Memᴰ y (flat_map f xs) → (z : A) × Memᴰ z xs × Memᴰ y (f z))
          → (z : A) × Memᴰ z (x ∷ xs) × Memᴰ y (f z)
      by_place (inl t) r = (x, Memᴰ.head refl, t)
      by_place (inr t) r = let k = r t in (k.0, Memᴰ.tail k.1, k.2)

  pub flat_map_mem : {y : B} (xs : List A) (x : A) → Memᴰ x xs → Memᴰ y (f x) → Memᴰ y (flat_map f xs)
  unfolding flat_map
  flat_map_mem [] x m h = absurd (Memᴰ.not-nil m)
  flat_map_mem {y} (z ∷ xs) x m h = by_place (Memᴰ.cases_cons m) (flat_map_mem xs x)
    where
      by_place : (x ≡ z) ⊎ Memᴰ x xs → (Memᴰ x xs → Memᴰ y (f x) → Memᴰ y (flat_map f xs))
          → Memᴰ y (f z ++ flat_map f xs)
      by_place (inl e) r = Memᴰ.append_left (flat_map f xs) (rw e at h)
      by_place (inr t) r = Memᴰ.append_right (f z) (r t h)

  -- the length of a joined list whose parts have one length m
  pub length_flat_map : (m : ℕ) → ((x : A) → length (f x) ≡ m) → (xs : List A) → length (flat_map f xs) ≡ length xs * m
  unfolding flat_map
  length_flat_map m h [] = sym (zero-mul m)
  length_flat_map m h (x ∷ xs) = length-append (f x) (flat_map f xs) ∙ omega (arith, h x, length_flat_map m h xs)

  -- two lists are joined part by part
  pub flat_map_append : (xs ys : List A) → flat_map f (xs ++ ys) ≡ flat_map f xs ++ flat_map f ys
  unfolding flat_map
  flat_map_append [] ys = refl
  flat_map_append (x ∷ xs) ys =
      ap (λ (zs : List B). f x ++ zs) (flat_map_append xs ys) ∙ sym (append_assoc (f x) (flat_map f xs) (flat_map f ys))
