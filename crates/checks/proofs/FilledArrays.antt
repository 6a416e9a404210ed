-- A list that is filled from the front, one entry after the other.
-- Assumes nothing.
use Prim.Native.Nat.{ℕ, ◌+◌, ◌≤◌, ◌<◌}
use native.Mathlib.Nat.{zero-add}
use native.Mathlib.Decide.{ℕ_discrete}
use native.Mathlib.Omega.{arith}
use mathlib.Core.Path.{◌≡◌, refl, sym, ◌∙◌, ap}
use mathlib.Core.List.{List}
use lib.ListN.{length, get_or, set, length-set}
use lib.Seq.{ext_get_or, get_or-set_same, get_or-set_other}
use Rattle.scope.specs.Search.{gather}
use Rattle.checks.proofs.Searches.{length_gather, get_d_gather}

-- ys is xs after k steps: entry m is f m below k, and the old one from k on
pub record Filled {A : Type 0} (d : A) (f : ℕ → A) (k : ℕ) (xs ys : List A) : Type 0 where
  pub size : length ys ≡ length xs
  pub new : (m : ℕ) → m < k → m < length ys → get_or ys m d ≡ f m
  pub old : (m : ℕ) → k ≤ m → get_or ys m d ≡ get_or xs m d

-- a list by its entries
pub gathered :
    {A : Type 0} (d : A) (n : ℕ) (g : ℕ → A) (ys : List A) → length ys ≡ n →
    ((m : ℕ) → m < n → get_or ys m d ≡ g m) → ys ≡ gather 0 n g
gathered d n g ys e h =
    ext_get_or d ys (gather 0 n g) (e ∙ sym (length_gather 0 n g))
    (λ m b. h m (omega arith) ∙ sym (get_d_gather 0 n g m d (omega arith) ∙ ap g (zero-add m)))

module _ {A : Type 0} {d : A} {f : ℕ → A} where
  pub filled_none : (xs : List A) → Filled d f 0 xs xs
  filled_none xs = record { size = refl; new = λ m b h. absurd (omega arith); old = λ m b. refl }

  -- a step puts f k at k
  pub filled_more :
      {k : ℕ} {xs ys : List A} {x : A} → Filled d f k xs ys → x ≡ f k → Filled d f (k + 1) xs (set ys k x)
  filled_more {k} {ys} {x} t e =
      record {
        size = length-set ys k x ∙ t.size;
        new = λ m b h. at_place m b (omega (arith, length-set ys k x)) (ℕ_discrete m k);
        old = λ m b. get_or-set_other ys k m x d (λ i. omega arith) ∙ t.old m (omega arith);
      }
    where
      at_place : (m : ℕ) → m < k + 1 → m < length ys → Dec (m ≡ k) → get_or (set ys k x) m d ≡ f m
      at_place m b h (yes i) = rw i (get_or-set_same ys k x d (omega arith) ∙ e)
      at_place m b h (no i) = get_or-set_other ys k m x d i ∙ t.new m (omega arith) h

  -- the list after at least as many steps as it is long
  pub filled_all : {k : ℕ} {xs ys : List A} → Filled d f k xs ys → length xs ≤ k → ys ≡ gather 0 (length xs) f
  filled_all {k} {xs} {ys} t h =
      gathered d (length xs) f ys t.size (λ m b. t.new m (omega arith) (omega (arith, t.size)))
