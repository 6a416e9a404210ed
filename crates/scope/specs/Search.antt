-- Searches and lists that the definitions are made of. Nothing here is of document 01.
-- Assumes nothing.
use Rattle.std.specs.Prelude.{ℕ, zero, suc, Bool, true, false, ◌||◌, List, [], ◌∷◌}
use Rattle.std.proofs.Math.Option.{Option, none, some}

-- the first of f k, f (k + 1), .., n of them, that gives something
unfoldable pub first : {A : Type 0} → ℕ → ℕ → (ℕ → Option A) → Option A
first k zero f = none
first k (suc n) f = elim (f k) [ none ↦ first (suc k) n f | some x ↦ some x ]

-- the list of f k, f (k + 1), .., n of them; what a `let` binds is worked out only when it is asked for
unfoldable pub gather : {A : Type 0} → ℕ → ℕ → (ℕ → A) → List A
gather k zero f = []
gather {A} k (suc n) f = let x : A = f k in let xs : List A = gather (suc k) n f in x ∷ xs

-- those of the numbers k, k + 1, .., n of them, of which the test holds
unfoldable pub picked : ℕ → ℕ → (ℕ → Bool) → List ℕ
picked k zero f = []
picked k (suc n) f = elim (f k) [ true ↦ k ∷ picked (suc k) n f | false ↦ picked (suc k) n f ]

-- x if the test holds
unfoldable pub whenever : {A : Type 0} → Bool → A → Option A
whenever true x = some x
whenever false x = none

-- the first entry that gives something
unfoldable pub first_of : {A : Type 0} → List (Option A) → Option A
first_of [] = none
first_of (none ∷ xs) = first_of xs
first_of (some x ∷ xs) = some x

-- the test holds of every entry
unfoldable pub every : {A : Type 0} → (A → Bool) → List A → Bool
every f [] = true
every f (x ∷ xs) = elim (f x) [ true ↦ every f xs | false ↦ false ]

-- the test holds of some number below n
unfoldable pub some_below : ℕ → (ℕ → Bool) → Bool
some_below zero f = false
some_below (suc n) f = some_below n f || f n

-- A list of calls, each on the state as the one before left it: the state at the end, and what they reply in order
unfoldable pub state_after : {S C : Type 0} → (S → C → S) → S → List C → S
state_after after s [] = s
state_after after s (c ∷ cs) = state_after after (after s c) cs

unfoldable pub replies_of : {S C R : Type 0} → (S → C → S) → (S → C → R) → S → List C → List R
replies_of after reply s [] = []
replies_of after reply s (c ∷ cs) = reply s c ∷ replies_of after reply (after s c) cs
