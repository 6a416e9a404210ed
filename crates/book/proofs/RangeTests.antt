-- A test that code asks of the numbers of a range from 0, with `any`, is `some_below`.
-- Assumes nothing.
use Prim.Native.Nat.{ℕ, zero, suc, ◌+◌}
use native.Mathlib.Nat.{zero-add}
use native.Mathlib.Omega.{arith}
use mathlib.Core.Path.{◌≡◌, refl, sym, ◌∙◌, ap, ap₂}
use mathlib.Core.Bool.{Bool, ◌||◌}
use Rattle.std.specs.List.{list_any, range_with_len}
use Rattle.std.proofs.Math.Bool.{or_assoc, or-false}
use Rattle.scope.specs.Search.{some_below}
use Rattle.checks.proofs.Searches.{some_below_same}

-- the first number can be asked before the others
first_before : (f : ℕ → Bool) (n : ℕ) → (f 0 || some_below n (λ i. f (suc i))) ≡ some_below (suc n) f
unfolding some_below
first_before f zero = or-false (f 0)
first_before f (suc n) =
    sym (or_assoc (f 0) (some_below n (λ i. f (suc i))) (f (suc n))) ∙ ap (λ b. b || f (suc n)) (first_before f n)

any_from : (f : ℕ → Bool) (a n : ℕ) → list_any f (range_with_len a n) ≡ some_below n (λ i. f (a + i))
unfolding some_below
any_from f a zero = refl
any_from f a (suc n) =
    ap₂ ◌||◌ (ap f (omega arith)) (any_from f (a + 1) n ∙ some_below_same n _ _ (λ i h. ap f (omega arith)))
    ∙ first_before (λ i. f (a + i)) n

pub any_below : (f : ℕ → Bool) (n : ℕ) → list_any f (range_with_len 0 n) ≡ some_below n f
any_below f n = any_from f 0 n ∙ some_below_same n _ _ (λ i h. ap f (zero-add i))
