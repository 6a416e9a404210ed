-- The sum of a bank is the total of its words, and it stays far below 2^64.
-- Assumes nothing.
use Rattle.std.proofs.Common.{◌≡◌, ℕ, zero, suc, ◌+◌, ◌*◌, ◌<◌, ◌≤◌, List, [], ◌∷◌, length, get_or, take, drop, refl, ap, ◌∙◌, arith, length-drop, length-take-le}
use mathlib.Core.List.{foldr}
use Rattle.scope.specs.Banks.{depth_of, bank_words, bank_sum}
use Rattle.scope.specs.promises.PicturePromises.{total_below}
use Rattle.scope.specs.declared.Plan.{Plan}
use Rattle.checks.proofs.Lists.{get_or-take, get_or-drop}
use Rattle.pictures.proofs.Memory.{bank_end}

-- a total sees only the numbers below n, and may be taken from the front
pub total_same : (n : ℕ) (f g : ℕ → ℕ) → ((i : ℕ) → i < n → f i ≡ g i) → total_below n f ≡ total_below n g
unfolding total_below
total_same zero f g h = refl
total_same (suc n) f g h = omega (arith, total_same n f g (λ i l. h i (omega arith)), h n (omega arith))

total_from_front : (n : ℕ) (f : ℕ → ℕ) → total_below (suc n) f ≡ f 0 + total_below n (λ i. f (suc i))
unfolding total_below
total_from_front zero f = omega arith
total_from_front (suc n) f = omega (arith, total_from_front n f)

-- a list's sum is the total of its entries
sum_is_total : (xs : List ℕ) → foldr ◌+◌ 0 xs ≡ total_below (length xs) (λ i. get_or xs i 0)
unfolding total_below
sum_is_total [] = refl
sum_is_total (x ∷ xs) = omega (arith, sum_is_total xs, total_from_front (length xs) (λ i. get_or (x ∷ xs) i 0))

-- The sum of bank k is the total of its depth words, from k × depth on.
pub bank_sum_is_total :
    (p : Plan) (W H : ℕ) (mem : List ℕ) (k : ℕ) → bank_end p W H k ≤ length mem
    → bank_sum p W H mem k ≡ total_below (depth_of p W H) (λ i. get_or mem (k * depth_of p W H + i) 0)
unfolding bank_sum bank_words
bank_sum_is_total p W H mem k fits =
    sum_is_total words
    ∙ ap (λ (n : ℕ). total_below n (λ i. get_or words i 0)) length_words
    ∙ total_same D _ _ (λ i l. get_or-take D (drop (k * D) mem) i 0 l ∙ get_or-drop (k * D) mem i 0)
  where
    D : ℕ
    D = depth_of p W H

    words : List ℕ
    words = take D (drop (k * D) mem)

    length_words : length words ≡ D
    length_words = length-take-le D (drop (k * D) mem) (omega (arith, length-drop (k * D) mem))

-- A total of n numbers below m is at most n × m.
pub total_below_lem : (n m : ℕ) (f : ℕ → ℕ) → ((i : ℕ) → f i < m) → total_below n f ≤ n * m
unfolding total_below
total_below_lem zero m f h = omega arith
total_below_lem (suc n) m f h = omega (arith, total_below_lem n m f h, h n)
