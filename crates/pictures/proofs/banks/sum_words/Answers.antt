-- `pictures::banks::sum_words` meets its contract.
-- Assumes nothing.
use Rattle.std.proofs.Common.{◌≡◌, ℕ, ◌+◌, List, [], ◌∷◌, sum, fold, ◌∙◌, arith, rules}
use mathlib.Core.List.{foldr}
use Rattle.pictures.proofs.banks.sum_words.Goals as goal

-- a sum from the front is the sum from the end
sum-from : (a : ℕ) (xs : List ℕ) → fold (λ b x. b + x) a xs ≡ a + foldr ◌+◌ 0 xs
sum-from a [] = omega arith
sum-from a (x ∷ xs) = sum-from (a + x) xs ∙ omega arith

pub returns : goal.returns
returns c =
    let s : c.sum.result ≡ sum c.args.words.now = search rules in
    s ∙ sum-from 0 c.args.words.now ∙ omega arith
