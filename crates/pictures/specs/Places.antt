-- What the calls on a picture's words share: their first tests, where a word or a bank stands in the memory, and the sums of banks.
-- Assumes nothing.
use Rattle.scope.specs.declared.Refusal.{Refusal}
use Rattle.std.specs.Prelude.{ℕ, ◌+◌, ◌*◌, List, take, drop, Result, Ok, Err}
use mathlib.Core.List.{foldr}
use Rattle.scope.specs.Search.{gather}
use Rattle.scope.specs.Plans.{Pixel}
use Rattle.scope.specs.Banks.{depth_of, word_of, over_start}
use Rattle.scope.specs.Calls.{Size, answered, picture_test, lent_test, word_test, whole_bank_test}
use Rattle.scope.specs.declared.Plan.{Plan}

-- the depth of a picture that the memory holds, or 11, 12, 13
unfoldable pub picture_depth : Plan → ℕ → ℕ → ℕ → Result ℕ Refusal
unfolding answered picture_test depth_of
picture_depth p W H words = answered (picture_test p W H words) Err (Ok (depth_of p W H))

-- the same where the sums are lent too, or 11, 12, 13
unfoldable pub lent_depth : Plan → ℕ → ℕ → Size → Result ℕ Refusal
unfolding answered lent_test depth_of
lent_depth p W H s = answered (lent_test p W H s) Err (Ok (depth_of p W H))

-- the place of a pixel's word in the memory, or 11, 12, 13, 14
unfoldable pub word_place : Plan → ℕ → ℕ → ℕ → Pixel → Result ℕ Refusal
unfolding answered word_test word_of
word_place p W H words v = answered (word_test p W H words v) Err (Ok (word_of p W H v))

-- how many words bank k has, or 11, 12, 13, 15
unfoldable pub bank_depth : Plan → ℕ → ℕ → ℕ → ℕ → Result ℕ Refusal
unfolding answered whole_bank_test depth_of
bank_depth p W H words k = answered (whole_bank_test p W H words k) Err (Ok (depth_of p W H))

-- the sums of n stretches of `deep` words each, over the start of these sums
unfoldable pub sums_over : ℕ → ℕ → List ℕ → List ℕ → List ℕ
unfolding over_start gather
sums_over n deep mem sums = over_start (gather 0 n (λ k. foldr ◌+◌ 0 (take deep (drop (k * deep) mem)))) sums
