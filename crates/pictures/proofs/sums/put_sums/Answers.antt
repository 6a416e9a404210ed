-- `pictures::sums::put_sums` meets its contract. The loop's invariant: the sums of the first k banks are put.
-- Assumes nothing.
use Rattle.std.proofs.Common.{◌≡◌, ℕ, suc, ◌+◌, ◌-◌, ◌*◌, ◌<◌, ◌≤◌, List, [], ◌∷◌, ◌++◌, length, take, drop, set, sym, refl, ap, ◌∙◌, zero-add, arith, length-take}
use native.Mathlib.Nat.{min-le_left}
use mathlib.Core.List.{foldr}
use Rattle.scope.specs.Search.{gather}
use Rattle.checks.proofs.Outputs.{Put, one_more_put}
use Rattle.checks.proofs.Searches.{length_gather, gather_one_more}
use Rattle.scope.specs.Banks.{over_start}
use Rattle.pictures.specs.Places.{sums_over}
use Rattle.pictures.proofs.sums.put_sums.Invariants.{sum_at}
use Rattle.pictures.proofs.sums.put_sums.Goals as goal

-- nothing is put at first
nothing_yet : (sums : List ℕ) → Put [] sums sums
unfolding over_start
nothing_yet sums = record { same_length = refl; is = refl }

-- the part that is lent on is that of bank k
module _ (deep : ℕ) (mem : List ℕ) (k : ℕ) where
  size : (k + 1) * deep - k * deep ≡ deep
  size = omega arith

  part-at-most : deep ≤ 16777216 → length (take ((k + 1) * deep - k * deep) (drop (k * deep) mem)) ≤ 16777216
  part-at-most h = rw (size, length-take deep (drop (k * deep) mem)) (omega (arith, min-le_left deep (length (drop (k * deep) mem))))

  -- one more sum is put
  one_more :
      {sums₀ sums : List ℕ} {r : ℕ} → Put (gather 0 k (sum_at deep mem)) sums₀ sums → k < length sums
      → r ≡ foldr ◌+◌ 0 (take ((k + 1) * deep - k * deep) (drop (k * deep) mem))
      → Put (gather 0 (k + 1) (sum_at deep mem)) sums₀ (set sums k r)
  one_more {sums₀} {sums} {r} put there sum_is_lem =
      let next : k + 1 ≡ suc k = omega arith in
      let more : gather 0 (k + 1) (sum_at deep mem) ≡ gather 0 k (sum_at deep mem) ++ (sum_at deep mem k ∷ []) =
      ap (λ (n : ℕ). gather 0 n (sum_at deep mem)) next
      ∙ gather_one_more 0 k (sum_at deep mem)
      ∙ ap (λ (n : ℕ). gather 0 k (sum_at deep mem) ++ (sum_at deep mem n ∷ [])) (zero-add k) in
      let own : r ≡ sum_at deep mem k = sum_is_lem ∙ ap (λ (n : ℕ). foldr ◌+◌ 0 (take n (drop (k * deep) mem))) size in
      rw (more, own)
      (one_more_put put k (sum_at deep mem k) (sym (length_gather 0 k (sum_at deep mem))) (omega (arith, put.same_length)))

  -- and at the end all are
  all-put :
      {n : ℕ} {sums₀ sums : List ℕ} → Put (gather 0 k (sum_at deep mem)) sums₀ sums → k ≡ n → sums ≡ sums_over n deep mem sums₀
  unfolding sums_over
  all-put {sums₀} put e = put.is ∙ ap (λ (m : ℕ). over_start (gather 0 m (sum_at deep mem)) sums₀) e

pub loop-k-init : goal.loop-k-init
unfolding gather
loop-k-init c = nothing_yet _

pub loop-k-preserved : goal.loop-k-preserved
loop-k-preserved c =
    one_more _ _ _ c.loop-k.invariant (omega arith) c.sum_words.ensures

pub sum_words-requires : goal.sum_words-requires
sum_words-requires c = part-at-most _ _ c.loop-k.k c.requires.3

pub returns : goal.returns
returns c = all-put _ _ _ c.loop-k.invariant (omega arith)
