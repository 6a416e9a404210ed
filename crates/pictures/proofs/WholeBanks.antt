-- Where a bank of a picture stands in the memory, what the depth that `bank_depth` gives tells of it, and what the part of the memory
-- that the code takes for it is.
-- Assumes nothing.
use Rattle.scope.specs.declared.Refusal.{Refusal}
use Rattle.std.specs.Prelude.{Result, Ok}
use Rattle.std.proofs.Common.{◌≡◌, ℕ, ◌+◌, ◌-◌, ◌*◌, ◌<◌, ◌≤◌, List, ◌++◌, length, take, drop, replicate, mul-le-mul, arith, length-drop, length-take-le, drop-drop}
use mathlib.Core.Option.{none}
use Rattle.scope.specs.Plans.{banks}
use Rattle.scope.specs.Banks.{depth_of, bank_words, after_clear}
use Rattle.scope.specs.Calls.{whole_bank_test}
use Rattle.scope.specs.promises.Meaning.{IsPicture}
use Rattle.scope.specs.declared.Plan.{Plan}
use Rattle.pictures.proofs.CallTests.{bank_test_iff}
use Rattle.pictures.proofs.Memory.{bank_in_picture}
use Rattle.lattice.proofs.Words.{depth_at_most}
use Rattle.pictures.specs.Places.{bank_depth}
use Rattle.pictures.proofs.PictureTests.{bank_shows}

-- Bank k has `deep` words. There are at most 1024 banks of at most 2^24 words, so its end is at most 2^34, and it is in the
-- memory.
pub record BankIn (p : Plan) (W H : ℕ) (mem : List ℕ) (k deep : ℕ) : Type 0 where
  pub depth_is : depth_of p W H ≡ deep
  pub below : k < 1024
  pub deep_at_most : deep ≤ 16777216
  pub end_at_most : (k + 1) * deep ≤ 17179869184
  pub end_in_memory : (k + 1) * deep ≤ length mem

module _ {p : Plan} {W H : ℕ} {mem : List ℕ} {k deep : ℕ} where
  pub bank_in : IsPicture p W H (length mem) → k < banks p → depth_of p W H ≡ deep → BankIn p W H mem k deep
  unfolding banks
  bank_in picture there depth_is =
      let most : deep ≤ 16777216 = rw (← depth_is) (depth_at_most p W H picture.plan picture.w_side picture.h_side) in
      record {
        depth_is = depth_is;
        below = omega (arith, picture.plan.most);
        deep_at_most = most;
        end_at_most = mul-le-mul {n₁ = k + 1} {m₁ = deep} {n₂ = 1024} {m₂ = 16777216} (omega (arith, picture.plan.most)) most;
        end_in_memory = rw (← depth_is) (omega (arith, bank_in_picture p W H k there, picture.memory));
      }

  -- what `bank_depth` shows
  pub bank_given :
      {answer : Result ℕ Refusal} → answer ≡ bank_depth p W H (length mem) k → answer ≡ Ok deep
      → (whole_bank_test p W H (length mem) k ≡ none) × BankIn p W H mem k deep
  bank_given is number =
      let (passed, depth_is) = bank_shows p W H (length mem) k is number in
      let (picture, there) = (bank_test_iff p W H (length mem) k).0 passed in
      (passed, bank_in picture there depth_is)

  -- The part is the bank's words, deep of them, from k × deep on.
  module _ (bank : BankIn p W H mem k deep) where
    abbrev part : List ℕ
    part = take ((k + 1) * deep - k * deep) (drop (k * deep) mem)

    size : (k + 1) * deep - k * deep ≡ deep
    size = omega arith

    pub part_is_bank : part ≡ bank_words p W H mem k
    unfolding bank_words
    part_is_bank = rw (size, bank.depth_is)

    length_of_part : length part ≡ deep
    length_of_part =
        rw size (length-take-le deep (drop (k * deep) mem) (omega (arith, length-drop (k * deep) mem, bank.end_in_memory)))

    pub part_at_most : length part ≤ 16777216
    part_at_most = rw length_of_part bank.deep_at_most

    -- the memory where the part comes back with 0 in each word
    pub part_cleared :
        {come : List ℕ} → come ≡ replicate (length part) 0
        → take (k * deep) mem ++ (come ++ drop ((k + 1) * deep - k * deep) (drop (k * deep) mem)) ≡ after_clear p W H mem k
    unfolding after_clear
    part_cleared zeros = rw (zeros, length_of_part, size, drop-drop, bank.depth_is)
