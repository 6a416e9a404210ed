-- `pictures::banks::sum` meets its contract: where the bank's tests find nothing its words are summed, and elsewhere the
-- refusal comes back.
-- Assumes nothing.
use Rattle.std.specs.Prelude.{Result, Ok, Err}
use Rattle.std.proofs.Common.{◌≡◌, ℕ, ◌+◌, ◌-◌, ◌*◌, List, length, take, drop, ap, ◌∙◌, arith}
use mathlib.Core.Option.{none}
use mathlib.Core.List.{foldr}
use Rattle.scope.specs.Banks.{bank_sum}
use Rattle.scope.specs.Calls.{whole_bank_test, sum}
use Rattle.scope.specs.declared.Plan.{Plan}
use Rattle.scope.specs.declared.Refusal.{Refusal}
use Rattle.checks.proofs.Chains.{handed_on, gives_value, gives_refusal}
use Rattle.pictures.specs.Places.{bank_depth}
use Rattle.pictures.proofs.PictureTests.{bank_refusal_shows}
use Rattle.pictures.proofs.WholeBanks.{BankIn, bank_given, part_is_bank, part_at_most}
use Rattle.pictures.proofs.banks.sum.Goals as goal

-- what the call answers
module _ (p : Plan) (W H : ℕ) (mem : List ℕ) (k : ℕ) where
  summed :
      {deep n : ℕ} → (whole_bank_test p W H (length mem) k ≡ none) × BankIn p W H mem k deep → n ≡ foldr ◌+◌ 0 (take ((k + 1) * deep - k * deep) (drop (k * deep) mem))
      → Ok n ≡ sum p W H mem k
  unfolding sum bank_sum
  summed (passed, bank) e = gives_value passed Err (ap Ok (e ∙ ap (foldr ◌+◌ 0) (part_is_bank bank)))

  refused :
      {asked : Result ℕ Refusal} {r : Refusal} → asked ≡ bank_depth p W H (length mem) k → asked ≡ Err r
      → Err r ≡ sum p W H mem k
  unfolding sum
  refused is e = gives_refusal (bank_refusal_shows p W H (length mem) k is e) Err (Ok (bank_sum p W H mem k))

pub sum_words-requires : goal.sum_words-requires
sum_words-requires c = part_at_most (bank_given c.bank_depth.ensures c.in_ok-deep.was).1

pub returns : goal.returns
returns c = summed _ _ _ _ _ (bank_given c.bank_depth.ensures c.in_ok-deep.was) c.sum_words.ensures

pub returns-in_err-deep : goal.returns-in_err-deep
returns-in_err-deep c =
    handed_on _ c.from_residual.ensures ∙ refused _ _ _ _ _ c.bank_depth.ensures c.in_err-deep.was

pub overflow_mul-start : goal.overflow_mul-start
overflow_mul-start c =
    omega (arith, (bank_given c.bank_depth.ensures c.in_ok-deep.was).1)

pub overflow_add-end : goal.overflow_add-end
overflow_add-end c =
    omega (arith, (bank_given c.bank_depth.ensures c.in_ok-deep.was).1)

pub overflow_mul-end : goal.overflow_mul-end
overflow_mul-end c =
    omega (arith, (bank_given c.bank_depth.ensures c.in_ok-deep.was).1)

pub offset_bounds-mem-start : goal.offset_bounds-mem-start
offset_bounds-mem-start c =
    omega (arith, (bank_given c.bank_depth.ensures c.in_ok-deep.was).1)

pub slice_bounds-sum_words-end : goal.slice_bounds-sum_words-end
slice_bounds-sum_words-end c =
    omega (arith, (bank_given c.bank_depth.ensures c.in_ok-deep.was).1)
