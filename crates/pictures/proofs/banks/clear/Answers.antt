-- `pictures::banks::clear` meets its contract: where the bank's tests find nothing its words and its sum are cleared, and elsewhere the
-- refusal comes back.
-- Assumes nothing.
use Rattle.std.specs.Prelude.{Result, Ok, Err}
use Rattle.std.proofs.Common.{◌≡◌, ℕ, ◌<◌, ◌≤◌, List, [], ◌∷◌, length, refl, ◌∙◌, ap₂, arith}
use mathlib.Core.Option.{some}
use Rattle.scope.specs.Plans.{banks}
use Rattle.scope.specs.Banks.{after_clear, sums_after_clear}
use Rattle.scope.specs.Numbers.{bank_test}
use Rattle.scope.specs.Calls.{Lent, lent, size_of, lent_test, clear_test, clear}
use Rattle.scope.specs.promises.Meaning.{IsLent}
use Rattle.scope.specs.declared.Plan.{Plan}
use Rattle.scope.specs.declared.Refusal.{Refusal}
use Rattle.checks.proofs.Chains.{handed_on, Gives, chain_refuses, chain_goes_on, chain_of_one}
use Rattle.checks.proofs.Deciding.{bank_decides}
use Rattle.pictures.specs.Places.{lent_depth}
use Rattle.pictures.proofs.CallTests.{lent_test_iff}
use Rattle.pictures.proofs.PictureTests.{lent_shows, lent_refusal_shows, leaves_written, leaves_as_it_was}
use Rattle.pictures.proofs.WholeBanks.{BankIn, bank_in, part_cleared}
use Rattle.pictures.proofs.banks.clear.Goals as goal

-- what the call answers and what it leaves
module _ (p : Plan) (W H : ℕ) (l : Lent) (k : ℕ) where
  abbrev cleared : Lent
  cleared = lent (after_clear p W H l.memory k) (sums_after_clear l.sums k)

  refused : {r : Refusal} → clear_test p W H (size_of l) k ≡ some r → Gives (clear p W H l k) (Err r) l
  unfolding clear
  refused found = leaves_as_it_was found l cleared

  no-picture :
      {asked : Result ℕ Refusal} {r : Refusal} → asked ≡ lent_depth p W H (size_of l) → asked ≡ Err r
      → Gives (clear p W H l k) (Err r) l
  unfolding clear_test
  no-picture {r} is e = refused (chain_refuses (lent_test p W H (size_of l)) (bank_test p k ∷ []) r (lent_refusal_shows p W H (size_of l) is e))

  module _ {asked : Result ℕ Refusal} {deep m : ℕ} (is : asked ≡ lent_depth p W H (size_of l)) (e : asked ≡ Ok deep) (counted : m ≡ banks p) where
    past-picture : clear_test p W H (size_of l) k ≡ bank_test p k
    unfolding clear_test
    past-picture =
        chain_goes_on (lent_test p W H (size_of l)) (bank_test p k ∷ []) (lent_shows p W H (size_of l) is e).0 ∙ chain_of_one (bank_test p k)

    no-bank : m ≤ k → Gives (clear p W H l k) (Err Refusal.Cell) l
    no-bank h = refused (past-picture ∙ (bank_decides p k).refuses (λ below. omega (arith, counted)))

    module _ (h : k < m) where
      here : IsLent p W H (size_of l)
      here = (lent_test_iff p W H (size_of l)).0 (lent_shows p W H (size_of l) is e).0

      below : k < banks p
      below = omega (arith, counted)

      there : BankIn p W H l.memory k deep
      there = bank_in here.picture below (lent_shows p W H (size_of l) is e).1

      sum-there : k < length l.sums
      sum-there = omega (arith, below, here.sums)

      done : {mem sums : List ℕ} → mem ≡ after_clear p W H l.memory k → sums ≡ sums_after_clear l.sums k → Gives (clear p W H l k) (Ok tt) (lent mem sums)
      unfolding clear
      done mem_is sums-is = leaves_written (past-picture ∙ (bank_decides p k).passes below) l cleared (ap₂ lent mem_is sums-is)

pub returns-then-banks-k : goal.returns-then-banks-k
returns-then-banks-k c =
    let (answer, left) = no-bank _ _ _ (lent c.args.mem.now c.args.sums.now) c.args.k c.lent_depth.ensures c.in_ok-deep.was c.banks.ensures c.if-banks-k.true in
    record { answer = answer; left = left }

pub returns : goal.returns
unfolding sums_after_clear
returns c =
    let bank = there _ _ _ (lent c.args.mem.now c.args.sums.now) c.args.k c.lent_depth.ensures c.in_ok-deep.was c.banks.ensures c.if-banks-k.false in
    let (answer, left) = done _ _ _ (lent c.args.mem.now c.args.sums.now) c.args.k c.lent_depth.ensures c.in_ok-deep.was c.banks.ensures c.if-banks-k.false (part_cleared bank c.clear_words.ensures) refl in
    record { answer = answer; left = left }

pub returns-in_err-deep : goal.returns-in_err-deep
returns-in_err-deep c =
    let (answer, left) = no-picture _ _ _ (lent c.args.mem.now c.args.sums.now) c.args.k c.lent_depth.ensures c.in_err-deep.was in
    record { answer = handed_on _ c.from_residual.ensures ∙ answer; left = left }

pub overflow_mul-start : goal.overflow_mul-start
overflow_mul-start c = omega (arith, there _ _ _ (lent c.args.mem.now c.args.sums.now) c.args.k c.lent_depth.ensures c.in_ok-deep.was c.banks.ensures c.if-banks-k.false)

pub overflow_add-end : goal.overflow_add-end
overflow_add-end c = omega (arith, there _ _ _ (lent c.args.mem.now c.args.sums.now) c.args.k c.lent_depth.ensures c.in_ok-deep.was c.banks.ensures c.if-banks-k.false)

pub overflow_mul-end : goal.overflow_mul-end
overflow_mul-end c = omega (arith, there _ _ _ (lent c.args.mem.now c.args.sums.now) c.args.k c.lent_depth.ensures c.in_ok-deep.was c.banks.ensures c.if-banks-k.false)

pub offset_bounds-mem-start : goal.offset_bounds-mem-start
offset_bounds-mem-start c = omega (arith, there _ _ _ (lent c.args.mem.now c.args.sums.now) c.args.k c.lent_depth.ensures c.in_ok-deep.was c.banks.ensures c.if-banks-k.false)

pub slice_bounds-clear_words-end : goal.slice_bounds-clear_words-end
slice_bounds-clear_words-end c = omega (arith, there _ _ _ (lent c.args.mem.now c.args.sums.now) c.args.k c.lent_depth.ensures c.in_ok-deep.was c.banks.ensures c.if-banks-k.false)

pub offset_bounds-sums-k : goal.offset_bounds-sums-k
offset_bounds-sums-k c = omega (arith, sum-there _ _ _ (lent c.args.mem.now c.args.sums.now) c.args.k c.lent_depth.ensures c.in_ok-deep.was c.banks.ensures c.if-banks-k.false)

pub bounds-sums-k : goal.bounds-sums-k
bounds-sums-k c = sum-there _ _ _ (lent c.args.mem.now c.args.sums.now) c.args.k c.lent_depth.ensures c.in_ok-deep.was c.banks.ensures c.if-banks-k.false
