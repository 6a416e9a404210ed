-- `pictures::places::picture_depth` meets its contract: 11 and 12 come with the depth, then 13.
-- Assumes nothing.
use Rattle.std.specs.Prelude.{Result, Ok, Err}
use Rattle.std.proofs.Common.{◌≡◌, ℕ, ◌*◌, ◌<◌, ◌≤◌, [], ◌∷◌, sym, ap, ◌∙◌, mul-le-mul, arith}
use mathlib.Core.Option.{Option, none, some}
use Rattle.scope.specs.Search.{first_of}
use Rattle.scope.specs.Plans.{banks}
use Rattle.scope.specs.Banks.{depth_of}
use Rattle.scope.specs.Numbers.{plan_test, sides_test, memory_test}
use Rattle.scope.specs.Calls.{depth, picture_test}
use Rattle.scope.specs.promises.Meaning.{IsPlan, IsSide}
use Rattle.scope.specs.declared.Plan.{Plan}
use Rattle.scope.specs.declared.Refusal.{Refusal}
use Rattle.checks.proofs.Booleans.{last_test, test_before}
use Rattle.checks.proofs.Chains.{passed_on, chain_refuses, chain_goes_on, chain_of_one, answered_none, answered_some}
use Rattle.checks.proofs.Deciding.{memory_decides}
use Rattle.checks.proofs.Tests.{plan_legal_iff, sides_legal_iff}
use Rattle.lattice.proofs.Words.{depth_at_most}
use Rattle.pictures.specs.Places.{picture_depth}
use Rattle.checks.proofs.CountedAnswers.{number_shows, refusal_shows}
use Rattle.pictures.proofs.PictureTests.{depth_before_memory}
use Rattle.pictures.proofs.places.picture_depth.Goals as goal

module _ (p : Plan) (W H words : ℕ) where
  -- what the call answers, by its tests
  refused : (r : Refusal) → picture_test p W H words ≡ some r → picture_depth p W H words ≡ Err r
  unfolding picture_depth
  refused = answered_some (picture_test p W H words) Err (Ok (depth_of p W H))

  given : picture_test p W H words ≡ none → picture_depth p W H words ≡ Ok (depth_of p W H)
  unfolding picture_depth
  given = answered_none (picture_test p W H words) Err (Ok (depth_of p W H))

  abbrev depthTest : Option Refusal
  depthTest = first_of (plan_test p ∷ sides_test W H ∷ [])

  abbrev room : Option Refusal
  room = memory_test p W H words

  -- and by what the depth's call answered
  module _ {answer : Result ℕ Refusal} (is : answer ≡ depth p W H) where
    no-depth : (r : Refusal) → answer ≡ Err r → answer ≡ picture_depth p W H words
    unfolding depth
    no-depth r e =
        e
        ∙ sym
        (refused r
        (depth_before_memory p W H words
        ∙ chain_refuses depthTest (room ∷ []) r (refusal_shows depthTest (depth_of p W H) is e)))

    module _ {n m : ℕ} (e : answer ≡ Ok n) (counted : m ≡ banks p) where
      depth-shows : (depthTest ≡ none) × (depth_of p W H ≡ n)
      unfolding depth
      depth-shows = number_shows depthTest (depth_of p W H) is e

      past-depth : picture_test p W H words ≡ room
      past-depth =
          depth_before_memory p W H words ∙ chain_goes_on depthTest (room ∷ []) depth-shows.0 ∙ chain_of_one room

      legal : IsPlan p × (IsSide W × IsSide H)
      legal = (test_before (plan_legal_iff p) (last_test (sides_legal_iff W H))).iff.0 depth-shows.0

      few-banks : m ≤ 1024
      unfolding banks
      few-banks = omega (arith, counted, legal.0.most)

      words-at-most : m * n ≤ 1024 * (4096 * 4096)
      words-at-most =
          mul-le-mul few-banks (rw depth-shows.1 at (depth_at_most p W H legal.0 legal.1.0 legal.1.1))

      count-is : banks p * depth_of p W H ≡ m * n
      count-is = rw (counted, depth-shows.1)

      memory-short : words < m * n → Err Refusal.Memory ≡ picture_depth p W H words
      memory-short h =
          sym (refused Refusal.Memory (past-depth ∙ (memory_decides p W H words).refuses (λ l. omega (arith, count-is))))

      memory-enough : m * n ≤ words → Ok n ≡ picture_depth p W H words
      memory-enough h =
          ap Ok (sym depth-shows.1)
          ∙ sym (given (past-depth ∙ (memory_decides p W H words).passes (omega (arith, count-is))))

pub overflow_mul-banks : goal.overflow_mul-banks
overflow_mul-banks c = omega (arith, words-at-most _ _ _ c.args.words c.depth.ensures c.in_ok-depth.was c.banks.ensures)

pub returns-then-words-banks : goal.returns-then-words-banks
returns-then-words-banks c = memory-short _ _ _ _ c.depth.ensures c.in_ok-depth.was c.banks.ensures c.if-words-banks.true

pub returns : goal.returns
returns c = memory-enough _ _ _ _ c.depth.ensures c.in_ok-depth.was c.banks.ensures c.if-words-banks.false

pub returns-in_err-depth : goal.returns-in_err-depth
returns-in_err-depth c =
    passed_on _ c.from_residual.ensures c.in_err-depth.was ∙ no-depth _ _ _ _ c.depth.ensures _ c.in_err-depth.was
