-- The tests 11, 12, 13 of a picture, what the answers of depth and place tell of the tests of the calls, and what a call
-- that writes leaves by what its tests found.
-- Assumes nothing.
use Rattle.std.specs.Prelude.{Result, Ok, Err}
use Rattle.std.proofs.Common.{◌≡◌, ℕ, ◌<◌, [], ◌∷◌, sym, ap, ◌∙◌, arith}
use mathlib.Core.Option.{Option, none, some}
use Rattle.scope.specs.Search.{first_of}
use Rattle.scope.specs.Plans.{Pixel}
use Rattle.scope.specs.Banks.{depth_of, word_of}
use Rattle.scope.specs.Numbers.{plan_test, sides_test, memory_test, outside_test}
use Rattle.scope.specs.promises.Meaning.{IsPlan, IsSide}
use Rattle.scope.specs.Calls.{Lent, Size, answered, changed, address_test, picture_test, lent_test, word_test, whole_bank_test}
use Rattle.scope.specs.declared.Plan.{Plan}
use Rattle.scope.specs.declared.Refusal.{Refusal}
use Rattle.checks.proofs.Tests.{plan_legal_iff, sides_legal_iff}
use Rattle.checks.proofs.Chains.{chain_goes_on, tests_as_one, Gives, value_given, refusal_given}
use Rattle.lattice.proofs.Words.{pixels_have_words}
use Rattle.pictures.proofs.CallTests.{word_test_iff}
use Rattle.pictures.specs.Places.{picture_depth, lent_depth, word_place, bank_depth}
use Rattle.checks.proofs.CountedAnswers.{number_shows, refusal_shows}

-- The pixel's word is the one at n, in the memory.
pub record PlaceIn (p : Plan) (W H words : ℕ) (v : Pixel) (n : ℕ) : Type 0 where
  pub passed : word_test p W H words v ≡ none
  pub place_is : word_of p W H v ≡ n
  pub in_memory : n < words

module _ (p : Plan) (W H words : ℕ) where
  -- They are those of the depth, 11 and 12, before that of the memory.
  pub depth_before_memory :
      picture_test p W H words ≡ first_of (first_of (plan_test p ∷ sides_test W H ∷ []) ∷ memory_test p W H words ∷ [])
  unfolding picture_test
  depth_before_memory = tests_as_one [] (plan_test p ∷ sides_test W H ∷ []) (memory_test p W H words ∷ [])

  -- The word of a pixel that has passed is one of the memory's.
  pub word_in_memory : (v : Pixel) → word_test p W H words v ≡ none → word_of p W H v < words
  word_in_memory v passed =
      let (picture, inside) = (word_test_iff p W H words v).0 passed in
      omega (arith, (pixels_have_words p W H picture.plan).word_below v inside, picture.memory)

  -- What the answer of `picture_depth` tells,
  module _ {answer : Result ℕ Refusal} (is : answer ≡ picture_depth p W H words) where
    pub picture_shows : {n : ℕ} → answer ≡ Ok n → (picture_test p W H words ≡ none) × (depth_of p W H ≡ n)
    unfolding picture_depth
    picture_shows = number_shows (picture_test p W H words) (depth_of p W H) is

    pub picture_refusal_shows : {r : Refusal} → answer ≡ Err r → picture_test p W H words ≡ some r
    unfolding picture_depth
    picture_refusal_shows = refusal_shows (picture_test p W H words) (depth_of p W H) is

  -- that of `word_place`, to which the pixel v was handed as u,
  module _ {u v : Pixel} (handed : u ≡ v) {answer : Result ℕ Refusal} (is : answer ≡ word_place p W H words u) where
    place_tested : answer ≡ answered (word_test p W H words v) Err (Ok (word_of p W H v))
    unfolding word_place
    place_tested = is ∙ ap (word_place p W H words) handed

    pub place_in : {n : ℕ} → answer ≡ Ok n → PlaceIn p W H words v n
    place_in e =
        let (passed, same) = number_shows (word_test p W H words v) (word_of p W H v) place_tested e in
        record { passed = passed; place_is = same; in_memory = rw same at (word_in_memory v passed) }

    pub place_refusal_shows : {r : Refusal} → answer ≡ Err r → word_test p W H words v ≡ some r
    place_refusal_shows = refusal_shows (word_test p W H words v) (word_of p W H v) place_tested

  -- and that of `bank_depth`.
  module _ (k : ℕ) {answer : Result ℕ Refusal} (is : answer ≡ bank_depth p W H words k) where
    pub bank_shows : {n : ℕ} → answer ≡ Ok n → (whole_bank_test p W H words k ≡ none) × (depth_of p W H ≡ n)
    unfolding bank_depth
    bank_shows = number_shows (whole_bank_test p W H words k) (depth_of p W H) is

    pub bank_refusal_shows : {r : Refusal} → answer ≡ Err r → whole_bank_test p W H words k ≡ some r
    unfolding bank_depth
    bank_refusal_shows = refusal_shows (whole_bank_test p W H words k) (depth_of p W H) is

-- Past the tests of a plan and sides, and another that found nothing, only 14 is left of the plan's own tests for a pixel.
pub only_outside :
    (p : Plan) (W H : ℕ) (v : Pixel) {t : Option Refusal} → t ≡ none → IsPlan p → IsSide W → IsSide H
    → address_test p W H v ≡ first_of (t ∷ outside_test W H (v ∷ []) ∷ [])
only_outside p W H v {t} passed plan w_side h_side =
    let outside : Option Refusal = outside_test W H (v ∷ []) in
    chain_goes_on (plan_test p) (sides_test W H ∷ outside ∷ []) ((plan_legal_iff p).1 plan)
    ∙ chain_goes_on (sides_test W H) (outside ∷ []) ((sides_legal_iff W H).1 (w_side, h_side))
    ∙ sym (chain_goes_on t (outside ∷ []) passed)

-- What the answer of `lent_depth` tells
module _ (p : Plan) (W H : ℕ) (s : Size) {answer : Result ℕ Refusal} (is : answer ≡ lent_depth p W H s) where
  pub lent_shows : {n : ℕ} → answer ≡ Ok n → (lent_test p W H s ≡ none) × (depth_of p W H ≡ n)
  unfolding lent_depth
  lent_shows = number_shows (lent_test p W H s) (depth_of p W H) is

  pub lent_refusal_shows : {r : Refusal} → answer ≡ Err r → lent_test p W H s ≡ some r
  unfolding lent_depth
  lent_refusal_shows = refusal_shows (lent_test p W H s) (depth_of p W H) is

-- A call that writes: where its tests found nothing it is done, and leaves what it wrote; where they found a refusal it leaves what it
-- was lent as it was.
abbrev done : Result Unit Refusal
done = Ok tt

module _ {t : Option Refusal} where
  pub leaves_written :
      t ≡ none → (old new : Lent) {left : Lent} → left ≡ new
      → Gives (changed t Err old done new) done left
  leaves_written passed old new e =
      let (answer, left) = value_given t Err old done new passed in
      (answer, e ∙ left)

  pub leaves_as_it_was :
      {r : Refusal} → t ≡ some r → (old new : Lent) → Gives (changed t Err old done new) (Err r) old
  leaves_as_it_was {r} found old new = refusal_given t Err old done new r found
