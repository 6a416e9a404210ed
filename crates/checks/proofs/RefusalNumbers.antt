-- Which numbers a test, a chain of tests and a search can give, and so a call.
-- Assumes nothing.
use Prim.Native.Nat.{ℕ}
use native.Mathlib.Omega.{arith}
use mathlib.Core.Path.{◌≡◌, subst}
use mathlib.Core.Logic.{◌⊎◌, inl, inr}
use mathlib.Core.Bool.{Bool, not, ◌&&◌}
use mathlib.Core.Option.{Option, none, some}
use mathlib.Core.List.{List, [], ◌∷◌}
use lib.Dec.{leb}
use Rattle.scope.specs.Search.{first, whenever, first_of}
use Rattle.scope.specs.Plans.{Pixel, pixel_at, pattern_at}
use Rattle.scope.specs.Numbers.{number_of, clash_of, count_test, small, repeats, falls, pixel_test, pattern_test, record_test}
use Rattle.scope.specs.Calls.{find_test}
use Rattle.scope.specs.declared.Pattern.{Pattern}
use Rattle.scope.specs.declared.Book.{Book}
use Rattle.scope.specs.declared.Refusal.{Refusal}
use Rattle.scope.specs.declared.Refusal.TheVariants.{Count, Coordinate, Repeat}
use Rattle.checks.proofs.Searches.{first_found, whenever_some, none_not_some}
use Rattle.checks.proofs.Chains.{chain_some}
use Rattle.checks.proofs.Deciding.{Decides, limit_decides, cycles_decide}
use Rattle.checks.proofs.ClashAnswers.{no_clash}

-- whatever the test finds, its number is one of these
pub record Numbers (these : ℕ → Type 0) (t : Option Refusal) : Type 0 where
  pub each : (r : Refusal) → t ≡ some r → these (number_of r)

-- the same of a chain of tests
pub record ChainNumbers (these : ℕ → Type 0) (tests : List (Option Refusal)) : Type 0 where
  pub chain : Numbers these (first_of tests)

module _ {these : ℕ → Type 0} where
  -- a condition has the number of its refusal
  whenever_numbers : (b : Bool) (r : Refusal) → these (number_of r) → Numbers these (whenever b r)
  whenever_numbers b r h =
      record { each = λ s e. subst (λ (q : Refusal). these (number_of q)) (whenever_some b r s e).1 h }

  -- and so has a test that decides
  pub decided_numbers : {t : Option Refusal} {r : Refusal} {P : Type 0} → Decides t r P → these (number_of r) → Numbers these t
  decided_numbers test h =
      record { each = λ s e. subst (λ (q : Refusal). these (number_of q)) (test.no_other s e) h }

  -- a chain has the numbers of its tests, and so has a search
  pub numbers_before :
      {t : Option Refusal} {ts : List (Option Refusal)} → Numbers these t → ChainNumbers these ts → ChainNumbers these (t ∷ ts)
  numbers_before {t} {ts} h k = record { chain = record { each = λ r e. by_place r (chain_some t ts r e) } }
    where
      by_place : (r : Refusal) → (t ≡ some r) ⊎ ((t ≡ none) × (first_of ts ≡ some r)) → these (number_of r)
      by_place r (inl e) = h.each r e
      by_place r (inr e) = k.chain.each r e.1

  pub last_numbers : {t : Option Refusal} → Numbers these t → ChainNumbers these (t ∷ [])
  unfolding first_of
  last_numbers h = numbers_before h (record { chain = record { each = λ r e. absurd (none_not_some e) } })

  first_numbers : (k n : ℕ) (f : ℕ → Option Refusal) → ((i : ℕ) → Numbers these (f i)) → Numbers these (first k n f)
  first_numbers k n f h = record { each = λ r e. let t = first_found k n f r e in (h t.where_is).each r t.here }

  -- a book record gives 2, 3, 4 and 19
  module _ (two : these 2) (three : these 3) (four : these 4) (nineteen : these 19) where
    count_numbers : (most n i : ℕ) → Numbers these (count_test most n i)
    unfolding count_test
    count_numbers most n i = whenever_numbers (not (leb 1 n && leb n most)) (Count i) two

    pixel_numbers : (i j : ℕ) (pixel : ℕ → Pixel) (e : ℕ) → Numbers these (pixel_test i j pixel e)
    unfolding pixel_test
    pixel_numbers i j pixel e =
        (numbers_before (whenever_numbers (not (small (pixel e).column)) (Coordinate i) three)
        (numbers_before (whenever_numbers (not (small (pixel e).row)) (Coordinate j) three)
        (numbers_before (whenever_numbers (repeats pixel e) (Repeat i) four)
        (last_numbers (whenever_numbers (falls pixel e) (Refusal.Lower i) nineteen))))).chain

    pattern_numbers : (t : Pattern) → Numbers these (pattern_test t)
    unfolding pattern_test
    pattern_numbers t =
        (numbers_before (count_numbers 64 t.used 0)
        (last_numbers (first_numbers 0 t.used (pixel_test 0 0 (pixel_at t)) (pixel_numbers 0 0 (pixel_at t))))).chain

    pub record_numbers : (book : Book) → Numbers these (record_test book)
    unfolding record_test
    record_numbers book =
        (numbers_before (count_numbers 16 book.count 0)
        (last_numbers (first_numbers 0 book.count (λ n. pattern_test (pattern_at book n)) (λ n. pattern_numbers (pattern_at book n))))).chain

    -- the finder's tests give these, 6 and 20
    find_numbers : these 6 → these 20 → (book : Book) (r limit : ℕ) → Numbers these (find_test book r limit)
    unfolding find_test
    find_numbers six twenty book r limit =
        (numbers_before (record_numbers book)
        (numbers_before (decided_numbers (limit_decides limit) six)
        (last_numbers (decided_numbers (cycles_decide r) twenty)))).chain

-- so none of them is 7
pub find_refusals : (book : Book) (r limit : ℕ) (f : Refusal) → find_test book r limit ≡ some f → number_of f ≡ 7 → ⊥
find_refusals book r limit f e =
    (find_numbers {these = λ n. n ≡ 7 → ⊥} (λ h. omega arith) (λ h. omega arith) (λ h. omega arith) (λ h. omega arith) (λ h. omega arith) (λ h. omega arith) book r limit).each f e

-- and a book's refusal has no clash
pub record_has_no_clash : (book : Book) (f : Refusal) → record_test book ≡ some f → clash_of f ≡ none
record_has_no_clash book f e =
    no_clash f
    ((record_numbers {these = λ n. n ≡ 10 → ⊥} (λ h. omega arith) (λ h. omega arith) (λ h. omega arith) (λ h. omega arith) book).each f e)
