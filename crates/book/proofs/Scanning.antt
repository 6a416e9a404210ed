-- The tests of a pattern as the code makes them, by the place where it stands or by its own record, and those of a record,
-- pattern after pattern.
-- Assumes nothing.
use Prim.Native.Nat.{ℕ, ◌+◌, ◌*◌, ◌≤◌, ◌<◌}
use native.Mathlib.Omega.{arith}
use mathlib.Core.Path.{◌≡◌, refl, ◌∙◌}
use mathlib.Core.Bool.{Bool, true, false, cond}
use mathlib.Core.Option.{none, some}
use mathlib.Core.List.{List, [], ◌∷◌}
use lib.Dec.{ltb}
use lib.ListN.{length}
use Rattle.integers.proofs.Comparisons.{ltb_iff, ltb_false_iff}
use Rattle.scope.specs.Search.{first, whenever, first_of}
use Rattle.scope.specs.Plans.{pixel_at, pattern_at}
use Rattle.scope.specs.Books.{byte, pixel_from}
use Rattle.scope.specs.Numbers.{count_test, pixel_test, pattern_test, record_test}
use Rattle.scope.specs.Numbers.{count_read, pixel_read, pattern_read}
use Rattle.scope.specs.declared.Pattern.{Pattern}
use Rattle.scope.specs.declared.Book.{Book}
use Rattle.scope.specs.declared.Refusal.{Refusal}
use Rattle.scope.specs.declared.Refusal.TheVariants.{Count}
use Rattle.checks.proofs.Searches.{some_whenever, none_whenever}
use Rattle.checks.proofs.Chains.{chain_refuses, chain_goes_on, chain_of_one}
use Rattle.checks.proofs.BookTests.{count_legal_iff, pattern_legal_iff, book_legal_iff}
use Rattle.checks.proofs.BookRefusals.{count_refused, search_refuses}
use Rattle.book.specs.Scan.{entry_number}
use Rattle.book.proofs.Reading.{FromTo}

-- The entry for a pattern's number is one of the record's, and below 16 it is that number.
pub entry_number_below : (n : ℕ) → entry_number n < 16
entry_number_below n = by_test (ltb n 16) refl
  where
    by_test : (b : Bool) → ltb n 16 ≡ b → cond b n 15 < 16
    by_test true e = (ltb_iff n 16).0 e
    by_test false e = omega arith

pub entry_number_is : (n : ℕ) → n < 16 → entry_number n ≡ n
entry_number_is n h = rw ((ltb_iff n 16).1 h) refl

-- A pixel's tests: both bytes are there, then those of the pixel.
module _ (s : List ℕ) (i e : ℕ) where
  pixel_chain :
      pixel_read s i e
      ≡ first_of
      (whenever (ltb (length s) (i + 2 * e + 2)) (Refusal.Ends (length s))
      ∷ pixel_test (i + 2 * e) (i + 2 * e + 1) (pixel_from s i) e
      ∷ [])
  unfolding pixel_read
  pixel_chain = refl

  pub ends_early : length s < i + 2 * e + 2 → pixel_read s i e ≡ some (Refusal.Ends (length s))
  ends_early h = pixel_chain ∙ chain_refuses _ _ _ (some_whenever _ _ ((ltb_iff (length s) (i + 2 * e + 2)).1 h))

  pub both_there : i + 2 * e + 2 ≤ length s → pixel_read s i e ≡ pixel_test (i + 2 * e) (i + 2 * e + 1) (pixel_from s i) e
  both_there h =
      pixel_chain ∙ chain_goes_on _ _ (none_whenever _ _ ((ltb_false_iff (length s) (i + 2 * e + 2)).1 h)) ∙ chain_of_one _

-- The tests of the pattern at place i: a refused count decides.
pub count_decides_from :
    (s : List ℕ) (i : ℕ) (r : Refusal) → count_read s 64 i ≡ some r → pattern_read s i ≡ some r
unfolding pattern_read
count_decides_from s i r e = chain_refuses (count_read s 64 i) (first 0 (byte s i) (pixel_read s (i + 1)) ∷ []) r e

-- The tests of a pattern's record: a refused count decides, and after a legal one the pixels do.
module _ (t : Pattern) where
  pub used_not_taken : (FromTo 64 t.used → ⊥) → pattern_test t ≡ some (Count 0)
  unfolding pattern_test
  used_not_taken bad =
      chain_refuses (count_test 64 t.used 0) (first 0 t.used (pixel_test 0 0 (pixel_at t)) ∷ []) (Count 0)
      (count_refused 64 t.used 0 bad)

  pub pixels_decide_of : FromTo 64 t.used → pattern_test t ≡ first 0 t.used (pixel_test 0 0 (pixel_at t))
  unfolding pattern_test
  pixels_decide_of legal =
      chain_goes_on (count_test 64 t.used 0) (first 0 t.used (pixel_test 0 0 (pixel_at t)) ∷ [])
      ((count_legal_iff 64 t.used 0).1 legal)
      ∙ chain_of_one (first 0 t.used (pixel_test 0 0 (pixel_at t)))

-- The first pattern of a record that is refused decides, and a record of legal patterns is a book.
module _ (book : Book) (legal : FromTo 16 book.count) where
  pub record_pattern_decides :
      (n : ℕ) (r : Refusal) → n < book.count → ((m : ℕ) → m < n → pattern_test (pattern_at book m) ≡ none)
      → pattern_test (pattern_at book n) ≡ some r → record_test book ≡ some r
  unfolding record_test
  record_pattern_decides n r below before here =
      search_refuses (count_test 16 book.count 0) book.count (λ m. pattern_test (pattern_at book m)) [] r n
      ((count_legal_iff 16 book.count 0).1 legal) below here before

  pub all_legal : ((n : ℕ) → n < book.count → pattern_test (pattern_at book n) ≡ none) → record_test book ≡ none
  all_legal each =
      (book_legal_iff book).1
      (record { least = legal.0; most = legal.1; each = λ n h. (pattern_legal_iff (pattern_at book n)).0 (each n h) })
