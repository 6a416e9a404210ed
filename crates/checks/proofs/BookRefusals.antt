-- What the tests of a book record give where it is not legal: the number of the first condition that holds, and its place.
-- Assumes nothing.
use Prim.Native.Nat.{ℕ, suc, ◌≤◌, ◌<◌}
use native.Mathlib.Omega.{arith}
use mathlib.Core.Path.{◌≡◌, refl, sym, ◌∙◌}
use mathlib.Core.Logic.{◌↔◌}
use mathlib.Core.Bool.{Bool, true, false, not, ◌&&◌}
use mathlib.Core.Option.{Option, none, some}
use mathlib.Core.List.{List, [], ◌∷◌}
use lib.Dec.{leb}
use lib.IntN.{ℤ}
use Rattle.scope.specs.Search.{first, whenever, first_of}
use Rattle.scope.specs.Plans.{Pixel, pixel_at, pattern_at}
use Rattle.scope.specs.Numbers.{count_test, small, repeats, falls, pixel_test, pattern_test, record_test}
use Rattle.scope.specs.promises.Meaning.{InRange, Lower}
use Rattle.scope.specs.promises.RefusalPromises.{LegalUpTo, PixelsUpTo, RecordRefuses}
use Rattle.scope.specs.declared.Pattern.{Pattern}
use Rattle.scope.specs.declared.Book.{Book}
use Rattle.scope.specs.declared.Refusal.{Refusal}
use Rattle.scope.specs.declared.Refusal.TheVariants.{Count, Coordinate, Repeat}
use Rattle.checks.proofs.Searches.{true-not-false, whenever_not_none, found_from_0}
use Rattle.checks.proofs.Chains.{chain_refuses, chain_goes_on}
use Rattle.checks.proofs.Booleans.{refuses_iff, demands_iff}
use Rattle.checks.proofs.Orders.{no_fall_iff}
use Rattle.checks.proofs.BookTests.{small_iff, count_legal_iff, no_repeat_iff, pixel_legal_iff, pattern_legal_iff}

-- 2: a count that is not from 1 to the most
pub count_refused : (most n i : ℕ) → ((1 ≤ n) × (n ≤ most) → ⊥) → count_test most n i ≡ some (Count i)
unfolding count_test
count_refused most n i h = whenever_not_none (not (leb 1 n && leb n most)) (Count i) (λ e. h ((count_legal_iff most n i).0 e))

-- a coordinate that is not from -16 to 15
coordinate_test_iff : (i : ℕ) (z : ℤ) → (whenever (not (small z)) (Coordinate i) ≡ none) ↔ InRange z
coordinate_test_iff i z = demands_iff (small z) (Coordinate i) (small_iff z)

coordinate_refused : (i : ℕ) (z : ℤ) → (InRange z → ⊥) → whenever (not (small z)) (Coordinate i) ≡ some (Coordinate i)
coordinate_refused i z h = whenever_not_none (not (small z)) (Coordinate i) (λ e. h ((coordinate_test_iff i z).0 e))

-- 3, 4 and 19 at a position: its column, its row, repetition, then its order, whatever the places
module _ (i j : ℕ) (pixel : ℕ → Pixel) (e : ℕ) where
  pixel_chain :
      pixel_test i j pixel e
      ≡ first_of
      (whenever (not (small (pixel e).column)) (Coordinate i)
      ∷ whenever (not (small (pixel e).row)) (Coordinate j)
      ∷ whenever (repeats pixel e) (Repeat i)
      ∷ whenever (falls pixel e) (Refusal.Lower i)
      ∷ [])
  unfolding pixel_test
  pixel_chain = refl

  pub column_refused : (InRange (pixel e).column → ⊥) → pixel_test i j pixel e ≡ some (Coordinate i)
  column_refused h = pixel_chain ∙ chain_refuses _ _ _ (coordinate_refused i (pixel e).column h)

  pub row_refused : InRange (pixel e).column → (InRange (pixel e).row → ⊥) → pixel_test i j pixel e ≡ some (Coordinate j)
  row_refused column h =
      pixel_chain
      ∙ chain_goes_on _ _ ((coordinate_test_iff i (pixel e).column).1 column)
      ∙ chain_refuses _ _ _ (coordinate_refused j (pixel e).row h)

  pub repeat_refused :
      InRange (pixel e).column → InRange (pixel e).row → (l : ℕ) → l < e → pixel l ≡ pixel e
      → pixel_test i j pixel e ≡ some (Repeat i)
  repeat_refused column row l earlier same =
      pixel_chain
      ∙ chain_goes_on _ _ ((coordinate_test_iff i (pixel e).column).1 column)
      ∙ chain_goes_on _ _ ((coordinate_test_iff j (pixel e).row).1 row)
      ∙ chain_refuses _ _ _ (whenever_not_none (repeats pixel e) (Repeat i) not_none)
    where
      not_none : whenever (repeats pixel e) (Repeat i) ≡ none → ⊥
      not_none t = (refuses_iff (repeats pixel e) (Repeat i) (no_repeat_iff pixel e)).0 t l earlier same

  pub lower_refused :
      InRange (pixel e).column → InRange (pixel e).row → ((l : ℕ) → l < e → pixel l ≡ pixel e → ⊥)
      → (l : ℕ) → suc l ≡ e → Lower (pixel e) (pixel l) → pixel_test i j pixel e ≡ some (Refusal.Lower i)
  lower_refused column row new l next falling =
      pixel_chain
      ∙ chain_goes_on _ _ ((coordinate_test_iff i (pixel e).column).1 column)
      ∙ chain_goes_on _ _ ((coordinate_test_iff j (pixel e).row).1 row)
      ∙ chain_goes_on _ _ ((refuses_iff (repeats pixel e) (Repeat i) (no_repeat_iff pixel e)).1 new)
      ∙ chain_refuses _ _ _ (whenever_not_none (falls pixel e) (Refusal.Lower i) not_none)
    where
      not_none : whenever (falls pixel e) (Refusal.Lower i) ≡ none → ⊥
      not_none t = (refuses_iff (falls pixel e) (Refusal.Lower i) (no_fall_iff pixel e)).0 t l next falling

-- the column or the row, where both have the same place
either_refused :
    (i : ℕ) (pixel : ℕ → Pixel) (e : ℕ) → (InRange (pixel e).column × InRange (pixel e).row → ⊥)
    → pixel_test i i pixel e ≡ some (Coordinate i)
either_refused i pixel e h = by_column (small (pixel e).column) refl
  where
    by_column : (b : Bool) → small (pixel e).column ≡ b → pixel_test i i pixel e ≡ some (Coordinate i)
    by_column true s = let column = (small_iff (pixel e).column).0 s in row_refused i i pixel e column (λ row. h (column, row))
    by_column false s = column_refused i i pixel e (λ column. true-not-false (sym ((small_iff (pixel e).column).1 column) ∙ s))

-- a chain whose first test finds nothing, and then a search from 0 that finds r at number k and nothing before
pub search_refuses :
    (t : Option Refusal) (n : ℕ) (f : ℕ → Option Refusal) (ts : List (Option Refusal)) (r : Refusal) (k : ℕ)
    → t ≡ none → k < n → f k ≡ some r → ((m : ℕ) → m < k → f m ≡ none) → first_of (t ∷ first 0 n f ∷ ts) ≡ some r
search_refuses t n f ts r k passed below here before =
    chain_goes_on t _ passed ∙ chain_refuses _ ts r (found_from_0 n f k r below before here)

-- A pattern gives the number of its first illegal pixel,
pixel_decides :
    (t : Pattern) (e : ℕ) (r : Refusal) → PixelsUpTo t e → pixel_test 0 0 (pixel_at t) e ≡ some r → pattern_test t ≡ some r
unfolding pattern_test
pixel_decides t e r up here =
    search_refuses _ t.used (pixel_test 0 0 (pixel_at t)) [] r e
    ((count_legal_iff 64 t.used 0).1 (omega (arith, up.below), up.most))
    up.below
    here
    (λ l earlier. (pixel_legal_iff 0 0 (pixel_at t) l).1 (up.each l earlier))

-- and a book that of its first illegal pattern.
pattern_decides :
    (book : Book) (n : ℕ) (r : Refusal) → LegalUpTo book n → pattern_test (pattern_at book n) ≡ some r → record_test book ≡ some r
unfolding record_test
pattern_decides book n r up here =
    search_refuses _ book.count (λ m. pattern_test (pattern_at book m)) [] r n
    ((count_legal_iff 16 book.count 0).1 (up.least, up.most))
    up.below
    here
    (λ m earlier. (pattern_legal_iff (pattern_at book m)).1 (up.each m earlier))

-- A record that is no book is refused by the first condition that holds, at place 0.
pub record_refuses : RecordRefuses
unfolding record_test pattern_test
record_refuses =
    record {
      patterns_2 =
          λ book h. chain_refuses (count_test 16 book.count 0)
          (first 0 book.count (λ n. pattern_test (pattern_at book n)) ∷ []) (Count 0)
          (count_refused 16 book.count 0 h);
      pixels_2 =
          λ book n up h. pattern_decides book n (Count 0) up
          (chain_refuses (count_test 64 (used book n) 0) (first 0 (used book n) (pixel_test 0 0 (pixel book n)) ∷ []) (Count 0)
          (count_refused 64 (used book n) 0 h));
      coordinate_3 =
          λ book n e up pixels_up h. pattern_decides book n (Coordinate 0) up
          (pixel_decides (pattern_at book n) e (Coordinate 0) pixels_up (either_refused 0 (pixel book n) e h));
      repeat_4 =
          λ book n e l up pixels_up column row earlier same. pattern_decides book n (Repeat 0) up
          (pixel_decides (pattern_at book n) e (Repeat 0) pixels_up (repeat_refused 0 0 (pixel book n) e column row l earlier same));
      lower_19 =
          λ book n l up pixels_up column row new falling. pattern_decides book n (Refusal.Lower 0) up
          (pixel_decides (pattern_at book n) (suc l) (Refusal.Lower 0) pixels_up
          (lower_refused 0 0 (pixel book n) (suc l) column row new l refl falling));
    }
  where
    used : Book → ℕ → ℕ
    used book n = (pattern_at book n).used

    pixel : Book → ℕ → ℕ → Pixel
    pixel book n = pixel_at (pattern_at book n)
