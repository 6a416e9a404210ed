-- What the tests of a book record mean: they find nothing exactly where it is a book.
-- Assumes nothing.
use Prim.Native.Nat.{ℕ, suc, ◌≤◌, ◌<◌}
use native.Mathlib.Omega.{arith}
use mathlib.Core.Path.{◌≡◌, refl, sym, ◌∙◌, ap}
use mathlib.Core.Logic.Iff
use mathlib.Core.Logic.{◌↔◌}
use mathlib.Core.Bool.{Bool, true, false, ◌&&◌}
use mathlib.Core.Option.{none}
use lib.Dec.{leb, leb→le, le→leb}
use lib.IntN.{ℤ, pos, negsuc}
use Rattle.integers.proofs.Divisions.{same_number_means}
use Rattle.integers.proofs.Comparisons.{leb_iff, and_iff}
use Rattle.scope.specs.Plans.{Pixel, same_pixel, pixel_at, pattern_at}
use Rattle.scope.specs.Numbers.{count_test, small, repeats, pixel_test, pattern_test, record_test}
use Rattle.scope.specs.Calls.{book_test}
use Rattle.scope.specs.promises.Meaning.{InRange, Lower, PixelLegal, IsPattern, IsBook, IsCycles}
use Rattle.scope.specs.declared.Pattern.{Pattern}
use Rattle.scope.specs.declared.Book.{Book}
use Rattle.scope.specs.declared.Refusal.{Refusal}
use Rattle.scope.specs.declared.Refusal.TheVariants.{Count, Coordinate, Repeat}
use Rattle.checks.proofs.Searches.{true-not-false, not_true_is_false, some_below_none, none_some_below}
use Rattle.checks.proofs.Patterns.{same_coordinates}
use Rattle.checks.proofs.Orders.{not_lower_than_itself, lower_goes_on, lower_or, no_fall_iff}
use Rattle.checks.proofs.Tests.{cycles_legal_iff}
use Rattle.checks.proofs.Booleans.{refuses_iff, demands_iff, last_test, test_before, first_iff}

-- the same pixel is an equal one
pub same_pixel_iff : (v w : Pixel) → (same_pixel v w ≡ true) ↔ (v ≡ w)
unfolding same_pixel
same_pixel_iff v w =
    Iff.trans (and_iff _ _ (same_number_means v.column w.column) (same_number_means v.row w.row)) (
      λ t. same_coordinates t.0 t.1,
      λ e. (ap (λ (u : Pixel). u.column) e, ap (λ (u : Pixel). u.row) e),
    )

-- -16 ≤ z ≤ 15
pub small_iff : (z : ℤ) → (small z ≡ true) ↔ InRange z
unfolding small
small_iff (pos n) =
    (λ e. (record { le = tt }, record { le = le→leb n 15 ((leb_iff n 15).0 e) }), λ h. (leb_iff n 15).1 (leb→le n 15 h.1.le))
small_iff (negsuc n) = (
  λ e. let k : n ≤ 15 = omega (arith, (leb_iff (suc n) 16).0 e) in (record { le = le→leb n 15 k }, record { le = tt }),
  λ h. (leb_iff (suc n) 16).1 (omega (arith, leb→le n 15 h.0.le)),
)

-- 2: a count from 1 to the most
pub count_legal_iff : (most n i : ℕ) → (count_test most n i ≡ none) ↔ ((1 ≤ n) × (n ≤ most))
unfolding count_test
count_legal_iff most n i = demands_iff (leb 1 n && leb n most) (Count i) (and_iff _ _ (leb_iff 1 n) (leb_iff n most))

-- 4: no earlier position has the same pixel
pub no_repeat_iff : (pixel : ℕ → Pixel) (e : ℕ) → (repeats pixel e ≡ false) ↔ ((l : ℕ) → l < e → pixel l ≡ pixel e → ⊥)
unfolding repeats
no_repeat_iff pixel e = (
  λ h l p q. true-not-false (sym ((same_pixel_iff (pixel l) (pixel e)).1 q) ∙ some_below_none e same h l p),
  λ h. none_some_below e same (λ l p. not_true_is_false (same l) (λ k. h l p ((same_pixel_iff (pixel l) (pixel e)).0 k))),
)
  where
    same : ℕ → Bool
    same l = same_pixel (pixel l) (pixel e)

-- 3, 4 and 19 at a position, whatever the places
pub pixel_legal_iff :
    (i j : ℕ) (pixel : ℕ → Pixel) (e : ℕ) → (pixel_test i j pixel e ≡ none) ↔ PixelLegal pixel e
unfolding pixel_test
pixel_legal_iff i j pixel e =
    Iff.trans
    (test_before (demands_iff _ (Coordinate i) (small_iff (pixel e).column))
    (test_before (demands_iff _ (Coordinate j) (small_iff (pixel e).row))
    (test_before (refuses_iff _ (Repeat i) (no_repeat_iff pixel e))
    (last_test (refuses_iff _ (Refusal.Lower i) (no_fall_iff pixel e)))))).iff (
      λ h. record { column = h.0; row = h.1.0; new = h.1.1.0; ascends = above h.1.1.0 h.1.1.1 },
      λ h. (h.column, (h.row, (h.new, not_below h.ascends))),
    )
  where
    -- a new pixel that is not lower than the one before it is higher
    above :
        ((l : ℕ) → l < e → pixel l ≡ pixel e → ⊥) → ((l : ℕ) → suc l ≡ e → Lower (pixel e) (pixel l) → ⊥)
        → (l : ℕ) → suc l ≡ e → Lower (pixel l) (pixel e)
    above new no-fall l next = lower_or (pixel l) (pixel e) (new l (omega arith)) (no-fall l next)

    not_below : ((l : ℕ) → suc l ≡ e → Lower (pixel l) (pixel e)) → (l : ℕ) → suc l ≡ e → Lower (pixel e) (pixel l) → ⊥
    not_below ascends l next h = not_lower_than_itself (pixel e) (pixel e) refl (lower_goes_on h (ascends l next))

-- 2, 3, 4, 19 of a pattern
pub pattern_legal_iff : (t : Pattern) → (pattern_test t ≡ none) ↔ IsPattern t
unfolding pattern_test
pattern_legal_iff t =
    Iff.trans
    (test_before (count_legal_iff 64 t.used 0)
    (last_test (first_iff t.used (pixel_test 0 0 (pixel_at t)) _ (pixel_legal_iff 0 0 (pixel_at t))))).iff
    (λ h. record { least = h.0.0; most = h.0.1; each = h.1 }, λ h. ((h.least, h.most), h.each))

-- 2, 3, 4, 19 of a book record
pub book_legal_iff : (book : Book) → (record_test book ≡ none) ↔ IsBook book
unfolding record_test
book_legal_iff book =
    Iff.trans
    (test_before (count_legal_iff 16 book.count 0)
    (last_test (first_iff book.count (λ n. pattern_test (pattern_at book n)) _ (λ n. pattern_legal_iff (pattern_at book n))))).iff
    (λ h. record { least = h.0.0; most = h.0.1; each = h.1 }, λ h. ((h.least, h.most), h.each))

-- and of a book and r
pub book_test_iff : (book : Book) (r : ℕ) → (book_test book r ≡ none) ↔ (IsBook book × IsCycles r)
unfolding book_test
book_test_iff book r = (test_before (book_legal_iff book) (last_test (cycles_legal_iff r))).iff
