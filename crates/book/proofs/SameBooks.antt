-- Pixels ascend by row, then column (document 02, Card 3): two legal books with the same sets of pixels under the same numbers are
-- the same bytes, and so are two that were read; the pixels of a moved pattern ascend.
-- Assumes nothing.
use Prim.Native.Nat.{ℕ, ◌<◌}
use native.Mathlib.Omega.{arith}
use mathlib.Core.Path.{◌≡◌, sym, ◌∙◌, ap, ap₂}
use mathlib.Core.List.{◌∷◌, flat_map}
use lib.ListN.{get_or}
use Rattle.scope.specs.Plans.{Pixel, plus, pixel_at, pattern_at, pixels, patterns}
use Rattle.scope.specs.Books.{pattern_bytes, book_bytes}
use Rattle.scope.specs.Calls.{moved}
use Rattle.scope.specs.promises.Meaning.{Lower, IsPattern, IsBook}
use Rattle.scope.specs.promises.BookPromises.{SameSets, PixelsAscend}
use Rattle.scope.specs.declared.Pattern.{Pattern}
use Rattle.scope.specs.declared.Book.{Book}
use Rattle.checks.proofs.Lists.{get_d_map}
use Rattle.checks.proofs.Patterns.{origin, length_pixels, get_d_pixels}
use Rattle.checks.proofs.Orders.{lower_moved}
use Rattle.checks.proofs.SortedPatterns.{pattern_ascends, sorted_iff, same_set_same_list}
use Rattle.book.proofs.Unused.{gather_from_0_same}
use Rattle.book.proofs.ReadWrite.{write_after_read}

-- the same patterns, and so the same bytes
module _ (book other : Book) (legal : IsBook book) (legal_other : IsBook other) (same : SameSets book other) where
  same_lists : (n : ℕ) → n < book.count → pixels (pattern_at book n) ≡ pixels (pattern_at other n)
  same_lists n h =
      same_set_same_list (pattern_at book n) (pattern_at other n) (legal.each n h)
      (legal_other.each n (omega (arith, same.count))) (same.each n h)

  same_patterns_listed : patterns book ≡ patterns other
  unfolding patterns
  same_patterns_listed = gather_from_0_same same.count same_lists

  same_bytes : book_bytes book ≡ book_bytes other
  unfolding book_bytes
  same_bytes = ap₂ ◌∷◌ same.count (ap (flat_map pattern_bytes) same_patterns_listed)

-- a moved pixel
moved_is : (t : Pattern) (o : Pixel) (e : ℕ) → e < t.used → get_or (moved t o) e origin ≡ plus o (pixel_at t e)
unfolding moved
moved_is t o e h =
    get_d_map (plus o) (pixels t) e origin origin (omega (arith, length_pixels t)) ∙ ap (plus o) (get_d_pixels t e origin h)

moved_ascends :
    (t : Pattern) (o : Pixel) (e l : ℕ) → IsPattern t → e < l → l < t.used
    → Lower (get_or (moved t o) e origin) (get_or (moved t o) l origin)
moved_ascends t o e l legal h k =
    rw (moved_is t o e (omega arith), moved_is t o l k) (lower_moved o ((pattern_ascends t legal).lower_than e l h k))

pub pixels_ascend : PixelsAscend
pixels_ascend =
    record {
      sorted = sorted_iff;
      same_bytes = same_bytes;
      same_read = λ s t small small-t taken taken-t same.
          let read = write_after_read s small taken in
          let read_t = write_after_read t small-t taken-t in
          sym read.same ∙ same_bytes _ _ read.legal_book read_t.legal_book same ∙ read_t.same;
      fetched = λ book n o e l legal h. moved_ascends (pattern_at book n) o e l (legal.each n h);
    }
