-- The lists of a record's pixels and patterns by index, and what a legal book gives of them: each pattern of the list is
-- one of the record, and the pixels of a pattern are all different.
-- Assumes nothing.
use Prim.Native.Nat.{ℕ, ◌≤◌, ◌<◌}
use native.Mathlib.Nat.{zero-add}
use native.Mathlib.Omega.{arith}
use mathlib.Core.Path.{◌≡◌, sym, ◌∙◌, ap, ap₂, subst}
use mathlib.Core.List.{List, Memᴰ}
use lib.IntN.{ℤ, pos}
use lib.ListN.{length, get_or}
use Rattle.scope.specs.Plans.{Pixel, at, pixel_at, pattern_at, pixels, patterns}
use Rattle.scope.specs.promises.Meaning.{InRange, PixelLegal, IsPattern, IsBook}
use Rattle.scope.specs.declared.Pattern.{Pattern}
use Rattle.scope.specs.declared.Book.{Book}
use Rattle.checks.proofs.Searches.{length_gather, get_d_gather, At, mem_gather, gather_mem}

-- the pixel (0, 0)
abbrev pub origin : Pixel
origin = at (pos 0) (pos 0)

-- a pixel is its two coordinates
pub same_coordinates : {v w : Pixel} → v.column ≡ w.column → v.row ≡ w.row → v ≡ w
same_coordinates i j = ap₂ (λ (i j : ℤ). record { column = i; row = j }) i j

-- the pixels of a pattern record: how many, and the one at a position
pub length_pixels : (t : Pattern) → length (pixels t) ≡ t.used
unfolding pixels
length_pixels t = length_gather 0 t.used (pixel_at t)

pub get_d_pixels : (t : Pattern) (e : ℕ) (d : Pixel) → e < t.used → get_or (pixels t) e d ≡ pixel_at t e
unfolding pixels
get_d_pixels t e d h = get_d_gather 0 t.used (pixel_at t) e d h ∙ ap (pixel_at t) (zero-add e)

-- the patterns of a book record: how many, and the one at a number
pub length_patterns : (book : Book) → length (patterns book) ≡ book.count
unfolding patterns
length_patterns book = length_gather 0 book.count (λ n. pixels (pattern_at book n))

pub get_d_patterns :
    (book : Book) (n : ℕ) (d : List Pixel) → n < book.count → get_or (patterns book) n d ≡ pixels (pattern_at book n)
unfolding patterns
get_d_patterns book n d h =
    get_d_gather 0 book.count (λ n. pixels (pattern_at book n)) n d h ∙ ap (λ n. pixels (pattern_at book n)) (zero-add n)

-- a pixel is in the list exactly if it stands at a position, a pattern exactly if it stands at a number
pub mem_pixels : {v : Pixel} (t : Pattern) → Memᴰ v (pixels t) → (e : ℕ) × (e < t.used) × (pixel_at t e ≡ v)
unfolding pixels
mem_pixels {v} t m =
    let w : At 0 t.used (pixel_at t) v = mem_gather 0 t.used (pixel_at t) v m in
    (w.index, omega (arith, w.below), w.is)

pub pixels_mem : (t : Pattern) (e : ℕ) → e < t.used → Memᴰ (pixel_at t e) (pixels t)
unfolding pixels
pixels_mem t e h = gather_mem 0 t.used (pixel_at t) e (omega arith) (omega arith)

pub mem_patterns :
    {t : List Pixel} (book : Book) → Memᴰ t (patterns book) → (n : ℕ) × (n < book.count) × (pixels (pattern_at book n) ≡ t)
unfolding patterns
mem_patterns {t} book m =
    let w : At 0 book.count (λ n. pixels (pattern_at book n)) t =
    mem_gather 0 book.count (λ n. pixels (pattern_at book n)) t m in
    (w.index, omega (arith, w.below), w.is)

pub patterns_mem : (book : Book) (n : ℕ) → n < book.count → Memᴰ (pixels (pattern_at book n)) (patterns book)
unfolding patterns
patterns_mem book n h = gather_mem 0 book.count (λ n. pixels (pattern_at book n)) n (omega arith) (omega arith)

-- a pixel is legal by itself and the pixels before it
pub legal_same :
    (e : ℕ) (f g : ℕ → Pixel) → ((l : ℕ) → l ≤ e → f l ≡ g l) → PixelLegal f e → PixelLegal g e
legal_same e f g same legal =
    let here = same e (omega arith) in
    record {
      column = rw here at legal.column;
      row = rw here at legal.row;
      new = λ l earlier again. legal.new l earlier (same l (omega arith) ∙ again ∙ sym here);
      ascends = λ l next. rw (same l (omega arith), here) at (legal.ascends l next);
    }

-- a list of pixels without a repetition
abbrev pub Different : List Pixel → Type 0
Different t = (e l : ℕ) → e < l → l < length t → get_or t e origin ≡ get_or t l origin → ⊥

-- the pixels of a legal pattern are all different, and in range
pub pattern_different : (t : Pattern) → IsPattern t → Different (pixels t)
pattern_different t legal e l h k same =
    let k' : l < t.used = omega (arith, length_pixels t) in
    (legal.each l k').new e h
    (sym (get_d_pixels t e origin (omega arith)) ∙ same ∙ get_d_pixels t l origin k')

pub pattern_in_range : {v : Pixel} (t : Pattern) → IsPattern t → Memᴰ v (pixels t) → InRange v.column × InRange v.row
pattern_in_range {v} t legal m = at_position (mem_pixels t m)
  where
    at_position : (e : ℕ) × (e < t.used) × (pixel_at t e ≡ v) → InRange v.column × InRange v.row
    at_position (e, h, is) = (rw is at (legal.each e h).column, rw is at (legal.each e h).row)

-- so are those of each pattern of a legal book
pub different_in_book : (book : Book) (t : List Pixel) → Memᴰ t (patterns book) → IsBook book → Different t
different_in_book book t m legal =
    let (n, h, is) = mem_patterns book m in
    subst Different is (pattern_different (pattern_at book n) (legal.each n h))
