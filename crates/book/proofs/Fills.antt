-- Arrays that a loop filled from the front, and the records of pixels and of patterns that they are.
-- Assumes nothing.
use Prim.Native.Nat.{ℕ, ◌≤◌, ◌<◌}
use native.Mathlib.Nat.{zero-add}
use native.Mathlib.Omega.{arith}
use native.Mathlib.Decide.{dec_lt}
use mathlib.Core.Path.{◌≡◌, sym, ◌∙◌, ap}
use mathlib.Core.List.{List, [], map}
use lib.IntN.{ℤ, pos}
use lib.ListN.{length, get_or, replicate, length-map, length-replicate, get_or-replicate, get_or-eq_default}
use Rattle.scope.specs.Search.{gather}
use Rattle.scope.specs.Plans.{Pixel}
use Rattle.scope.specs.Books.{filled, pattern_of, book_of}
use Rattle.scope.specs.declared.Pattern.{Pattern}
use Rattle.checks.proofs.Searches.{length_gather, get_d_gather}
use Rattle.checks.proofs.Lists.{get_d_map}
use Rattle.checks.proofs.FilledArrays.{Filled, gathered}

-- Places that held x, the first n of them filled by p of g 0, g 1, ..
module _ {A B : Type 0} (p : A → B) (g : ℕ → A) (x : B) (n : ℕ) where
  abbrev entries : List B
  entries = map p (gather 0 n g)

  entry_before : (k : ℕ) → k < n → get_or entries k x ≡ p (g k)
  entry_before k h =
      get_d_map p (gather 0 n g) k (g 0) x (omega (arith, length_gather 0 n g))
      ∙ ap p (get_d_gather 0 n g k (g 0) h ∙ ap g (zero-add k))

  entry_after : (k : ℕ) → n ≤ k → get_or entries k x ≡ x
  entry_after k h = get_or-eq_default entries x {n = k} (omega (arith, length-map (gather 0 n g) p, length_gather 0 n g))

  filled_array : (size : ℕ) {xs : List B} → Filled x (λ k. p (g k)) n (replicate size x) xs → xs ≡ filled size x entries
  unfolding filled
  filled_array size {xs} t = gathered x size _ xs same_size (λ k b. by_place k b (dec_lt k n))
    where
      same_size : length xs ≡ size
      same_size = t.size ∙ length-replicate size x

      by_place : (k : ℕ) → k < size → Dec (k < n) → get_or xs k x ≡ get_or entries k x
      by_place k b (yes h) = t.new k h (omega (arith, same_size)) ∙ sym (entry_before k h)
      by_place k b (no h) =
          t.old k (omega arith) ∙ get_or-replicate size k x x b ∙ sym (entry_after k (omega arith))

-- The record of the first n pixels, and that of the first n patterns.
pub pixels_filled :
    (v : ℕ → Pixel) (n : ℕ) {columns rows : List ℤ} → Filled (pos 0) (λ e. (v e).column) n (replicate 64 (pos 0)) columns
    → Filled (pos 0) (λ e. (v e).row) n (replicate 64 (pos 0)) rows
    → record { columns = columns; rows = rows; used = n } ≡ pattern_of (gather 0 n v)
unfolding pattern_of
pixels_filled v n i j =
    rw (
      filled_array (λ (w : Pixel). w.column) v (pos 0) n 64 i,
      filled_array (λ (w : Pixel). w.row) v (pos 0) n 64 j,
      length_gather 0 n v,
    )

pub patterns_filled :
    (t : ℕ → List Pixel) (n : ℕ) {patterns : List Pattern}
    → Filled (pattern_of []) (λ m. pattern_of (t m)) n (replicate 16 (pattern_of [])) patterns
    → record { patterns = patterns; count = n } ≡ book_of (gather 0 n t)
unfolding book_of
patterns_filled t n h = rw (filled_array pattern_of t (pattern_of []) n 16 h, length_gather 0 n t)
