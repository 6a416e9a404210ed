-- Bytes that are taken: their counts are legal, and what the counts tell is there.
-- Assumes nothing.
use Prim.Native.Nat.{ℕ, ◌+◌, ◌*◌, ◌≤◌, ◌<◌}
use native.Mathlib.Numerals.{add-one}
use native.Mathlib.Omega.{arith}
use mathlib.Core.Path.{◌≡◌, refl, sym, ◌∙◌, ap}
use mathlib.Core.Option.{none}
use mathlib.Core.List.{List}
use lib.ListN.{length}
use Rattle.scope.specs.Books.{byte, start, pattern_from, pattern_of, book_in}
use Rattle.scope.specs.Numbers.{bytes_test}
use Rattle.scope.specs.promises.Meaning.{IsPattern}
use Rattle.book.proofs.Bytes.{pixel_in, pattern_in, next_start, start_after}
use Rattle.book.proofs.Reading.{FromTo, gathered_pattern_iff, gathered_book_iff, bytes_taken_iff}

-- From the place of one pattern's pixel count to the next.
pub step_to_next : {at : ℕ} (s : List ℕ) (n : ℕ) → at ≡ start s n → at + 1 + 2 * byte s at ≡ start s (n + 1)
step_to_next s n is = ap (λ i. i + 1 + 2 * byte s i) is ∙ sym (next_start s n) ∙ ap (start s) (sym (add-one n))

module _ (s : List ℕ) (taken : bytes_test s ≡ none) where
  counted : FromTo 16 (byte s 0) × ((n : ℕ) → n < byte s 0 → IsPattern (pattern_of (pattern_in s n)))
  unfolding book_in
  counted = (gathered_book_iff (byte s 0) (pattern_in s)).0 ((bytes_taken_iff s).0 taken).1

  -- at the place of pattern n's pixel count: n and the count are legal, and the count and its pixels are inside
  pub pattern_bounds :
      {at : ℕ} (n : ℕ) → at ≡ start s n → n < byte s 0
      → (n < 16) × (byte s at ≤ 64) × (at + 1 + 2 * byte s at ≤ length s)
  unfolding pattern_from
  pattern_bounds n is h = (
    omega (arith, counted.0),
    rw is ((gathered_pattern_iff (byte s (start s n)) (pixel_in s n)).0 (counted.1 n h)).0.1,
    rw is (omega (arith, start_after s n (byte s 0) h, next_start s n, ((bytes_taken_iff s).0 taken).0)),
  )

  -- and the pattern count is inside
  pub count_inside : 0 < length s
  count_inside = omega (arith, pattern_bounds 0 refl counted.0.0)
