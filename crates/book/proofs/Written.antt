-- The bytes written for a list of patterns are read as these patterns, and end where their counts say.
-- Assumes nothing.
use Prim.Native.Nat.{ℕ, suc, ◌+◌}
use native.Mathlib.Nat.{zero-add, add-zero, add-suc, suc-add}
use native.Mathlib.Omega.{arith}
use mathlib.Core.Path.{◌≡◌, refl, sym, ◌∙◌, ap, ap₂}
use mathlib.Core.List.{List, [], ◌∷◌, ◌++◌, flat_map, Memᴰ}
use lib.ListN.{length}
use Rattle.scope.specs.Search.{gather}
use Rattle.scope.specs.Plans.{Pixel, at}
use Rattle.scope.specs.Books.{byte, signed, unsigned, start, pixel_from, pattern_from, pixel_bytes, pattern_bytes}
use Rattle.scope.specs.promises.Meaning.{InRange}
use Rattle.checks.proofs.Lists.{append_assoc, append-nil}
use Rattle.checks.proofs.Patterns.{same_coordinates}
use Rattle.book.proofs.Bytes.{signed_unsigned, Rest, length_of_rest, first_of_rest, others_of_rest, pattern_in, patterns_in}
use Rattle.book.proofs.Bytes.{place, pixel_in, next_place, first_place_lem, last_place}

-- Both coordinates of a pixel are from -16 to 15, those of each pixel of a pattern, and of each pattern of a list.
abbrev PixelInRange : Pixel → Type 0
PixelInRange v = InRange v.column × InRange v.row

abbrev pub AllInRange : List Pixel → Type 0
AllInRange t = (v : Pixel) → Memᴰ v t → PixelInRange v

abbrev pub PatternsInRange : List (List Pixel) → Type 0
PatternsInRange ts = (t : List Pixel) → Memᴰ t ts → AllInRange t

-- If each item is read where its bytes stand, so are the items of a list, and what follows them stands at the place after.
items_at_rest :
    {A : Type 0} (s : List ℕ) (bytes : A → List ℕ) (item : ℕ → A) (at : ℕ → ℕ) (Legal : A → Type 0)
    → ((e : ℕ) (v : A) (xs : List ℕ) → Legal v → Rest s (at e) (bytes v ++ xs) → (item e ≡ v) × Rest s (at (suc e)) xs)
    → (vs : List A) (e : ℕ) (xs : List ℕ) → ((v : A) → Memᴰ v vs → Legal v) → Rest s (at e) (flat_map bytes vs ++ xs)
    → (gather e (length vs) item ≡ vs) × Rest s (at (e + length vs)) xs
unfolding flat_map gather
items_at_rest s bytes item at Legal each [] e xs h r = (refl, rw add-zero r)
items_at_rest {A} s bytes item at Legal each (v ∷ vs) e xs h r =
    let one = each e v (flat_map bytes vs ++ xs) (h v (Memᴰ.head refl)) (rw append_assoc at r) in
    let more = items_at_rest s bytes item at Legal each vs (suc e) xs (λ w m. h w (Memᴰ.tail m)) one.1 in
    (ap₂ {C = List A} ◌∷◌ one.0 more.0, rw (add-suc e (length vs), ← suc-add e (length vs)) more.1)

-- Pixels and patterns are read where their bytes stand.
module _ (s : List ℕ) where
  pub pixel_of_bytes :
      (n e x y : ℕ) (xs : List ℕ) → Rest s (place s n e) (x ∷ y ∷ xs)
      → (pixel_in s n e ≡ at (signed x) (signed y)) × Rest s (place s n (suc e)) xs
  unfolding pixel_from at
  pixel_of_bytes n e x y xs r =
      let second = others_of_rest (place s n e + 1) refl r in (
        same_coordinates (ap signed (first_of_rest r)) (ap signed (first_of_rest second)),
        others_of_rest (place s n (suc e)) (next_place s n e) second,
      )

  pixel_at_rest :
      (n e : ℕ) (v : Pixel) (xs : List ℕ) → PixelInRange v → Rest s (place s n e) (pixel_bytes v ++ xs)
      → (pixel_in s n e ≡ v) × Rest s (place s n (suc e)) xs
  unfolding pixel_bytes at
  pixel_at_rest n e v xs h r =
      let (is, after) = pixel_of_bytes n e (unsigned v.column) (unsigned v.row) xs r in
      (is ∙ same_coordinates (signed_unsigned v.column h.0) (signed_unsigned v.row h.1), after)

  pub pixels_at_rest :
      (n : ℕ) (t : List Pixel) (xs : List ℕ) → AllInRange t → Rest s (place s n 0) (flat_map pixel_bytes t ++ xs)
      → (gather 0 (length t) (pixel_in s n) ≡ t) × Rest s (place s n (0 + length t)) xs
  pixels_at_rest n t = items_at_rest s pixel_bytes (pixel_in s n) (place s n) PixelInRange (pixel_at_rest n) t 0

  pattern_at_rest :
      (n : ℕ) (t : List Pixel) (xs : List ℕ) → AllInRange t → Rest s (start s n) (pattern_bytes t ++ xs)
      → (pattern_in s n ≡ t) × Rest s (start s (suc n)) xs
  unfolding pattern_bytes pattern_from
  pattern_at_rest n t xs h r =
      let count = first_of_rest r in
      let more = pixels_at_rest n t xs h (others_of_rest (place s n 0) (first_place_lem s n) r) in
      (rw count more.0, rw (← last_place s n, count) (rw zero-add at more.1))

  pub patterns_at_rest :
      (ts : List (List Pixel)) (xs : List ℕ) → PatternsInRange ts → Rest s 1 (flat_map pattern_bytes ts ++ xs)
      → (gather 0 (length ts) (pattern_in s) ≡ ts) × Rest s (start s (0 + length ts)) xs
  unfolding start
  patterns_at_rest ts = items_at_rest s pattern_bytes (pattern_in s) (start s) AllInRange pattern_at_rest ts 0

-- The count and the bytes of each pattern.
abbrev pub bytes_of : List (List Pixel) → List ℕ
bytes_of ts = length ts ∷ flat_map pattern_bytes ts

after_count : (ts : List (List Pixel)) → Rest (bytes_of ts) 1 (flat_map pattern_bytes ts ++ [])
after_count ts = record { inside = omega arith; is = sym (append-nil (flat_map pattern_bytes ts)) }

module _ (ts : List (List Pixel)) (in_range : PatternsInRange ts) where
  all_at_rest : (patterns_in (bytes_of ts) ≡ ts) × Rest (bytes_of ts) (start (bytes_of ts) (length ts)) []
  unfolding byte
  all_at_rest =
      let all = patterns_at_rest (bytes_of ts) ts [] in_range (after_count ts) in
      (all.0, rw zero-add at all.1)

  -- the patterns read from them are these,
  pub written_patterns_are_read : patterns_in (bytes_of ts) ≡ ts
  written_patterns_are_read = all_at_rest.0

  -- and they end where their counts say
  pub written_bytes_end : start (bytes_of ts) (byte (bytes_of ts) 0) ≡ length (bytes_of ts)
  unfolding byte
  written_bytes_end =
      omega (arith, length_of_rest all_at_rest.1)
