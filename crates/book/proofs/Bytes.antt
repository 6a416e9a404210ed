-- A book's bytes: a byte and its number, the bytes from a place on, and that bytes which end where their counts say are
-- the count and the bytes of the patterns read from them.
-- Assumes nothing.
use Prim.Native.Nat.{ℕ, zero, suc, ◌+◌, ◌*◌, ◌-◌, ◌%◌, ◌≤◌, ◌<◌}
use native.Mathlib.Nat.{zero-add, add-zero, add-suc, suc-add}
use native.Mathlib.Omega.{arith}
use native.Mathlib.Decide.{dec_lt, ℕ_discrete}
use mathlib.Core.Path.{◌≡◌, refl, sym, ◌∙◌, ap}
use mathlib.Core.List.{List, [], ◌∷◌, ◌++◌, flat_map}
use borrow.Author.Tests.{lt-ltb, le-ltb}
use lib.Dec.{leb→le}
use lib.IntN.{ℤ, pos, negsuc, ◌-ℤ◌}
use lib.ListN.{length, get_or, take, drop, length-append, length-drop, drop_of_length-le}
use lib.Seq.{drop-cons, take_at}
use Rattle.integers.specs.Division.{floor_mod}
use Rattle.integers.proofs.Divisions.{remainder_is, remainder_of_small}
use Rattle.integers.proofs.Ring.{ring, reify}
use Rattle.integers.proofs.Order.{eq_by}
use Rattle.scope.specs.Search.{gather}
use Rattle.scope.specs.Plans.{Pixel}
use Rattle.scope.specs.Books.{byte, signed, unsigned, start, pixel_from, pattern_from, part_in, pixel_bytes, pattern_bytes}
use Rattle.scope.specs.promises.Meaning.{InRange}
use Rattle.scope.specs.promises.BookPromises.{TwosComplement, Bytes}
use Rattle.checks.proofs.Searches.{length_gather}
use Rattle.checks.proofs.Lists.{append_assoc, append-nil, length_flat_map}

-- A byte below 128 is its own number, and one from 128 on stands for 256 less.
signed_of_low : (n : ℕ) → n < 128 → signed n ≡ pos n
unfolding signed
signed_of_low n h = rw (lt-ltb n 128 h)

signed_of_high : (n : ℕ) → 128 ≤ n → signed n ≡ pos n -ℤ pos 256
unfolding signed
signed_of_high n h = rw (le-ltb n 128 h)

-- The byte of a byte's number is the byte.
unsigned_signed : (n : ℕ) → n < 256 → unsigned (signed n) ≡ n
unfolding unsigned
unsigned_signed n h = by_test (dec_lt n 128)
  where
    by_test : Dec (n < 128) → floor_mod (signed n) 256 ≡ n
    by_test (yes k) = ap (λ z. floor_mod z 256) (signed_of_low n k) ∙ remainder_of_small 256 (omega arith) n h
    by_test (no k) =
        ap (λ z. floor_mod z 256) (signed_of_high n (omega arith))
        ∙ remainder_is 256 (omega arith) (pos n -ℤ pos 256) (negsuc 0) n h
        (ring (pos n ∷ []) (search reify depth 40 fits 9000) refl)

-- So bytes are 8-bit two's complement.
pub twos_complement : TwosComplement
twos_complement = record { low = signed_of_low; high = λ n least below. signed_of_high n least; back = unsigned_signed }

-- The number of the byte of a coordinate is the coordinate.
pub signed_unsigned : (z : ℤ) → InRange z → signed (unsigned z) ≡ z
unfolding unsigned floor_mod
signed_unsigned (pos n) h =
    let low : n ≤ 15 = leb→le n 15 h.1.le in
    let same : n % 256 ≡ n = omega arith in
    ap signed same ∙ signed_of_low n (omega arith)
signed_unsigned (negsuc n) h =
    let low : n ≤ 15 = leb→le n 15 h.0.le in
    let same : n % 256 ≡ n = omega arith in
    ap (λ m. signed (256 - suc m)) same
    ∙ signed_of_high (256 - suc n) (omega arith)
    ∙ eq_by (pos (256 - suc n) ∷ negsuc n ∷ []) (search reify depth 40) (omega arith)

-- From place i on the bytes are xs.
pub record Rest (s : List ℕ) (i : ℕ) (xs : List ℕ) : Type 0 where
  pub inside : i ≤ length s
  pub is : drop i s ≡ xs

-- They are all that is not before the place.
pub length_of_rest : {s : List ℕ} {i : ℕ} {xs : List ℕ} → Rest s i xs → length s ≡ i + length xs
length_of_rest {s} {i} r = omega (arith, r.inside, ap length r.is, length-drop i s)

-- The byte at the place is the first of them, and from the next place on they are the others.
pub first_of_rest : {s : List ℕ} {i x : ℕ} {xs : List ℕ} → Rest s i (x ∷ xs) → byte s i ≡ x
unfolding byte
first_of_rest {s} {i} r = cc (drop-cons s i 0 (omega (arith, length_of_rest r)))

pub others_of_rest : {s : List ℕ} {i x : ℕ} {xs : List ℕ} (j : ℕ) → j ≡ i + 1 → Rest s i (x ∷ xs) → Rest s j xs
others_of_rest {s} {i} {xs} j next r =
    let below : i < length s = omega (arith, length_of_rest r) in
    let same : j ≡ suc i = omega arith in
    let after : drop (suc i) s ≡ xs = cc (drop-cons s i 0 below) in
    record { inside = omega arith; is = rw same after }

-- One place earlier the byte there comes first.
one_before : {s : List ℕ} {j : ℕ} {xs : List ℕ} (i : ℕ) → j ≡ i + 1 → Rest s j xs → Rest s i (byte s i ∷ xs)
unfolding byte
one_before {s} {j} {xs} i next r =
    let same : j ≡ suc i = omega arith in
    let after : drop (suc i) s ≡ xs = rw same at r.is in
    record { inside = omega arith; is = drop-cons s i 0 (omega arith) ∙ ap {B = List ℕ} (λ ys. get_or s i 0 ∷ ys) after }

-- Pattern n of a book's bytes: the place of its pixel at position e, that pixel, and all of them; and all patterns.
abbrev pub place : List ℕ → ℕ → ℕ → ℕ
place s n e = start s n + 1 + 2 * e

abbrev pub pixel_in : List ℕ → ℕ → ℕ → Pixel
pixel_in s n = pixel_from s (start s n + 1)

abbrev pub pattern_in : List ℕ → ℕ → List Pixel
pattern_in s n = pattern_from s (start s n)

abbrev pub patterns_in : List ℕ → List (List Pixel)
patterns_in s = gather 0 (byte s 0) (pattern_in s)

length_pixel_bytes : (s : List ℕ) (n : ℕ) → length (flat_map pixel_bytes (pattern_in s n)) ≡ 2 * byte s (start s n)
unfolding pixel_bytes pattern_from
length_pixel_bytes s n =
    omega (arith, length_flat_map pixel_bytes 2 (λ v. refl) (pattern_in s n), length_gather 0 (byte s (start s n)) (pixel_in s n))

-- How the places follow each other.
pub next_place : (s : List ℕ) (n e : ℕ) → place s n (suc e) ≡ place s n e + 1 + 1
next_place s n e = omega arith

pub first_place_lem : (s : List ℕ) (n : ℕ) → place s n 0 ≡ start s n + 1
first_place_lem s n = omega arith

pub last_place : (s : List ℕ) (n : ℕ) → place s n (byte s (start s n)) ≡ start s (suc n)
unfolding start
last_place s n = omega arith

pub next_start : (s : List ℕ) (n : ℕ) → start s (suc n) ≡ start s n + 1 + 2 * byte s (start s n)
unfolding start
next_start s n = refl

-- A pattern ends before those after it begin.
pub start_after : (s : List ℕ) (n c : ℕ) → n < c → start s (suc n) ≤ start s c
start_after s n zero h = absurd (omega arith)
start_after s n (suc c) h = by_order (ℕ_discrete n c) (start_after s n c)
  where
    by_order : Dec (n ≡ c) → (n < c → start s (suc n) ≤ start s c) → start s (suc n) ≤ start s (suc c)
    by_order (yes e) before = rw e (omega arith)
    by_order (no e) before = omega (arith, before (omega arith), next_start s c)

-- A pattern begins after the bytes of those before it.
pub start_is_length :
    (s : List ℕ) (u e : ℕ) → start s (e + u) ≡ start s e + length (flat_map pattern_bytes (gather e u (pattern_in s)))
unfolding flat_map gather pattern_bytes pattern_from
start_is_length s zero e = ap (start s) (add-zero e) ∙ sym (add-zero (start s e))
start_is_length s (suc u) e =
    ap (start s) (add-suc e u ∙ sym (suc-add e u))
    ∙ omega (
      arith,
      start_is_length s u (suc e),
      next_start s e,
      length_pixel_bytes s e,
      length-append (pattern_bytes (pattern_in s e)) (flat_map pattern_bytes (gather (suc e) u (pattern_in s))),
    )

-- If each item has its bytes between its place and the next, so have the items of a range.
items_before :
    {A : Type 0} (s : List ℕ) (bytes : A → List ℕ) (item : ℕ → A) (at : ℕ → ℕ)
    → ((e : ℕ) (xs : List ℕ) → Rest s (at (suc e)) xs → Rest s (at e) (bytes (item e) ++ xs))
    → (u e : ℕ) (xs : List ℕ) → Rest s (at (e + u)) xs → Rest s (at e) (flat_map bytes (gather e u item) ++ xs)
unfolding flat_map gather
items_before s bytes item at each zero e xs r = rw add-zero at r
items_before s bytes item at each (suc u) e xs r =
    let after = items_before s bytes item at each u (suc e) xs (rw (add-suc e u, ← suc-add e u) at r) in
    rw append_assoc (each e (flat_map bytes (gather (suc e) u item) ++ xs) after)

-- What stands before a place is the bytes of the pixels and patterns read there.
module _ (s : List ℕ) (small : Bytes s) where
  pixel_before : (n e : ℕ) (xs : List ℕ) → Rest s (place s n (suc e)) xs → Rest s (place s n e) (pixel_bytes (pixel_in s n e) ++ xs)
  unfolding pixel_bytes pixel_from
  pixel_before n e xs r =
      rw (unsigned_signed (byte s (place s n e)) (small _), unsigned_signed (byte s (place s n e + 1)) (small _))
      (one_before (place s n e) refl (one_before (place s n e + 1) (next_place s n e) r))

  pixels_before :
      (n : ℕ) (xs : List ℕ) → Rest s (start s (suc n)) xs → Rest s (place s n 0) (flat_map pixel_bytes (pattern_in s n) ++ xs)
  unfolding pattern_from
  pixels_before n xs r =
      items_before s pixel_bytes (pixel_in s n) (place s n) (pixel_before n) (byte s (start s n)) 0 xs (rw (zero-add, last_place) r)

  pattern_before : (n : ℕ) (xs : List ℕ) → Rest s (start s (suc n)) xs → Rest s (start s n) (pattern_bytes (pattern_in s n) ++ xs)
  unfolding pattern_bytes pattern_from
  pattern_before n xs r = rw length_gather (one_before (start s n) (first_place_lem s n) (pixels_before n xs r))

  patterns_before :
      (c : ℕ) (xs : List ℕ) → Rest s (start s c) xs → Rest s 1 (flat_map pattern_bytes (gather 0 c (pattern_in s)) ++ xs)
  unfolding start
  patterns_before c xs r = items_before s pattern_bytes (pattern_in s) (start s) pattern_before c 0 xs (rw zero-add r)

  -- bytes that end where their counts say are the count and the bytes of the patterns
  pub bytes_are_of_patterns : start s (byte s 0) ≡ length s → byte s 0 ∷ flat_map pattern_bytes (patterns_in s) ≡ s
  bytes_are_of_patterns e =
      let end : ℕ = start s (byte s 0) in
      let over : Rest s end [] = record { inside = omega arith; is = drop_of_length-le s {i = end} (omega arith) } in
      let whole = one_before 0 refl (patterns_before (byte s 0) [] over) in
      sym (whole.is ∙ ap {B = List ℕ} (λ ys. byte s 0 ∷ ys) (append-nil (flat_map pattern_bytes (patterns_in s))))

  -- a pattern's part is the bytes of its pixels, if the bytes go on to its end
  pub part_is_pixel_bytes : (n : ℕ) → start s (suc n) ≤ length s → part_in s n ≡ flat_map pixel_bytes (pattern_in s n)
  unfolding part_in
  part_is_pixel_bytes n h =
      let u : ℕ = byte s (start s n) in
      let over : Rest s (start s (suc n)) (drop (start s (suc n)) s) = record { inside = h; is = refl } in
      ap (λ i. take (2 * u) (drop i s)) (sym (first_place_lem s n))
      ∙ ap (take (2 * u)) (pixels_before n (drop (start s (suc n)) s) over).is
      ∙ take_at (flat_map pixel_bytes (pattern_in s n)) (drop (start s (suc n)) s) (2 * u) (length_pixel_bytes s n)
