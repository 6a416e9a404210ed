-- What the lists and tests of the definitions mean, in plain numbers, and that a legal call is never refused. Statements;
-- Promises.antt has them all. A small letter is a test that computes, as `is_plan`, a capital what it means, as `IsPlan`.
-- Assumes nothing.
use Rattle.std.specs.Prelude.{ℕ, suc, ◌*◌, ◌/◌, ◌≤◌, ◌<◌, ◌≡◌, ◌↔◌, true, ℤ, pos, negsuc, ◌+ℤ◌, length, get_or, ◌≤ℤ◌, ◌<ℤ◌}
use Rattle.std.proofs.Math.Option.{Option, none, some}
use mathlib.Core.List.{List, [], ◌∷◌, ◌++◌, Memᴰ}
use Rattle.integers.specs.Gcd.{Multiple}
use Rattle.scope.specs.Search.{first_of}
use Rattle.scope.specs.Plans.{Pixel, at, lower, minus, pixel_at, pattern_at, pixels, patterns, differences, banks, InLattice, lattice_test, suits, suits_all, determinant, determinant_size, normal_form}
use Rattle.scope.specs.Banks.{bank_of, address_of, depth_of, pixel_of, inside}
use Rattle.scope.specs.Books.{book_bytes}
use Rattle.scope.specs.Cycles.{suits_for}
use Rattle.scope.specs.Numbers.{value, of_result, record_test, limit_test, cycles_test, dependent_test, large_test, suits_test, plan_test, sides_test, memory_test, sums_test, outside_test, bank_test, cell_test, output_test, number_test, ring_test}
use Rattle.scope.specs.Calls.{Size, record_outcome, write_book, normal, bank, depth, address, moved}
use Rattle.scope.specs.declared.Plan.{Plan}
use Rattle.scope.specs.declared.Pattern.{Pattern}
use Rattle.scope.specs.declared.Book.{Book}
use Rattle.scope.specs.declared.Refusal.{Refusal}

-- "A plan is a, b, d with a and d at least 1, 0 ≤ b < a, and a × d at most 1024."
pub record IsPlan (p : Plan) : Type 0 where
  pub a_least : 1 ≤ p.a
  pub d_least : 1 ≤ p.d
  pub b_below : p.b < p.a
  pub most : p.a * p.d ≤ 1024

-- "width W and height H, each 1 to 4096"
abbrev pub IsSide : ℕ → Type 0
IsSide n = (1 ≤ n) × (n ≤ 4096)

-- "its pixels from (0, 0) to (W-1, H-1)"
pub record Inside (W H : ℕ) (v : Pixel) : Type 0 where
  pub i : ℕ
  pub j : ℕ
  pub column : v.column ≡ pos i
  pub row : v.row ≡ pos j
  pub i_below : i < W
  pub j_below : j < H

abbrev pub AllInside : ℕ → ℕ → List Pixel → Type 0
AllInside W H vs = (v : Pixel) → Memᴰ v vs → Inside W H v

-- a plan, a picture and a memory that is long enough
pub record IsPicture (p : Plan) (W H words : ℕ) : Type 0 where
  pub plan : IsPlan p
  pub w_side : IsSide W
  pub h_side : IsSide H
  pub memory : banks p * depth_of p W H ≤ words

-- Document 02, Card 6: with sums that are long enough too
pub record IsLent (p : Plan) (W H : ℕ) (s : Size) : Type 0 where
  pub picture : IsPicture p W H s.words
  pub sums : banks p ≤ s.entries

-- "each coordinate from -16 to 15"
abbrev pub InRange : ℤ → Type 0
InRange z = (negsuc 15 ≤ℤ z) × (z ≤ℤ pos 15)

-- Document 02, Card 3: "ascend by row, then column". p is lower in that order than q: its row is less, or the rows are the same
-- and its column is less
pub data Lower (p q : Pixel) : Type 0 where
  by_row : p.row <ℤ q.row → Lower p q
  by_column : p.row ≡ q.row → p.column <ℤ q.column → Lower p q

-- "different pixels, each coordinate from -16 to 15", and "Pixels in a pattern now ascend": the pixel at position e is a legal
-- one after those before it
pub record PixelLegal (pixel : ℕ → Pixel) (e : ℕ) : Type 0 where
  pub column : InRange (pixel e).column
  pub row : InRange (pixel e).row
  pub new : (l : ℕ) → l < e → pixel l ≡ pixel e → ⊥
  pub ascends : (l : ℕ) → suc l ≡ e → Lower (pixel l) (pixel e)

-- "A pattern is 1 to 64 different pixels"
pub record IsPattern (t : Pattern) : Type 0 where
  pub least : 1 ≤ t.used
  pub most : t.used ≤ 64
  pub each : (e : ℕ) → e < t.used → PixelLegal (pixel_at t) e

-- "A book has 1 to 16 patterns, numbered from 0."
pub record IsBook (book : Book) : Type 0 where
  pub least : 1 ≤ book.count
  pub most : book.count ≤ 16
  pub each : (n : ℕ) → n < book.count → IsPattern (pattern_at book n)

-- Document 02, Card 4: "r from 1 to 8"
abbrev pub IsCycles : ℕ → Type 0
IsCycles r = (1 ≤ r) × (r ≤ 8)

-- "they are independent if their determinant isn't 0"
abbrev pub Independent : Pixel → Pixel → Type 0
Independent x y = determinant x y ≡ pos 0 → ⊥

-- The lists that the promises speak of, entry by entry.
pub record PatternsAre : Type 0 where
  pub count : (book : Book) → length (patterns book) ≡ book.count
  pub each : (book : Book) (n : ℕ) → n < book.count → get_or (patterns book) n [] ≡ pixels (pattern_at book n)
  pub size : (t : Pattern) → length (pixels t) ≡ t.used
  pub pixel : (t : Pattern) (e : ℕ) → e < t.used → get_or (pixels t) e (at (pos 0) (pos 0)) ≡ pixel_at t e
  -- "A difference is p - q for two different pixels p, q of the same pattern."
  pub difference :
      (t : List Pixel) (v : Pixel)
      → Memᴰ v (differences t)
      ↔ ((p : Pixel) × (q : Pixel) × Memᴰ p t × Memᴰ q t × (p ≡ q → ⊥) × (v ≡ minus p q))
  -- a plan suits a book if it suits each pattern
  pub suits_each : (p : Plan) (ts : List (List Pixel)) → (suits_all p ts ≡ true) ↔ ((t : List Pixel) → Memᴰ t ts → suits p t ≡ true)
  -- "a pattern with (0, 0) moved to a signed 16-bit position"
  pub moved_size : (t : Pattern) (o : Pixel) → length (moved t o) ≡ t.used
  pub moved_pixel :
      (t : Pattern) (o : Pixel) (e : ℕ) → e < t.used
      → get_or (moved t o) e (at (pos 0) (pos 0)) ≡ at (o.column +ℤ (pixel_at t e).column) (o.row +ℤ (pixel_at t e).row)

-- "Pixel (i, j) is in the lattice exactly if d divides j and a divides i - b × (j/d)."
abbrev pub LatticeMeans : Type 0
LatticeMeans = (p : Plan) → 1 ≤ p.a → 1 ≤ p.d → (v : Pixel) → (lattice_test p v ≡ true) ↔ InLattice p v

-- a plan suits a pattern exactly if no two different pixels of it differ by a combination
abbrev pub SuitsMeans : Type 0
SuitsMeans =
    (p : Plan) → 1 ≤ p.a → 1 ≤ p.d → (t : List Pixel)
    → (suits p t ≡ true) ↔ ((v w : Pixel) → Memᴰ v t → Memᴰ w t → (v ≡ w → ⊥) → InLattice p (minus v w) → ⊥)

-- the test of the order by row, then column
abbrev pub LowerMeans : Type 0
LowerMeans = (p q : Pixel) → (lower p q ≡ true) ↔ Lower p q

abbrev pub InsideMeans : Type 0
InsideMeans = (W H : ℕ) (v : Pixel) → (inside W H v ≡ true) ↔ Inside W H v

-- Document 02, Card 5: a ring fetch is allowed exactly if "a divides W, d divides H, and a divides b × (H/d)". (That (W, 0) and (0, H)
-- are then in the lattice: RingKeepsBanks.)
pub record RingAllowed (p : Plan) (W H : ℕ) : Type 0 where
  pub w_multiple : Multiple p.a W
  pub h_multiple : Multiple p.d H
  pub shift_multiple : Multiple p.a (p.b * (H / p.d))

-- a chain of tests gives the first refusal whose condition holds, and none exactly where no condition holds
pub record ChainIsFirst : Type 0 where
  pub none_holds : (tests : List (Option Refusal)) → (first_of tests ≡ none) ↔ ((t : Option Refusal) → Memᴰ t tests → t ≡ none)
  pub first_holds : (before after : List (Option Refusal)) (r : Refusal) → first_of before ≡ none → first_of (before ++ (some r ∷ after)) ≡ some r

-- For each number but 1 and 5 (BytesMean, ReaderRefuses) and 7 (FinderNone), its test finds nothing exactly where the condition
-- does not hold. (That it then gives that number: RefusalPromises.antt.)
pub record TestsMean : Type 0 where
  pub book_2_3_4_19 : (book : Book) → (record_test book ≡ none) ↔ IsBook book
  pub limit_6 : (limit : ℕ) → (limit_test limit ≡ none) ↔ ((1 ≤ limit) × (limit ≤ 1024))
  pub dependent_8 : (x y : Pixel) → (dependent_test x y ≡ none) ↔ Independent x y
  pub large_9 : (x y : Pixel) → (large_test x y ≡ none) ↔ (determinant_size x y ≤ 1024)
  pub suits_10 :
      (r : ℕ) (t : Pattern) (p : Plan) (n : ℕ) → IsPlan p → (suits_test r p n t ≡ none) ↔ (suits_for r p (pixels t) ≡ true)
  pub plan_11 : (p : Plan) → (plan_test p ≡ none) ↔ IsPlan p
  pub sides_12 : (W H : ℕ) → (sides_test W H ≡ none) ↔ (IsSide W × IsSide H)
  pub memory_13 : (p : Plan) (W H words : ℕ) → (memory_test p W H words ≡ none) ↔ (banks p * depth_of p W H ≤ words)
  pub sums_13 : (p : Plan) (entries : ℕ) → (sums_test p entries ≡ none) ↔ (banks p ≤ entries)
  pub outside_14 : (W H : ℕ) (vs : List Pixel) → (outside_test W H vs ≡ none) ↔ AllInside W H vs
  pub bank_15 : (p : Plan) (k : ℕ) → (bank_test p k ≡ none) ↔ (k < banks p)
  pub cell_15 : (p : Plan) (W H k i : ℕ) → (cell_test p W H k i ≡ none) ↔ ((k < banks p) × (i < depth_of p W H) × Inside W H (pixel_of p W H k i))
  pub output_16 : (n room : ℕ) → (output_test n room ≡ none) ↔ (n ≤ room)
  pub number_17 : (count n : ℕ) → (number_test count n ≡ none) ↔ (n < count)
  pub ring_18 : (p : Plan) (W H : ℕ) → IsPlan p → (ring_test p W H ≡ none) ↔ RingAllowed p W H
  pub cycles_20 : (r : ℕ) → (cycles_test r ≡ none) ↔ IsCycles r

-- A legal call is never refused: the test of a record, the writer, and plans. (The finder and the check: PlanPromises; calls on
-- a picture: PicturePromises; the reader and a pattern's part: BookPromises, BytesMean and PartsAre.)
pub record LegalCallsAnswer : Type 0 where
  -- "A call given a book record tests 2, 3, 4", and 19: that test by itself
  pub record_outcome_lem : (book : Book) → IsBook book → of_result (record_outcome book) ≡ value tt
  pub write :
      (book : Book) (out : List ℕ) → IsBook book → length (book_bytes book) ≤ length out
      → of_result (write_book book out).answer ≡ value (length (book_bytes book))
  pub normal_form_lem : (x y : Pixel) → Independent x y → determinant_size x y ≤ 1024 → of_result (normal x y) ≡ value (normal_form x y)
  pub bank_is : (p : Plan) (v : Pixel) → IsPlan p → of_result (bank p v) ≡ value (bank_of p v)
  pub depth_is : (p : Plan) (W H : ℕ) → IsPlan p → IsSide W → IsSide H → of_result (depth p W H) ≡ value (depth_of p W H)
  pub address_is :
      (p : Plan) (W H : ℕ) (v : Pixel) → IsPlan p → IsSide W → IsSide H → Inside W H v
      → of_result (address p W H v) ≡ value (address_of p W H v)
