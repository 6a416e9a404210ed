-- Document 01, "Numbers for what is turned down": the number and the place of every refusal, what an answer says in
-- this paper's numbers and values, and the table's conditions. Calls.antt has the order in which a call tests them.
-- Assumes nothing.
use Rattle.std.specs.Prelude.{ℕ, zero, suc, ◌+◌, ◌*◌, ◌/◌, ◌%◌, Bool, false, not, ◌&&◌, ◌||◌, List, [], ◌∷◌, leb, ltb, eqb, ℤ, pos, negsuc, length, take, replicate, Result, Ok, Err}
use Rattle.std.proofs.Math.Option.{Option, none, some}
use Rattle.scope.specs.Search.{first, whenever, first_of, every, some_below}
use Rattle.scope.specs.Plans.{Pixel, same_pixel, lower, pixel_at, pattern_at, pixels, banks, is_plan, determinant_size}
use Rattle.scope.specs.Cycles.{LongClash, lengthened, shortened, clash_in_for}
use Rattle.scope.specs.Banks.{inside, depth_of, pixel_of, over_start}
use Rattle.scope.specs.Books.{byte, start, pixel_from}
use Rattle.scope.specs.declared.Plan.{Plan}
use Rattle.scope.specs.declared.Pattern.{Pattern}
use Rattle.scope.specs.declared.Book.{Book}
use Rattle.scope.specs.declared.Refusal.{Refusal}
use Rattle.scope.specs.declared.Refusal.TheVariants.{Ends, Count, Coordinate, Repeat, Extra, Limit, NoPlan, Dependent, Large, Unsuited, NotPlan, Sides, Memory, Outside, Cell, Output, NoPattern, Ring, Lower, Cycles}
use Rattle.scope.specs.declared.Checked.{Checked}
use Rattle.scope.specs.declared.Verdict.{Verdict}
use Rattle.scope.specs.declared.CheckAnswer.{CheckAnswer}
use Rattle.scope.specs.declared.FetchAnswer.{FetchAnswer}

-- The column "No." of the table, the place and the clash. "The place is a byte offset for 1 to 5 where the call was given
-- a book's bytes [..]. It is 0 elsewhere. 10 also carries its clash." Document 02, Card 3: 19, "its place in a book's bytes
-- being the pixel's first byte"; Card 4: 20
abbrev pub row_of : Refusal → ℕ × ℕ × Option LongClash
row_of (Ends i) = (1, i, none)
row_of (Count i) = (2, i, none)
row_of (Coordinate i) = (3, i, none)
row_of (Repeat i) = (4, i, none)
row_of (Extra i) = (5, i, none)
row_of Limit = (6, 0, none)
row_of NoPlan = (7, 0, none)
row_of Dependent = (8, 0, none)
row_of Large = (9, 0, none)
row_of (Unsuited c) = (10, 0, some (lengthened c))
row_of NotPlan = (11, 0, none)
row_of Sides = (12, 0, none)
row_of Memory = (13, 0, none)
row_of Outside = (14, 0, none)
row_of Cell = (15, 0, none)
row_of Output = (16, 0, none)
row_of NoPattern = (17, 0, none)
row_of Ring = (18, 0, none)
row_of (Lower i) = (19, i, none)
row_of Cycles = (20, 0, none)

abbrev pub number_of : Refusal → ℕ
number_of r = (row_of r).0

abbrev pub place_of : Refusal → ℕ
place_of r = (row_of r).1

abbrev pub clash_of : Refusal → Option LongClash
clash_of r = (row_of r).2

-- An answer in this paper's terms: a value, or a refusal's number, place and clash.
pub data Answer (A : Type 0) : Type 0 where
  value : A → Answer A
  refusal : (number place : ℕ) → Option LongClash → Answer A

abbrev pub turned_down : {A : Type 0} → Refusal → Answer A
turned_down r = refusal (number_of r) (place_of r) (clash_of r)

-- what each case of a call's answer is in these terms
abbrev pub of_result : {A : Type 0} → Result A Refusal → Answer A
of_result (Ok x) = value x
of_result (Err r) = turned_down r

abbrev pub of_located : Result (ℤ × ℤ) Refusal → Answer Pixel
of_located (Ok v) = value (record { column = v.0; row = v.1 })
of_located (Err r) = turned_down r

-- a verdict's clash is number 10
abbrev pub of_verdict : Verdict → Answer Checked
of_verdict (Verdict.Suits c) = value c
of_verdict (Verdict.Clashes c) = turned_down (Unsuited c)
of_verdict (Verdict.Refused r) = turned_down r

-- Document 02, Card 4: "the r + 1 ascending positions" of a clash stand beside the enum in nine places, then 0; all are 0 without one
unfoldable pub places : Option LongClash → List ℕ
unfolding over_start
places none = replicate 9 0
places (some c) = over_start c.positions (replicate 9 0)

-- an answer's clash with these positions
abbrev pub with_positions : {A : Type 0} → List ℕ → Answer A → Answer A
with_positions es (value x) = value x
with_positions es (refusal n i none) = refusal n i none
with_positions es (refusal n i (some c)) = refusal n i (some (record { pattern = c.pattern; positions = es }))

-- what a check for r, a fetch for r and the cycles for r are in these terms: a clash has the first r + 1 of the places
abbrev pub of_check : ℕ → CheckAnswer → Answer Checked
of_check r a = with_positions (take (suc r) a.positions) (of_verdict a.verdict)

abbrev pub of_fetch : ℕ → FetchAnswer → Answer ℕ
of_fetch r a = with_positions (take (suc r) a.positions) (of_result a.counted)

-- The conditions. 2: "pattern count not 1-16 or pixel count not 1-64"
unfoldable pub count_test : ℕ → ℕ → ℕ → Option Refusal
unfolding whenever
count_test most n i = whenever (not (leb 1 n && leb n most)) (Count i)

-- -16 ≤ z ≤ 15; `negsuc n` is -(n + 1)
unfoldable pub small : ℤ → Bool
small (pos n) = leb n 15
small (negsuc n) = leb (suc n) 16

-- position e has a pixel that an earlier position of the pattern has
unfoldable pub repeats : (ℕ → Pixel) → ℕ → Bool
unfolding some_below same_pixel
repeats pixel e = some_below e λ l. same_pixel (pixel l) (pixel e)

-- 19 (document 02, Card 3): "a pixel lower in that order than the one before it"; position 0 has none before it
unfoldable pub falls : (ℕ → Pixel) → ℕ → Bool
unfolding lower
falls pixel zero = false
falls pixel (suc e) = lower (pixel (suc e)) (pixel e)

-- 3, 4 and 19: "its column, its row, then repetition are tested", and 19 is "tested after 4 wherever a book is taken"; i and j
-- are the places of column and row
unfoldable pub pixel_test : ℕ → ℕ → (ℕ → Pixel) → ℕ → Option Refusal
unfolding first_of whenever small repeats falls
pixel_test i j pixel e =
    first_of
    (whenever (not (small (pixel e).column)) (Coordinate i)
    ∷ whenever (not (small (pixel e).row)) (Coordinate j)
    ∷ whenever (repeats pixel e) (Repeat i)
    ∷ whenever (falls pixel e) (Lower i)
    ∷ [])

-- "A call given a book record tests 2, 3, 4 in book order", and 19 after 4; the place is 0
unfoldable pub pattern_test : Pattern → Option Refusal
unfolding first_of first count_test pixel_test pixel_at
pattern_test t = first_of (count_test 64 t.used 0 ∷ first 0 t.used (pixel_test 0 0 (pixel_at t)) ∷ [])

unfoldable pub record_test : Book → Option Refusal
unfolding first_of first count_test pattern_test pattern_at
record_test book =
    first_of (count_test 16 book.count 0 ∷ first 0 book.count (λ n. pattern_test (pattern_at book n)) ∷ [])

-- "A book is read left to right: a count is tested when reached"; 1: "book ends early", at the book's length
unfoldable pub count_read : List ℕ → ℕ → ℕ → Option Refusal
unfolding first_of whenever count_test byte
count_read s most i = first_of (whenever (leb (length s) i) (Ends (length s)) ∷ count_test most (byte s i) i ∷ [])

-- "both bytes of a pixel must be there before its column, its row, then repetition are tested", and then its order: the pixel
-- at position e of those that begin at place i
unfoldable pub pixel_read : List ℕ → ℕ → ℕ → Option Refusal
unfolding first_of whenever pixel_test pixel_from
pixel_read s i e =
    first_of
    (whenever (ltb (length s) (i + 2 * e + 2)) (Ends (length s))
    ∷ pixel_test (i + 2 * e) (i + 2 * e + 1) (pixel_from s i) e
    ∷ [])

-- the pattern whose pixel count is at place i
unfoldable pub pattern_read : List ℕ → ℕ → Option Refusal
unfolding first_of first count_read pixel_read byte
pattern_read s i = first_of (count_read s 64 i ∷ first 0 (byte s i) (pixel_read s (i + 1)) ∷ [])

-- 5: "bytes after the last pattern", at the first extra byte
unfoldable pub extra_test : List ℕ → Option Refusal
unfolding whenever start byte
extra_test s = whenever (ltb (start s (byte s 0)) (length s)) (Extra (start s (byte s 0)))

unfoldable pub bytes_test : List ℕ → Option Refusal
unfolding first_of first count_read pattern_read extra_test byte start
bytes_test s =
    first_of (count_read s 16 0 ∷ first 0 (byte s 0) (λ n. pattern_read s (start s n)) ∷ extra_test s ∷ [])

-- 6: "limit not 1-1024"
unfoldable pub limit_test : ℕ → Option Refusal
unfolding whenever
limit_test limit = whenever (not (leb 1 limit && leb limit 1024)) Limit

-- 8: "determinant 0"; 9: "determinant's size above 1024"
unfoldable pub dependent_test : Pixel → Pixel → Option Refusal
unfolding whenever determinant_size
dependent_test x y = whenever (eqb (determinant_size x y) 0) Dependent

unfoldable pub large_test : Pixel → Pixel → Option Refusal
unfolding whenever determinant_size
large_test x y = whenever (ltb 1024 (determinant_size x y)) Large

-- 20 (document 02, Card 4): "r outside 1 to 8"
unfoldable pub cycles_test : ℕ → Option Refusal
unfolding whenever
cycles_test r = whenever (not (leb 1 r && leb r 8)) Cycles

-- 10: "plan doesn't suit", for the pattern t with number n; Card 4: "turned down by 10 only where a class exceeds r"
unfoldable pub suits_test : ℕ → Plan → ℕ → Pattern → Option Refusal
unfolding clash_in_for pixels shortened
suits_test r p n t = elim (clash_in_for r p n (pixels t)) [ none ↦ none | some c ↦ some (Unsuited (shortened c)) ]

-- 11: "not a plan as defined"
unfoldable pub plan_test : Plan → Option Refusal
unfolding whenever is_plan
plan_test p = whenever (not (is_plan p)) NotPlan

-- 12: "W or H not 1-4096"
unfoldable pub is_side : ℕ → Bool
is_side n = leb 1 n && leb n 4096

unfoldable pub sides_test : ℕ → ℕ → Option Refusal
unfolding whenever is_side
sides_test W H = whenever (not (is_side W && is_side H)) Sides

-- 13: "memory shorter than N × depth"
unfoldable pub memory_test : Plan → ℕ → ℕ → ℕ → Option Refusal
unfolding whenever banks depth_of
memory_test p W H words = whenever (ltb words (banks p * depth_of p W H)) Memory

-- 13 too (document 02, Card 6): "A sums buffer shorter than N is a case of 13, tested with the memory"; `entries` is its length
unfoldable pub sums_test : Plan → ℕ → Option Refusal
unfolding whenever banks
sums_test p entries = whenever (ltb entries (banks p)) Memory

-- 14: "pixel outside the picture", for any of a list of pixels
unfoldable pub outside_test : ℕ → ℕ → List Pixel → Option Refusal
unfolding whenever every inside
outside_test W H vs = whenever (not (every (inside W H) vs)) Outside

-- 15: "bank ≥ N, address ≥ depth, or their pixel outside", for bank k and address i; a call with a bank alone tests the bank
unfoldable pub bank_test : Plan → ℕ → Option Refusal
unfolding whenever banks
bank_test p k = whenever (leb (banks p) k) Cell

unfoldable pub cell_test : Plan → ℕ → ℕ → ℕ → ℕ → Option Refusal
unfolding whenever banks depth_of inside pixel_of
cell_test p W H k i =
    whenever (leb (banks p) k || leb (depth_of p W H) i || not (inside W H (pixel_of p W H k i))) Cell

-- 16: "output too short", with the room given and n entries to write
unfoldable pub output_test : ℕ → ℕ → Option Refusal
unfolding whenever
output_test n room = whenever (ltb room n) Output

-- 17: "pattern number not in the book"
unfoldable pub number_test : ℕ → ℕ → Option Refusal
unfolding whenever
number_test count n = whenever (leb count n) NoPattern

-- 18 (document 02, Card 5): a ring fetch is allowed exactly if "a divides W, d divides H, and a divides b × (H/d). Number 18 is given
-- exactly otherwise"
unfoldable pub is_ring : Plan → ℕ → ℕ → Bool
is_ring p W H = eqb (W % p.a) 0 && eqb (H % p.d) 0 && eqb (p.b * (H / p.d) % p.a) 0

unfoldable pub ring_test : Plan → ℕ → ℕ → Option Refusal
unfolding whenever is_ring
ring_test p W H = whenever (not (is_ring p W H)) Ring
