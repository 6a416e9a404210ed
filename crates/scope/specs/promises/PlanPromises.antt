-- What is promised of the normal form, the finder and the check, for each r from 1 to 8. Statements; Promises.antt has them all.
-- Assumes nothing.
use Rattle.std.specs.Prelude.{ℕ, suc, ◌+◌, ◌-◌, ◌*◌, ◌≤◌, ◌<◌, ◌≡◌, ◌↔◌, ◌⊎◌, true, false, nat_abs, length, drop, replicate}
use Rattle.std.proofs.Math.Option.{none, some}
use mathlib.Core.List.{List, flat_map, Memᴰ}
use Rattle.integers.specs.Division.{ceil_div}
use Rattle.scope.specs.Plans.{Pixel, differences, pattern_at, pixels, patterns, banks, Combination, along, up, InLattice, determinant_size, normal_form}
use Rattle.scope.specs.Finding.{Before, box_width, box_height}
use Rattle.scope.specs.Cycles.{suits_for, suits_all_for, LongClash, shortened}
use Rattle.scope.specs.Numbers.{value, refusal, of_result, of_check, of_fetch}
use Rattle.scope.specs.Calls.{find, fewest, check, fetch, ring_fetch, write_cycles}
use Rattle.scope.specs.promises.Meaning.{IsPlan, IsBook, IsCycles, Independent}
use Rattle.scope.specs.promises.CyclePromises.{Uncrowded, FirstOfClass, LeastForCycles, NoneForCycles}
use Rattle.scope.specs.declared.Plan.{Plan}
use Rattle.scope.specs.declared.Book.{Book}
use Rattle.scope.specs.declared.Checked.{Checked}
use Rattle.scope.specs.declared.Verdict.{Verdict}

-- p is a plan but for the limit on its banks, and "generates the same lattice" as x and y
pub record Generates (p : Plan) (x y : Pixel) : Type 0 where
  pub a_least : 1 ≤ p.a
  pub d_least : 1 ≤ p.d
  pub b_below : p.b < p.a
  pub same : (v : Pixel) → Combination x y v ↔ InLattice p v

-- "If it isn't 0, exactly one a, b, d generates the same lattice": for vectors of any size
pub record NormalFormIsOnly : Type 0 where
  pub generates : (x y : Pixel) → Independent x y → Generates (normal_form x y) x y
  pub only_a : (x y : Pixel) → Independent x y → (p : Plan) → Generates p x y → p.a ≡ (normal_form x y).a
  pub only_b : (x y : Pixel) → Independent x y → (p : Plan) → Generates p x y → p.b ≡ (normal_form x y).b
  pub only_d : (x y : Pixel) → Independent x y → (p : Plan) → Generates p x y → p.d ≡ (normal_form x y).d
  pub banks_are : (x y : Pixel) → Independent x y → banks (normal_form x y) ≡ determinant_size x y

-- Demand 3 and Card 4: the finder's count is least, among "the pairs whose lattice has no class with more than r pixels of one
-- pattern", all pairs of integer vectors there are.
abbrev pub FinderIsLeast : Type 0
FinderIsLeast =
    (book : Book) (r limit : ℕ) (p : Plan) → of_result (find book r limit) ≡ value p → LeastForCycles r book p × (banks p ≤ limit)

-- Demand 3: 7, none within the limit, comes exactly when that is so. "A book and a limit are legal if no number but 7 turns them down."
pub record NoneWithin (book : Book) (r limit : ℕ) : Type 0 where
  pub legal_book : IsBook book
  pub limit_least : 1 ≤ limit
  pub limit_most : limit ≤ 1024
  pub legal_cycles : IsCycles r
  pub above : NoneForCycles r book limit

abbrev pub FinderNone : Type 0
FinderNone = (book : Book) (r limit : ℕ) → (of_result (find book r limit) ≡ refusal 7 0 none) ↔ NoneWithin book r limit

-- a legal book, r and limit get a plan or 7, and nothing else
abbrev pub FinderDecides : Type 0
FinderDecides =
    (book : Book) (r limit : ℕ) → IsBook book → IsCycles r → 1 ≤ limit → limit ≤ 1024
    → ((p : Plan) × (of_result (find book r limit) ≡ value p)) ⊎ (of_result (find book r limit) ≡ refusal 7 0 none)

-- "with the same ties", Card 1: "Among plans of equal least N, take the least b, then the least d": no plan of that N that suits for r
-- has a smaller b, and none with that b a smaller d
abbrev pub FinderOrder : Type 0
FinderOrder =
    (book : Book) (r limit : ℕ) (p : Plan) → of_result (find book r limit) ≡ value p
    → (q : Plan) → IsPlan q → suits_all_for r q (patterns book) ≡ true → banks q ≡ banks p → Before p q

-- "w is 1 plus the greatest column difference and h is 1 plus the greatest row difference (1 where there is no difference)"
pub record BoxMeans (ts : List (List Pixel)) : Type 0 where
  pub columns : (v : Pixel) → Memᴰ v (flat_map differences ts) → 1 + nat_abs v.column ≤ box_width ts
  pub rows : (v : Pixel) → Memᴰ v (flat_map differences ts) → 1 + nat_abs v.row ≤ box_height ts
  pub widest : (box_width ts ≡ 1) ⊎ ((v : Pixel) × Memᴰ v (flat_map differences ts) × (box_width ts ≡ 1 + nat_abs v.column))
  pub highest : (box_height ts ≡ 1) ⊎ ((v : Pixel) × Memᴰ v (flat_map differences ts) × (box_height ts ≡ 1 + nat_abs v.row))

abbrev pub BoxIsGreatest : Type 0
BoxIsGreatest = (ts : List (List Pixel)) → BoxMeans ts

-- "N is now never below a pattern's pixel count over r, rounded up." "It is never above w × h"
pub record FinderBounds (r : ℕ) (book : Book) (p : Plan) : Type 0 where
  pub pixel_count : (t : List Pixel) → Memᴰ t (patterns book) → ceil_div (length t) r ≤ banks p
  pub box : banks p ≤ box_width (patterns book) * box_height (patterns book)

abbrev pub FinderStaysWithin : Type 0
FinderStaysWithin =
    (book : Book) (r limit : ℕ) (p : Plan) → of_result (find book r limit) ≡ value p → FinderBounds r book p

-- "So limit 1024 is always enough."
abbrev pub LimitIsEnough : Type 0
LimitIsEnough = (book : Book) (r : ℕ) → IsBook book → IsCycles r → (p : Plan) × (of_result (find book r 1024) ≡ value p)

-- "the least for that r" of a legal book is the N of the plan that the finder gives for r at limit 1024
abbrev pub CountIsLeast : Type 0
CountIsLeast =
    (book : Book) (r : ℕ) → IsBook book → IsCycles r
    → (p : Plan) × (of_result (find book r 1024) ≡ value p) × (of_result (fewest book r) ≡ value (banks p))

-- A verdict with a surplus: book, r and vectors are legal, the normal form suits for r, and its N is the least for that r plus the
-- surplus.
pub record Excess (book : Book) (r : ℕ) (x y : Pixel) (c : Checked) : Type 0 where
  pub legal_book : IsBook book
  pub legal_cycles : IsCycles r
  pub independent : Independent x y
  pub form : c.plan ≡ normal_form x y
  pub plan : IsPlan c.plan
  pub suiting : suits_all_for r c.plan (patterns book) ≡ true
  pub uncrowded : Uncrowded r (along c.plan) (up c.plan) (patterns book)
  pub least : Plan
  pub least_is : of_result (find book r 1024) ≡ value least
  pub count : banks c.plan ≡ banks least + c.surplus

abbrev pub SurplusIsExcess : Type 0
SurplusIsExcess =
    (book : Book) (r : ℕ) (x y : Pixel) (c : Checked) → of_check r (check book r x y) ≡ value c → Excess book r x y c

-- c is the clash of pattern n: "the r + 1 ascending positions of one lattice class that come first". The nine places hold them, then 0
pub record ClashOf (book : Book) (r : ℕ) (p : Plan) (n : ℕ) (c : LongClash) (nine : List ℕ) : Type 0 where
  pub in_book_lem : n < book.count
  pub pattern : c.pattern ≡ n
  pub first : FirstOfClass r p (pixels (pattern_at book n)) c.positions
  pub rest : drop (suc r) nine ≡ replicate (8 - r) 0

-- "The clash is, in the lowest pattern that has one, [..]": the check's 10, and the 10 of a fetch and of the cycles for their own pattern
pub record ClashIsFirst : Type 0 where
  -- the verdict's own case, and not a refusal; the struct in it has the first two positions
  pub is_clash :
      (book : Book) (r : ℕ) (x y : Pixel) (c : LongClash) → of_check r (check book r x y) ≡ refusal 10 0 (some c)
      → (check book r x y).verdict ≡ Verdict.Clashes (shortened c)
  pub in_pattern :
      (book : Book) (r : ℕ) (x y : Pixel) (c : LongClash) → of_check r (check book r x y) ≡ refusal 10 0 (some c)
      → ClashOf book r (normal_form x y) c.pattern c (check book r x y).positions
  pub lowest :
      (book : Book) (r : ℕ) (x y : Pixel) (c : LongClash) → of_check r (check book r x y) ≡ refusal 10 0 (some c)
      → (n : ℕ) → n < c.pattern → suits_for r (normal_form x y) (pixels (pattern_at book n)) ≡ true
  pub of_fetch_lem :
      (book : Book) (r : ℕ) (p : Plan) (W H : ℕ) (mem : List ℕ) (n : ℕ) (o : Pixel) (out : List ℕ) (c : LongClash)
      → of_fetch r (fetch book r p W H mem n o out).answer ≡ refusal 10 0 (some c)
      → ClashOf book r p n c (fetch book r p W H mem n o out).answer.positions
  pub of_ring_fetch :
      (book : Book) (r : ℕ) (p : Plan) (W H : ℕ) (mem : List ℕ) (n : ℕ) (o : Pixel) (out : List ℕ) (c : LongClash)
      → of_fetch r (ring_fetch book r p W H mem n o out).answer ≡ refusal 10 0 (some c)
      → ClashOf book r p n c (ring_fetch book r p W H mem n o out).answer.positions
  pub of_cycles :
      (book : Book) (r : ℕ) (p : Plan) (n : ℕ) (out : List ℕ) (c : LongClash)
      → of_fetch r (write_cycles book r p n out).answer ≡ refusal 10 0 (some c)
      → ClashOf book r p n c (write_cycles book r p n out).answer.positions

-- Legal vectors get the surplus if their normal form suits for r, and 10 with a clash if it does not, and nothing else.
abbrev pub CheckDecides : Type 0
CheckDecides =
    (book : Book) (r : ℕ) (x y : Pixel) → IsBook book → IsCycles r → Independent x y → determinant_size x y ≤ 1024
    → ((suits_all_for r (normal_form x y) (patterns book) ≡ true) × ((c : Checked) × (of_check r (check book r x y) ≡ value c)))
    ⊎ ((suits_all_for r (normal_form x y) (patterns book) ≡ false) × ((c : LongClash) × (of_check r (check book r x y) ≡ refusal 10 0 (some c))))
