-- Document 02, Card 4: what is promised of classes, of plans that suit for r, of cycles and of the clash for r, for each r by one
-- argument. What the calls have from it: PlanPromises, PicturePromises, Demand; r = 1: OneCyclePromises. Statements; Promises.antt has
-- them all.
-- Assumes nothing.
use Rattle.std.specs.Prelude.{ℕ, suc, ◌*◌, ◌≤◌, ◌<◌, ◌≡◌, ◌↔◌, ◌⊎◌, true, length, get_or}
use Rattle.std.proofs.Math.Option.{none, some}
use mathlib.Core.List.{List, [], ◌∷◌, Memᴰ}
use Rattle.integers.specs.Division.{ceil_div}
use Rattle.scope.specs.Plans.{Pixel, plus, minus, patterns, banks, Combination, along, up, determinant_size}
use Rattle.scope.specs.Finding.{Before, pixel_in, box_width, box_height}
use Rattle.scope.specs.Banks.{bank_of}
use Rattle.scope.specs.Cycles.{suits_for, suits_all_for, least_plan_for, least_count_for, cycle_of, cycles, LongClash, clash_in_for, clash_for}
use Rattle.scope.specs.promises.Meaning.{IsPlan, IsBook, Independent}
use Rattle.scope.specs.declared.Plan.{Plan}
use Rattle.scope.specs.declared.Book.{Book}

-- numbers that ascend
abbrev pub Ascending : List ℕ → Type 0
Ascending es = (i l : ℕ) → i < l → l < length es → get_or es i 0 < get_or es l 0

-- ascending positions of t whose pixels are in one class of the lattice of x and y: each two differ by a combination
pub record OneClass (x y : Pixel) (t : List Pixel) (es : List ℕ) : Type 0 where
  pub ascending : Ascending es
  pub within : (e : ℕ) → Memᴰ e es → e < length t
  pub joined : (e l : ℕ) → Memᴰ e es → Memᴰ l es → Combination x y (minus (pixel_in t l) (pixel_in t e))

-- "the pairs whose lattice has no class with more than r pixels of one pattern", x and y being any two integer vectors: of one
-- pattern, and of each
abbrev pub UncrowdedIn : ℕ → Pixel → Pixel → List Pixel → Type 0
UncrowdedIn r x y t = (es : List ℕ) → OneClass x y t es → length es ≤ r

abbrev pub Uncrowded : ℕ → Pixel → Pixel → List (List Pixel) → Type 0
Uncrowded r x y ts = (t : List Pixel) → Memᴰ t ts → UncrowdedIn r x y t

-- "A plan suits for r if no lattice class holds more than r pixels of one pattern."
pub record SuitsForMeans : Type 0 where
  pub of_pattern :
      (r : ℕ) (p : Plan) → 1 ≤ p.a → 1 ≤ p.d → (t : List Pixel) → (suits_for r p t ≡ true) ↔ UncrowdedIn r (along p) (up p) t
  pub of_book :
      (r : ℕ) (p : Plan) (ts : List (List Pixel))
      → (suits_all_for r p ts ≡ true) ↔ ((t : List Pixel) → Memᴰ t ts → suits_for r p t ≡ true)
  -- what suits for r suits for more cycles too
  pub monotone : (r s : ℕ) → r ≤ s → (p : Plan) (t : List Pixel) → suits_for r p t ≡ true → suits_for s p t ≡ true

-- "no two of its words have both bank and cycle in common and each cycle is below r"
pub record CyclesPart : Type 0 where
  -- "in pixel order"
  pub as_many : (p : Plan) (t : List Pixel) → length (cycles p t) ≡ length t
  pub in_order : (p : Plan) (t : List Pixel) (e : ℕ) → e < length t → get_or (cycles p t) e 0 ≡ cycle_of p t e
  -- of two pixels in one bank the earlier has the smaller cycle
  pub ascend :
      (p : Plan) (t : List Pixel) (e l : ℕ) → e < l → bank_of p (pixel_in t e) ≡ bank_of p (pixel_in t l) → cycle_of p t e < cycle_of p t l
  -- so no two pixels have both in common, wherever the pattern is moved
  pub apart :
      (p : Plan) → IsPlan p → (t : List Pixel) (o : Pixel) (e l : ℕ) → e < l
      → bank_of p (plus o (pixel_in t e)) ≡ bank_of p (plus o (pixel_in t l)) → cycle_of p t e ≡ cycle_of p t l → ⊥
  -- each cycle is below r exactly if the plan suits for r
  pub below :
      (r : ℕ) (p : Plan) → IsPlan p → (t : List Pixel)
      → (suits_for r p t ≡ true) ↔ ((e : ℕ) → e < length t → cycle_of p t e < r)

-- "compared position by position": es comes first, or is ls
abbrev pub NotAfter : List ℕ → List ℕ → Type 0
NotAfter [] ls = Unit
NotAfter (e ∷ es) [] = ⊥
NotAfter (e ∷ es) (l ∷ ls) = (e < l) ⊎ ((e ≡ l) × NotAfter es ls)

-- "the r + 1 ascending positions of one lattice class that come first"
pub record FirstOfClass (r : ℕ) (p : Plan) (t : List Pixel) (es : List ℕ) : Type 0 where
  pub size : length es ≡ suc r
  pub class : OneClass (along p) (up p) t es
  pub first : (ls : List ℕ) → length ls ≡ suc r → OneClass (along p) (up p) t ls → NotAfter es ls

-- "The clash is, in the lowest pattern that has one, the r + 1 ascending positions of one lattice class that come first"
pub record LongClashIsFirst (r : ℕ) (p : Plan) : Type 0 where
  pub in_pattern : (n : ℕ) (t : List Pixel) (c : LongClash) → clash_in_for r p n t ≡ some c → (c.pattern ≡ n) × FirstOfClass r p t c.positions
  -- nothing is found exactly if the plan suits for r
  pub none_in_pattern : (n : ℕ) (t : List Pixel) → (clash_in_for r p n t ≡ none) ↔ (suits_for r p t ≡ true)
  pub in_book_lem :
      (ts : List (List Pixel)) (c : LongClash) → clash_for r p ts ≡ some c
      → (c.pattern < length ts) × FirstOfClass r p (get_or ts c.pattern []) c.positions
  pub lowest :
      (ts : List (List Pixel)) (c : LongClash) → clash_for r p ts ≡ some c
      → (n : ℕ) → n < c.pattern → suits_for r p (get_or ts n []) ≡ true
  pub none_in_book : (ts : List (List Pixel)) → (clash_for r p ts ≡ none) ↔ (suits_all_for r p ts ≡ true)

abbrev pub LongClashes : Type 0
LongClashes = (r : ℕ) (p : Plan) → 1 ≤ p.a → 1 ≤ p.d → LongClashIsFirst r p

-- p is a plan that suits the book for r, and no two independent integer vectors whose lattice has no class with more than r pixels of
-- one pattern have a determinant of smaller size
pub record LeastForCycles (r : ℕ) (book : Book) (p : Plan) : Type 0 where
  pub plan : IsPlan p
  pub suiting : suits_all_for r p (patterns book) ≡ true
  pub uncrowded : Uncrowded r (along p) (up p) (patterns book)
  pub least : (x y : Pixel) → Independent x y → Uncrowded r x y (patterns book) → banks p ≤ determinant_size x y

-- no such two vectors have a determinant within the limit
abbrev pub NoneForCycles : ℕ → Book → ℕ → Type 0
NoneForCycles r book limit = (x y : Pixel) → Independent x y → Uncrowded r x y (patterns book) → limit < determinant_size x y

-- "Least" and "none within the limit", "claimed for each r by one argument over r"
pub record LeastInCycles (r : ℕ) (book : Book) : Type 0 where
  pub found :
      (limit : ℕ) → limit ≤ 1024 → (p : Plan) → least_plan_for r (patterns book) limit ≡ some p
      → LeastForCycles r book p × (banks p ≤ limit)
  pub none_found : (limit : ℕ) → (least_plan_for r (patterns book) limit ≡ none) ↔ NoneForCycles r book limit
  -- "with the same ties"
  pub order :
      (limit : ℕ) (p : Plan) → least_plan_for r (patterns book) limit ≡ some p
      → (q : Plan) → IsPlan q → suits_all_for r q (patterns book) ≡ true → banks q ≡ banks p → Before p q
  -- "N is now never below a pattern's pixel count over r, rounded up."
  pub pixel_count :
      1 ≤ r → (p : Plan) → IsPlan p → suits_all_for r p (patterns book) ≡ true
      → (t : List Pixel) → Memᴰ t (patterns book) → ceil_div (length t) r ≤ banks p
  -- the box is large enough for each r from 1 on, and so is limit 1024; "the least for that r" is the N of the plan found then
  pub box :
      1 ≤ r → IsBook book → (limit : ℕ) (p : Plan) → least_plan_for r (patterns book) limit ≡ some p
      → banks p ≤ box_width (patterns book) * box_height (patterns book)
  pub enough :
      1 ≤ r → IsBook book
      → (p : Plan) × (least_plan_for r (patterns book) 1024 ≡ some p) × (least_count_for r (patterns book) ≡ banks p)

abbrev pub LeastInCyclesEach : Type 0
LeastInCyclesEach = (r : ℕ) (book : Book) → LeastInCycles r book
