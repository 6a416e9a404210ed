-- Document 01, "Pixels, patterns, plans".
-- Assumes nothing.
use Rattle.std.specs.Prelude.{ℕ, zero, suc, ◌*◌, ◌/◌, ◌≡◌, Bool, not, cond, ◌&&◌, ◌||◌, leb, ltb, ℤ, pos, negsuc, nat_abs, ◌+ℤ◌, ◌-ℤ◌, ◌*ℤ◌, get_or}
use mathlib.Core.List.{List, [], ◌∷◌, flat_map}
use Rattle.std.specs.Int.Signed.{lt_z}
use Rattle.integers.specs.Division.{floor_div, floor_mod, divides, same_number}
use Rattle.integers.specs.Gcd.{gcd}
use Rattle.scope.specs.Search.{gather, every}
use Rattle.scope.specs.declared.Pattern.{Pattern}
use Rattle.scope.specs.declared.Book.{Book}
use Rattle.scope.specs.declared.Plan.{Plan}

-- "A pixel is (i, j), column i and row j, whole numbers of either sign." A vector is such a pair too.
pub record Pixel : Type 0 where
  pub column : ℤ
  pub row : ℤ

unfoldable pub at : ℤ → ℤ → Pixel
at i j = record { column = i; row = j }

-- both coordinates agree
unfoldable pub same_pixel : Pixel → Pixel → Bool
unfolding same_number
same_pixel p q = same_number p.column q.column && same_number p.row q.row

-- Document 02, Card 3: "Pixels in a pattern now ascend by row, then column." p is lower in that order than q
unfoldable pub lower : Pixel → Pixel → Bool
unfolding same_number
lower p q = lt_z p.row q.row || (same_number p.row q.row && lt_z p.column q.column)

-- p + q, p - q and n × p, coordinate by coordinate
unfoldable pub plus : Pixel → Pixel → Pixel
plus p q = record { column = p.column +ℤ q.column; row = p.row +ℤ q.row }

unfoldable pub minus : Pixel → Pixel → Pixel
minus p q = record { column = p.column -ℤ q.column; row = p.row -ℤ q.row }

unfoldable pub times : ℤ → Pixel → Pixel
times n p = record { column = n *ℤ p.column; row = n *ℤ p.row }

-- A pattern is the list of its pixels in the book's order, a book the list of its patterns in number order.
-- The pixel at a position of a pattern record, the pattern at a number of a book record, both counted from 0:
unfoldable pub pixel_at : Pattern → ℕ → Pixel
pixel_at t n = record { column = get_or t.columns n (pos 0); row = get_or t.rows n (pos 0) }

unfoldable pub no_pattern : Pattern
no_pattern = record { columns = []; rows = []; used = 0 }

unfoldable pub pattern_at : Book → ℕ → Pattern
unfolding no_pattern
pattern_at book n = get_or book.patterns n no_pattern

unfoldable pub pixels : Pattern → List Pixel
unfolding gather pixel_at
pixels t = gather 0 t.used (pixel_at t)

unfoldable pub patterns : Book → List (List Pixel)
unfolding gather pixels pattern_at
patterns book = gather 0 book.count λ n. pixels (pattern_at book n)

-- "A difference is p - q for two different pixels p, q of the same pattern."
unfoldable pub differences : List Pixel → List Pixel
unfolding flat_map same_pixel minus
differences t = flat_map (λ p. flat_map (λ q. cond (same_pixel p q) [] (minus p q ∷ [])) t) t

unfoldable pub plan : ℕ → ℕ → ℕ → Plan
plan a b d = record { a = a; b = b; d = d }

-- "Its bank count is N = a × d."
unfoldable pub banks : Plan → ℕ
banks p = p.a * p.d

-- "A plan is a, b, d with a and d at least 1, 0 ≤ b < a, and a × d at most 1024."
unfoldable pub is_plan : Plan → Bool
unfolding banks
is_plan p = leb 1 p.a && leb 1 p.d && ltb p.b p.a && leb (banks p) 1024

-- "all whole-number combinations" of the vectors x and y
pub record Combination (x y v : Pixel) : Type 0 where
  pub m : ℤ
  pub n : ℤ
  pub columns : v.column ≡ m *ℤ x.column +ℤ n *ℤ y.column
  pub rows : v.row ≡ m *ℤ x.row +ℤ n *ℤ y.row

-- "Its lattice is all whole-number combinations of (a, 0) and (b, d)."
abbrev pub along : Plan → Pixel
along p = record { column = pos p.a; row = pos 0 }

abbrev pub up : Plan → Pixel
up p = record { column = pos p.b; row = pos p.d }

abbrev pub InLattice : Plan → Pixel → Type 0
InLattice p v = Combination (along p) (up p) v

-- "d divides j and a divides i - b × (j/d)"
unfoldable pub lattice_test : Plan → Pixel → Bool
unfolding divides floor_div
lattice_test p v = divides p.d v.row && divides p.a (v.column -ℤ pos p.b *ℤ floor_div v.row p.d)

-- "A plan suits a pattern if none of the pattern's differences is in the lattice."
unfoldable pub suits : Plan → List Pixel → Bool
unfolding every lattice_test differences
suits p t = every (λ v. not (lattice_test p v)) (differences t)

-- and it suits a book if it suits each pattern
unfoldable pub suits_all : Plan → List (List Pixel) → Bool
unfolding every suits
suits_all p ts = every (suits p) ts

-- "Two vectors (x1, x2), (y1, y2) have determinant x1 × y2 - x2 × y1."
unfoldable pub determinant : Pixel → Pixel → ℤ
determinant x y = x.column *ℤ y.row -ℤ x.row *ℤ y.column

-- "A determinant's size is its amount without the sign."
unfoldable pub determinant_size : Pixel → Pixel → ℕ
unfolding determinant
determinant_size x y = nat_abs (determinant x y)

-- v or -v, so that the row is not negative
unfoldable pub upright : Pixel → Pixel
unfolding times
upright v = elim v.row [ pos n ↦ v | negsuc n ↦ times (negsuc 0) v ]

-- Euclid's falling remainders on the rows of two upright vectors, the columns carried along: at most the given number of
-- steps. Each step takes a multiple of y off x, so the result is a combination of x and y, and its row is gcd(x2, y2)
unfoldable pub falling : ℕ → Pixel → Pixel → Pixel
unfolding minus times floor_div
falling zero x y = x
falling (suc steps) x y =
    elim (nat_abs y.row) [ zero ↦ x | suc r ↦ falling steps y (minus x (times (floor_div x.row (suc r)) y)) ]

-- "exactly one a, b, d generates the same lattice: d = gcd(x2, y2), a = |determinant|/d. That is their normal form"
-- (b, d) is the combination of x and y with row d that Euclid's steps find, its column taken modulo a
unfoldable pub normal_form : Pixel → Pixel → Plan
unfolding plan determinant_size gcd floor_mod falling upright
normal_form x y =
    let d : ℕ = gcd (nat_abs x.row) (nat_abs y.row) in
    let a : ℕ = determinant_size x y / d in
    let v : Pixel = falling (suc (nat_abs y.row)) (upright x) (upright y) in
    plan a (floor_mod v.column a) d
