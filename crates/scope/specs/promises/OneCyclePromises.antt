-- Document 02, Card 4: "At r = 1 everything agrees with the finder as it was." The calls as they were without r, that each is the call
-- for r = 1, and what was promised of them, in the words of then. Statements; Promises.antt has them all.
-- Assumes nothing.
use Rattle.std.specs.Prelude.{ℕ, ◌-◌, ◌≤◌, ◌<◌, ◌≡◌, ◌↔◌, ◌⊎◌, Bool, true, length, get_or, Result, Ok, Err}
use Rattle.std.proofs.Math.Option.{Option, none, some, map}
use mathlib.Core.List.{List, [], ◌∷◌, ◌++◌, Memᴰ}
use Rattle.scope.specs.Search.{first_of}
use Rattle.scope.specs.Plans.{Pixel, minus, pixel_at, pattern_at, pixels, patterns, banks, Combination, along, up, InLattice, suits, suits_all, determinant_size, normal_form}
use Rattle.scope.specs.Finding.{Before, least_of, least_plan, least_count, clash_in, clash}
use Rattle.scope.specs.Cycles.{suits_for, least_plan_for, least_count_for, LongClash, lengthened, shortened, clash_for}
use Rattle.scope.specs.Numbers.{value, refusal, of_result, of_verdict, of_check, of_fetch, record_test, limit_test, dependent_test, large_test, number_test}
use Rattle.scope.specs.Calls.{After, Lent, size_of, answered, found, find, fewest, check, picture_test, fetch_rest, either_fetch}
use Rattle.scope.specs.promises.Meaning.{IsPlan, IsBook, Independent}
use Rattle.scope.specs.promises.CyclePromises.{Uncrowded}
use Rattle.scope.specs.promises.Demand.{Call, Setting, test, banks_read, ListHolds}
use Rattle.scope.specs.declared.Plan.{Plan}
use Rattle.scope.specs.declared.Book.{Book}
use Rattle.scope.specs.declared.Pattern.{Pattern}
use Rattle.scope.specs.declared.Clash.{Clash}
use Rattle.scope.specs.declared.Checked.{Checked}
use Rattle.scope.specs.declared.Refusal.{Refusal}
use Rattle.scope.specs.declared.Verdict.{Verdict}

-- The finder, the least count, the check and both fetches without r
unfoldable pub find_before : Book → ℕ → Result Plan Refusal
unfolding answered first_of record_test limit_test found least_of suits_all patterns
find_before book limit =
    answered (first_of (record_test book ∷ limit_test limit ∷ [])) Err (found (least_plan (patterns book) limit))

unfoldable pub fewest_before : Book → Result ℕ Refusal
unfolding answered record_test least_count patterns
fewest_before book = answered (record_test book) Err (Ok (least_count (patterns book)))

unfoldable pub judged_before : List (List Pixel) → Plan → Verdict
unfolding clash banks least_count
judged_before ts p =
    elim (clash p ts) [
      | some c ↦ Verdict.Clashes c
      | none ↦ Verdict.Suits (record { plan = p; surplus = banks p - least_count ts })
    ]

unfoldable pub check_before : Book → Pixel → Pixel → Verdict
unfolding answered first_of record_test dependent_test large_test judged_before patterns normal_form
check_before book x y =
    answered (first_of (record_test book ∷ dependent_test x y ∷ large_test x y ∷ [])) Verdict.Refused
    (judged_before (patterns book) (normal_form x y))

unfoldable pub suits_test_before : Plan → ℕ → Pattern → Option Refusal
unfolding clash_in pixels
suits_test_before p n t = elim (clash_in p n (pixels t)) [ none ↦ none | some c ↦ some (Refusal.Unsuited c) ]

unfoldable pub start_before : Book → Plan → ℕ → ℕ → ℕ → ℕ → Option Refusal
unfolding first_of record_test picture_test number_test suits_test_before pattern_at
start_before book p W H words n =
    first_of
    (record_test book ∷ picture_test p W H words ∷ number_test book.count n ∷ suits_test_before p n (pattern_at book n) ∷ [])

unfoldable pub fetch_before : (ring : Bool) → Book → Plan → ℕ → ℕ → List ℕ → ℕ → Pixel → List ℕ → After (Result ℕ Refusal) (List ℕ)
unfolding fetch_rest start_before pattern_at
fetch_before ring book p W H mem n o out =
    fetch_rest (start_before book p W H (length mem) n) ring (pattern_at book n) p W H mem o out

-- No combination of x and y joins two different pixels of one pattern. "a combination joins two pixels if it is their difference"
abbrev pub Parted : Pixel → Pixel → List (List Pixel) → Type 0
Parted x y ts =
    (t : List Pixel) → Memᴰ t ts → (v w : Pixel) → Memᴰ v t → Memᴰ w t
    → (v ≡ w → ⊥) → Combination x y (minus v w) → ⊥

-- of a legal book, as no pattern has a pixel twice
pub record OneCycle (book : Book) : Type 0 where
  pub uncrowded : (x y : Pixel) → Uncrowded 1 x y (patterns book) ↔ Parted x y (patterns book)
  pub suiting :
      (p : Plan) → 1 ≤ p.a → 1 ≤ p.d → (t : List Pixel) → Memᴰ t (patterns book) → suits_for 1 p t ≡ suits p t
  pub least_plan_lem : (limit : ℕ) → least_plan_for 1 (patterns book) limit ≡ least_plan (patterns book) limit
  pub least_count_lem : least_count_for 1 (patterns book) ≡ least_count (patterns book)

-- "At r = 1 everything agrees with the finder as it was": every call, on every input, legal or not
pub record OneCycleIsBefore : Type 0 where
  pub of_book : (book : Book) → IsBook book → OneCycle book
  pub clashes : (p : Plan) (ts : List (List Pixel)) → clash_for 1 p ts ≡ map lengthened (clash p ts)
  pub finds : (book : Book) (limit : ℕ) → find book 1 limit ≡ find_before book limit
  pub counts : (book : Book) → fewest book 1 ≡ fewest_before book
  pub checks : (book : Book) (x y : Pixel) → (check book 1 x y).verdict ≡ check_before book x y
  pub check_answers : (book : Book) (x y : Pixel) → of_check 1 (check book 1 x y) ≡ of_verdict (check_before book x y)
  pub fetches :
      (ring : Bool) (book : Book) (p : Plan) (W H : ℕ) (mem : List ℕ) (n : ℕ) (o : Pixel) (out : List ℕ)
      → (either_fetch ring book 1 p W H mem n o out).answer.counted ≡ (fetch_before ring book p W H mem n o out).answer
  pub fetch_answers :
      (ring : Bool) (book : Book) (p : Plan) (W H : ℕ) (mem : List ℕ) (n : ℕ) (o : Pixel) (out : List ℕ)
      → of_fetch 1 (either_fetch ring book 1 p W H mem n o out).answer ≡ of_result (fetch_before ring book p W H mem n o out).answer
  pub fetched :
      (ring : Bool) (book : Book) (p : Plan) (W H : ℕ) (mem : List ℕ) (n : ℕ) (o : Pixel) (out : List ℕ)
      → (either_fetch ring book 1 p W H mem n o out).content ≡ (fetch_before ring book p W H mem n o out).content

-- p is a plan that suits the book, and no two independent integer vectors that part its pixels have a determinant of smaller size
pub record LeastFor (book : Book) (p : Plan) : Type 0 where
  pub plan : IsPlan p
  pub suiting : suits_all p (patterns book) ≡ true
  pub parted : Parted (along p) (up p) (patterns book)
  pub least : (x y : Pixel) → Independent x y → Parted x y (patterns book) → banks p ≤ determinant_size x y

-- 7, none within the limit
pub record NoneParted (book : Book) (limit : ℕ) : Type 0 where
  pub legal_book : IsBook book
  pub limit_least : 1 ≤ limit
  pub limit_most : limit ≤ 1024
  pub above : (x y : Pixel) → Independent x y → Parted x y (patterns book) → limit < determinant_size x y

-- positions e and l of pattern n of the book have pixels whose difference is in the lattice
pub record Meets (book : Book) (p : Plan) (n e l : ℕ) : Type 0 where
  pub in_book_lem : n < book.count
  pub ordered : e < l
  pub in_pattern : l < (pattern_at book n).used
  pub joined : InLattice p (minus (pixel_at (pattern_at book n) l) (pixel_at (pattern_at book n) e))

-- "of several pairs, the one with the least earlier position, then the least later one"
pub record FirstClashIn (book : Book) (p : Plan) (c : Clash) : Type 0 where
  pub meets : Meets book p c.pattern c.earlier c.later
  pub earliest : (e l : ℕ) → Meets book p c.pattern e l → (c.earlier < e) ⊎ ((c.earlier ≡ e) × (c.later ≤ l))

-- "that there is at most one from each bank means that these banks are all different"
abbrev pub AllDifferent : List ℕ → Type 0
AllDifferent xs = (e l : ℕ) → e < l → l < length xs → get_or xs e 0 ≡ get_or xs l 0 → ⊥

-- What document 01 promises of these calls, at r = 1
pub record KeptAtOne : Type 0 where
  pub least : (book : Book) (limit : ℕ) (p : Plan) → of_result (find book 1 limit) ≡ value p → LeastFor book p × (banks p ≤ limit)
  pub none_within : (book : Book) (limit : ℕ) → (of_result (find book 1 limit) ≡ refusal 7 0 none) ↔ NoneParted book limit
  pub order :
      (book : Book) (limit : ℕ) (p : Plan) → of_result (find book 1 limit) ≡ value p
      → (q : Plan) → IsPlan q → suits_all q (patterns book) ≡ true → banks q ≡ banks p → Before p q
  -- "N is never below the pixel count of any pattern."
  pub pixel_count :
      (book : Book) (limit : ℕ) (p : Plan) → of_result (find book 1 limit) ≡ value p
      → (t : List Pixel) → Memᴰ t (patterns book) → length t ≤ banks p
  pub surplus :
      (book : Book) (x y : Pixel) (c : Checked) → of_check 1 (check book 1 x y) ≡ value c
      → (suits_all c.plan (patterns book) ≡ true) × ((n e l : ℕ) → Meets book c.plan n e l → ⊥)
  pub clash :
      (book : Book) (x y : Pixel) (c : LongClash) → of_check 1 (check book 1 x y) ≡ refusal 10 0 (some c)
      → FirstClashIn book (normal_form x y) (shortened c) × ((n e l : ℕ) → Meets book (normal_form x y) n e l → c.pattern ≤ n)
  pub clash_of_fetch :
      (ring : Bool) (book : Book) (p : Plan) (W H : ℕ) (mem : List ℕ) (n : ℕ) (o : Pixel) (out : List ℕ) (c : LongClash)
      → of_fetch 1 (either_fetch ring book 1 p W H mem n o out).answer ≡ refusal 10 0 (some c)
      → FirstClashIn book p (shortened c) × (c.pattern ≡ n)
  -- of demand 3's list: the banks of a fetch are all different
  pub banks_differ :
      (g : Setting) → g.r ≡ 1 → (l : Lent) (calls : List Call) → ListHolds g l calls
      → (past : List Call) (c : Call) (later : List Call) → calls ≡ past ++ (c ∷ later)
      → test g (size_of l) c ≡ none → AllDifferent (banks_read g c)
