-- Rows of figures: what a call gives beside what is stated, and the patterns that the figures speak of.
-- Assumes nothing.
use Rattle.scope.specs.declared.Place.{Place}
use Rattle.scope.specs.declared.Refusal.{Refusal}
use Rattle.std.specs.Prelude.{ℕ, ◌≡◌, ℤ, pos, neg_ℤ, replicate, Result}
use Rattle.std.proofs.Math.Option.{Option, none, some}
use mathlib.Core.List.{List, [], ◌∷◌, ◌++◌, map, flat_map}
use Rattle.scope.specs.Search.{gather}
use Rattle.scope.specs.Plans.{Pixel, at, plan}
use Rattle.scope.specs.Cycles.{LongClash}
use Rattle.scope.specs.Books.{book_of}
use Rattle.scope.specs.Numbers.{Answer, value, refusal, of_result, of_located, of_check, of_fetch}
use Rattle.scope.specs.Calls.{read_book, write_book, find, check, fetch, ring_fetch, write_cycles}
use Rattle.scope.specs.promises.Demand as Demand
use Rattle.scope.specs.declared.Plan.{Plan}
use Rattle.scope.specs.declared.PixelRecord.{PixelRecord}
use Rattle.scope.specs.declared.Verdict.{Verdict}
use Rattle.scope.specs.declared.CheckAnswer.{CheckAnswer}
use Rattle.scope.specs.declared.FetchAnswer.{FetchAnswer}

-- What a call gives, and what it should give: the values in a list, or the refusal.
pub record Row : Type 0 where
  pub computed : Answer (List ℤ)
  pub stated : Answer (List ℤ)

unfoldable pub row : Answer (List ℤ) → Answer (List ℤ) → Row
row x y = record { computed = x; stated = y }

-- what the rows compute is what they state
abbrev pub Hold : List Row → Type 0
Hold rows = map (λ r. r.computed) rows ≡ map (λ r. r.stated) rows

-- these numbers; number n at place i; number 10 with a clash
unfoldable pub is : List ℕ → Answer (List ℤ)
is xs = value (map pos xs)

unfoldable pub refused : ℕ → ℕ → Answer (List ℤ)
refused n i = refusal n i none

unfoldable pub clashes : ℕ → ℕ → ℕ → Answer (List ℤ)
clashes n e l = refusal 10 0 (some (record { pattern = n; positions = e ∷ l ∷ [] }))

-- and with a longer one
unfoldable pub crowds : ℕ → List ℕ → Answer (List ℤ)
crowds n es = refusal 10 0 (some (record { pattern = n; positions = es }))

-- answers as such values
unfoldable pub values : {A : Type 0} → (A → List ℤ) → Answer A → Answer (List ℤ)
values f (value x) = value (f x)
values f (refusal n i c) = refusal n i c

unfoldable pub planned : Result Plan Refusal → Answer (List ℤ)
unfolding values
planned r = values (λ p. pos p.a ∷ pos p.b ∷ pos p.d ∷ []) (of_result r)

unfoldable pub counted : Result ℕ Refusal → Answer (List ℤ)
unfolding values
counted r = values (λ n. pos n ∷ []) (of_result r)

unfoldable pub loaded : Result ℕ Refusal → Answer (List ℤ)
unfolding values
loaded r = values (λ n. pos n ∷ []) (of_result r)

unfoldable pub located : Result (ℤ × ℤ) Refusal → Answer (List ℤ)
unfolding values
located r = values (λ v. v.column ∷ v.row ∷ []) (of_located r)

unfoldable pub placed : Result Place Refusal → Answer (List ℤ)
unfolding values
placed r = values (λ x. pos x.bank ∷ pos x.word ∷ []) (of_result r)

unfoldable pub done : Result Unit Refusal → Answer (List ℤ)
unfolding values
done r = values (λ u. []) (of_result r)

-- of a check for r, and of a fetch or the cycles for r
unfoldable pub checked : ℕ → CheckAnswer → Answer (List ℤ)
unfolding values
checked r a = values (λ c. pos c.plan.a ∷ pos c.plan.b ∷ pos c.plan.d ∷ pos c.surplus ∷ []) (of_check r a)

unfoldable pub fetched_by : ℕ → FetchAnswer → Answer (List ℤ)
unfolding values
fetched_by r a = values (λ n. pos n ∷ []) (of_fetch r a)

-- a plan that a search gives, and a clash of r + 1 positions, behind its pattern's number; no number where there is none
unfoldable pub searched : Option Plan → Answer (List ℤ)
unfolding is
searched none = is []
searched (some p) = is (p.a ∷ p.b ∷ p.d ∷ [])

unfoldable pub long_clash : Option LongClash → Answer (List ℤ)
unfolding is
long_clash none = is []
long_clash (some c) = is (c.pattern ∷ c.positions)

-- which case of the verdict it is
unfoldable pub case_of : Verdict → ℕ
case_of (Verdict.Suits c) = 1
case_of (Verdict.Clashes c) = 2
case_of (Verdict.Refused r) = 3

unfoldable pub records : List PixelRecord → Answer (List ℤ)
unfolding flat_map
records rs = value (flat_map (λ r. r.column ∷ r.row ∷ pos r.bank ∷ pos r.address ∷ []) rs)

-- -n, the pixel (i, j), and the patterns, each by row, then column
unfoldable pub neg : ℕ → ℤ
neg n = neg_ℤ (pos n)

unfoldable pub px : ℕ → ℕ → Pixel
unfolding at
px i j = at (pos i) (pos j)

unfoldable pub one : List Pixel
unfolding px
one = px 0 0 ∷ []

unfoldable pub two : List Pixel
unfolding px
two = px 0 0 ∷ px 1 0 ∷ []

-- two pixels that fall
unfoldable pub down : List Pixel
unfolding px
down = px 1 0 ∷ px 0 0 ∷ []

unfoldable pub three : List (List Pixel)
unfolding px
three = (px 0 0 ∷ px 1 0 ∷ px 2 0 ∷ []) ∷ []

unfoldable pub three_and_three : List (List Pixel)
unfolding three px
three_and_three = three ++ ((px 0 0 ∷ px 0 1 ∷ px 0 2 ∷ []) ∷ [])

unfoldable pub gap : List (List Pixel)
unfolding px
gap = (px 0 0 ∷ px 1 0 ∷ px 3 0 ∷ []) ∷ []

unfoldable pub square : List (List Pixel)
unfolding px
square = (px 0 0 ∷ px 1 0 ∷ px 0 1 ∷ px 1 1 ∷ []) ∷ []

unfoldable pub cross : List (List Pixel)
unfolding px at neg
cross = (at (pos 0) (neg 1) ∷ at (neg 1) (pos 0) ∷ px 0 0 ∷ px 1 0 ∷ px 0 1 ∷ []) ∷ []

-- Card 3: "The five-pixel figure becomes 01 05 00 FF FF 00 00 00 01 00 00 01"
unfoldable pub five_pixels : List ℕ
five_pixels = 1 ∷ 5 ∷ 0 ∷ 0xff ∷ 0xff ∷ 0 ∷ 0 ∷ 0 ∷ 1 ∷ 0 ∷ 0 ∷ 1 ∷ []

unfoldable pub six_pairs : List (List Pixel)
unfolding px at neg
six_pairs = map (λ v. px 0 0 ∷ v ∷ []) (px 0 1 ∷ px 1 1 ∷ px 2 1 ∷ at (neg 1) (pos 1) ∷ px 1 2 ∷ px 1 0 ∷ [])

-- the finder for r, and for r = 1
unfoldable pub finds_for : ℕ → List (List Pixel) → ℕ → Answer (List ℤ)
unfolding planned find book_of
finds_for r ts limit = planned (find (book_of ts) r limit)

unfoldable pub finds : List (List Pixel) → ℕ → Answer (List ℤ)
unfolding finds_for
finds = finds_for 1

unfoldable pub writes : List (List Pixel) → List ℕ → Answer (List ℤ)
unfolding counted write_book book_of
writes ts out = counted (write_book (book_of ts) out).answer

unfoldable pub reads : List ℕ → Answer (List ℤ)
unfolding done read_book
reads s = done (read_book s).outcome

-- the check for r, and for r = 1
unfoldable pub checks_for : ℕ → List (List Pixel) → Pixel → Pixel → Answer (List ℤ)
unfolding checked check book_of
checks_for r ts x y = checked r (check (book_of ts) r x y)

unfoldable pub checks : List (List Pixel) → Pixel → Pixel → Answer (List ℤ)
unfolding checks_for
checks = checks_for 1

-- a plain and a ring fetch for r = 1 of pattern n, moved to (0, 0), under plan 5, 2, 1 with 50 words
unfoldable pub fetches : List (List Pixel) → ℕ → ℕ → ℕ → List ℕ → Answer (List ℤ)
unfolding fetched_by fetch book_of plan px
fetches ts W H n out = fetched_by 1 (fetch (book_of ts) 1 (plan 5 2 1) W H (replicate 50 0) n (px 0 0) out).answer

unfoldable pub rings : List (List Pixel) → ℕ → ℕ → ℕ → List ℕ → Answer (List ℤ)
unfolding fetched_by ring_fetch book_of plan px
rings ts W H n out = fetched_by 1 (ring_fetch (book_of ts) 1 (plan 5 2 1) W H (replicate 50 0) n (px 0 0) out).answer

-- the cycles of pattern n for r: what the call answers, and what it leaves in the output
unfoldable pub cycles_answer : ℕ → List (List Pixel) → Plan → ℕ → List ℕ → Answer (List ℤ)
unfolding fetched_by write_cycles book_of
cycles_answer r ts p n out = fetched_by r (write_cycles (book_of ts) r p n out).answer

unfoldable pub cycles_left : ℕ → List (List Pixel) → Plan → ℕ → List ℕ → Answer (List ℤ)
unfolding is write_cycles book_of
cycles_left r ts p n out = is (write_cycles (book_of ts) r p n out).content

-- a memory of the words 1, 2, 3, .., and with it a plain and a ring fetch for r: what it answers, and what it leaves in the output
unfoldable pub up_to : ℕ → List ℕ
unfolding gather
up_to n = gather 1 n λ i. i

unfoldable pub fetch_answer_for : ℕ → List (List Pixel) → Plan → ℕ → ℕ → ℕ → ℕ → Pixel → List ℕ → Answer (List ℤ)
unfolding fetched_by fetch book_of up_to
fetch_answer_for r ts p W H words n o out = fetched_by r (fetch (book_of ts) r p W H (up_to words) n o out).answer

unfoldable pub fetched_for : ℕ → List (List Pixel) → Plan → ℕ → ℕ → ℕ → ℕ → Pixel → List ℕ → Answer (List ℤ)
unfolding is fetch book_of up_to
fetched_for r ts p W H words n o out = is (fetch (book_of ts) r p W H (up_to words) n o out).content

unfoldable pub ring_answer_for : ℕ → List (List Pixel) → Plan → ℕ → ℕ → ℕ → ℕ → Pixel → List ℕ → Answer (List ℤ)
unfolding fetched_by ring_fetch book_of up_to
ring_answer_for r ts p W H words n o out = fetched_by r (ring_fetch (book_of ts) r p W H (up_to words) n o out).answer

unfoldable pub ring_fetched_for : ℕ → List (List Pixel) → Plan → ℕ → ℕ → ℕ → ℕ → Pixel → List ℕ → Answer (List ℤ)
unfolding is ring_fetch book_of up_to
ring_fetched_for r ts p W H words n o out = is (ring_fetch (book_of ts) r p W H (up_to words) n o out).content

-- an answer in numbers: 0 and its values, or the refusal's number, and of a clash its pattern and positions; and a reply of demand
-- 3's list, a fetch's with its output
unfoldable pub numbers : {A : Type 0} → (A → List ℕ) → Answer A → List ℕ
numbers f (value x) = 0 ∷ f x
numbers f (refusal n i none) = n ∷ []
numbers f (refusal n i (some c)) = n ∷ c.pattern ∷ c.positions

unfoldable pub replied : Demand.Reply → List ℕ
unfolding numbers
replied (Demand.wrote x) = numbers (λ u. []) x
replied (Demand.loaded x) = numbers (λ n. n ∷ []) x
replied (Demand.fetched x out) = numbers (λ n. n ∷ []) x ++ out
replied (Demand.summed x) = numbers (λ n. n ∷ []) x
