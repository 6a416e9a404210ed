-- The cells of a book: what stands at each entry, and that the entries of a pattern give its pixels, raised by 16.
-- Assumes nothing.
use Prim.Native.Nat.{ℕ, suc, ◌+◌, ◌-◌, ◌*◌, ◌/◌, ◌%◌, min, ◌≤◌, ◌<◌}
use native.Mathlib.Nat.{zero-add, add-zero, mul_comm, min-eq_left, mod-eq_of_lt}
use native.Mathlib.Omega.{arith}
use native.Mathlib.Decide.{dec_lt, ℕ_discrete}
use mathlib.Core.Path.{◌≡◌, refl, sym, ◌∙◌, ap, ap₂}
use mathlib.Core.Logic.{inl, inr, ⊎_elim}
use mathlib.Core.Bool.{cond}
use mathlib.Core.Option.{none}
use mathlib.Core.List.{List, [], ◌∷◌, map}
use lib.Dec.{ltb}
use lib.IntN.{ℤ, pos, ◌+ℤ◌}
use lib.ListN.{length, get_or, set, length-map, length-set, replicate, length-replicate, get_or-replicate}
use Rattle.integers.proofs.Ring.{ring, reify}
use Rattle.integers.proofs.Comparisons.{ltb_iff, ltb_false_iff}
use Rattle.integers.proofs.Digits.{upper_digit, lower_digit}
use Rattle.scope.specs.Search.{gather}
use Rattle.scope.specs.Plans.{Pixel, at, plus, pixel_at, pattern_at, pixels}
use Rattle.scope.specs.Numbers.{record_test}
use Rattle.scope.specs.promises.Meaning.{InRange, IsPattern, IsBook}
use Rattle.scope.specs.declared.Pattern.{Pattern}
use Rattle.scope.specs.declared.Book.{Book}
use Rattle.checks.proofs.Lists.{get_d_map, get_or-set_same, get_or-set_other}
use Rattle.checks.proofs.Searches.{get_d_gather}
use Rattle.checks.proofs.FilledArrays.{Filled, gathered}
use Rattle.checks.proofs.Patterns.{origin, same_coordinates, length_pixels, get_d_pixels}
use Rattle.checks.proofs.BookTests.{book_legal_iff}
use Rattle.book.specs.Scan.{cell_of}
use Rattle.book.proofs.Window.{offset, offset_is, offset_below, cell_inside}
use Rattle.finder.specs.Counting.{pattern_entry, cells_of, EntriesPut, cell_pixel, pattern_in}

-- A pattern's entries: its count, then the cells of its pixels, then 0.
pub count_entry : (t : Pattern) (k : ℕ) → k ≡ 0 → t.used ≡ pattern_entry t k
unfolding pattern_entry
count_entry t k i = rw i

pub pixel_entry : (t : Pattern) (k e : ℕ) → k ≡ suc e → e < t.used → cell_of (pixel_at t e) ≡ pattern_entry t k
unfolding pattern_entry
pixel_entry t k e i below = rw (i, (ltb_iff e t.used).1 below) refl

pub empty_entry : (t : Pattern) (k e : ℕ) → k ≡ suc e → t.used ≤ e → 0 ≡ pattern_entry t k
unfolding pattern_entry
empty_entry t k e i above = rw (i, (ltb_false_iff e t.used).1 above) refl

-- They are put one after the other.
module _ {t : Pattern} {n : ℕ} where
  pub none_put : (xs : List ℕ) → EntriesPut t n 0 xs xs
  none_put xs = record { size = refl; own = λ e h. absurd (omega arith); others = λ k h. refl }

  pub one_more_put :
      (m : ℕ) {xs ys : List ℕ} {x : ℕ} → EntriesPut t n m xs ys → 65 * n + m < length ys → x ≡ pattern_entry t m
      → EntriesPut t n (m + 1) xs (set ys (65 * n + m) x)
  one_more_put m {xs} {ys} {x} s within is =
      record {
        size = length-set ys (65 * n + m) x ∙ s.size;
        own = λ e h. by_place e h (ℕ_discrete e m);
        others = λ k h. get_or-set_other ys (65 * n + m) k x 0 (⊎_elim (λ u. λ i. omega arith) (λ u. λ i. omega arith) h)
            ∙ s.others k (⊎_elim inl (λ u. inr (omega arith)) h);
      }
    where
      by_place : (e : ℕ) → e < m + 1 → Dec (e ≡ m) → get_or (set ys (65 * n + m) x) (65 * n + e) 0 ≡ pattern_entry t e
      by_place e h (yes d) = rw d (get_or-set_same ys (65 * n + m) x 0 within ∙ is)
      by_place e h (no d) = get_or-set_other ys (65 * n + m) (65 * n + e) x 0 (λ i. d (omega arith)) ∙ s.own e (omega arith)

-- what a book's patterns have at entry k
abbrev pub entry_at : Book → ℕ → ℕ
entry_at book k = pattern_entry (pattern_at book (k / 65)) (k % 65)

-- A book's entries: 0 from the last pattern's end on.
module _ (book : Book) where
  abbrev entry : ℕ → ℕ
  entry k = cond (ltb k (65 * book.count)) (entry_at book k) 0

  entry_used : (k : ℕ) → k < 65 * book.count → entry k ≡ entry_at book k
  entry_used k h = rw ((ltb_iff k (65 * book.count)).1 h)

  entry_unused : (k : ℕ) → 65 * book.count ≤ k → entry k ≡ 0
  entry_unused k h = rw ((ltb_false_iff k (65 * book.count)).1 h)

  get_d_cells : (k : ℕ) → k < 1040 → get_or (cells_of book) k 0 ≡ entry k
  unfolding cells_of
  get_d_cells k h = get_d_gather 0 1040 entry k 0 h ∙ ap entry (zero-add k)

  -- entry e of number n
  entry_of_pattern : (n e : ℕ) → e < 65 → entry_at book (65 * n + e) ≡ pattern_entry (pattern_at book n) e
  entry_of_pattern n e below =
      ap₂ (λ (n e : ℕ). pattern_entry (pattern_at book n) e) (rw (mul_comm 65 n) (upper_digit n 65 e below))
      (rw (mul_comm 65 n) (lower_digit n 65 e below))

  -- in the cells, where the book has that pattern, and where it has not
  module _ (n e : ℕ) (below : e < 65) where
    get_d_used : book.count ≤ 16 → n < book.count → get_or (cells_of book) (65 * n + e) 0 ≡ pattern_entry (pattern_at book n) e
    get_d_used most h =
        get_d_cells (65 * n + e) (omega arith)
        ∙ entry_used (65 * n + e) (omega arith)
        ∙ entry_of_pattern n e below

    get_d_unused : book.count ≤ n → n < 16 → get_or (cells_of book) (65 * n + e) 0 ≡ 0
    get_d_unused h less = get_d_cells (65 * n + e) (omega arith) ∙ entry_unused (65 * n + e) (omega arith)

  -- after those of pattern n the entries up to the next pattern are put
  pub one_more_pattern :
      (n : ℕ) {xs ys zs : List ℕ} → Filled 0 (entry_at book) (65 * n) xs ys → EntriesPut (pattern_at book n) n 65 ys zs
      → Filled 0 (entry_at book) (65 * (n + 1)) xs zs
  one_more_pattern n {xs} {ys} {zs} t s =
      record {
        size = s.size ∙ t.size;
        new = λ m b h. by_place m b h (dec_lt m (65 * n));
        old = λ m b. s.others m (inr (omega arith)) ∙ t.old m (omega arith);
      }
    where
      by_place : (m : ℕ) → m < 65 * (n + 1) → m < length zs → Dec (m < 65 * n) → get_or zs m 0 ≡ entry_at book m
      by_place m b h (yes u) = s.others m (inl u) ∙ t.new m u (omega (arith, s.size))
      by_place m b h (no u) =
          let at_entry : m ≡ 65 * n + (m - 65 * n) = omega arith in
          let below : m - 65 * n < 65 = omega arith in
          ap (λ (k : ℕ). get_or zs k 0) at_entry
          ∙ s.own (m - 65 * n) below
          ∙ sym (entry_of_pattern n (m - 65 * n) below)
          ∙ ap (entry_at book) (sym at_entry)

  -- the cells, where the entries of all patterns were put
  pub all_entries_put :
      {ys : List ℕ} (k : ℕ) → Filled 0 (entry_at book) k (replicate 1040 0) ys → k ≡ 65 * book.count → ys ≡ cells_of book
  unfolding cells_of
  all_entries_put {ys} k t e = gathered 0 1040 entry ys size (λ m h. by_place m h (dec_lt m k))
    where
      size : length ys ≡ 1040
      size = t.size ∙ length-replicate {A = ℕ} 1040 0

      by_place : (m : ℕ) → m < 1040 → Dec (m < k) → get_or ys m 0 ≡ entry m
      by_place m h (yes b) = t.new m b (omega (arith, size)) ∙ sym (entry_used m (omega arith))
      by_place m h (no b) =
          t.old m (omega arith) ∙ get_or-replicate {A = ℕ} 1040 m 0 0 h ∙ sym (entry_unused m (omega arith))

-- A cell of the window gives its pixel, raised by 16.
exchanged : (z : ℤ) → z +ℤ pos 16 ≡ pos 16 +ℤ z
exchanged z = ring (z ∷ []) (search reify depth 40 fits 9000) refl

module _ (v : Pixel) (c : InRange v.column) (r : InRange v.row) where
  abbrev x : ℕ
  x = offset v.column

  abbrev y : ℕ
  y = offset v.row

  column_of_cell : (32 * y + x) % 32 ≡ x
  column_of_cell = rw (mul_comm 32 y) (lower_digit y 32 x (offset_below v.column c))

  row_of_cell : (32 * y + x) / 32 % 32 ≡ y
  row_of_cell =
      rw (mul_comm 32 y, upper_digit y 32 x (offset_below v.column c)) (mod-eq_of_lt (offset_below v.row r))

  pub cell_gives_pixel : cell_pixel (cell_of v) ≡ plus (at (pos 16) (pos 16)) v
  unfolding cell_pixel plus
  cell_gives_pixel =
      ap cell_pixel (cell_inside v c r)
      ∙ same_coordinates (ap pos column_of_cell ∙ offset_is v.column c ∙ exchanged v.column)
      (ap pos row_of_cell ∙ offset_is v.row r ∙ exchanged v.row)

-- The pattern that entries have at number n, by how many pixels it has.
pattern_in_is :
    (cells : List ℕ) (n m : ℕ) → get_or cells (65 * n) 0 ≡ m → m ≤ 64
    → pattern_in cells n ≡ gather 0 m (λ e. cell_pixel (get_or cells (65 * n + suc e) 0))
unfolding pattern_in
pattern_in_is cells n m e h =
    let first : ℕ → List Pixel = λ k. gather 0 k (λ e. cell_pixel (get_or cells (65 * n + suc e) 0)) in
    ap (λ (k : ℕ). first (min k 64)) e ∙ ap first (min-eq_left h)

-- In the cells of a book number n has the pixels of pattern n, raised by 16,
pub pattern_in_cells :
    (book : Book) (n : ℕ) → record_test book ≡ none → n < book.count
    → pattern_in (cells_of book) n ≡ map (plus (at (pos 16) (pos 16))) (pixels (pattern_at book n))
pattern_in_cells book n legal h =
    pattern_in_is (cells_of book) n t.used count is_pattern.most
    ∙ sym (gathered (raised origin) t.used pixel (map raised (pixels t)) (length-map (pixels t) raised ∙ length_pixels t) each)
  where
    t : Pattern
    t = pattern_at book n

    is_book : IsBook book
    is_book = (book_legal_iff book).0 legal

    is_pattern : IsPattern t
    is_pattern = is_book.each n h

    raised : Pixel → Pixel
    raised = plus (at (pos 16) (pos 16))

    pixel : ℕ → Pixel
    pixel e = cell_pixel (get_or (cells_of book) (65 * n + suc e) 0)

    count : get_or (cells_of book) (65 * n) 0 ≡ t.used
    count =
        ap (λ (k : ℕ). get_or (cells_of book) k 0) (sym (add-zero (65 * n)))
        ∙ get_d_used book n 0 (omega arith) is_book.most h
        ∙ sym (count_entry t 0 refl)

    each : (e : ℕ) → e < t.used → get_or (map raised (pixels t)) e (raised origin) ≡ pixel e
    each e b =
        get_d_map raised (pixels t) e origin (raised origin) (omega (arith, length_pixels t))
        ∙ ap raised (get_d_pixels t e origin b)
        ∙ sym (ap cell_pixel
        (get_d_used book n (suc e) (omega (arith, is_pattern.most)) is_book.most h
        ∙ sym (pixel_entry t (suc e) e refl b))
        ∙ cell_gives_pixel (pixel_at t e) (is_pattern.each e b).column (is_pattern.each e b).row)

-- and from the book's count on none.
pub no_pattern_in_cells :
    (book : Book) (n : ℕ) → book.count ≤ n → n < 16 → pattern_in (cells_of book) n ≡ []
unfolding gather
no_pattern_in_cells book n h less =
    pattern_in_is (cells_of book) n 0
    (ap (λ (k : ℕ). get_or (cells_of book) k 0) (sym (add-zero (65 * n))) ∙ get_d_unused book n 0 (omega arith) h less)
    (omega arith)
