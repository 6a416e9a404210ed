-- Demand 3 read off in three small pictures: its premises are met there, and each part of its claim gives a plain fact. The
-- book has one pattern, (0, 0) and (1, 0); the finder's plan for it is 2, 0, 1.
-- Assumes nothing.
use Rattle.std.specs.Prelude.{ℕ, ◌≡◌, true, false, get_or, drop}
use Rattle.std.proofs.Math.Path.{refl, ap}
use Rattle.std.proofs.Common.{◌∙◌}
use Rattle.std.proofs.Math.Option.{none}
use mathlib.Core.List.{List, [], ◌∷◌, ◌++◌}
use native.Mathlib.Omega.{arith}
use Rattle.std.proofs.Math.IntN.{pos, nat_abs}
use Rattle.scope.specs.Plans.{Pixel, at, plan, banks, pattern_at}
use Rattle.scope.specs.Banks.{bank_of, word_of, word_in}
use Rattle.scope.specs.Books.{book_of}
use Rattle.scope.specs.Numbers.{value}
use Rattle.scope.specs.Calls.{Lent, lent, size_of, find}
use Rattle.scope.specs.promises.Meaning.{Inside}
use Rattle.scope.specs.promises.Demand.{Call, write, read, store, clear, load, fetch, fetched, Setting, reply, run, test, reply_due, last_stored, banks_read, cycles_read, picture_words, CallHolds, ListHolds, Demand3}

-- a picture of W by H
unfoldable pub sized : ℕ → ℕ → Setting
unfolding book_of plan at
sized W H = record { book = book_of ((at (pos 0) (pos 0) ∷ at (pos 1) (pos 0) ∷ []) ∷ []); r = 1; plan = plan 2 0 1; W = W; H = H }

-- a memory of one word more than a picture of 2 by 2 has, one of exactly the words of a picture of 1 by 1, and one for no word, each with
-- sums of some numbers, one more than banks, as many and one less
abbrev pub longer : Lent
longer = lent (0 ∷ 0 ∷ 0 ∷ 0 ∷ 7 ∷ []) (3 ∷ 1 ∷ 4 ∷ [])

abbrev pub exact : Lent
exact = lent (0 ∷ 0 ∷ []) (3 ∷ 1 ∷ [])

abbrev pub other : Lent
other = lent (7 ∷ []) (3 ∷ [])

-- and one of the words of a picture of 1 by 1 with one sum less than banks
abbrev pub few : Lent
few = lent (0 ∷ 0 ∷ []) (3 ∷ [])

-- two stores in row 1, and a fetch of the pattern there into an output of three words
unfoldable pub stores : List Call
unfolding at
stores = write (store (at (pos 0) (pos 1)) 8) ∷ write (store (at (pos 1) (pos 1)) 9) ∷ []

unfoldable pub last : Call
unfolding at
last = read (fetch false 0 (at (pos 0) (pos 1)) (5 ∷ 5 ∷ 5 ∷ []))

-- and a ring fetch of it from (1, 3), which wraps to (1, 1) and (0, 1)
unfoldable pub around : Call
unfolding at
around = read (fetch true 0 (at (pos 1) (pos 3)) (5 ∷ 5 ∷ 5 ∷ []))

-- What demand 3 says of them.
pub record ReadOff : Type 0 where
  -- the fetch brings the stored words, and leaves the third of its output
  pub words_fetched : reply (sized 2 2) (run (sized 2 2) longer stores) last ≡ fetched (value 2) (8 ∷ 9 ∷ 5 ∷ [])
  -- so does the ring fetch, from the wrapped pixels; it is taken there, and not in a picture of 1 by 1, as 2 does not divide 1
  pub words_around : reply (sized 2 2) (run (sized 2 2) longer stores) around ≡ fetched (value 2) (9 ∷ 8 ∷ 5 ∷ [])
  pub around_taken : test (sized 2 2) (size_of longer) around ≡ none
  pub around_refused : test (sized 1 1) (size_of exact) around ≡ none → ⊥
  -- bank 1 may be cleared; the pixel (2, 0) may not be loaded, and in a picture without a row nothing is taken
  pub clear_taken : test (sized 2 2) (size_of longer) (write (clear 1)) ≡ none
  pub outside_refused : test (sized 2 2) (size_of longer) (read (load (at (pos 2) (pos 0)))) ≡ none → ⊥
  pub no_row_refused : test (sized 2 0) (size_of other) (write (clear 1)) ≡ none → ⊥
  -- nor is a clear with too few sums
  pub few_sums_refused : test (sized 1 1) (size_of few) (write (clear 1)) ≡ none → ⊥
  -- the two words of the fetch come from two banks
  pub banks_differ : bank_of (plan 2 0 1) (at (pos 0) (pos 1)) ≡ bank_of (plan 2 0 1) (at (pos 1) (pos 1)) → ⊥
  -- after the stores the word of (1, 1) stands there, and the fifth word of the memory is as it was
  pub word_stands : word_in (plan 2 0 1) 2 2 (run (sized 2 2) longer stores).memory (at (pos 1) (pos 1)) ≡ 9
  pub rest_stays : drop 4 (run (sized 2 2) longer stores).memory ≡ 7 ∷ []
  pub as_long : size_of (run (sized 2 2) longer stores) ≡ record { words = 5; entries = 3 }
  -- a picture of one pixel leaves bank 1 without a pixel: its word is 0
  pub other_is_0 : get_or (run (sized 1 1) exact (write (store (at (pos 0) (pos 0)) 6) ∷ [])).memory 1 0 ≡ 0

module _ (demand_3 : Demand3) where
  -- the premises hold
  two_by_two : (calls : List Call) → ListHolds (sized 2 2) longer calls
  unfolding sized find picture_words
  two_by_two calls = demand_3 (sized 2 2) 1024 longer calls refl (omega arith) refl

  one_by_one : (calls : List Call) → ListHolds (sized 1 1) exact calls
  unfolding sized find picture_words
  one_by_one calls = demand_3 (sized 1 1) 1024 exact calls refl (omega arith) refl

  no_row : (calls : List Call) → ListHolds (sized 2 0) other calls
  unfolding sized find picture_words
  no_row calls = demand_3 (sized 2 0) 1024 other calls refl (omega arith) refl

  few_sums : (calls : List Call) → ListHolds (sized 1 1) few calls
  unfolding sized find picture_words
  few_sums calls = demand_3 (sized 1 1) 1024 few calls refl (omega arith) refl

  -- what holds of a call made alone, and of the fetch after the stores
  alone : (c : Call) → CallHolds (sized 2 2) longer [] c
  alone c = (two_by_two (c ∷ [])).each [] c [] refl

  after_stores : (c : Call) → CallHolds (sized 2 2) longer stores c
  after_stores c = (two_by_two (stores ++ (c ∷ []))).each stores c [] refl

  due : reply_due (sized 2 2) longer stores last ≡ fetched (value 2) (8 ∷ 9 ∷ 5 ∷ [])
  unfolding sized stores last reply_due
  due = refl

  due_around : reply_due (sized 2 2) longer stores around ≡ fetched (value 2) (9 ∷ 8 ∷ 5 ∷ [])
  unfolding sized stores around reply_due
  due_around = refl

  may_go_around : test (sized 2 2) (size_of longer) around ≡ none
  unfolding sized around pattern_at
  may_go_around =
      let used : (pattern_at (sized 2 2).book 0).used ≡ 2 = refl in
      (alone around).taken
      (((omega arith, omega arith), (omega arith, omega arith)), omega arith, record { w_multiple = (1, refl); h_multiple = (2, refl); shift_multiple = (0, refl) }, omega (arith, used))

  not_around : test (sized 1 1) (size_of exact) around ≡ none → ⊥
  unfolding sized around
  not_around e =
      let (k, w_is) = (((one_by_one (around ∷ [])).each [] around [] refl).only_legal e).2.w_multiple in
      absurd (omega (arith, w_is))

  stored_last : last_stored (sized 2 2) (size_of longer) stores (at (pos 1) (pos 1)) ≡ 9
  unfolding sized stores last_stored at
  stored_last = refl

  may_clear : test (sized 2 2) (size_of longer) (write (clear 1)) ≡ none
  unfolding sized banks
  may_clear = (alone (write (clear 1))).taken (((omega arith, omega arith), (omega arith, omega arith)), omega arith, omega arith)

  not_loaded : test (sized 2 2) (size_of longer) (read (load (at (pos 2) (pos 0)))) ≡ none → ⊥
  unfolding sized at
  not_loaded e =
      let k = ((alone (read (load (at (pos 2) (pos 0))))).only_legal e).1 in
      absurd (omega (arith, ap nat_abs k.column, k.i_below))

  nothing_taken : test (sized 2 0) (size_of other) (write (clear 1)) ≡ none → ⊥
  unfolding sized
  nothing_taken e = absurd (omega (arith, (((no_row (write (clear 1) ∷ [])).each [] (write (clear 1)) [] refl).only_legal e).0.1.0))

  not_without_sums : test (sized 1 1) (size_of few) (write (clear 1)) ≡ none → ⊥
  unfolding sized banks
  not_without_sums e = absurd (omega (arith, (((few_sums (write (clear 1) ∷ [])).each [] (write (clear 1)) [] refl).only_legal e).1))

  fetch_taken : test (sized 2 2) (size_of longer) last ≡ none
  unfolding sized last test
  fetch_taken = refl

  two_banks : bank_of (plan 2 0 1) (at (pos 0) (pos 1)) ≡ bank_of (plan 2 0 1) (at (pos 1) (pos 1)) → ⊥
  unfolding sized last banks_read cycles_read
  two_banks same = ((after_stores last).in_cycles fetch_taken).apart 0 1 (omega arith) (omega arith) same refl

  corner : Inside 2 2 (at (pos 1) (pos 1))
  unfolding at
  corner = record { i = 1; j = 1; column = refl; row = refl; i_below = omega arith; j_below = omega arith }

  stands : word_in (plan 2 0 1) 2 2 (run (sized 2 2) longer stores).memory (at (pos 1) (pos 1)) ≡ 9
  unfolding sized
  stands = (two_by_two stores).words (at (pos 1) (pos 1)) corner ∙ stored_last

  stays : drop 4 (run (sized 2 2) longer stores).memory ≡ 7 ∷ []
  unfolding sized picture_words
  stays = (two_by_two stores).rest

  no_pixel : (v : Pixel) → Inside 1 1 v → word_of (plan 2 0 1) 1 1 v ≡ 1 → ⊥
  unfolding word_of plan
  no_pixel v h e =
      let column : v.column ≡ pos 0 = h.column ∙ ap pos (omega (arith, h.i_below)) in
      let row : v.row ≡ pos 0 = h.row ∙ ap pos (omega (arith, h.j_below)) in
      absurd (omega (arith, rw (column, row) at e))

  other_0 : get_or (run (sized 1 1) exact (write (store (at (pos 0) (pos 0)) 6) ∷ [])).memory 1 0 ≡ 0
  unfolding sized picture_words
  other_0 = (one_by_one (write (store (at (pos 0) (pos 0)) 6) ∷ [])).others 1 (omega arith) no_pixel

  pub read_off : ReadOff
  read_off =
      record {
        words_fetched = (after_stores last).agrees ∙ due;
        words_around = (after_stores around).agrees ∙ due_around;
        around_taken = may_go_around;
        around_refused = not_around;
        clear_taken = may_clear;
        outside_refused = not_loaded;
        no_row_refused = nothing_taken;
        few_sums_refused = not_without_sums;
        banks_differ = two_banks;
        word_stands = stands;
        rest_stays = stays;
        as_long = (two_by_two stores).as_long;
        other_is_0 = other_0;
      }
