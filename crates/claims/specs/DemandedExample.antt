-- What `Demanded` says, read off in two small pictures: its premises are met there, and each part of its claim gives a plain
-- fact. It speaks of every answer and all buffers that are those of the definition `find_and_run`, and names no code: that
-- the code's are, the contract of the function `find_and_run` says. The book has one pattern, (0, 0) and (1, 0); the finder's
-- plan for it is 2, 0, 1. The first picture is of 3 by 1: its pixels have the words 0, 2 and 1 of the memory, and word 3 is
-- no pixel's.
-- Assumes nothing.
use Rattle.std.specs.Prelude.{ℕ, zero, suc, ◌<◌, ◌≡◌, false, pos, get_or, drop, replicate, Err}
use Rattle.std.proofs.Math.Path.{refl}
use Rattle.std.proofs.Common.{◌∙◌, ap, arith}
use mathlib.Core.List.{List, [], ◌∷◌, ◌++◌, flat_map}
use Rattle.scope.specs.Plans.{Pixel, at, plan}
use Rattle.scope.specs.Banks.{bank_of, word_of, word_in, over_start}
use Rattle.scope.specs.Books.{book_of}
use Rattle.scope.specs.Calls.{size_of}
use Rattle.scope.specs.promises.Meaning.{Inside}
use Rattle.scope.specs.promises.Demand.{Call, read, fetch, Setting, test, last_stored, banks_read, cycles_read, picture_words, CallHolds}
use Rattle.scope.specs.declared.Book.{Book}
use Rattle.scope.specs.declared.Refusal.{Refusal}
use Rattle.pictures.specs.Lists.{setting, calls_of, reply_numbers, Buffers, buffers}
use Rattle.claims.specs.Demanded.{find_and_run, replies_due, DemandMet, Demanded}
use Rattle.claims.specs.Demanded.{FoundRun}

-- Demand 3 follows where the answer r and what is left are those of the definition.
abbrev pub DemandFollows : Type 0
DemandFollows =
    (book : Book) (r limit W H : ℕ) (numbers : List ℕ) (b : Buffers) (x : FoundRun) (left : Buffers)
    → x ≡ (find_and_run book r limit W H numbers b).answer → left ≡ (find_and_run book r limit W H numbers b).content
    → Demanded x book r W H numbers b left

unfoldable pub small : Setting
unfolding book_of at plan
small = setting (book_of ((at (pos 0) (pos 0) ∷ at (pos 1) (pos 0) ∷ []) ∷ [])) 1 (plan 2 0 1) 3 1

-- 8 is stored at (1, 0) and 9 at (2, 0); both are fetched; bank 0 is cleared, (1, 0) is loaded, and (3, 0), which is outside
abbrev pub stores : List ℕ
stores = (0 ∷ 1 ∷ 0 ∷ 8 ∷ 0 ∷ []) ++ (0 ∷ 2 ∷ 0 ∷ 9 ∷ 0 ∷ [])

abbrev pub later : List ℕ
later = (1 ∷ 0 ∷ 0 ∷ 0 ∷ 0 ∷ []) ++ (2 ∷ 1 ∷ 0 ∷ 0 ∷ 0 ∷ []) ++ (2 ∷ 3 ∷ 0 ∷ 0 ∷ 0 ∷ [])

abbrev pub six : List ℕ
six = stores ++ (3 ∷ 1 ∷ 0 ∷ 0 ∷ 3 ∷ []) ++ later

unfoldable pub both : Call
unfolding at
both = read (fetch false 0 (at (pos 1) (pos 0)) (5 ∷ 5 ∷ 5 ∷ []))

-- the four words of the picture and one more, sums that are some numbers and one entry more, the fetch's room and one word more, and
-- the replies and one number more
abbrev pub start : Buffers
start = buffers (0 ∷ 0 ∷ 0 ∷ 0 ∷ 7 ∷ []) (3 ∷ 1 ∷ 4 ∷ []) (5 ∷ 5 ∷ 5 ∷ 6 ∷ []) (replicate 72 1 ++ (4 ∷ []))

-- a memory of the four words only, and no sums
abbrev pub exact : Buffers
exact = buffers (0 ∷ 0 ∷ 0 ∷ 0 ∷ []) [] [] []

-- a picture of 2 by 1: 8 is stored at (0, 0) and 9 at (1, 0), and a ring fetch from (1, 0) wraps to (0, 0)
unfoldable pub ringed : Setting
unfolding small
ringed = setting small.book 1 (plan 2 0 1) 2 1

abbrev pub around : List ℕ
around = (0 ∷ 0 ∷ 0 ∷ 8 ∷ 0 ∷ []) ++ (0 ∷ 1 ∷ 0 ∷ 9 ∷ 0 ∷ []) ++ (4 ∷ 1 ∷ 0 ∷ 0 ∷ 3 ∷ [])

abbrev pub pair : Buffers
pair = buffers (0 ∷ 0 ∷ []) (0 ∷ 0 ∷ []) (5 ∷ 5 ∷ 5 ∷ []) (replicate 36 1)

-- a reply's numbers: two, then 0
abbrev pub reply : ℕ → ℕ → List ℕ
reply n x = n ∷ x ∷ replicate 10 0

-- What demand 3 says of what is left.
pub record ReadOff (left : Buffers) : Type 0 where
  pub words_fetched : left.outputs ≡ 8 ∷ 9 ∷ 5 ∷ 6 ∷ []
  pub replies_told : left.rows ≡ reply 0 0 ++ reply 0 0 ++ reply 0 2 ++ reply 0 0 ++ reply 0 8 ++ reply 14 0 ++ (4 ∷ [])
  -- the word stored at (1, 0), the cleared one of (2, 0), and the one that is no pixel's
  pub word_stands : get_or left.picture.memory 2 0 ≡ 8
  pub word_cleared : get_or left.picture.memory 1 0 ≡ 0
  pub other_is_0 : get_or left.picture.memory 3 0 ≡ 0
  pub rest_stays : drop 4 left.picture.memory ≡ 7 ∷ []
  pub as_long : size_of left.picture ≡ record { words = 5; entries = 3 }
  pub exact_as_long :
      (short : Buffers) → short ≡ (find_and_run small.book 1 1024 3 1 [] exact).content → size_of short.picture ≡ record { words = 4; entries = 0 }
  -- the ring fetch brings the words stored at the wrapped pixels
  pub words_around :
      (turned : Buffers) → turned ≡ (find_and_run small.book 1 1024 2 1 around pair).content → turned.outputs ≡ 9 ∷ 8 ∷ 5 ∷ []
  -- the two words of the fetch come from two banks
  pub banks_differ : bank_of (plan 2 0 1) (at (pos 1) (pos 0)) ≡ bank_of (plan 2 0 1) (at (pos 2) (pos 0)) → ⊥
  -- with limit 0 the finder refuses, and nothing is changed
  pub refused : find_and_run small.book 1 0 3 1 six start ≡ record { answer = Err Refusal.Limit; content = start }

in_picture : (i : ℕ) → i < 3 → Inside 3 1 (at (pos i) (pos 0))
unfolding at
in_picture i below = record { i = i; j = 0; column = refl; row = refl; i_below = below; j_below = omega arith }

no_word : (i : ℕ) → i < 3 → word_of (plan 2 0 1) 3 1 (at (pos i) (pos 0)) ≡ 3 → ⊥
unfolding word_of plan at
no_word zero below e = omega (arith, e)
no_word (suc zero) below e = omega (arith, e)
no_word (suc (suc zero)) below e = omega (arith, e)
no_word (suc (suc (suc i))) below e = omega (arith, below)

no_pixel : (v : Pixel) → Inside 3 1 v → word_of (plan 2 0 1) 3 1 v ≡ 3 → ⊥
unfolding word_of at
no_pixel v h e =
    let row : v.row ≡ pos 0 = h.row ∙ ap pos (omega (arith, h.j_below)) in
    no_word h.i h.i_below (rw (h.column, row) at e)

no_plan_lem : find_and_run small.book 1 0 3 1 six start ≡ record { answer = Err Refusal.Limit; content = start }
unfolding small find_and_run
no_plan_lem = refl

module _ (follows : DemandFollows) (left : Buffers) (is : left ≡ (find_and_run small.book 1 1024 3 1 six start).content) where
  -- the premises hold
  met : DemandMet small (calls_of six start.outputs) start left
  unfolding small find_and_run picture_words
  met = follows small.book 1 1024 3 1 six start _ left refl is (plan 2 0 1) refl (omega arith) refl

  exact_met :
      (short : Buffers) → short ≡ (find_and_run small.book 1 1024 3 1 [] exact).content → DemandMet small (calls_of [] []) exact short
  unfolding small find_and_run picture_words
  exact_met short e = follows small.book 1 1024 3 1 [] exact _ short refl e (plan 2 0 1) refl (omega arith) refl

  ringed_met :
      (turned : Buffers) → turned ≡ (find_and_run small.book 1 1024 2 1 around pair).content
      → DemandMet ringed (calls_of around pair.outputs) pair turned
  unfolding small ringed find_and_run picture_words
  ringed_met turned e = follows small.book 1 1024 2 1 around pair _ turned refl e (plan 2 0 1) refl (omega arith) refl

  of_fetch_lem : CallHolds small start.picture (calls_of stores []) both
  unfolding both calls_of
  of_fetch_lem = met.holds.each (calls_of stores []) both (calls_of later []) refl

  pub read_off : ReadOff left
  unfolding small ringed calls_of replies_due over_start flat_map reply_numbers word_in last_stored picture_words both banks_read cycles_read test
  read_off =
      record {
        words_fetched = met.outputs;
        replies_told = met.answers;
        word_stands = met.words (at (pos 1) (pos 0)) (in_picture 1 (omega arith));
        word_cleared = met.words (at (pos 2) (pos 0)) (in_picture 2 (omega arith));
        other_is_0 = met.others 3 (omega arith) no_pixel;
        rest_stays = met.rest;
        as_long = met.as_long;
        exact_as_long = λ short e. (exact_met short e).as_long;
        words_around = λ turned e. (ringed_met turned e).outputs;
        banks_differ = λ same. (of_fetch_lem.in_cycles refl).apart 0 1 (omega arith) (omega arith) same refl;
        refused = no_plan_lem;
      }
