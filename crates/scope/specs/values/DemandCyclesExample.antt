-- Demand 3 read off at r = 2 (document 02, Card 4). The book has one pattern, (0, 0) and (1, 0); the finder's plan for r = 2 is
-- 1, 0, 1, so both words of a fetch come from one bank, in two cycles.
-- Assumes nothing.
use Rattle.std.specs.Prelude.{ℕ, ◌<◌, ◌≡◌, false, pos, length, get_or}
use Rattle.std.proofs.Math.Path.{refl}
use Rattle.std.proofs.Common.{◌∙◌, arith}
use Rattle.std.proofs.Math.Option.{none}
use mathlib.Core.List.{List, [], ◌∷◌, ◌++◌}
use Rattle.scope.specs.Plans.{at, plan}
use Rattle.scope.specs.Banks.{bank_of}
use Rattle.scope.specs.Books.{book_of}
use Rattle.scope.specs.Numbers.{value}
use Rattle.scope.specs.Calls.{Lent, lent, size_of, find}
use Rattle.scope.specs.promises.Demand.{Call, write, read, store, fetch, fetched, Setting, reply, run, test, reply_due, banks_read, cycles_read, picture_words, CallHolds, Demand3}

-- a picture of 2 by 1, and a memory of its two words and another, with one sum
unfoldable pub pair : Setting
unfolding book_of plan at
pair = record { book = book_of ((at (pos 0) (pos 0) ∷ at (pos 1) (pos 0) ∷ []) ∷ []); r = 2; plan = plan 1 0 1; W = 2; H = 1 }

abbrev pub words : Lent
words = lent (0 ∷ 0 ∷ 7 ∷ []) (3 ∷ [])

-- a store at each pixel, and a fetch of the pattern into an output of three words
unfoldable pub stores : List Call
unfolding at
stores = write (store (at (pos 0) (pos 0)) 8) ∷ write (store (at (pos 1) (pos 0)) 9) ∷ []

unfoldable pub last : Call
unfolding at
last = read (fetch false 0 (at (pos 0) (pos 0)) (5 ∷ 5 ∷ 5 ∷ []))

-- What demand 3 says of them.
pub record ReadOffInCycles : Type 0 where
  -- the fetch brings both words
  pub words_fetched : reply pair (run pair words stores) last ≡ fetched (value 2) (8 ∷ 9 ∷ 5 ∷ [])
  -- they come from one bank, so not in one cycle, and both cycles are below 2
  pub one_bank : bank_of (plan 1 0 1) (at (pos 0) (pos 0)) ≡ bank_of (plan 1 0 1) (at (pos 1) (pos 0))
  pub cycles_differ : get_or (cycles_read pair last) 0 0 ≡ get_or (cycles_read pair last) 1 0 → ⊥
  pub first_below : get_or (cycles_read pair last) 0 0 < 2
  pub second_below : get_or (cycles_read pair last) 1 0 < 2

module _ (demand_3 : Demand3) where
  -- the premises hold
  after_stores : CallHolds pair words stores last
  unfolding pair find picture_words
  after_stores = (demand_3 pair 1024 words (stores ++ (last ∷ [])) refl (omega arith) refl).each stores last [] refl

  due : reply_due pair words stores last ≡ fetched (value 2) (8 ∷ 9 ∷ 5 ∷ [])
  unfolding pair stores last reply_due
  due = refl

  same_bank : bank_of (plan 1 0 1) (at (pos 0) (pos 0)) ≡ bank_of (plan 1 0 1) (at (pos 1) (pos 0))
  unfolding bank_of plan at
  same_bank = refl

  fetch_taken : test pair (size_of words) last ≡ none
  unfolding pair last test
  fetch_taken = refl

  two_words : length (banks_read pair last) ≡ 2
  unfolding pair last banks_read
  two_words = refl

  two_cycles : length (cycles_read pair last) ≡ 2
  unfolding pair last cycles_read
  two_cycles = refl

  differ : get_or (cycles_read pair last) 0 0 ≡ get_or (cycles_read pair last) 1 0 → ⊥
  unfolding pair last banks_read
  differ same = (after_stores.in_cycles fetch_taken).apart 0 1 (omega arith) (omega (arith, two_words)) same_bank same

  below : (e : ℕ) → e < 2 → get_or (cycles_read pair last) e 0 < 2
  unfolding pair
  below e h = (after_stores.in_cycles fetch_taken).below e (omega (arith, h, two_cycles))

  pub read_off : ReadOffInCycles
  read_off =
      record {
        words_fetched = after_stores.agrees ∙ due;
        one_bank = same_bank;
        cycles_differ = differ;
        first_below = below 0 (omega arith);
        second_below = below 1 (omega arith);
      }
