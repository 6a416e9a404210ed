-- Rows for the sums of the banks (document 02, Card 6), worked out from its sentences: refusals at both edges and where two conditions
-- break, lists of calls with sums, and the claim on them read off in a small picture. They refuse must-fail edits.
-- Assumes nothing.
use Rattle.std.specs.Prelude.{zero, suc, ◌≡◌, ◌⊎◌, get_or, drop, replicate}
use Rattle.std.proofs.Math.Path.{refl}
use Rattle.std.proofs.Common.{sym, subst, inl, inr, arith}
use Rattle.std.proofs.Math.Option.{none}
use mathlib.Core.List.Memᴰ
use mathlib.Core.List.{List, [], ◌∷◌, ◌++◌, map, flat_map, Memᴰ}
use Rattle.scope.specs.Plans.{plan, banks}
use Rattle.scope.specs.Banks.{bank_sum}
use Rattle.scope.specs.Books.{book_of}
use Rattle.scope.specs.Calls.{Lent, lent, size_of, store, clear, make_sums, read_sum}
use Rattle.scope.specs.code.Words.{place}
use Rattle.scope.specs.promises.Demand as Demand
use Rattle.scope.specs.promises.SumPromises.{Words16, Stores16, AllStore16, SumsAre, walking, SumsHold, SumsKept}
use Rattle.scope.specs.values.Rows.{Row, Hold, row, is, refused, done, counted, placed, px, up_to, replied}

-- The bank and the word of (2, 3) under 5, 2, 1. Plan 2, 0, 1 on 2 by 2: one entry is too few and two are enough. 13 comes after 11
-- and 12, and before 14 and 15; a look-up asks for no sides.
orders : List Row
unfolding row is refused done counted placed place store clear make_sums read_sum plan px up_to
orders =
    row (placed (place (plan 5 2 1) 7 4 (px 2 3))) (is (1 ∷ 14 ∷ []))
    ∷ row (placed (place (plan 5 2 1) 7 4 (px 7 3))) (refused 14 0)
    ∷ row (placed (place (plan 5 2 1) 0 4 (px 7 3))) (refused 12 0)
    ∷ row (done (store (plan 2 0 1) 2 2 (lent (up_to 4) (3 ∷ [])) (px 1 0) 9).answer) (refused 13 0)
    ∷ row (is (store (plan 2 0 1) 2 2 (lent (up_to 4) (3 ∷ [])) (px 1 0) 9).content.memory) (is (1 ∷ 2 ∷ 3 ∷ 4 ∷ []))
    ∷ row (is (store (plan 2 0 1) 2 2 (lent (up_to 4) (3 ∷ [])) (px 1 0) 9).content.sums) (is (3 ∷ []))
    ∷ row (done (store (plan 2 0 1) 2 2 (lent (up_to 4) (3 ∷ 7 ∷ [])) (px 1 0) 9).answer) (is [])
    ∷ row (done (store (plan 0 0 1) 2 2 (lent (up_to 4) []) (px 1 0) 9).answer) (refused 11 0)
    ∷ row (done (store (plan 2 0 1) 0 2 (lent (up_to 4) []) (px 1 0) 9).answer) (refused 12 0)
    ∷ row (done (store (plan 2 0 1) 2 2 (lent (up_to 4) (3 ∷ 7 ∷ [])) (px 2 0) 9).answer) (refused 14 0)
    ∷ row (is (store (plan 2 0 1) 2 2 (lent (up_to 4) (3 ∷ 7 ∷ [])) (px 2 0) 9).content.sums) (is (3 ∷ 7 ∷ []))
    ∷ row (done (clear (plan 2 0 1) 2 2 (lent (up_to 4) (3 ∷ [])) 2).answer) (refused 13 0)
    ∷ row (done (clear (plan 2 0 1) 2 2 (lent (up_to 4) (3 ∷ 7 ∷ [])) 2).answer) (refused 15 0)
    ∷ row (is (clear (plan 2 0 1) 2 2 (lent (up_to 4) (3 ∷ 7 ∷ [])) 2).content.sums) (is (3 ∷ 7 ∷ []))
    ∷ row (done (make_sums (plan 0 0 1) 0 2 (lent [] [])).answer) (refused 11 0)
    ∷ row (done (make_sums (plan 2 0 1) 0 2 (lent [] [])).answer) (refused 12 0)
    ∷ row (done (make_sums (plan 2 0 1) 2 2 (lent (up_to 3) (5 ∷ 6 ∷ []))).answer) (refused 13 0)
    ∷ row (done (make_sums (plan 2 0 1) 2 2 (lent (up_to 4) (5 ∷ []))).answer) (refused 13 0)
    ∷ row (is (make_sums (plan 2 0 1) 2 2 (lent (up_to 4) (5 ∷ []))).content.sums) (is (5 ∷ []))
    ∷ row (done (make_sums (plan 2 0 1) 2 2 (lent (up_to 4) (5 ∷ 6 ∷ []))).answer) (is [])
    ∷ row (counted (read_sum (plan 0 0 1) [] 9)) (refused 11 0)
    ∷ row (counted (read_sum (plan 2 0 1) (3 ∷ []) 2)) (refused 13 0)
    ∷ row (counted (read_sum (plan 2 0 1) (3 ∷ 7 ∷ []) 0)) (is (3 ∷ []))
    ∷ row (counted (read_sum (plan 1 0 1) (replicate 4097 7) 0)) (is (7 ∷ []))
    ∷ []

orders_hold : Hold orders
unfolding orders
orders_hold = refl

-- a picture of 2 by 2 under 2, 0, 1, whose words are 1, 2 and 3, 4, with sums that are some numbers and one entry more
unfoldable pub square : Demand.Setting
unfolding book_of plan px
square = record { book = book_of ((px 0 0 ∷ []) ∷ []); r = 1; plan = plan 2 0 1; W = 2; H = 2 }

abbrev pub begun : Lent
begun = lent (1 ∷ 2 ∷ 3 ∷ 4 ∷ []) (5 ∷ 6 ∷ 8 ∷ [])

-- Before: a look-up, a store of 9 over 3 and a look-up. Then the sums are made afresh. Since: a store of 1 over 2, one outside, a walk and
-- a look-up, a clear of bank 1, a walk, a look-up, and one of a bank that there is not.
unfoldable pub before : List Demand.Call
unfolding px
before =
    Demand.read (Demand.read_sum 1) ∷ Demand.write (Demand.store (px 1 0) 9) ∷ Demand.read (Demand.read_sum 1) ∷ []

unfoldable pub since : List Demand.Call
unfolding px
since =
    Demand.write (Demand.store (px 0 1) 1) ∷ Demand.write (Demand.store (px 2 0) 7) ∷ Demand.read (Demand.sum 0) ∷ Demand.read (Demand.read_sum 0)
    ∷ Demand.write (Demand.clear 1) ∷ Demand.read (Demand.sum 1) ∷ Demand.read (Demand.read_sum 1) ∷ Demand.read (Demand.read_sum 2) ∷ []

unfoldable pub whole : List Demand.Call
unfolding before since
whole = before ++ (Demand.write Demand.make_sums ∷ since)

lists : List Row
unfolding row is square whole replied flat_map Demand.run Demand.replies Demand.reply_due
lists =
    row (is (flat_map replied (Demand.replies square begun whole))) (is (0 ∷ 6 ∷ 0 ∷ 0 ∷ 12 ∷ 0 ∷ 0 ∷ 14 ∷ 0 ∷ 2 ∷ 0 ∷ 2 ∷ 0 ∷ 0 ∷ 0 ∷ 0 ∷ 0 ∷ 15 ∷ []))
    ∷ row (is (Demand.run square begun whole).sums) (is (2 ∷ 0 ∷ 8 ∷ []))
    ∷ row (is (Demand.run square begun whole).memory) (is (1 ∷ 1 ∷ 0 ∷ 0 ∷ []))
    ∷ row (is (flat_map replied (map (Demand.reply_due square begun before) since))) (is (0 ∷ 14 ∷ 0 ∷ 3 ∷ 0 ∷ 5 ∷ 0 ∷ 0 ∷ 13 ∷ 0 ∷ 12 ∷ 15 ∷ []))
    ∷ []

lists_hold : Hold lists
unfolding lists
lists_hold = refl

-- What the claim says of them: the sum of each bank and what reading it gives, the entry past N, and every reply, with walks in the place
-- of the look-ups since.
unfoldable pub walked : List Demand.Call
unfolding px
walked =
    Demand.write (Demand.store (px 0 1) 1) ∷ Demand.write (Demand.store (px 2 0) 7) ∷ Demand.read (Demand.sum 0) ∷ Demand.read (Demand.sum 0)
    ∷ Demand.write (Demand.clear 1) ∷ Demand.read (Demand.sum 1) ∷ Demand.read (Demand.sum 1) ∷ Demand.read (Demand.sum 2) ∷ []

pub record SumsReadOff : Type 0 where
  pub first_sum : get_or (Demand.run square begun whole).sums 0 0 ≡ bank_sum (plan 2 0 1) 2 2 (Demand.run square begun whole).memory 0
  pub last_sum : get_or (Demand.run square begun whole).sums 1 0 ≡ bank_sum (plan 2 0 1) 2 2 (Demand.run square begun whole).memory 1
  pub no_bank :
      Demand.reply square (Demand.run square begun whole) (Demand.read (Demand.read_sum 2))
      ≡ Demand.reply square (Demand.run square begun whole) (Demand.read (Demand.sum 2))
  pub past_stays : drop 2 (Demand.run square begun whole).sums ≡ 8 ∷ []
  pub as_long : size_of (Demand.run square begun whole) ≡ record { words = 4; entries = 3 }
  pub read_as_walked : Demand.replies square begun whole ≡ Demand.replies square begun (before ++ (Demand.write Demand.make_sums ∷ walked))

pub words_16 : Words16 (1 ∷ 2 ∷ 3 ∷ 4 ∷ [])
words_16 zero = omega arith
words_16 (suc zero) = omega arith
words_16 (suc (suc zero)) = omega arith
words_16 (suc (suc (suc zero))) = omega arith
words_16 (suc (suc (suc (suc i)))) = omega arith

none_16 : AllStore16 []
none_16 c m = absurd (Memᴰ.not-nil m)

one_more_16 : {c : Demand.Call} {cs : List Demand.Call} → Stores16 c → AllStore16 cs → AllStore16 (c ∷ cs)
one_more_16 {c} {cs} h hs d m = by_place (Memᴰ.cases_cons m)
  where
    by_place : (d ≡ c) ⊎ Memᴰ d cs → Stores16 d
    by_place (inl e) = subst Stores16 (sym e) h
    by_place (inr t) = hs d t

stores_16 : AllStore16 whole
unfolding whole before since
stores_16 =
    one_more_16 tt (one_more_16 (omega arith) (one_more_16 tt (one_more_16 tt
    (one_more_16 (omega arith) (one_more_16 (omega arith) (one_more_16 tt (one_more_16 tt
    (one_more_16 tt (one_more_16 tt (one_more_16 tt (one_more_16 tt none_16)))))))))))

made : Demand.test square (size_of begun) (Demand.write Demand.make_sums) ≡ none
unfolding square Demand.test
made = refl

module _ (sums_kept : SumsKept) where
  -- the premises hold
  holds : SumsHold square begun whole
  holds = sums_kept square begun whole words_16 stores_16

  sums_are : SumsAre square (Demand.run square begun whole)
  unfolding whole
  sums_are = holds.sums before since refl made

  pub read_off : SumsReadOff
  unfolding square whole since walked banks walking
  read_off =
      record {
        first_sum = sums_are.each 0 (omega arith);
        last_sum = sums_are.each 1 (omega arith);
        no_bank = sums_are.reading 2;
        past_stays = holds.past;
        as_long = holds.as_long;
        read_as_walked = holds.read_since before since refl made;
      }
