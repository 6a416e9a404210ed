-- The test of a list of calls in numbers, call by call, and what its answer tells.
-- Assumes nothing.
use Rattle.pictures.specs.declared.lists.ListFault.{ListFault}
use Rattle.std.specs.Prelude.{Ok, Err}
use Rattle.std.proofs.Common.{◌≡◌, ℕ, zero, suc, ◌+◌, ◌-◌, ◌*◌, ◌/◌, ◌%◌, ◌<◌, ◌≤◌, Bool, true, false, eqb, ltb, leb, List, length, get_or, drop, sym, refl, ap, ◌∙◌, arith, ltb-false, ltb-true, le-ltb, lt-ltb, eq-eqb, ne_eqb, eqb-true, le-leb, leb-false, leb-true, ◌++◌, length-append}
use lib.ListN.{get_or-append}
use lib.Seq.{drop-append_seam}
use mathlib.Core.Option.{Option, none, some}
use borrow.Author.Tests.{lt-leb, eqb-false}
use Rattle.pictures.specs.Lists.{call_at, room_at, is_call_at, list_fault, list_test, listed_by}
use Rattle.pictures.specs.Lists.{Listed}

-- a list is answered as its test found
no_fault : {fault : ListFault} → none ≡ some fault → ⊥
no_fault e = let z : ◌≡◌ {A = ℕ} 0 1 = cc in omega arith

module _ {t : Option ListFault} where
  pub listed_fault : {fault : ListFault} → t ≡ some fault → Err fault ≡ listed_by t
  unfolding listed_by
  listed_fault e = sym (ap listed_by e)

  pub listed_made : t ≡ none → ◌≡◌ {A = Listed} (Ok tt) (listed_by t)
  unfolding listed_by
  listed_made e = sym (ap listed_by e)

-- and the answer tells what it found
abbrev fault_or : ListFault → Listed → ListFault
fault_or fault (Ok u) = fault
fault_or fault (Err other) = other

pub made_found : (t : Option ListFault) → ◌≡◌ {A = Listed} (Ok tt) (listed_by t) → t ≡ none
unfolding listed_by
made_found none e = refl
made_found (some fault) e = let z : ◌≡◌ {A = ℕ} 0 1 = cc in absurd (omega arith)

pub fault_found : (t : Option ListFault) {fault : ListFault} → Err fault ≡ listed_by t → t ≡ some fault
unfolding listed_by
fault_found none e = let z : ◌≡◌ {A = ℕ} 0 1 = cc in absurd (omega arith)
fault_found (some other) {fault} e = ap some (sym (ap (fault_or fault) e))

-- xs begins with the five numbers of a call
pub record Begins (xs call others : List ℕ) : Type 0 where
  pub is : xs ≡ call ++ others
  pub five : length call ≡ 5

pub begins : (xs call others : List ℕ) → xs ≡ call ++ others → length call ≡ 5 → Begins xs call others
begins xs call others is five = record { is = is; five = five }

module _ {xs call others : List ℕ} (w : Begins xs call others) where
  first_at : (i : ℕ) → i < 5 → get_or xs i 0 ≡ get_or call i 0
  first_at i h = rw w.is (get_or-append call others 0 i (omega (arith, w.five)))

  pub first_is_call : is_call_at xs ≡ is_call_at call
  unfolding is_call_at
  first_is_call = rw (first_at 0 (omega arith), first_at 1 (omega arith), first_at 2 (omega arith), first_at 3 (omega arith)) refl

  pub first_call : (out : List ℕ) → call_at xs out ≡ call_at call out
  unfolding call_at
  first_call out = rw (first_at 0 (omega arith), first_at 1 (omega arith), first_at 2 (omega arith), first_at 3 (omega arith)) refl

  pub first_room : room_at xs ≡ room_at call
  unfolding room_at
  first_room = rw (first_at 0 (omega arith), first_at 4 (omega arith)) refl

  pub after_first : drop 5 xs ≡ others
  after_first = ap (λ (n : ℕ). drop n xs) (sym w.five) ∙ rw w.is (drop-append_seam call others)

  pub first_long : length xs ≡ length others + 5
  first_long = rw (w.is, length-append) (omega (arith, w.five))

-- n calls from place k on, and of these the first
module _ (k : ℕ) (xs : List ℕ) (room : ℕ) where
  pub no_calls : (n : ℕ) → n ≡ 0 → list_fault n k xs room ≡ none
  unfolding list_fault
  no_calls n e = rw e refl

  pub first_no_call : (n : ℕ) → 0 < n → is_call_at xs ≡ false → list_fault n k xs room ≡ some (ListFault.NotCalls k)
  unfolding list_fault
  first_no_call zero h e = absurd (omega arith)
  first_no_call (suc n) h e = rw (e, list_fault) refl

  pub first_lacks_room :
      (n : ℕ) → 0 < n → is_call_at xs ≡ true → room < room_at xs → list_fault n k xs room ≡ some ListFault.Short
  unfolding list_fault
  first_lacks_room zero h e less = absurd (omega arith)
  first_lacks_room (suc n) h e less = rw (list_fault, e, lt-leb (room_at xs) room less) refl

  pub past_first :
      (n : ℕ) → 0 < n → is_call_at xs ≡ true → room_at xs ≤ room
      → list_fault n k xs room ≡ list_fault (n - 1) (k + 5) (drop 5 xs) (room - room_at xs)
  unfolding list_fault
  past_first zero h e fits = absurd (omega arith)
  past_first (suc n) h e fits =
      let last : suc n - 1 ≡ n = omega arith in
      rw (last, list_fault, e, le-leb (room_at xs) room fits) refl

-- Where nothing is wrong with n calls, the first is one,
pub first_is_one : (n k : ℕ) (xs : List ℕ) (room : ℕ) → 0 < n → list_fault n k xs room ≡ none → is_call_at xs ≡ true
first_is_one n k xs room h None-found = by_test (is_call_at xs) refl
  where
    by_test : (a : Bool) → is_call_at xs ≡ a → is_call_at xs ≡ true
    by_test false e = absurd (no_fault (sym None-found ∙ first_no_call k xs room n h e))
    by_test true e = e

-- its room is there, and nothing is wrong with the others.
pub fault_goes_on :
    (n k : ℕ) (xs : List ℕ) (room : ℕ) → 0 < n → list_fault n k xs room ≡ none
    → (room_at xs ≤ room) × (list_fault (n - 1) (k + 5) (drop 5 xs) (room - room_at xs) ≡ none)
fault_goes_on n k xs room h None-found = by_tests (is_call_at xs) (leb (room_at xs) room) refl refl
  where
    by_tests :
        (a b : Bool) → is_call_at xs ≡ a → leb (room_at xs) room ≡ b
        → (room_at xs ≤ room) × (list_fault (n - 1) (k + 5) (drop 5 xs) (room - room_at xs) ≡ none)
    by_tests false b e f = absurd (no_fault (sym None-found ∙ first_no_call k xs room n h e))
    by_tests true false e f =
        absurd (no_fault (sym None-found ∙ first_lacks_room k xs room n h e (leb-false (room_at xs) room f)))
    by_tests true true e f =
        let fits : room_at xs ≤ room = leb-true (room_at xs) room f in
        (fits, sym (past_first k xs room n h e fits) ∙ None-found)

-- what is wrong with the calls of a whole list
abbrev pub fault_in : List ℕ → ℕ → Option ListFault
fault_in xs outs = list_fault (length xs / 5) 0 xs outs

-- The test of a whole list: the calls, the end, the replies.
module _ (xs : List ℕ) (outs rows : ℕ) where
  pub fault_first : {fault : ListFault} → fault_in xs outs ≡ some fault → list_test xs outs rows ≡ some fault
  unfolding list_test
  fault_first e = rw e refl

  module _ (right : fault_in xs outs ≡ none) where
    pub end_not_five : (length xs % 5 ≡ 0 → ⊥) → list_test xs outs rows ≡ some (ListFault.NotCalls (5 * (length xs / 5)))
    unfolding list_test
    end_not_five h = rw (right, ne_eqb (length xs % 5) 0 h) refl

    module _ (whole : length xs % 5 ≡ 0) where
      pub replies_short : rows < 12 * (length xs / 5) → list_test xs outs rows ≡ some ListFault.Short
      unfolding list_test
      replies_short h = rw (right, eq-eqb (length xs % 5) 0 whole, lt-ltb rows (12 * (length xs / 5)) h) refl

      pub list_right : 12 * (length xs / 5) ≤ rows → list_test xs outs rows ≡ none
      unfolding list_test
      list_right h = rw (right, eq-eqb (length xs % 5) 0 whole, le-ltb rows (12 * (length xs / 5)) h) refl

-- A list that passes: nothing is wrong with its calls, and there are twelve numbers to a call for the replies.
pub record Passes (xs : List ℕ) (outs rows : ℕ) : Type 0 where
  pub test : list_test xs outs rows ≡ none
  pub calls : fault_in xs outs ≡ none
  pub replies : 12 * (length xs / 5) ≤ rows

-- The answer that it was made shows that it passes.
pub made_passes : (xs : List ℕ) (outs rows : ℕ) → ◌≡◌ {A = Listed} (Ok tt) (listed_by (list_test xs outs rows)) → Passes xs outs rows
made_passes xs outs rows made = by_fault (fault_in xs outs) refl
  where
    passed : {fault : ListFault} → list_test xs outs rows ≡ some fault → ⊥
    passed e = no_fault (sym (made_found (list_test xs outs rows) made) ∙ e)

    by_replies : (b : Bool) → fault_in xs outs ≡ none → length xs % 5 ≡ 0 → ltb rows (12 * (length xs / 5)) ≡ b → Passes xs outs rows
    by_replies true right whole e =
        absurd (passed (replies_short xs outs rows right whole (ltb-true rows (12 * (length xs / 5)) e)))
    by_replies false right whole e =
        let room : 12 * (length xs / 5) ≤ rows = ltb-false rows (12 * (length xs / 5)) e in
        record { test = list_right xs outs rows right whole room; calls = right; replies = room }

    by_end : (b : Bool) → fault_in xs outs ≡ none → eqb (length xs % 5) 0 ≡ b → Passes xs outs rows
    by_end true right e = by_replies (ltb rows (12 * (length xs / 5))) right (eqb-true (length xs % 5) 0 e) refl
    by_end false right e = absurd (passed (end_not_five xs outs rows right (eqb-false (length xs % 5) 0 e)))

    by_fault : (t : Option ListFault) → fault_in xs outs ≡ t → Passes xs outs rows
    by_fault none e = by_end (eqb (length xs % 5) 0) e refl
    by_fault (some fault) e = absurd (passed (fault_first xs outs rows e))
