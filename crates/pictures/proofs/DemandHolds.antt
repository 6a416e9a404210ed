-- Demand 3 over a list of calls, under a plan that the finder gave for a book.
-- Assumes nothing.
use Rattle.std.proofs.Common.{◌≡◌, ℕ, ◌<◌, ◌≤◌, List, [], length, get_or, take, replicate, sym, refl, ap, ◌∙◌, arith}
use mathlib.Core.Option.{none}
use lib.ListN.{get_or-replicate}
use Rattle.scope.specs.Plans.{pattern_at, patterns}
use Rattle.scope.specs.Banks.{word_in}
use Rattle.scope.specs.promises.Meaning.{IsPlan, IsBook, IsCycles, IsPicture}
use Rattle.scope.specs.promises.CyclePromises.{LeastForCycles}
use Rattle.scope.specs.promises.Demand.{store, clear, make_sums, load, fetch, sum, read_sum, Call, write, read, Setting, run, test, last_stored, SidesAllowed, Allowed}
use Rattle.scope.specs.promises.Demand.{pixels_fetched, banks_read, cycles_read, InCycles, picture_words, Demand3}
use Rattle.scope.specs.Calls.{Lent, Size, size_of}
use Rattle.checks.proofs.Lists.{get_or-take}
use Rattle.checks.proofs.Patterns.{patterns_mem}
use Rattle.lattice.proofs.Classes.{suits_all_for_iff}
use Rattle.lattice.proofs.Rings.{read_in_cycles}
use Rattle.finder.proofs.FindAnswers.{LegalFind, find_value_iff}
use Rattle.finder.proofs.Least.{finder_is_least}
use Rattle.pictures.proofs.CallTests.{word_test_iff, bank_test_iff, fetch_test_iff, lent_test_iff, store_test_iff, clear_test_iff, read_sum_test_iff}
use Rattle.pictures.proofs.Runs.{Holds, word_inside_picture, run_holds}
use Rattle.pictures.proofs.Replies.{reply_is_due}

none_read : (r : ℕ) → InCycles r [] []
none_read r =
    record { as_many = refl; apart = λ e l h k same alike. absurd (omega arith); below = λ e h. absurd (omega arith) }

-- The words that a call reads, if it is not turned down, come in r cycles, at most one from each bank in each.
call_in_cycles : (g : Setting) (s : Size) (c : Call) → test g s c ≡ none → InCycles g.r (banks_read g c) (cycles_read g c)
unfolding test banks_read cycles_read pixels_fetched
call_in_cycles g s (write w) t = none_read g.r
call_in_cycles g s (read (load v)) t = none_read g.r
call_in_cycles g s (read (sum k)) t = none_read g.r
call_in_cycles g s (read (read_sum k)) t = none_read g.r
call_in_cycles g s (read (fetch ring n o out)) t =
    let (legal, (allowed, room)) = (fetch_test_iff g.plan g.W g.H s.words g.book g.r n ring o (length out)).0 t in
    let here = legal.picture in
    read_in_cycles g.plan g.W g.H here.w_side.0 here.h_side.0 ring g.r (pattern_at g.book n) o here.plan allowed
    legal.suiting

-- the sides of a picture
sides_of : (g : Setting) {words : ℕ} → IsPicture g.plan g.W g.H words → SidesAllowed g
sides_of g picture = (picture.w_side, picture.h_side)

-- A call that is not turned down is legal.
taken_call_legal : (g : Setting) (s : Size) (c : Call) → test g s c ≡ none → Allowed g s c
unfolding test
taken_call_legal g s (write (store v x)) t =
    let (here, inside) = (store_test_iff g.plan g.W g.H s v).0 t in
    (sides_of g here.picture, here.sums, inside)
taken_call_legal g s (write (clear k)) t =
    let (here, below) = (clear_test_iff g.plan g.W g.H s k).0 t in
    (sides_of g here.picture, here.sums, below)
taken_call_legal g s (write make_sums) t =
    let here = (lent_test_iff g.plan g.W g.H s).0 t in
    (sides_of g here.picture, here.sums)
taken_call_legal g s (read (load v)) t =
    let (picture, inside) = (word_test_iff g.plan g.W g.H s.words v).0 t in
    (sides_of g picture, inside)
taken_call_legal g s (read (fetch ring n o out)) t =
    let (legal, (allowed, room)) = (fetch_test_iff g.plan g.W g.H s.words g.book g.r n ring o (length out)).0 t in
    (sides_of g legal.picture, legal.number, allowed, room)
taken_call_legal g s (read (sum k)) t =
    let (picture, below) = (bank_test_iff g.plan g.W g.H s.words k).0 t in
    (sides_of g picture, below)
taken_call_legal g s (read (read_sum k)) t = ((read_sum_test_iff g.plan s.entries k).0 t).1

module _
    (g : Setting) (legal_book : IsBook g.book) (legal_cycles : IsCycles g.r) (least : LeastForCycles g.r g.book g.plan)
    (s : Size) (enough : picture_words g ≤ s.words)
  where
    picture : SidesAllowed g → IsPicture g.plan g.W g.H s.words
    unfolding picture_words
    picture sides = record { plan = least.plan; w_side = sides.0; h_side = sides.1; memory = enough }

    -- A legal call is not turned down.
    legal_call_taken : (c : Call) → Allowed g s c → test g s c ≡ none
    unfolding test
    legal_call_taken (write (store v x)) (sides, sums, inside) =
        (store_test_iff g.plan g.W g.H s v).1 (record { picture = picture sides; sums = sums }, inside)
    legal_call_taken (write (clear k)) (sides, sums, below) =
        (clear_test_iff g.plan g.W g.H s k).1 (record { picture = picture sides; sums = sums }, below)
    legal_call_taken (write make_sums) (sides, sums) =
        (lent_test_iff g.plan g.W g.H s).1 (record { picture = picture sides; sums = sums })
    legal_call_taken (read (load v)) (sides, inside) =
        (word_test_iff g.plan g.W g.H s.words v).1 (picture sides, inside)
    legal_call_taken (read (fetch ring n o out)) (sides, number, allowed, room) =
        (fetch_test_iff g.plan g.W g.H s.words g.book g.r n ring o (length out)).1 (
          record {
            legal_book = legal_book;
            legal_cycles = legal_cycles;
            picture = picture sides;
            number = number;
            suiting = (suits_all_for_iff g.r g.plan (patterns g.book)).0 least.suiting _ (patterns_mem g.book n number);
          },
          (allowed, room),
        )
    legal_call_taken (read (sum k)) (sides, below) =
        (bank_test_iff g.plan g.W g.H s.words k).1 (picture sides, below)
    legal_call_taken (read (read_sum k)) allowed = (read_sum_test_iff g.plan s.entries k).1 (least.plan, allowed)

-- At the start every word of the picture is 0.
start_holds :
    (g : Setting) (l : Lent) → IsPlan g.plan → take (picture_words g) l.memory ≡ replicate (picture_words g) 0
    → Holds g l (λ v. 0) l
unfolding word_in
start_holds g l plan zeros =
    record {
      words = λ v inside. zero_at _ (word_inside_picture g plan v inside);
      others = λ i i_below none_there. zero_at i i_below;
      rest = refl;
      as_long = refl;
    }
  where
    zero_at : (i : ℕ) → i < picture_words g → get_or l.memory i 0 ≡ 0
    zero_at i h =
        sym (get_or-take (picture_words g) l.memory i 0 h)
        ∙ ap (λ (xs : List ℕ). get_or xs i 0) zeros
        ∙ get_or-replicate (picture_words g) i 0 0 h

-- Demand 3: what holds of the whole list, and of each call of it.
pub demand_3 : Demand3
unfolding last_stored
demand_3 g limit l calls e enough zeros =
    record {
      each =
          λ past c later _. record {
            agrees = reply_is_due g l past (since past) c;
            taken = legal_call_taken g legal.legal_book legal.legal_cycles least (size_of l) enough c;
            only_legal = taken_call_legal g (size_of l) c;
            in_cycles = call_in_cycles g (size_of l) c;
          };
      words = (since calls).words;
      others = (since calls).others;
      rest = (since calls).rest;
      as_long = (since calls).as_long;
    }
  where
    legal : LegalFind g.book g.r limit
    legal = ((find_value_iff g.book g.r limit g.plan).0 e).0

    least : LeastForCycles g.r g.book g.plan
    least = (finder_is_least g.book g.r limit g.plan e).0

    since : (past : List Call) → Holds g l (last_stored g (size_of l) past) (run g l past)
    since past = run_holds g least.plan l enough (λ v. 0) l past (start_holds g l least.plan zeros)
