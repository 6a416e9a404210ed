-- A list of calls that is made one after the other. It goes by what is left: what the calls that are left do from here on is what
-- the whole list does from the start.
-- Assumes nothing.
use Rattle.pictures.specs.declared.lists.ListFault.{ListFault}
use Rattle.std.specs.Prelude.{Ok, Err}
use Rattle.std.proofs.Common.{◌≡◌, ℕ, zero, suc, ◌+◌, ◌-◌, ◌*◌, ◌/◌, ◌<◌, ◌≤◌, true, min, List, [], ◌∷◌, ◌++◌, length, get_or, take, drop, sym, refl, ap, ◌∙◌, ap₂, append-nil, arith, length-drop, drop_of_length-le, length-take-le, take_all, drop-drop}
use native.Mathlib.Decide.{dec_lt}
use mathlib.Core.Option.{Option, none, some}
use mathlib.Core.List.{flat_map}
use Rattle.scope.specs.Search.{state_after, replies_of}
use Rattle.scope.specs.Banks.{over_start}
use Rattle.scope.specs.Calls.{Lent}
use Rattle.scope.specs.promises.Demand.{Call, Setting, after, reply, run, replies}
use Rattle.pictures.specs.Lists.{call_at, room_at, calls_from, calls_of, list_fault, list_test, listed_by, left_by, reply_numbers, output_of, Buffers, buffers, made_list, run_list, BegunAt, no_start, Begun, OneMade, is_call_at}
use Rattle.checks.proofs.Chains.{Gives}
use Rattle.scope.specs.declared.Book.{Book}
use Rattle.scope.specs.declared.Plan.{Plan}
use Rattle.finder.specs.declared.clash.Suited.{Suited}
use Rattle.pictures.proofs.Starts.{starts_alike}
use Rattle.pictures.proofs.ReplyRows.{length_reply, row_long}
use Rattle.pictures.proofs.ListFaults.{first_is_one, fault_goes_on, Begins, first_long, first_is_call, first_call, first_room, after_first}
use Rattle.pictures.proofs.Stretches.{over_from, nothing_put, put_after, after_stretch, stretch_length}
use Rattle.pictures.proofs.MadeCalls.{output_own}

-- n calls are one and n - 1 more
calls_step :
    (n : ℕ) (xs outs : List ℕ) → 0 < n
    → calls_from n xs outs ≡ call_at xs (take (room_at xs) outs) ∷ calls_from (n - 1) (drop 5 xs) (drop (room_at xs) outs)
unfolding calls_from
calls_step zero xs outs h = absurd (omega arith)
calls_step (suc n) xs outs h =
    let same : n ≡ suc n - 1 = omega arith in
    ap (λ (k : ℕ). call_at xs (take (room_at xs) outs) ∷ calls_from k (drop 5 xs) (drop (room_at xs) outs)) same

no_calls : (n : ℕ) (xs outs : List ℕ) → n ≡ 0 → calls_from n xs outs ≡ []
unfolding calls_from
no_calls n xs outs e = rw e refl

-- The calls `rest` are left of `calls`: memory, outputs from place `at` and replies from place q on.
record Midway
    (g : Setting) (calls : List Call) (l₀ : Lent) (outs₀ rows₀ : List ℕ)
    (rest : List Call) (q at : ℕ) (l : Lent) (outs rows : List ℕ) : Type 0
  where
    picture : run g l rest ≡ run g l₀ calls
    outputs : over_from at (flat_map output_of (replies g l rest)) outs ≡ over_start (flat_map output_of (replies g l₀ calls)) outs₀
    answers : over_from q (flat_map reply_numbers (replies g l rest)) rows ≡ over_start (flat_map reply_numbers (replies g l₀ calls)) rows₀

module _ (g : Setting) (calls : List Call) (l₀ : Lent) (outs₀ rows₀ : List ℕ) where
  abbrev Mid : List Call → ℕ → ℕ → Lent → List ℕ → List ℕ → Type 0
  Mid = Midway g calls l₀ outs₀ rows₀

  same_midway :
      {rest rest' : List Call} {q at : ℕ} {l l' : Lent} {outs outs' rows rows' : List ℕ} → rest' ≡ rest → l' ≡ l → outs' ≡ outs
      → rows' ≡ rows → Mid rest q at l outs rows → Mid rest' q at l' outs' rows'
  same_midway a b c d w = rw (a, b, c, d) w

  -- one call is made, with an output of r words
  one_more :
      (q at r : ℕ) (l : Lent) (outs rows : List ℕ) (c : Call) (rest : List Call) → at + r ≤ length outs → q + 12 ≤ length rows
      → length (output_of (reply g l c)) ≡ r
      → Mid (c ∷ rest) q at l outs rows
      → Mid rest (q + 12) (at + r) (after g l c) (take at outs ++ (output_of (reply g l c) ++ drop r (drop at outs)))
      (take q rows ++ (reply_numbers (reply g l c) ++ drop 12 (drop q rows)))
  unfolding run replies state_after replies_of flat_map
  one_more q at r l outs rows c rest room fits size w =
      record {
        picture = w.picture;
        outputs =
            put_after outs (output_of (reply g l c)) at r room size (flat_map output_of (replies g (after g l c) rest)) ∙ w.outputs;
        answers =
            put_after rows (reply_numbers (reply g l c)) q 12 fits (length_reply g l c)
            (flat_map reply_numbers (replies g (after g l c) rest))
            ∙ w.answers;
      }

-- Where a loop over the numbers stands: `left` calls are left from number k on, with the outputs' words from `at` on and the
-- replies' numbers from q on.
pub record Going
    (g : Setting) (numbers : List ℕ) (l₀ : Lent) (outs₀ rows₀ : List ℕ) (left k q at : ℕ) (l : Lent) (outs rows : List ℕ) : Type 0
  where
    pub numbers_left : k + 5 * left ≤ length numbers
    pub row_room : q + 12 * left ≤ length rows
    pub out_room : at ≤ length outs
    pub no_fault : list_fault left k (drop k numbers) (length outs - at) ≡ none
    pub mem_long : length l.memory ≡ length l₀.memory
    pub sums_long : length l.sums ≡ length l₀.sums
    pub outs_long : length outs ≡ length outs₀
    pub rows_long : length rows ≡ length rows₀
    midway : Midway g (calls_of numbers outs₀) l₀ outs₀ rows₀ (calls_from left (drop k numbers) (drop at outs)) q at l outs rows

module _ (g : Setting) (numbers : List ℕ) (l₀ : Lent) (outs₀ rows₀ : List ℕ) where
  abbrev Goes : ℕ → ℕ → ℕ → ℕ → Lent → List ℕ → List ℕ → Type 0
  Goes = Going g numbers l₀ outs₀ rows₀

  pub going_start :
      list_fault (length numbers / 5) 0 numbers (length outs₀) ≡ none → 12 * (length numbers / 5) ≤ length rows₀
      → Goes (length numbers / 5) 0 0 0 l₀ outs₀ rows₀
  unfolding calls_of
  going_start no_fault fits =
      record {
        numbers_left = omega arith;
        row_room = omega arith;
        out_room = omega arith;
        no_fault = let whole : length outs₀ - 0 ≡ length outs₀ = omega arith in rw whole no_fault;
        mem_long = refl;
        sums_long = refl;
        outs_long = refl;
        rows_long = refl;
        midway = record { picture = refl; outputs = refl; answers = refl };
      }

  module _ {left k q at : ℕ} {l : Lent} {outs rows : List ℕ} (w : Goes left k q at l outs rows) where
    pub going_end :
        left ≡ 0 → buffers l.memory l.sums outs rows ≡ made_list g numbers (buffers l₀.memory l₀.sums outs₀ rows₀)
    unfolding made_list run replies state_after replies_of flat_map
    going_end e =
        let m = same_midway g _ l₀ outs₀ rows₀ (sym (no_calls left (drop k numbers) (drop at outs) e)) refl refl refl w.midway in
        let outputs : outs ≡ _ = sym (nothing_put at outs) ∙ m.outputs in
        let rows_are : rows ≡ _ = sym (nothing_put q rows) ∙ m.answers in
        cc (m.picture, outputs, rows_are)

    module _ (some_left : 0 < left) where
      -- the next call, with the output that is its own
      abbrev xs : List ℕ
      xs = drop k numbers

      abbrev r : ℕ
      r = room_at xs

      abbrev old : List ℕ
      old = take r (drop at outs)

      room_there : r ≤ length outs - at
      room_there = (fault_goes_on left k xs (length outs - at) some_left w.no_fault).0

      pub room_end : at + r ≤ length outs
      room_end = omega (arith, room_there, w.out_room)

      old_long : length old ≡ r
      old_long = length-take-le r (drop at outs) (omega (arith, room_there, length-drop at outs))

      going_turn :
          {row end : List ℕ} {next : Lent} → OneMade g l (call_at xs old) old row next end
          → length next.memory ≡ length l.memory
          → length next.sums ≡ length l.sums
          → length end ≡ r
          → Goes (left - 1) (k + 5) (q + 12) (at + r) next (take at outs ++ (end ++ drop r (drop at outs)))
          (take q rows ++ (row ++ drop 12 (drop q rows)))
      going_turn {row} {end} made mem_long sums_long end-long =
          record {
            numbers_left = omega (arith, w.numbers_left);
            row_room = omega (arith, w.row_room, rows_size);
            out_room = omega (arith, room_end, outs_size);
            no_fault =
                let same_room : length (take at outs ++ (end ++ drop r (drop at outs))) - (at + r) ≡ length outs - at - r =
                omega (arith, outs_size, room_end) in
                rw (same_room, ← next_numbers) (fault_goes_on left k xs (length outs - at) some_left w.no_fault).1;
            mem_long = mem_long ∙ w.mem_long;
            sums_long = sums_long ∙ w.sums_long;
            outs_long = outs_size ∙ w.outs_long;
            rows_long = rows_size ∙ w.rows_long;
            midway =
                same_midway g _ l₀ outs₀ rows₀
                (ap₂ (calls_from (left - 1)) (sym next_numbers) (after_stretch outs end at r room_end end-long)) made.picture_is
                (ap (λ (ys : List ℕ). take at outs ++ (ys ++ drop r (drop at outs))) end_is)
                (ap (λ (ys : List ℕ). take q rows ++ (ys ++ drop 12 (drop q rows))) made.row_is)
                (one_more g _ l₀ outs₀ rows₀ q at r l outs rows c (calls_from (left - 1) (drop 5 xs) (drop r (drop at outs))) room_end
                row_fits
                (ap length (sym end_is) ∙ end-long)
                (same_midway g _ l₀ outs₀ rows₀ (sym (calls_step left xs (drop at outs) some_left)) refl refl refl w.midway));
          }
        where
          c : Call
          c = call_at xs old

          end_is : end ≡ output_of (reply g l c)
          end_is = made.output_is ∙ output_own g l xs (drop at outs)

          next_numbers : drop 5 xs ≡ drop (k + 5) numbers
          next_numbers = drop-drop 5 k numbers

          row_fits : q + 12 ≤ length rows
          row_fits = omega (arith, w.row_room)

          outs_size : length (take at outs ++ (end ++ drop r (drop at outs))) ≡ length outs
          outs_size = stretch_length outs end at r room_end end-long

          rows_size : length (take q rows ++ (row ++ drop 12 (drop q rows))) ≡ length rows
          rows_size = stretch_length rows row q 12 row_fits (row_long made)

      -- The same as the loop has it: the outputs lent on from `at` to the end of the call's own, the replies lent on from q to their end.
      module _ {own : ℕ} (own_room : own ≡ r) where
        abbrev part : List ℕ
        part = take (at + own - at) (drop at outs)

        part_is : at + own - at ≡ r
        part_is = omega (arith, own_room)

        rows_part : take (length rows - q) (drop q rows) ≡ drop q rows
        rows_part = take_all (length rows - q) (drop q rows) (omega (arith, length-drop q rows))

        no_rows_after : drop (length rows - q) (drop q rows) ≡ []
        no_rows_after = drop_of_length-le (drop q rows) {i = length rows - q} (omega (arith, length-drop q rows))

        pub going_on :
            {row end tail : List ℕ} {next : Lent} → length next.memory ≡ length l.memory → length next.sums ≡ length l.sums
            → OneMade g l (call_at xs part) part row next end
            → length end ≡ length part
            → tail ≡ over_start row (take (length rows - q) (drop q rows))
            → Goes (left - 1) (k + 5) (q + 12) (at + own) next (take at outs ++ (end ++ drop (at + own - at) (drop at outs)))
            (take q rows ++ (tail ++ drop (length rows - q) (drop q rows)))
        unfolding over_start
        going_on {row} {end} {tail} {next} mem_long sums_long made end-long tail-is =
            let own_made : OneMade g l (call_at xs old) old row next end = rw part_is at made in
            let twelve_long : length row ≡ 12 = row_long own_made in
            let tail_row : tail ++ drop (length rows - q) (drop q rows) ≡ row ++ drop 12 (drop q rows) =
            ap₂ {C = List ℕ} ◌++◌ (tail-is ∙ ap₂ (λ (n : ℕ) (ys : List ℕ). row ++ drop n ys) twelve_long rows_part) no_rows_after
            ∙ append-nil (row ++ drop 12 (drop q rows)) in
            rw (part_is, own_room, tail_row)
            (going_turn own_made mem_long sums_long (end-long ∙ ap (λ (n : ℕ). length (take n (drop at outs))) part_is ∙ old_long))

-- The same by the iterator over the calls: `count` calls were made, and the numbers `rest` are left.
pub record Turns
    (g : Setting) (numbers : List ℕ) (l₀ : Lent) (outs₀ rows₀ : List ℕ) (count : ℕ) (rest : List ℕ) (at : ℕ) (l : Lent) (outs rows : List ℕ) : Type 0
  where
    pub rest_is : rest ≡ drop (5 * count) numbers
    pub going : Going g numbers l₀ outs₀ rows₀ (length rest / 5) (5 * count) (12 * count) at l outs rows

module _ (g : Setting) (numbers : List ℕ) (l₀ : Lent) (outs₀ rows₀ : List ℕ) where
  pub turns_start :
      (count : ℕ) (rest : List ℕ) → count ≡ 0 → rest ≡ numbers → list_fault (length numbers / 5) 0 numbers (length outs₀) ≡ none
      → 12 * (length numbers / 5) ≤ length rows₀ → Turns g numbers l₀ outs₀ rows₀ count rest 0 l₀ outs₀ rows₀
  turns_start count rest e f no_fault fits =
      rw (e, f) record { rest_is = refl; going = going_start g numbers l₀ outs₀ rows₀ no_fault fits }

  module _ {count at : ℕ} {rest : List ℕ} {l : Lent} {outs rows : List ℕ} (w : Turns g numbers l₀ outs₀ rows₀ count rest at l outs rows) where
    pub turns_end : length rest < 5 → buffers l.memory l.sums outs rows ≡ made_list g numbers (buffers l₀.memory l₀.sums outs₀ rows₀)
    turns_end short = going_end g numbers l₀ outs₀ rows₀ w.going (omega arith)

    module _ {call others : List ℕ} (b : Begins rest call others) where
      pub turn_left : 0 < length rest / 5
      turn_left = omega (arith, first_long b)

      -- the numbers are a call's
      pub turn_call : is_call_at call ≡ true
      turn_call =
          sym (first_is_call b) ∙ ap is_call_at w.rest_is ∙ first_is_one (length rest / 5) (5 * count) (drop (5 * count) numbers) (length outs - at) turn_left w.going.no_fault

      module _ {own : ℕ} (own_is : own ≡ room_at call) where
        own_in : own ≡ room_at (drop (5 * count) numbers)
        own_in = own_is ∙ sym (first_room b) ∙ ap room_at w.rest_is

        -- the output of the call ends inside
        pub turn_room : at + own ≤ length outs
        turn_room = omega (arith, own_in, room_end g numbers l₀ outs₀ rows₀ w.going turn_left)

        pub turns_on :
            {next : ℕ} {row end tail : List ℕ} {after : Lent} → next ≡ count + 1 → length after.memory ≡ length l.memory
            → length after.sums ≡ length l.sums
            → (let part : List ℕ = take (at + own - at) (drop at outs) in
            OneMade g l (call_at call part) part row after end)
            → length end ≡ length (take (at + own - at) (drop at outs))
            → tail ≡ over_start row (take (length rows - 12 * count) (drop (12 * count) rows))
            → Turns g numbers l₀ outs₀ rows₀ next others (at + own) after (take at outs ++ (end ++ drop (at + own - at) (drop at outs)))
            (take (12 * count) rows ++ (tail ++ drop (length rows - 12 * count) (drop (12 * count) rows)))
        turns_on {next} next_is mem_long sums_long made end-long tail-is =
            let place : 5 * next ≡ 5 * count + 5 = omega arith in
            let reply : 12 * next ≡ 12 * count + 12 = omega arith in
            let left : length others / 5 ≡ length rest / 5 - 1 = omega (arith, first_long b) in
            record {
              rest_is = sym (after_first b) ∙ rw (w.rest_is, place) (drop-drop 5 (5 * count) numbers);
              going =
                  rw (left, place, reply)
                  (going_on g numbers l₀ outs₀ rows₀ w.going turn_left own_in mem_long sums_long
                  (rw (← w.rest_is, first_call b) made) end-long tail-is);
            }

-- What was found out once tells what a fetch of any pattern number begins with.
module _ (book : Book) (r : ℕ) (p : Plan) (W H : ℕ) {words : ℕ} (n : ℕ) (starts : List Suited) where
  pub start_known : {s : ℕ} → Begun book r p W H words starts → s ≡ min n 16 → BegunAt book r p W H words n (get_or starts s no_start)
  start_known {s} b e = by_number (dec_lt n 16)
    where
      by_number : Dec (n < 16) → BegunAt book r p W H words n (get_or starts s no_start)
      by_number (yes h) = let is : s ≡ n = omega arith in rw is (b.found n (omega arith))
      by_number (no h) = let is : s ≡ 16 = omega arith in rw is (starts_alike book r p W H words n (omega arith) (b.found 16 (omega arith)))

-- A list that passes its test is made, and one that does not is answered with what is wrong, and nothing changes.
module _ (g : Setting) (numbers : List ℕ) (b : Buffers) where
  abbrev wrong : Option ListFault
  wrong = list_test numbers (length b.outputs) (length b.rows)

  pub list_made : {content : Buffers} → wrong ≡ none → content ≡ made_list g numbers b → Gives (run_list g numbers b) (Ok tt) content
  unfolding run_list listed_by left_by
  list_made none_wrong made =
      (ap listed_by (sym none_wrong), made ∙ ap (λ (t : Option ListFault). left_by t b (made_list g numbers b)) (sym none_wrong))

  pub list_not_made : {fault : ListFault} → wrong ≡ some fault → Gives (run_list g numbers b) (Err fault) b
  unfolding run_list listed_by left_by
  list_not_made is = (ap listed_by (sym is), ap (λ (t : Option ListFault). left_by t b (made_list g numbers b)) (sym is))
