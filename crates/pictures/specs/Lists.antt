-- A list of demand 3's calls in numbers, five to a call, and its replies in numbers, twelve to a call.
--
-- A call is its kind (0 a store, 1 a clear, 2 a load, 3 a plain fetch, 4 a ring fetch, 5 the sums made afresh, 6 the walk of a bank, 7 the
-- reading of its sum), its column and row, its word, bank or pattern, and the room of a fetch. A column or row is the last 16 bits of its
-- number in two's complement; the number is below 65536, also of a call that has no use for it. The fourth number of a load and of kind 5,
-- and the fifth of every call but a fetch, are not looked at. Each fetch has the next `room` words of the outputs as "an output of its own".
-- Assumes nothing.
use Rattle.pictures.specs.declared.lists.ListCall.{ListCall}
use Rattle.pictures.specs.declared.lists.ListCall.TheVariants.{Store, Clear, Load, Fetch, MakeSums, Sum, ReadSum}
use Rattle.pictures.specs.declared.lists.ListFault.{ListFault}
use Rattle.std.specs.Prelude.{◌≡◌, ℕ, zero, suc, ◌+◌, ◌-◌, ◌*◌, ◌/◌, ◌%◌, ◌<◌, Bool, true, false, cond, not, ◌&&◌, ◌||◌, List, [], ◌∷◌, ◌++◌, length, take, drop, replicate, ℤ, pos, ◌-ℤ◌, ◌==◌, nat_le, nat_lt, slice_index, slice_index_or, Ok, Result, Err}
use Rattle.std.proofs.Math.Option.{Option, none, some}
use mathlib.Core.List.{flat_map}
use Rattle.scope.specs.Search.{whenever, first_of}
use Rattle.scope.specs.Plans.{at, pixels, pattern_at, banks}
use Rattle.scope.specs.Cycles.{LongClash, clash_in_for}
use Rattle.scope.specs.Banks.{over_start}
use Rattle.scope.specs.Numbers.{Answer, value, refusal}
use Rattle.scope.specs.Calls.{After, Lent, lent, size_of, clash_beside, fetch_first, fetch_start}
use Rattle.scope.specs.promises.Demand.{store, clear, make_sums, load, fetch, sum, read_sum, Call, write, read, Reply, wrote, loaded, fetched, summed, Setting, after, reply, run, replies, test}
use Rattle.scope.specs.promises.SumPromises.{SumsAre, walking_since}
use Rattle.scope.specs.declared.Book.{Book}
use Rattle.scope.specs.declared.Plan.{Plan}
use Rattle.finder.specs.declared.clash.Suited.{Suited}
use Rattle.book.specs.Scan.{outcome_of}

abbrev pub setting : Book → ℕ → Plan → ℕ → ℕ → Setting
setting book r p W H = record { book = book; r = r; plan = p; W = W; H = H }

unfoldable pub coordinate_of : ℕ → ℤ
coordinate_of x = cond (nat_lt (x % 65536) 32768) (pos (x % 65536)) (pos (x % 65536) -ℤ pos 65536)

-- the call of these numbers, with this output if it is a fetch
unfoldable pub call_of : ℕ → ℕ → ℕ → ℕ → List ℕ → Call
unfolding coordinate_of at
call_of kind i j n out =
    cond (kind == 0) (write (store (at (coordinate_of i) (coordinate_of j)) (n % 65536)))
    (cond (kind == 1) (write (clear n))
    (cond (kind == 2) (read (load (at (coordinate_of i) (coordinate_of j))))
    (cond (nat_le kind 4) (read (fetch (kind == 4) n (at (coordinate_of i) (coordinate_of j)) out))
    (cond (kind == 5) (write make_sums)
    (cond (kind == 6) (read (sum n))
    (read (read_sum n)))))))

unfoldable pub room_of : ℕ → ℕ → ℕ
room_of kind room = cond (nat_lt kind 3 || nat_lt 4 kind) 0 room

-- the call of the first five numbers, and its room
unfoldable pub call_at : List ℕ → List ℕ → Call
unfolding call_of
call_at xs out = call_of (slice_index xs 0) (slice_index xs 1) (slice_index xs 2) (slice_index xs 3) out

unfoldable pub room_at : List ℕ → ℕ
unfolding room_of
room_at xs = room_of (slice_index xs 0) (slice_index xs 4)

-- n calls, each fetch with the next words of the outputs
unfoldable pub calls_from : ℕ → List ℕ → List ℕ → List Call
unfolding call_at room_at
calls_from zero xs outs = []
calls_from (suc n) xs outs = call_at xs (take (room_at xs) outs) ∷ calls_from n (drop 5 xs) (drop (room_at xs) outs)

unfoldable pub calls_of : List ℕ → List ℕ → List Call
unfolding calls_from
calls_of xs outs = calls_from (length xs / 5) xs outs

-- The five numbers are those of a call: a kind up to 7, a column, a row and a store's word of 16 bits
unfoldable pub is_call : ℕ → ℕ → ℕ → ℕ → Bool
is_call kind i j n = nat_le kind 7 && nat_lt i 65536 && nat_lt j 65536 && (nat_le 1 kind || nat_lt n 65536)

unfoldable pub is_call_at : List ℕ → Bool
unfolding is_call
is_call_at xs = is_call (slice_index xs 0) (slice_index xs 1) (slice_index xs 2) (slice_index xs 3)

-- What the code reads of a call's five numbers: the call, with this output if it is a fetch, and its room
unfoldable pub call_read : ListCall → List ℕ → Call
unfolding at
call_read (Store i j x) out = write (store (at i j) x)
call_read (Clear bank) out = write (clear bank)
call_read (Load i j) out = read (load (at i j))
call_read (Fetch ring i j pattern room) out = read (fetch ring pattern (at i j) out)
call_read MakeSums out = write make_sums
call_read (Sum bank) out = read (sum bank)
call_read (ReadSum bank) out = read (read_sum bank)

unfoldable pub room_read : ListCall → ℕ
room_read (Store i j x) = 0
room_read (Clear bank) = 0
room_read (Load i j) = 0
room_read (Fetch ring i j pattern room) = room
room_read MakeSums = 0
room_read (Sum bank) = 0
room_read (ReadSum bank) = 0

-- The numbers are those of a call, and it was read.
pub record IsRead (xs : List ℕ) (c : ListCall) : Type 0 where
  pub numbers : is_call_at xs ≡ true
  pub call : (out : List ℕ) → call_read c out ≡ call_at xs out
  pub room : room_read c ≡ room_at xs

-- What is wrong with n calls whose numbers begin at place k, with `room` words for their outputs: the first numbers that are no
-- call's, or the first fetch whose room is not there
unfoldable pub list_fault : ℕ → ℕ → List ℕ → ℕ → Option ListFault
unfolding is_call_at room_at
list_fault zero k xs room = none
list_fault (suc n) k xs room =
    elim (is_call_at xs) [
      | false ↦ some (ListFault.NotCalls k)
      | true ↦ elim (nat_le (room_at xs) room) [ false ↦ some ListFault.Short | true ↦ list_fault n (k + 5) (drop 5 xs) (room - room_at xs) ]
    ]

-- That, then fewer than five numbers at the end, then less than twelve numbers to a call for the replies
unfoldable pub list_test : List ℕ → ℕ → ℕ → Option ListFault
unfolding first_of whenever list_fault
list_test xs outs rows =
    first_of
    (list_fault (length xs / 5) 0 xs outs
    ∷ whenever (not (length xs % 5 == 0)) (ListFault.NotCalls (5 * (length xs / 5)))
    ∷ whenever (nat_lt rows (12 * (length xs / 5))) ListFault.Short
    ∷ [])

-- what came of a list: it was made, or what was wrong with it
abbrev pub Listed : Type 0
Listed = Result Unit ListFault

unfoldable pub listed_by : Option ListFault → Listed
listed_by none = Ok tt
listed_by (some fault) = Err fault

-- an answer in numbers: 0 and its values, or the refusal's number, its place and, of 10, the clash: its pattern and its positions
abbrev pub clash_numbers : Option LongClash → List ℕ
clash_numbers none = []
clash_numbers (some c) = c.pattern ∷ c.positions

unfoldable pub answer_numbers : {A : Type 0} → (A → List ℕ) → Answer A → List ℕ
answer_numbers values (value x) = 0 ∷ values x
answer_numbers values (refusal n place clash) = n ∷ place ∷ clash_numbers clash

-- a reply's twelve numbers: its answer's, then 0
unfoldable pub twelve : List ℕ → List ℕ
unfolding over_start
twelve xs = over_start xs (replicate 12 0)

unfoldable pub reply_numbers : Reply → List ℕ
unfolding twelve answer_numbers
reply_numbers (wrote a) = twelve (answer_numbers (λ x. []) a)
reply_numbers (loaded a) = twelve (answer_numbers (λ n. n ∷ []) a)
reply_numbers (fetched a out) = twelve (answer_numbers (λ n. n ∷ []) a)
reply_numbers (summed a) = twelve (answer_numbers (λ n. n ∷ []) a)

-- the output that a fetch leaves
abbrev pub output_of : Reply → List ℕ
output_of (wrote a) = []
output_of (loaded a) = []
output_of (fetched a out) = out
output_of (summed a) = []

-- What a list of calls is lent, and leaves
pub record Buffers : Type 0 where
  pub picture : Lent
  pub outputs : List ℕ
  pub rows : List ℕ

abbrev pub buffers : List ℕ → List ℕ → List ℕ → List ℕ → Buffers
buffers mem sums outs rows = record { picture = lent mem sums; outputs = outs; rows = rows }

-- The calls of the numbers, made one after the other: demand 3's list, its outputs and its replies in numbers
unfoldable pub made_list : Setting → List ℕ → Buffers → Buffers
unfolding run replies calls_of flat_map over_start reply_numbers
made_list g xs b =
    let calls : List Call = calls_of xs b.outputs in
    let given : List Reply = replies g b.picture calls in
    record {
      picture = run g b.picture calls;
      outputs = over_start (flat_map output_of given) b.outputs;
      rows = over_start (flat_map reply_numbers given) b.rows;
    }

unfoldable pub left_by : Option ListFault → Buffers → Buffers → Buffers
left_by none old new = new
left_by (some fault) old new = old

-- A list that is wrong, or whose outputs or replies are too short, changes nothing.
unfoldable pub run_list : Setting → List ℕ → Buffers → After Listed Buffers
unfolding list_test listed_by left_by made_list
run_list g xs b =
    let wrong : Option ListFault = list_test xs (length b.outputs) (length b.rows) in
    record { answer = listed_by wrong; content = left_by wrong b (made_list g xs b) }

-- Document 02, Card 6, of what a list left.
pub record SumsMet (g : Setting) (calls : List Call) (b left : Buffers) : Type 0 where
  -- "Entries past N are never touched."
  pub past : drop (banks g.plan) left.picture.sums ≡ drop (banks g.plan) b.picture.sums
  pub as_long : size_of left.picture ≡ size_of b.picture
  -- After a call that makes the sums afresh and is not turned down, each sum is the walk's figure,
  pub sums :
      (before later : List Call) → calls ≡ before ++ (write make_sums ∷ later) → test g (size_of b.picture) (write make_sums) ≡ none
      → SumsAre g left.picture
  -- and the replies are those of the list with walks in the place of look-ups since.
  pub answers :
      (before later : List Call) → calls ≡ before ++ (write make_sums ∷ later) → test g (size_of b.picture) (write make_sums) ≡ none
      → left.rows ≡ over_start (flat_map reply_numbers (replies g b.picture (walking_since before later))) b.rows

-- where the list was made
abbrev pub SumsDemanded : Listed → Setting → List ℕ → Buffers → Buffers → Type 0
SumsDemanded x g numbers b left = x ≡ Ok tt → SumsMet g (calls_of numbers b.outputs) b left

-- what a fetch of pattern number n begins with, as the code has it: what its tests found, and the positions of the clash
pub record BegunAt (book : Book) (r : ℕ) (p : Plan) (W H words n : ℕ) (start : Suited) : Type 0 where
  pub outcome_is : start.outcome ≡ outcome_of (fetch_start book r p W H words n)
  pub positions_are : start.positions ≡ clash_beside (fetch_first book r p W H words n) (clash_in_for r p n (pixels (pattern_at book n)))

-- What the code has found out once: that of each pattern number up to 16; past the end of a list there is `no_start`
abbrev pub no_start : Suited
no_start = record { outcome = Ok tt; positions = [] }

pub record Begun (book : Book) (r : ℕ) (p : Plan) (W H words : ℕ) (starts : List Suited) : Type 0 where
  pub found : (n : ℕ) → n < 17 → BegunAt book r p W H words n (slice_index_or starts n no_start)

-- a fetch's output after its reply, that of another call as it was
abbrev pub stretch_after : Reply → List ℕ → List ℕ
stretch_after (wrote a) old = old
stretch_after (loaded a) old = old
stretch_after (fetched a out) old = out
stretch_after (summed a) old = old

-- One call was made: its reply's numbers, the memory and the sums, and its output.
pub record OneMade (g : Setting) (l : Lent) (c : Call) (old row : List ℕ) (next : Lent) (out : List ℕ) : Type 0 where
  pub row_is : row ≡ reply_numbers (reply g l c)
  pub picture_is : next ≡ after g l c
  pub output_is : out ≡ stretch_after (reply g l c) old
