-- Demand 3 over a list of calls, as document 01, "Banks and addresses", words it: "any finite list, the empty one too, of
-- stores, clears, loads and plain fetches, under one plan that the finder gave for a book, with that book, one W and one H". Document
-- 02, Card 4: "with the finder's r in each fetch". Card 5: "Ring fetches now stand in demand 3's list too: those not turned down also
-- return the last stored words, read at the wrapped pixels." Card 6: stores and clears are lent the sums of the banks too, and calls
-- that make them afresh, walk a bank or read a sum may stand between; what holds of the sums is in SumPromises.antt.
-- The calls are those of Calls.antt, which the contracts cite.
-- Assumes nothing.
use Rattle.std.specs.Prelude.{ℕ, ◌*◌, ◌≤◌, ◌<◌, ◌≡◌, Bool, true, false, cond, eqb, length, get_or, take, drop, replicate, Result}
use Rattle.std.proofs.Math.Option.{Option, none, some}
use mathlib.Core.List.{List, [], ◌∷◌, ◌++◌, map, Memᴰ}
use Rattle.scope.specs.Plans.{Pixel, same_pixel, pattern_at, pixels, banks}
use Rattle.scope.specs.Banks.{bank_of, depth_of, word_of, word_in, bank_sum, over_start}
use Rattle.scope.specs.Numbers.{Answer, value, turned_down, with_positions, of_result, of_fetch}
use Rattle.scope.specs.Cycles.{cycles, clash_in_for}
use Rattle.scope.specs.Search.{state_after, replies_of}
use Rattle.scope.specs.Calls as Calls
use Rattle.scope.specs.Calls.{After, Lent, Size, size_of, answered, lent_test, store_test, word_test, clear_test, whole_bank_test, read_sum_test, fetch_test, moved, pixels_read, find}
use Rattle.scope.specs.promises.Meaning.{IsSide, Inside, AllInside, RingAllowed}
use Rattle.scope.specs.declared.Plan.{Plan}
use Rattle.scope.specs.declared.Book.{Book}
use Rattle.scope.specs.declared.Refusal.{Refusal}

-- the calls that write the memory or the sums, and those that only read them; a fetch is a ring fetch where `ring` is true, else a plain
-- one; `sum` walks its bank, and `read_sum` looks its sum up
pub data Write : Type 0 where
  store : Pixel → (word : ℕ) → Write
  clear : (bank : ℕ) → Write
  make_sums : Write

pub data Read : Type 0 where
  load : Pixel → Read
  fetch : (ring : Bool) (pattern : ℕ) (position : Pixel) (output : List ℕ) → Read
  sum : (bank : ℕ) → Read
  read_sum : (bank : ℕ) → Read

pub data Call : Type 0 where
  write : Write → Call
  read : Read → Call

pub record Setting : Type 0 where
  pub book : Book
  pub r : ℕ
  pub plan : Plan
  pub W : ℕ
  pub H : ℕ

-- What a call gives beside what it was lent, in this paper's numbers and values. "each fetch has an output of its own", and its
-- final content is here too
pub data Reply : Type 0 where
  wrote : Answer Unit → Reply
  loaded : Answer ℕ → Reply
  fetched : Answer ℕ → List ℕ → Reply
  summed : Answer ℕ → Reply

unfoldable pub write_result : Setting → Lent → Write → After (Result Unit Refusal) Lent
unfolding Calls.store Calls.clear Calls.make_sums
write_result g l (store v x) = Calls.store g.plan g.W g.H l v x
write_result g l (clear k) = Calls.clear g.plan g.W g.H l k
write_result g l make_sums = Calls.make_sums g.plan g.W g.H l

-- `either_fetch false` is the plain fetch of Calls.antt, `either_fetch true` its ring fetch
unfoldable pub read_reply : Setting → Lent → Read → Reply
unfolding Calls.load Calls.either_fetch Calls.sum Calls.read_sum
read_reply g l (load v) = loaded (of_result (Calls.load g.plan g.W g.H l.memory v))
read_reply g l (fetch ring n o out) =
    fetched (of_fetch g.r (Calls.either_fetch ring g.book g.r g.plan g.W g.H l.memory n o out).answer)
    (Calls.either_fetch ring g.book g.r g.plan g.W g.H l.memory n o out).content
read_reply g l (sum k) = summed (of_result (Calls.sum g.plan g.W g.H l.memory k))
read_reply g l (read_sum k) = summed (of_result (Calls.read_sum g.plan l.sums k))

unfoldable pub reply : Setting → Lent → Call → Reply
unfolding write_result read_reply
reply g l (write w) = wrote (of_result (write_result g l w).answer)
reply g l (read r) = read_reply g l r

-- "Each call gets the memory as the one before left it", and the sums
unfoldable pub after : Setting → Lent → Call → Lent
unfolding write_result
after g l (write w) = (write_result g l w).content
after g l (read r) = l

-- memory and sums after a list of calls, and what they reply, one after the other
unfoldable pub run : Setting → Lent → List Call → Lent
unfolding state_after after
run g = state_after (after g)

unfoldable pub replies : Setting → Lent → List Call → List Reply
unfolding replies_of after reply
replies g = replies_of (after g) (reply g)

-- "Whether a call in the list is turned down, and by which number, is told by the conditions below from what it was given"
unfoldable pub test : Setting → Size → Call → Option Refusal
unfolding store_test clear_test lent_test word_test fetch_test whole_bank_test read_sum_test
test g s (write (store v x)) = store_test g.plan g.W g.H s v
test g s (write (clear k)) = clear_test g.plan g.W g.H s k
test g s (write make_sums) = lent_test g.plan g.W g.H s
test g s (read (load v)) = word_test g.plan g.W g.H s.words v
test g s (read (fetch ring n o out)) = fetch_test ring g.book g.r g.plan g.W g.H s.words n o (length out)
test g s (read (sum k)) = whole_bank_test g.plan g.W g.H s.words k
test g s (read (read_sum k)) = read_sum_test g.plan s.entries k

-- the word at pixel v after a call that is not turned down, where it was `old` before: a store there sets it, a clear of
-- the pixel's bank makes it 0
unfoldable pub effect : Setting → Pixel → ℕ → Write → ℕ
unfolding same_pixel bank_of
effect g v old (store w x) = cond (same_pixel w v) x old
effect g v old (clear k) = cond (eqb k (bank_of g.plan v)) 0 old
effect g v old make_sums = old

-- and after any call
unfoldable pub word_after : Setting → Size → Pixel → ℕ → Call → ℕ
unfolding answered test effect
word_after g s v old (write w) = answered (test g s (write w)) (λ r. old) (effect g v old w)
word_after g s v old (read r) = old

unfoldable pub stored_since : Setting → Size → Pixel → ℕ → List Call → ℕ
unfolding state_after word_after
stored_since g s v = state_after (word_after g s v)

-- "the word last stored at a pixel is that of the latest earlier store there that was not turned down. It is 0 if there is
-- none, or if a clear of the pixel's bank, not turned down, came between."
unfoldable pub last_stored : Setting → Size → List Call → Pixel → ℕ
unfolding stored_since
last_stored g s calls v = stored_since g s v 0 calls

-- The same in plain words: `later` holds no store at v and no clear of its bank that was not turned down.
abbrev pub Touches : Setting → Size → Pixel → Call → Type 0
Touches g s v (write (store w x)) = (test g s (write (store w x)) ≡ none) × (w ≡ v)
Touches g s v (write (clear k)) = (test g s (write (clear k)) ≡ none) × (k ≡ bank_of g.plan v)
Touches g s v (write make_sums) = ⊥
Touches g s v (read r) = ⊥

abbrev pub Untouched : Setting → Size → Pixel → List Call → Type 0
Untouched g s v later = (c : Call) → Memᴰ c later → Touches g s v c → ⊥

pub record LastStoredMeans : Type 0 where
  pub latest :
      (g : Setting) (s : Size) (v : Pixel) (past later : List Call) (x : ℕ) → test g s (write (store v x)) ≡ none
      → Untouched g s v later → last_stored g s (past ++ (write (store v x) ∷ later)) v ≡ x
  pub cleared_since :
      (g : Setting) (s : Size) (v : Pixel) (past later : List Call) (k : ℕ) → test g s (write (clear k)) ≡ none
      → k ≡ bank_of g.plan v → Untouched g s v later
      → last_stored g s (past ++ (write (clear k) ∷ later)) v ≡ 0
  pub never : (g : Setting) (s : Size) (v : Pixel) (calls : List Call) → Untouched g s v calls → last_stored g s calls v ≡ 0

-- the pixels that a fetch reads: those of its pattern, moved, and wrapped by a ring fetch
unfoldable pub pixels_fetched : Setting → (ring : Bool) → ℕ → Pixel → List Pixel
unfolding pixels_read moved pattern_at
pixels_fetched g ring n o = pixels_read ring g.W g.H (moved (pattern_at g.book n) o)

-- a fetch of pattern n that is turned down; "10 also carries its clash"
unfoldable pub refused_fetch : Setting → ℕ → Refusal → Answer ℕ
unfolding clash_in_for pixels pattern_at
refused_fetch g n f =
    elim (clash_in_for g.r g.plan n (pixels (pattern_at g.book n))) [
      | none ↦ turned_down f
      | some c ↦ with_positions c.positions (turned_down f)
    ]

-- What call c is to give after the calls `past` that began on l: the refusal that the conditions tell, or what it is for, with the words
-- last stored. A walk gives the sum of the bank's words, and a look-up the entry of the sums, as the calls before left them.
unfoldable pub reply_due : Setting → Lent → List Call → Call → Reply
unfolding answered test refused_fetch last_stored pixels_fetched over_start bank_sum run
reply_due g l past (write w) = wrote (answered (test g (size_of l) (write w)) turned_down (value tt))
reply_due g l past (read (load v)) =
    loaded (answered (test g (size_of l) (read (load v))) turned_down (value (last_stored g (size_of l) past v)))
reply_due g l past (read (fetch ring n o out)) =
    let vs : List Pixel = pixels_fetched g ring n o in
    fetched
    (answered (test g (size_of l) (read (fetch ring n o out))) (refused_fetch g n) (value (length vs)))
    (answered (test g (size_of l) (read (fetch ring n o out))) (λ r. out) (over_start (map (last_stored g (size_of l) past) vs) out))
reply_due g l past (read (sum k)) =
    summed
    (answered (test g (size_of l) (read (sum k))) turned_down (value (bank_sum g.plan g.W g.H (run g l past).memory k)))
reply_due g l past (read (read_sum k)) =
    summed (answered (test g (size_of l) (read (read_sum k))) turned_down (value (get_or (run g l past).sums k 0)))

-- "a ring fetch has 18 and no 14": what allows the pixels of a moved pattern
abbrev pub EdgeAllowed : (ring : Bool) → Plan → ℕ → ℕ → List Pixel → Type 0
EdgeAllowed false p W H vs = AllInside W H vs
EdgeAllowed true p W H vs = RingAllowed p W H

-- What a call is given allows it: its pixel inside, its bank below N, or a pattern of the book wholly inside, or sides that a ring fetch
-- goes around, and room for it; N sums where it is lent them; and the picture's sides, for which a look-up does not ask.
abbrev pub SidesAllowed : Setting → Type 0
SidesAllowed g = IsSide g.W × IsSide g.H

abbrev pub SumsAllowed : Setting → Size → Type 0
SumsAllowed g s = banks g.plan ≤ s.entries

abbrev pub Allowed : Setting → Size → Call → Type 0
Allowed g s (write (store v x)) = SidesAllowed g × SumsAllowed g s × Inside g.W g.H v
Allowed g s (write (clear k)) = SidesAllowed g × SumsAllowed g s × (k < banks g.plan)
Allowed g s (write make_sums) = SidesAllowed g × SumsAllowed g s
Allowed g s (read (load v)) = SidesAllowed g × Inside g.W g.H v
Allowed g s (read (fetch ring n o out)) =
    SidesAllowed g
    × (n < g.book.count)
    × EdgeAllowed ring g.plan g.W g.H (moved (pattern_at g.book n) o)
    × ((pattern_at g.book n).used ≤ length out)
Allowed g s (read (sum k)) = SidesAllowed g × (k < banks g.plan)
Allowed g s (read (read_sum k)) = SumsAllowed g s × (k < banks g.plan)

-- the banks that the words of a fetch come from, in order
unfoldable pub banks_read : Setting → Call → List ℕ
unfolding bank_of pixels_fetched
banks_read g (write w) = []
banks_read g (read (load v)) = []
banks_read g (read (fetch ring n o out)) = map (bank_of g.plan) (pixels_fetched g ring n o)
banks_read g (read (sum k)) = []
banks_read g (read (read_sum k)) = []

-- and the cycles that they come in
unfoldable pub cycles_read : Setting → Call → List ℕ
unfolding cycles pixels pattern_at
cycles_read g (write w) = []
cycles_read g (read (load v)) = []
cycles_read g (read (fetch ring n o out)) = cycles g.plan (pixels (pattern_at g.book n))
cycles_read g (read (sum k)) = []
cycles_read g (read (read_sum k)) = []

-- "A fetch takes at most one word from each bank in each cycle, that is, no two of its words have both bank and cycle in common and each
-- cycle is below r"
pub record InCycles (r : ℕ) (ks cs : List ℕ) : Type 0 where
  pub as_many : length cs ≡ length ks
  pub apart : (e l : ℕ) → e < l → l < length ks → get_or ks e 0 ≡ get_or ks l 0 → get_or cs e 0 ≡ get_or cs l 0 → ⊥
  pub below : (e : ℕ) → e < length cs → get_or cs e 0 < r

-- the N × depth words of the picture
unfoldable pub picture_words : Setting → ℕ
unfolding banks depth_of
picture_words g = banks g.plan * depth_of g.plan g.W g.H

-- What holds of call c, made after the calls `past` that began on l.
pub record CallHolds (g : Setting) (l : Lent) (past : List Call) (c : Call) : Type 0 where
  -- "its answer agrees", and each fetched and loaded word is the one last stored
  pub agrees : reply g (run g l past) c ≡ reply_due g l past c
  -- a legal call is not turned down
  pub taken : Allowed g (size_of l) c → test g (size_of l) c ≡ none
  -- and no other is taken (which number turns it down: CallsRefuse)
  pub only_legal : test g (size_of l) c ≡ none → Allowed g (size_of l) c
  -- the words of a fetch that is not turned down: at most one from each bank in each of r cycles
  pub in_cycles : test g (size_of l) c ≡ none → InCycles g.r (banks_read g c) (cycles_read g c)

-- What holds of the whole list.
pub record ListHolds (g : Setting) (l : Lent) (calls : List Call) : Type 0 where
  -- of each call of it
  pub each : (past : List Call) (c : Call) (later : List Call) → calls ≡ past ++ (c ∷ later) → CallHolds g l past c
  -- "After the list the word last stored at each pixel of the picture stands at its bank and address"
  pub words :
      (v : Pixel) → Inside g.W g.H v
      → word_in g.plan g.W g.H (run g l calls).memory v ≡ last_stored g (size_of l) calls v
  -- "every other word of the first N × depth is 0"
  pub others :
      (i : ℕ) → i < picture_words g
      → ((v : Pixel) → Inside g.W g.H v → word_of g.plan g.W g.H v ≡ i → ⊥)
      → get_or (run g l calls).memory i 0 ≡ 0
  -- "and the rest is as at the start"
  pub rest : drop (picture_words g) (run g l calls).memory ≡ drop (picture_words g) l.memory
  pub as_long : size_of (run g l calls) ≡ size_of l

-- "It starts from a memory of at least N × depth words, the first N × depth of them 0", and from any sums. Demand 3, one claim for the
-- whole list:
abbrev pub Demand3 : Type 0
Demand3 =
    (g : Setting) (limit : ℕ) (l : Lent) (calls : List Call)
    → of_result (find g.book g.r limit) ≡ value g.plan
    → picture_words g ≤ length l.memory
    → take (picture_words g) l.memory ≡ replicate (picture_words g) 0
    → ListHolds g l calls
