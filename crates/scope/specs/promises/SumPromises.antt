-- Document 02, Card 6, over a list of calls, which is the list of Demand.antt: "As long as, from such a call that was not turned down, the
-- memory and sums change only through these calls, all under one plan and one picture size, each sum equals the walk's figure." It is under
-- every plan, and from any memory and any sums.
-- Assumes nothing.
use Rattle.std.specs.Prelude.{ℕ, ◌<◌, ◌≡◌, get_or, drop}
use Rattle.std.proofs.Math.Option.{none}
use mathlib.Core.List.{List, ◌∷◌, ◌++◌, map, Memᴰ}
use Rattle.scope.specs.Plans.{banks}
use Rattle.scope.specs.Banks.{bank_sum}
use Rattle.scope.specs.Calls.{Lent, size_of}
use Rattle.scope.specs.promises.Demand.{store, clear, make_sums, load, fetch, sum, read_sum, Call, write, read, Setting, reply, run, replies, test}

-- "16-bit words": those of a memory, and that which a call stores
abbrev pub Words16 : List ℕ → Type 0
Words16 mem = (i : ℕ) → get_or mem i 0 < 65536

abbrev pub Stores16 : Call → Type 0
Stores16 (write (store v x)) = x < 65536
Stores16 (write (clear k)) = Unit
Stores16 (write make_sums) = Unit
Stores16 (read r) = Unit

abbrev pub AllStore16 : List Call → Type 0
AllStore16 calls = (c : Call) → Memᴰ c calls → Stores16 c

-- "each sum equals the walk's figure", and a call that reads one answers as the walk does, also for a bank that there is not
pub record SumsAre (g : Setting) (l : Lent) : Type 0 where
  pub each : (k : ℕ) → k < banks g.plan → get_or l.sums k 0 ≡ bank_sum g.plan g.W g.H l.memory k
  pub reading : (k : ℕ) → reply g l (read (read_sum k)) ≡ reply g l (read (sum k))

-- the call with a walk in the place of a look-up
unfoldable pub walking : Call → Call
walking (write w) = write w
walking (read (load v)) = read (load v)
walking (read (fetch ring n o out)) = read (fetch ring n o out)
walking (read (sum k)) = read (sum k)
walking (read (read_sum k)) = read (sum k)

-- the calls, with walks in the place of look-ups from a call on that makes the sums afresh
abbrev pub walking_since : List Call → List Call → List Call
walking_since before later = before ++ (write make_sums ∷ map walking later)

-- What holds of the whole list.
pub record SumsHold (g : Setting) (l : Lent) (calls : List Call) : Type 0 where
  -- "Entries past N are never touched."
  pub past : drop (banks g.plan) (run g l calls).sums ≡ drop (banks g.plan) l.sums
  pub as_long : size_of (run g l calls) ≡ size_of l
  -- After a call that makes the sums afresh and is not turned down, each sum is the walk's figure at the end of the list,
  pub sums :
      (before later : List Call) → calls ≡ before ++ (write make_sums ∷ later) → test g (size_of l) (write make_sums) ≡ none
      → SumsAre g (run g l calls)
  -- and every call that reads one since gives what a walk in its place gives.
  pub read_since :
      (before later : List Call) → calls ≡ before ++ (write make_sums ∷ later) → test g (size_of l) (write make_sums) ≡ none
      → replies g l calls ≡ replies g l (walking_since before later)

abbrev pub SumsKept : Type 0
SumsKept = (g : Setting) (l : Lent) (calls : List Call) → Words16 l.memory → AllStore16 calls → SumsHold g l calls
