-- Demand 3 about the code: the finder, then a list of calls under its plan, in the numbers of Lists (pictures).
-- Assumes nothing.
use Rattle.scope.specs.declared.Refusal.{Refusal}
use Rattle.std.specs.Prelude.{ℕ, ◌≤◌, ◌<◌, ◌≡◌, length, get_or, take, drop, replicate, Result, Ok, Err}
use mathlib.Core.List.{List, [], ◌∷◌, ◌++◌, flat_map}
use Rattle.scope.specs.Plans.{Pixel}
use Rattle.scope.specs.Banks.{word_of, word_in, over_start}
use Rattle.scope.specs.Calls.{After, Lent, size_of, find}
use Rattle.scope.specs.promises.Meaning.{Inside}
use Rattle.scope.specs.promises.Demand.{Call, Reply, Setting, reply_due, last_stored, picture_words, ListHolds}
use Rattle.scope.specs.declared.Book.{Book}
use Rattle.scope.specs.declared.Plan.{Plan}
use Rattle.pictures.specs.declared.lists.ListFault.{ListFault}
use Rattle.pictures.specs.Lists.{setting, calls_of, output_of, reply_numbers, Buffers, run_list}

-- The finder's plan and what came of the list under it, or its refusal.
abbrev pub FoundRun : Type 0
FoundRun = Result (Plan × Result Unit ListFault) Refusal

-- The finder's answer, and what came of the list under its plan; where it gave none, nothing is changed.
unfoldable pub ran_for : Result Plan Refusal → Book → ℕ → ℕ → ℕ → List ℕ → Buffers → After FoundRun Buffers
unfolding run_list
ran_for (Ok p) book r W H numbers b =
    record {
      answer = Ok (p, (run_list (setting book r p W H) numbers b).answer);
      content = (run_list (setting book r p W H) numbers b).content;
    }
ran_for (Err f) book r W H numbers b = record { answer = Err f; content = b }

unfoldable pub find_and_run : Book → ℕ → ℕ → ℕ → ℕ → List ℕ → Buffers → After FoundRun Buffers
unfolding ran_for find
find_and_run book r limit W H numbers b = ran_for (find book r limit) book r W H numbers b

-- What the calls are to give, each after those before it
unfoldable pub replies_due : Setting → Lent → List Call → List Call → List Reply
unfolding reply_due
replies_due g l past [] = []
replies_due g l past (c ∷ cs) = reply_due g l past c ∷ replies_due g l (past ++ (c ∷ [])) cs

-- Demand 3 of what a list left: each fetched and loaded word, every answer and the memory are those that it speaks of.
pub record DemandMet (g : Setting) (calls : List Call) (b left : Buffers) : Type 0 where
  -- "its answer agrees", and each word that was fetched or loaded is the one last stored
  pub outputs : left.outputs ≡ over_start (flat_map output_of (replies_due g b.picture [] calls)) b.outputs
  pub answers : left.rows ≡ over_start (flat_map reply_numbers (replies_due g b.picture [] calls)) b.rows
  -- "After the list the word last stored at each pixel of the picture stands at its bank and address"
  pub words :
      (v : Pixel) → Inside g.W g.H v
      → word_in g.plan g.W g.H left.picture.memory v ≡ last_stored g (size_of b.picture) calls v
  -- "every other word of the first N × depth is 0"
  pub others :
      (i : ℕ) → i < picture_words g
      → ((v : Pixel) → Inside g.W g.H v → word_of g.plan g.W g.H v ≡ i → ⊥)
      → get_or left.picture.memory i 0 ≡ 0
  -- "and the rest is as at the start"
  pub rest : drop (picture_words g) left.picture.memory ≡ drop (picture_words g) b.picture.memory
  pub as_long : size_of left.picture ≡ size_of b.picture
  -- and the whole claim over the definitions: what each call is to give, that a legal one is taken, that no two words of a fetch
  -- have both bank and cycle in common
  pub holds : ListHolds g b.picture calls

-- Where a plan was found and the list was made, on "a memory of at least N × depth words, the first N × depth of them 0".
abbrev pub Demanded : FoundRun → Book → ℕ → ℕ → ℕ → List ℕ → Buffers → Buffers → Type 0
Demanded x book r W H numbers b left =
    (p : Plan) → x ≡ Ok (p, Ok tt)
    → picture_words (setting book r p W H) ≤ length b.picture.memory
    → take (picture_words (setting book r p W H)) b.picture.memory ≡ replicate (picture_words (setting book r p W H)) 0
    → DemandMet (setting book r p W H) (calls_of numbers b.outputs) b left
