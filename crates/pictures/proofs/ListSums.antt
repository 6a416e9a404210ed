-- Document 02, Card 6, of a list that was made: its words have 16 bits, so the claim on the sums holds of what it left.
-- Assumes nothing.
use Rattle.pictures.specs.declared.lists.ListFault.{ListFault}
use Rattle.std.specs.Prelude.{Ok}
use Rattle.std.proofs.Common.{◌≡◌, ℕ, ◌/◌, List, length, get_or, take, drop, sym, ap, ◌∙◌, subst, arith}
use mathlib.Core.Option.{Option}
use mathlib.Core.List.{flat_map}
use Rattle.scope.specs.Plans.{banks}
use Rattle.scope.specs.Banks.{over_start}
use Rattle.scope.specs.Calls.{Lent, size_of}
use Rattle.scope.specs.promises.Demand.{Call, Reply, Setting, run}
use Rattle.scope.specs.values.SumEdges.{square}
use Rattle.scope.specs.promises.SumPromises.{Words16, Stores16, AllStore16, SumsAre, SumsHold}
use Rattle.checks.proofs.Chains.{Gives}
use Rattle.pictures.specs.Lists.{call_of, call_at, room_at, calls_from, calls_of, reply_numbers, Buffers, left_by, made_list, run_list, SumsMet, SumsDemanded}
use Rattle.pictures.specs.SumsExample.{SumsFollow, five, start, ReadOff, read_off}
use Rattle.pictures.specs.Lists.{Listed}
use Rattle.pictures.proofs.ListFaults.{made_passes}
use Rattle.pictures.proofs.MadeCalls.{any_call, each_call}
use Rattle.pictures.proofs.KeptSums.{sums_kept}

-- a store of a list in numbers has a word of 16 bits
call_16 : (kind i j n : ℕ) (out : List ℕ) → Stores16 (call_of kind i j n out)
call_16 kind i j n out = any_call Stores16 kind i j n out (omega arith) tt tt (λ ring. tt) tt tt tt

calls_16 : (n : ℕ) (xs outs : List ℕ) → AllStore16 (calls_from n xs outs)
unfolding call_at
calls_16 n xs outs =
    each_call Stores16 (λ ys. Unit) (λ ys u. tt)
    (λ ys zs u. call_16 (get_or ys 0 0) (get_or ys 1 0) (get_or ys 2 0) (get_or ys 3 0) (take (room_at ys) zs)) n xs outs tt

-- a list whose answer is that it was made
pub made_left :
    (g : Setting) (numbers : List ℕ) (b : Buffers) → (Ok tt) ≡ (run_list g numbers b).answer
    → (run_list g numbers b).content ≡ made_list g numbers b
unfolding run_list left_by
made_left g numbers b made =
    ap (λ (t : Option ListFault). left_by t b (made_list g numbers b)) (made_passes numbers (length b.outputs) (length b.rows) made).test

module _ (g : Setting) (numbers : List ℕ) (b : Buffers) (words : Words16 b.picture.memory) where
  abbrev calls : List Call
  calls = calls_of numbers b.outputs

  claim : SumsHold g b.picture calls
  unfolding calls_of
  claim = sums_kept g b.picture calls words (calls_16 (length numbers / 5) numbers b.outputs)

  sums_met : (left : Buffers) → left ≡ made_list g numbers b → SumsMet g calls b left
  unfolding made_list
  sums_met left is =
      let picture : left.picture ≡ run g b.picture calls = ap (λ (x : Buffers). x.picture) is in
      record {
        past = ap (λ (l : Lent). drop (banks g.plan) l.sums) picture ∙ claim.past;
        as_long = ap size_of picture ∙ claim.as_long;
        sums = λ before later e made. subst (SumsAre g) (sym picture) (claim.sums before later e made);
        answers =
            λ before later e made.
            ap (λ (x : Buffers). x.rows) is
            ∙ ap (λ (rs : List Reply). over_start (flat_map reply_numbers rs) b.rows) (claim.read_since before later e made);
      }

  -- So the third clause of the contract follows from the first two.
  pub sums_demanded : {x : Listed} {left : Buffers} → Gives (run_list g numbers b) x left → SumsDemanded x g numbers b left
  sums_demanded {left} (answer, content) made = sums_met left (content ∙ made_left g numbers b (sym made ∙ answer))

pub sums_follow : SumsFollow
sums_follow g numbers b words x left answer content = sums_demanded g numbers b words (answer, content)

pub sums_example_holds : (left : Buffers) → left ≡ (run_list square five start).content → ReadOff left
sums_example_holds = read_off sums_follow
