-- What `SumsDemanded` says, read off in a small picture: its premises are met there, and each part of its claim gives a plain fact. It
-- speaks of every answer and all buffers that are those of the definition `run_list`, and names no code: that the code's are, the
-- contract of the function `run_list` says. The picture is that of SumEdges (scope).
-- Assumes nothing.
use Rattle.std.specs.Prelude.{◌≡◌, ℕ, List, [], ◌∷◌, ◌++◌, drop, replicate, slice_index_or, Ok}
use Rattle.std.proofs.Math.Path.{refl}
use mathlib.Core.List.{flat_map}
use Rattle.std.proofs.Common.{arith}
use Rattle.scope.specs.Plans.{plan, banks}
use Rattle.scope.specs.Banks.{bank_sum, over_start}
use Rattle.scope.specs.Calls.{size_of}
use Rattle.scope.specs.promises.Demand.{Setting, replies, test}
use Rattle.scope.specs.promises.SumPromises.{Words16, walking}
use Rattle.scope.specs.values.SumEdges.{square, begun, words_16}
use Rattle.pictures.specs.Lists.{calls_of, reply_numbers, Buffers, buffers, run_list, SumsMet, SumsDemanded}
use Rattle.pictures.specs.Lists.{Listed}

-- The claim follows where the answer and what is left are those of the definition.
abbrev pub SumsFollow : Type 0
SumsFollow =
    (g : Setting) (numbers : List ℕ) (b : Buffers) → Words16 b.picture.memory → (x : Listed) (left : Buffers)
    → x ≡ (run_list g numbers b).answer → left ≡ (run_list g numbers b).content → SumsDemanded x g numbers b left

-- the sum of bank 1 is read, the sums are made afresh, 9 is stored at (1, 0), and the sums of bank 1 and of bank 2, which is none, are read
abbrev pub first : List ℕ
first = 7 ∷ 0 ∷ 0 ∷ 1 ∷ 0 ∷ []

abbrev pub rest : List ℕ
rest = (0 ∷ 1 ∷ 0 ∷ 9 ∷ 0 ∷ []) ++ (7 ∷ 0 ∷ 0 ∷ 1 ∷ 0 ∷ []) ++ (7 ∷ 0 ∷ 0 ∷ 2 ∷ 0 ∷ [])

abbrev pub five : List ℕ
five = first ++ (5 ∷ 0 ∷ 0 ∷ 0 ∷ 0 ∷ []) ++ rest

-- the words and sums of SumEdges, no output, and the replies and one number more
abbrev pub start : Buffers
start = buffers begun.memory begun.sums [] (replicate 60 1 ++ (4 ∷ []))

-- a reply's numbers: two, then 0
abbrev pub reply : ℕ → ℕ → List ℕ
reply n x = n ∷ x ∷ replicate 10 0

pub record ReadOff (left : Buffers) : Type 0 where
  pub first_sum : slice_index_or left.picture.sums 0 0 ≡ bank_sum (plan 2 0 1) 2 2 left.picture.memory 0
  pub last_sum : slice_index_or left.picture.sums 1 0 ≡ bank_sum (plan 2 0 1) 2 2 left.picture.memory 1
  pub past_stays : drop 2 left.picture.sums ≡ 8 ∷ []
  pub as_long : size_of left.picture ≡ record { words = 4; entries = 3 }
  pub replies_told : left.rows ≡ reply 0 6 ++ reply 0 0 ++ reply 0 0 ++ reply 0 13 ++ reply 15 0 ++ (4 ∷ [])

module _ (follow : SumsFollow) (left : Buffers) (is : left ≡ (run_list square five start).content) where
  -- the premises hold
  met : SumsMet square (calls_of five []) start left
  unfolding square run_list
  met = follow square five start words_16 (Ok tt) left refl is refl

  pub read_off : ReadOff left
  unfolding square calls_of replies test banks walking over_start flat_map reply_numbers
  read_off =
      record {
        first_sum = (met.sums (calls_of first []) (calls_of rest []) refl refl).each 0 (omega arith);
        last_sum = (met.sums (calls_of first []) (calls_of rest []) refl refl).each 1 (omega arith);
        past_stays = met.past;
        as_long = met.as_long;
        replies_told = met.answers (calls_of first []) (calls_of rest []) refl refl;
      }
