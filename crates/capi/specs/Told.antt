-- How an answer is told to a caller in C or Rust: a number, 0 where the call was not refused, and a row of numbers at the start
-- of a lent array of twelve.
-- Assumes nothing.
use Rattle.pictures.specs.declared.lists.ListFault.{ListFault}
use Rattle.std.specs.Prelude.{ℕ, suc, ◌≡◌, List, [], ◌∷◌, ◌++◌, ℤ, nat_abs, set, Ok, Err}
use Rattle.std.proofs.Math.Option.{Option, none, some}
use Rattle.scope.specs.Plans.{Pixel}
use Rattle.scope.specs.Cycles.{LongClash}
use Rattle.scope.specs.Numbers.{Answer, value, refusal, turned_down}
use Rattle.scope.specs.declared.Plan.{Plan}
use Rattle.scope.specs.declared.Checked.{Checked}
use Rattle.pictures.specs.Lists.{clash_numbers}
use Rattle.pictures.specs.Lists.{Listed}
use Rattle.claims.specs.Demanded.{FoundRun}

-- 0, or the refusal's number
abbrev pub number_told : {A : Type 0} → Answer A → ℕ
number_told (value x) = 0
number_told (refusal n place clash) = n

-- the answer's values, or the refusal's place and, of 10, the clash's pattern and its positions
abbrev pub row_in : {A : Type 0} → (A → List ℕ) → Answer A → List ℕ
row_in f (value x) = f x
row_in f (refusal n place clash) = place ∷ clash_numbers clash

-- the values of a plan, a checked plan, a number, a pixel of a picture, and of a call that has nothing to tell
abbrev pub plan_row : Plan → List ℕ
plan_row p = p.a ∷ p.b ∷ p.d ∷ []

abbrev pub checked_row : Checked → List ℕ
checked_row c = plan_row c.plan ++ (c.surplus ∷ [])

abbrev pub number_row : ℕ → List ℕ
number_row n = n ∷ []

abbrev pub pixel_row : Pixel → List ℕ
pixel_row v = nat_abs v.column ∷ nat_abs v.row ∷ []

abbrev pub no_row : {A : Type 0} → A → List ℕ
no_row x = []

-- a pixel as the code has it, its column and its row
abbrev pub pair_row : ℤ × ℤ → List ℕ
pair_row v = nat_abs v.0 ∷ nat_abs v.1 ∷ []

-- xs from place k on, the rest unchanged
abbrev pub put_from : ℕ → List ℕ → List ℕ → List ℕ
put_from k [] out = out
put_from k (x ∷ xs) out = put_from (suc k) xs (set out k x)

-- the call answered n and put its row over what stood in the array before
pub record Tells {A : Type 0} (row : A → List ℕ) (answer : Answer A) (before after : List ℕ) (n : ℕ) : Type 0 where
  pub number : n ≡ number_told answer
  pub row_put : after ≡ put_from 0 (row_in row answer) before

-- a clash with these positions, as `with_positions` has it
abbrev pub placed_at : List ℕ → Option LongClash → Option LongClash
placed_at es none = none
placed_at es (some c) = some (record { pattern = c.pattern; positions = es })

-- What came of a list of calls. Document 01 has no number for a list that is none: 255, at the place of its first numbers that
-- are no call's. Outputs or replies that are too short are 16.
abbrev pub of_listed : Listed → Answer Unit
of_listed (Ok u) = value tt
of_listed (Err (ListFault.NotCalls k)) = refusal 255 k none
of_listed (Err ListFault.Short) = refusal 16 0 none

-- and of one that begins with the finder: the plan where the list was made
abbrev pub of_found_run : FoundRun → Answer Plan
of_found_run (Ok (p, Ok u)) = value p
of_found_run (Ok (p, Err (ListFault.NotCalls k))) = refusal 255 k none
of_found_run (Ok (p, Err ListFault.Short)) = refusal 16 0 none
of_found_run (Err r) = turned_down r
