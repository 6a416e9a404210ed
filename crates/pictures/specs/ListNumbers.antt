-- Every list of demand 3's calls has numbers: "any finite list, the empty one too, of stores, clears, loads and plain fetches", of ring
-- fetches (document 02, Card 5), and of the calls on the sums (Card 6).
-- So the code that takes lists in numbers (Lists) leaves none of them out.
-- Assumes nothing.
use Rattle.std.specs.Prelude.{◌≡◌, ℕ, ◌-◌, ◌*◌, ◌<◌, ◌≤◌, cond, List, [], ◌∷◌, length, ℤ, pos, negsuc}
use Rattle.std.proofs.Math.Option.{none}
use mathlib.Core.List.{flat_map, Memᴰ}
use Rattle.scope.specs.Plans.{Pixel}
use Rattle.scope.specs.promises.Demand.{store, clear, make_sums, load, fetch, sum, read_sum, Call, write, read}
use Rattle.pictures.specs.Lists.{calls_of, list_test}

-- two's complement of 16 bits; `negsuc n` is -1 - n
abbrev pub coordinate_number : ℤ → ℕ
coordinate_number (pos n) = n
coordinate_number (negsuc n) = 65535 - n

-- the five numbers of a call; those that it has no use for are 0
abbrev pub numbers_of : Call → List ℕ
numbers_of (write (store v x)) = 0 ∷ coordinate_number v.column ∷ coordinate_number v.row ∷ x ∷ 0 ∷ []
numbers_of (write (clear k)) = 1 ∷ 0 ∷ 0 ∷ k ∷ 0 ∷ []
numbers_of (write make_sums) = 5 ∷ 0 ∷ 0 ∷ 0 ∷ 0 ∷ []
numbers_of (read (load v)) = 2 ∷ coordinate_number v.column ∷ coordinate_number v.row ∷ 0 ∷ 0 ∷ []
numbers_of (read (fetch ring n o out)) = cond ring 4 3 ∷ coordinate_number o.column ∷ coordinate_number o.row ∷ n ∷ length out ∷ []
numbers_of (read (sum k)) = 6 ∷ 0 ∷ 0 ∷ k ∷ 0 ∷ []
numbers_of (read (read_sum k)) = 7 ∷ 0 ∷ 0 ∷ k ∷ 0 ∷ []

-- a fetch's output, and none of another call
abbrev pub output_in : Call → List ℕ
output_in (write w) = []
output_in (read (load v)) = []
output_in (read (fetch ring n o out)) = out
output_in (read (sum k)) = []
output_in (read (read_sum k)) = []

-- a number of 64 bits; a coordinate of 16 bits, -32768 to 32767
abbrev pub Fits64 : ℕ → Type 0
Fits64 n = n < 0x1_0000_0000_0000_0000

abbrev pub Fits16 : ℤ → Type 0
Fits16 (pos n) = n < 32768
Fits16 (negsuc n) = n < 32768

pub record PixelFits (v : Pixel) : Type 0 where
  pub column : Fits16 v.column
  pub row : Fits16 v.row

-- What the code can be given of a call: coordinates and a store's word of 16 bits, and a bank, a pattern number and the length
-- of an output of 64 bits
abbrev pub Fits : Call → Type 0
Fits (write (store v x)) = PixelFits v × (x < 65536)
Fits (write (clear k)) = Fits64 k
Fits (write make_sums) = Unit
Fits (read (load v)) = PixelFits v
Fits (read (fetch ring n o out)) = PixelFits o × Fits64 n × Fits64 (length out)
Fits (read (sum k)) = Fits64 k
Fits (read (read_sum k)) = Fits64 k

abbrev pub AllFit : List Call → Type 0
AllFit calls = (c : Call) → Memᴰ c calls → Fits c

abbrev pub AllFit64 : List ℕ → Type 0
AllFit64 xs = (n : ℕ) → Memᴰ n xs → Fits64 n

-- The numbers of the calls, one after the other, and the outputs of the fetches:
pub record HasNumbers (calls : List Call) : Type 0 where
  -- the list that the code makes of them is this one
  pub back : calls_of (flat_map numbers_of calls) (flat_map output_in calls) ≡ calls
  -- each is a number of 64 bits
  pub fit : AllFit64 (flat_map numbers_of calls)
  -- and the code does not turn the list down, where there are twelve numbers to a call for the replies
  pub taken :
      (rows : ℕ) → 12 * length calls ≤ rows → list_test (flat_map numbers_of calls) (length (flat_map output_in calls)) rows ≡ none

abbrev pub EveryListHasNumbers : Type 0
EveryListHasNumbers = (calls : List Call) → AllFit calls → HasNumbers calls

-- The other way round: numbers of 64 bits are only numbers of calls that fit.
abbrev pub NumbersGiveFittingCalls : Type 0
NumbersGiveFittingCalls = (xs outs : List ℕ) → AllFit64 xs → AllFit (calls_of xs outs)
