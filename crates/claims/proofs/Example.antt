-- Demand 3's premises can be met, and its claim says something: what it gives in three small pictures at r = 1, in one at r = 2, and in
-- two where the list is in numbers and begins with the finder. Both are about the definitions; what binds the code is its contract.
-- Assumes nothing.
use mathlib.Core.Path.{◌≡◌}
use Rattle.scope.specs.values.DemandExample.{ReadOff, read_off}
use Rattle.scope.specs.values.DemandCyclesExample as Cycles
use Rattle.pictures.specs.Lists.{Buffers}
use Rattle.pictures.proofs.DemandHolds.{demand_3}
use Rattle.claims.specs.Demanded.{find_and_run}
use Rattle.scope.specs.values.SumEdges as Sums
use Rattle.pictures.proofs.KeptSums.{sums_kept}
use Rattle.claims.specs.DemandedExample as Found
use Rattle.claims.proofs.CodeLists.{demand_follows}

pub example_holds : ReadOff
example_holds = read_off demand_3

pub cycles_example_holds : Cycles.ReadOffInCycles
cycles_example_holds = Cycles.read_off demand_3

pub sums_example_holds : Sums.SumsReadOff
sums_example_holds = Sums.read_off sums_kept

pub found_run_example_holds :
    (left : Buffers) → left ≡ (find_and_run (Found.small).book 1 1024 3 1 Found.six Found.start).content → Found.ReadOff left
found_run_example_holds = Found.read_off demand_follows
