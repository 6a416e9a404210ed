-- `capi::told::put_positions` meets its contract. The loop's invariant: the first e positions stand in the array.
-- Assumes nothing.
use Prim.Native.Nat.{ℕ, ◌<◌, suc, min}
use native.Mathlib.Decide.{dec_lt}
use native.Mathlib.Omega.{arith}
use mathlib.Core.Path.{◌≡◌}
use mathlib.Core.List.{List}
use lib.ListN.{length, take}
use Rattle.capi.specs.Told.{put_from}
use Rattle.capi.proofs.Positions.{Placed, none_placed, one_placed, all_placed, nine_placed}
use Rattle.capi.proofs.told.put_positions.Goals as goal

pub loop-e-init : goal.loop-e-init
loop-e-init c = none_placed

pub loop-e-preserved : goal.loop-e-preserved
loop-e-preserved c = one_placed (omega arith) c.loop-e.invariant

-- the positions that stand are the first r + 1
placed-all :
    {positions before out : List ℕ} (r e : ℕ) → length positions ≡ 9 → e ≡ min (suc r) 9 → Placed positions before e out
    → out ≡ put_from 2 (take (suc r) positions) before
placed-all {positions} {before} {out} r e size is placed = by-r (dec_lt r 8)
  where
    by-r : Dec (r < 8) → out ≡ put_from 2 (take (suc r) positions) before
    by-r (yes h) = all_placed {r = r} (omega arith) placed
    by-r (no h) = nine_placed size (omega arith) (omega arith) placed

pub returns : goal.returns
returns c = placed-all c.args.r c.loop-e.e (omega arith) (omega (arith, c.min-count.ensures)) c.loop-e.invariant
