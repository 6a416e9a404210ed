-- `capi::told::tell_clash` meets its contract: its place stands at 0 and, of 10, the pattern and the positions behind it.
-- Assumes nothing.
use Rattle.std.specs.Prelude.{Option as Optional}
use Prim.Native.Nat.{ℕ, suc}
use mathlib.Core.Path.{◌≡◌, sym, ◌∙◌, ap}
use mathlib.Core.Option.{Option}
use mathlib.Core.List.{List, ◌∷◌}
use lib.ListN.{take, set}
use Rattle.scope.specs.Cycles.{LongClash}
use Rattle.scope.specs.declared.Clash.{Clash}
use Rattle.scope.specs.code.RefusalRows.{row_clash}
use Rattle.pictures.specs.Lists.{clash_numbers}
use Rattle.capi.specs.Told.{put_from, placed_at}
use Rattle.capi.proofs.told.tell_clash.Goals as goal

-- the row's place stands at 0, and what was put from 1 on is its clash with these positions
row_told :
    {s : ℕ × ℕ × Option LongClash} {n i : ℕ} {o k : Optional Clash} (es xs : List ℕ) → s ≡ (n, i, row_clash o) → o ≡ k
    → (n ≡ s.0)
    × (put_from 1 (clash_numbers (placed_at es (row_clash k))) (set xs 0 i) ≡ put_from 0 (s.1 ∷ clash_numbers (placed_at es s.2)) xs)
row_told es xs e is =
    (ap (λ t. t.0) (sym e), rw (← is) (sym (ap (λ t. put_from 0 (t.1 ∷ clash_numbers (placed_at es t.2)) xs) e)))

pub returns-in-Some : goal.returns-in-Some
returns-in-Some c =
    let (number, put) = row_told (take (suc c.args.r) c.args.positions) c.args.answer.now c.row_of-row.ensures c.in-Some.is in
    (number, c.put_positions.ensures ∙ put)

pub returns-in_default : goal.returns-in_default
returns-in_default c = row_told (take (suc c.args.r) c.args.positions) c.args.answer.now c.row_of-row.ensures c.in_default.is
