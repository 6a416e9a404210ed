-- `capi::told::tell_fetch` meets its contract.
-- Assumes nothing.
use Rattle.scope.specs.declared.Refusal.{Refusal}
use Rattle.std.specs.Prelude.{Result}
use mathlib.Core.Path.{◌∙◌, ap}
use mathlib.Core.List.{List}
use Prim.Native.Nat.{ℕ, suc}
use lib.ListN.{take}
use Rattle.scope.specs.Numbers.{Answer, of_result, with_positions}
use Rattle.capi.proofs.Passed.{told_value, told_refusal, placed_refusal}
use Rattle.capi.proofs.told.tell_fetch.Goals as goal

-- the answer's number, told with these positions
abbrev told : List ℕ → ℕ → Result ℕ Refusal → Answer ℕ
told positions r c = with_positions (take (suc r) positions) (of_result c)

pub returns-in-Ok : goal.returns-in-Ok
returns-in-Ok c =
    told_value (ap (told c.args.a.positions c.args.r) c.in-Ok.is) c.tell_value.ensures

pub returns-in-Err : goal.returns-in-Err
returns-in-Err c =
    told_refusal (ap (told c.args.a.positions c.args.r) c.in-Err.is ∙ placed_refusal (take (suc c.args.r) c.args.a.positions) c.in-Err.f) c.tell_clash.ensures
