-- `capi::told::tell_check` meets its contract.
-- Assumes nothing.
use mathlib.Core.Path.{◌∙◌, ap}
use mathlib.Core.List.{List}
use Prim.Native.Nat.{ℕ, suc}
use lib.ListN.{take}
use Rattle.scope.specs.Numbers.{Answer, of_verdict, with_positions}
use Rattle.scope.specs.declared.Checked.{Checked}
use Rattle.scope.specs.declared.Refusal.{Refusal}
use Rattle.scope.specs.declared.Verdict.{Verdict}
use Rattle.capi.proofs.Passed.{told_value, told_refusal, placed_refusal}
use Rattle.capi.proofs.told.tell_check.Goals as goal

-- the answer's verdict, told with these positions
abbrev told : List ℕ → ℕ → Verdict → Answer Checked
told positions r v = with_positions (take (suc r) positions) (of_verdict v)

pub returns-in-Suits : goal.returns-in-Suits
returns-in-Suits c =
    told_value (ap (told c.args.a.positions c.args.r) c.in-Suits.is) c.tell_value.ensures

pub returns-in-Clashes : goal.returns-in-Clashes
returns-in-Clashes c =
    told_refusal (ap (told c.args.a.positions c.args.r) c.in-Clashes.is ∙ placed_refusal (take (suc c.args.r) c.args.a.positions) (Refusal.Unsuited c.in-Clashes.c)) c.tell_clash.ensures

pub returns-in-Refused : goal.returns-in-Refused
returns-in-Refused c =
    told_refusal (ap (told c.args.a.positions c.args.r) c.in-Refused.is ∙ placed_refusal (take (suc c.args.r) c.args.a.positions) c.in-Refused.f) c.tell_clash-in-Refused.ensures
