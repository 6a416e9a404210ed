-- `finder::bank_tables::next_below` meets its contract.
-- Assumes nothing.
use Prim.Native.Nat.{ℕ, ◌%◌}
use native.Mathlib.Omega.{arith}
use native.Mathlib.Nat.{mod_self, mod-eq_of_lt}
use mathlib.Core.Path.{◌≡◌, sym, ◌∙◌, ap}
use Rattle.finder.proofs.bank_tables.next_below.Goals as goal

wraps : (m y : ℕ) → y ≡ m → 0 ≡ y % m
wraps m y e = sym (ap (λ (k : ℕ). k % m) e ∙ mod_self m)

pub returns-then-y-m : goal.returns-then-y-m
returns-then-y-m c = wraps _ _ (omega (arith, c.if-y-m.true))

pub returns-else-y-m : goal.returns-else-y-m
returns-else-y-m c = sym (mod-eq_of_lt (omega (arith, c.if-y-m.false)))
