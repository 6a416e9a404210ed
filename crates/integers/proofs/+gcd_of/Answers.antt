-- `integers::gcd_of` meets its contract, by Euclid's rule.
-- Assumes nothing.
use Prim.Native.Nat.{ℕ, suc, zero, ◌%◌, ◌<◌}
use mathlib.Core.Path.{◌≡◌, sym, ◌∙◌}
use native.Mathlib.Omega.{arith}
use native.Mathlib.Nat.{mod-lt}
use Rattle.integers.specs.Gcd.{gcd}
use Rattle.integers.proofs.Bezout.{euclids_rule}
use Rattle.integers.proofs.+gcd_of.Goals as goal

step : (a b : ℕ) → 0 < b → gcd a b ≡ gcd b (a % b)
step a zero h = absurd (omega (arith, h))
step a (suc b) h = euclids_rule.step a b

pub returns-then-b-eq0 : goal.returns-then-b-eq0
returns-then-b-eq0 t c = rw c.if-b-eq0.true (sym (euclids_rule.stop c.args.a))

pub gcd_of-requires : goal.gcd_of-requires
gcd_of-requires t c = omega (arith, mod-lt c.args.a {m = c.args.b} (omega arith))

pub returns : goal.returns
returns t c = c.gcd_of.ensures ∙ sym (step c.args.a c.args.b (omega arith))
