-- `finder::clash::bank_in` meets its contract: a bank of a plan is below 1024.
-- Assumes nothing.
use Prim.Native.Nat.{◌<◌}
use native.Mathlib.Omega.{arith}
use mathlib.Core.Path.{◌∙◌, ap₂}
use lib.IntN.{ℤ}
use mir.Syntax.{w8, w16}
use Rattle.integers.proofs.Raised.{widened_fits, widened_is}
use Rattle.scope.specs.Plans.{Pixel, at, banks}
use Rattle.scope.specs.Banks.{bank_of}
use Rattle.scope.specs.promises.Meaning.{IsPlan}
use Rattle.scope.specs.declared.formulas.Tested.{Tested}
use Rattle.scope.proofs.PlanFacts.{plan_means}
use Rattle.lattice.proofs.SameBank.{bank_below_count}
use Rattle.finder.proofs.clash.bank_in.Goals as goal

pub overflow_cast-i : goal.overflow_cast-i
overflow_cast-i c = widened_fits w8 w16 tt c.args.i c.ranges.i

pub overflow_cast-j : goal.overflow_cast-j
overflow_cast-j c = widened_fits w8 w16 tt c.args.j c.ranges.j

bank-small : (p : Tested) (v : Pixel) → bank_of p.plan v < 1024
unfolding banks
bank-small p v = let plan : IsPlan p.plan = plan_means p.plan p.is in omega (arith, bank_below_count p.plan plan v, plan.most)

pub returns : goal.returns
returns c =
    let p = c.args.p in
    let is =
    c.bank_number.ensures
    ∙ ap₂ (λ (i j : ℤ). bank_of p.plan (at i j)) (widened_is w8 w16 tt c.args.i c.ranges.i) (widened_is w8 w16 tt c.args.j c.ranges.j)
    in
    (is, rw is (bank-small p (at c.args.i c.args.j)))
