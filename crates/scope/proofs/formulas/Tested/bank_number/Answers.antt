-- `scope::formulas::Tested::bank_number` meets its contract.
-- Assumes nothing.
use Prim.Native.Nat.{ℕ, ◌+◌, ◌*◌, ◌-◌, ◌≤◌, ◌<◌}
use native.Mathlib.Omega.{arith}
use native.Mathlib.Nat.{sub-add_cancel}
use mathlib.Core.Path.{◌≡◌, ◌∙◌, ap₂}
use lib.IntN.{ℤ, pos, nat_abs, ◌-ℤ◌, ◌*ℤ◌}
use mir.Syntax.{w16, w32}
use mir.Val.{SFits, to_z, of_z}
use mir.Facts.{to_z-of_z}
use Rattle.integers.specs.Division.{floor_div, floor_mod}
use Rattle.integers.proofs.Divisions.{remainder_below}
use Rattle.integers.proofs.Raised.{widened_fits, widened_is}
use Rattle.integers.proofs.Sizes.{small_fits, size_of_quotient, fitting_size}
use Rattle.scope.specs.Plans.{at}
use Rattle.scope.specs.Banks.{bank_of}
use Rattle.scope.specs.promises.Meaning.{IsPlan}
use Rattle.scope.specs.declared.Plan.{Plan}
use Rattle.scope.proofs.PlanFacts.{plan_means, d_at_most}
use Rattle.scope.proofs.formulas.Tested.bank_number.Lts as lts
use Rattle.scope.proofs.formulas.Tested.bank_number.Tie as tie
use Rattle.scope.proofs.formulas.Tested.bank_number.Reads as reads
use Rattle.scope.proofs.formulas.Tested.bank_number.Goals as goal

-- what is known at a step of the code
abbrev After-p : Type 0
After-p = lts.After-p tie.the-claims reads.Pre reads.Post

-- the row j as it is handed to the division by d, and what comes of it
module _ (p : Plan) (plan : IsPlan p) (j : ℤ) (g : SFits w16 j) where
  abbrev handed : ℤ
  handed = to_z w32 (of_z w32 (to_z w16 (of_z w16 j)))

  row_is : handed ≡ j
  row_is = widened_is w16 w32 tt j g

  d-is : p.d - 1 + 1 ≡ p.d
  d-is = sub-add_cancel plan.d_least

  module _ {q : ℤ} (e : q ≡ floor_div handed (p.d - 1 + 1)) where
    quotient_is : q ≡ floor_div j p.d
    quotient_is = e ∙ ap₂ floor_div row_is d-is

    quotient-small : nat_abs q ≤ 32768
    quotient-small = rw quotient_is (omega (arith, size_of_quotient j p.d, fitting_size w16 j g))

  module _ {r : ℕ} (e : r ≡ floor_mod handed (p.d - 1 + 1)) where
    remainder_is : r ≡ floor_mod j p.d
    remainder_is = e ∙ ap₂ floor_mod row_is d-is

    remainder-less : r < p.d
    remainder-less = rw remainder_is (omega (arith, remainder_below j p.d plan.d_least))

  -- the bank that is made of both
  module _ {q : ℤ} {r : ℕ} (q-is : q ≡ floor_div handed (p.d - 1 + 1)) (r-is : r ≡ floor_mod handed (p.d - 1 + 1)) where
    quotient-read : to_z w32 (of_z w32 q) ≡ q
    quotient-read = to_z-of_z (small_fits w32 32768 q (quotient-small q-is) (omega arith))

    read_small : nat_abs (to_z w32 (of_z w32 q)) ≤ 32768
    read_small = rw quotient-read (quotient-small q-is)

    bank-is :
        {i : ℤ} {k : ℕ} → SFits w16 i
        → k ≡ r * p.a + floor_mod (to_z w16 (of_z w16 i) -ℤ pos p.b *ℤ to_z w32 (of_z w32 q)) p.a
        → k ≡ bank_of p (at i j)
    unfolding bank_of at
    bank-is f e = rw (to_z-of_z f, quotient-read, quotient_is q-is, remainder_is r-is) at e

-- where the plan is read
module _ (c : After-p) where
  plan : IsPlan c.args.self.plan
  plan = plan_means _ c.args.self.is

  bounds : (1 ≤ c.args.self.plan.d) × (c.args.self.plan.d ≤ 1024)
  bounds = (plan.d_least, d_at_most _ plan)

pub bank_in-requires : goal.bank_in-requires
bank_in-requires c = (
  read_small _ (plan c.before.before.before) _ c.ranges.j c.quotient-q.ensures c.remainder-r.ensures,
  remainder-less _ (plan c.before.before.before) _ c.ranges.j c.remainder-r.ensures,
)

pub returns : goal.returns
returns c =
    bank-is _ (plan c.before.before.before.before) _ c.ranges.j c.quotient-q.ensures c.remainder-r.ensures c.ranges.i c.bank_in.ensures

pub overflow_sub-top : goal.overflow_sub-top
overflow_sub-top c =
    omega (arith, bounds c.before)

pub overflow_cast-top : goal.overflow_cast-top
overflow_cast-top c =
    record { fits = omega (arith, bounds c.before) }

pub overflow_cast-j : goal.overflow_cast-j
overflow_cast-j c =
    widened_fits w16 w32 tt c.args.j c.ranges.j

pub overflow_cast-j-2 : goal.overflow_cast-j-2
overflow_cast-j-2 c =
    widened_fits w16 w32 tt c.args.j c.ranges.j
