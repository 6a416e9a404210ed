-- `finder::bank_tables::Tables::bank` meets its contract.
-- Assumes nothing.
use Prim.Native.Nat.{ℕ, ◌+◌, ◌-◌, ◌*◌, ◌/◌, ◌%◌, ◌≤◌, ◌<◌}
use native.Mathlib.Omega.{arith}
use native.Mathlib.Nat.{ℕ_set, mod-lt}
use mathlib.Core.Path.{◌≡◌, sym, ◌∙◌, ap}
use mathlib.Core.Logic.{◌⊎◌, inl, inr, ∥∥₁_elim}
use mathlib.Core.List.{List}
use lib.ListN.{get_or}
use Rattle.scope.specs.Plans.{plan, banks}
use Rattle.scope.specs.Banks.{bank_of}
use Rattle.scope.specs.promises.Meaning.{IsPlan}
use Rattle.scope.specs.declared.Plan.{Plan}
use Rattle.scope.proofs.PlanFacts.{plan_means}
use Rattle.lattice.proofs.SameBank.{bank_below_count}
use Rattle.finder.specs.Counting.{cell_pixel, lanes_of, bases_of, Shift, ShiftsOf}
use Rattle.finder.proofs.CellEntries.{lane_at, base_at}
use Rattle.finder.proofs.CellBanks.{bank_by_tables}
use Rattle.finder.proofs.bank_tables.Tables.bank.Goals as goal
use Rattle.finder.proofs.bank_tables.Tables.bank.Goals.{then-x-a, else-x-a}

-- a cell, the tables of a plan, and the lane of the cell's column after the shift of its row
module _ (p : Plan) (legal : IsPlan p) (lanes bases shifts : List ℕ) (lanes_are : lanes ≡ lanes_of p.a) (bases_are : bases ≡ bases_of p.a p.d)
    (cell y : ℕ) where
  abbrev c : ℕ
  c = cell % 32

  abbrev j : ℕ
  j = cell / 32 % 32

  lane-is : get_or lanes c 0 ≡ c % p.a
  lane-is = ap (λ (xs : List ℕ). get_or xs c 0) lanes_are ∙ lane_at p.a c (mod-lt cell (omega arith))

  base-is : get_or bases j 0 ≡ (j % p.d) * p.a
  base-is = ap (λ (xs : List ℕ). get_or xs j 0) bases_are ∙ base_at p.a p.d j (mod-lt (cell / 32) (omega arith))

  abbrev sum : ℕ
  sum = get_or lanes c 0 + get_or shifts j 0

  abbrev Moved : Type 0
  Moved = ((sum < p.a) × (y ≡ sum)) ⊎ ((p.a ≤ sum) × (y ≡ sum - p.a))

  module _ (s : Shift p.a p.b p.d j (get_or shifts j 0)) where
    moved-below : Moved → y < p.a
    moved-below (inl h) = omega arith
    moved-below (inr h) = omega (arith, lane-is, mod-lt c legal.a_least, s.below)

    moved-parts : Moved → (c % p.a + get_or shifts j 0 ≡ y) ⊎ (c % p.a + get_or shifts j 0 ≡ y + p.a)
    moved-parts (inl h) = inl (omega (arith, lane-is))
    moved-parts (inr h) = inr (omega (arith, lane-is))

  bank-is : ∥ ShiftsOf p.a p.b p.d shifts ∥₁ → Moved → get_or bases j 0 + y ≡ bank_of p (cell_pixel cell)
  unfolding plan cell_pixel
  bank-is t m =
      ∥∥₁_elim t (ℕ_set _ _) (λ shifts_are.
      let s = shifts_are.each j (mod-lt (cell / 32) (omega arith)) in
      ap (λ (n : ℕ). n + y) base-is
      ∙ sym (bank_by_tables p.a p.b p.d legal c j (get_or shifts j 0) y s (moved-below s m) (moved-parts s m)))

  bank-small : bank_of p (cell_pixel cell) < 1024
  unfolding banks
  bank-small = omega (arith, bank_below_count p legal (cell_pixel cell), legal.most)

pub returns : goal.returns
returns k =
    let t = k.args.self.now in
    let p = t.tested.plan in
    let legal = plan_means p t.tested.is in
    let moved : Moved p legal t.lanes t.bases t.shifts t.lanes_are t.bases_are k.args.cell k.if-x-a.y =
    elim k.if-x-a.branch [ then-x-a w ↦ inl (w.if-x-a.true, w.y-is) | else-x-a w ↦ inr (w.if-x-a.false, w.y-is) ] in
    let is = bank-is p legal t.lanes t.bases t.shifts t.lanes_are t.bases_are k.args.cell k.if-x-a.y t.shifts_are moved in
    (is, omega (arith, is, bank-small p legal t.lanes t.bases t.shifts t.lanes_are t.bases_are k.args.cell k.if-x-a.y))
