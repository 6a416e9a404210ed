-- `finder::cells::Cells::pattern_crowded` meets its contract. The loop's invariant: the first e pixels are counted, and each has a cycle
-- below r.
-- Assumes nothing.
use Prim.Native.Nat.{ℕ, suc, ◌+◌, ◌*◌, min, ◌<◌}
use native.Mathlib.Omega.{arith}
use mathlib.Core.Path.{◌≡◌, sym, ◌∙◌, ap}
use mathlib.Core.List.{List}
use lib.ListN.{length, get_or}
use Rattle.scope.specs.Finding.{pixel_in}
use Rattle.scope.specs.Banks.{bank_of}
use Rattle.scope.specs.declared.Plan.{Plan}
use Rattle.scope.proofs.PlanFacts.{plan_means}
use Rattle.finder.specs.Counting.{cell_pixel, pattern_in}
use Rattle.finder.proofs.CountedBanks.{none_counted, one_more_counted, counted_crowded, all_counted}
use Rattle.finder.proofs.CellEntries.{length_pattern_in, pixel_in_lem}
use Rattle.finder.proofs.cells.Cells.pattern_crowded.Goals as goal

-- the pixel count of pattern n, and the bank of its pixel at e
module _ (entries : List ℕ) (n : ℕ) {used : ℕ} (is : used ≡ min (get_or entries (65 * n) 0) 64) where
  used-is : used ≡ length (pattern_in entries n)
  used-is = is ∙ sym (length_pattern_in entries n)

  bank-is :
      (p : Plan) (e : ℕ) {k : ℕ} → e < used → k ≡ bank_of p (cell_pixel (get_or entries (65 * n + (e + 1)) 0))
      → k ≡ bank_of p (pixel_in (pattern_in entries n) e)
  bank-is p e h k-is =
      let next : e + 1 ≡ suc e = omega arith in
      k-is
      ∙ ap (λ (i : ℕ). bank_of p (cell_pixel (get_or entries (65 * n + i) 0))) next
      ∙ ap (bank_of p) (sym (pixel_in_lem entries n e (omega (arith, is))))

pub loop-e-init : goal.loop-e-init
loop-e-init c = none_counted _ _ _

pub returns-then-self-count : goal.returns-then-self-count
returns-then-self-count c =
    let t = c.args.tables.now.tested in
    let is = bank-is c.args.self.now.entries c.args.n c.pixels_in-used.ensures t.plan c.loop-e.e c.loop-e-test.true c.bank-k.ensures.0 in
    counted_crowded _ _ c.loop-e.invariant is c.bank-k.ensures.1 (plan_means t.plan t.is)
    (omega (arith, used-is c.args.self.now.entries c.args.n c.pixels_in-used.ensures, c.loop-e-test.true)) c.if-self-count.true

pub loop-e-preserved : goal.loop-e-preserved
loop-e-preserved c =
    let p = c.args.tables.now.tested.plan in
    let is = bank-is c.args.self.now.entries c.args.n c.pixels_in-used.ensures p c.loop-e.e c.loop-e-test.true c.bank-k.ensures.0 in
    one_more_counted _ _ c.loop-e.invariant is c.bank-k.ensures.1 c.if-self-count.false

pub returns : goal.returns
returns c =
    let t = c.args.tables.now.tested in
    let used = used-is c.args.self.now.entries c.args.n c.pixels_in-used.ensures in
    all_counted _ _ (plan_means t.plan t.is) c.loop-e.invariant (omega (arith, used, c.loop-e-test.false))
