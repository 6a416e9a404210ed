-- `finder::marks::MarksTrial::least_b` meets its contract. The loop's invariant: it ends at the smaller of `below` and a, s is the plan's
-- first cell in row d, and no plan with a smaller b suits.
-- Assumes nothing.
use Prim.Native.Nat.{ℕ, ◌+◌, ◌*◌, ◌%◌, min, ◌≤◌, ◌<◌}
use native.Mathlib.Nat.{mod-add-mod, mod-eq_of_lt, mod_self, mod-lt}
use native.Mathlib.Omega.{arith}
use mathlib.Core.Path.{◌≡◌, refl, sym, ◌∙◌, ap}
use Rattle.scope.specs.Plans.{plan}
use Rattle.scope.specs.Finding.{trial}
use Rattle.finder.specs.Table.{TestOf}
use Rattle.finder.specs.Searching.{least_below}
use Rattle.finder.proofs.PlanLoops.{NoneFrom, none_yet, one_more_none, found_at, found_nowhere, none_below}
use Rattle.finder.proofs.SuitingPlans.{a_most, d_most}
use Rattle.finder.proofs.TableSearch.{row_marked_none, rows_marked_none, unmarked_found}
use Rattle.finder.proofs.marks.MarksTrial.least_b.Goals as goal
use Rattle.finder.proofs.marks.MarksTrial.least_b.Goals.{Else-not-rows_marked, then-s-a, else-s-a}

-- A plan's first cell in row d is s. That of the next plan is one more, or 0 after the last.
module _ (a b s : ℕ) (least : 1 ≤ a) (is : s ≡ (31 + b) % a) where
  cell_below : s < a
  cell_below = omega (arith, is, mod-lt (31 + b) least)

  next-remainder : (s + 1) % a ≡ (31 + (b + 1)) % a
  next-remainder =
      let one_more : 31 + b + 1 ≡ 31 + (b + 1) = omega arith in
      ap (λ (x : ℕ). (x + 1) % a) is ∙ mod-add-mod (31 + b) a 1 ∙ ap (λ (x : ℕ). x % a) one_more

  next-cell : (s + 1 ≡ a → ⊥) → s + 1 ≡ (31 + (b + 1)) % a
  next-cell inside = sym (mod-eq_of_lt (omega (arith, cell_below))) ∙ next-remainder

  wrapped-cell : s + 1 ≡ a → 0 ≡ (31 + (b + 1)) % a
  wrapped-cell last = sym (mod_self a) ∙ ap (λ (x : ℕ). x % a) (sym last) ∙ next-remainder

pub overflow_add-a : goal.overflow_add-a
overflow_add-a c = omega (arith, a_most c.args.a c.args.d c.requires.1 c.requires.2)

pub row_marked-requires : goal.row_marked-requires
row_marked-requires c =
    let most = a_most c.args.a c.args.d c.requires.1 c.requires.2 in
    (c.requires.0, most, omega arith, omega (arith, most))

pub returns-then-row_marked : goal.returns-then-row_marked
unfolding least_below
returns-then-row_marked c =
    let m = c.args.below in
    found_nowhere _ 0 m m
    (none_below c.args.a c.args.d m (min m c.args.a) c.requires.1 refl
    (record { each = λ b p q. row_marked_none c.requires.1 (omega arith) c.row_marked.ensures c.if-row_marked.true }))
    (omega arith)

pub loop-b-init : goal.loop-b-init
loop-b-init c =
    (omega arith, omega arith, refl, none_yet _ 0)

pub rows_marked-requires : goal.rows_marked-requires
rows_marked-requires c =
    let (a_least, d_least, most) = c.requires in
    (omega (arith, c.loop-b.invariant.0), a_most c.args.a _ d_least most, d_least, d_most _ c.args.d a_least most, c.loop-b.invariant.2)

pub returns-then-not-rows_marked : goal.returns-then-not-rows_marked
unfolding least_below plan
returns-then-not-rows_marked c =
    found_at _ 0 c.args.below _ c.loop-b.invariant.3 (omega arith) (omega (arith, c.loop-b.invariant.0))
    (unmarked_found c.requires.1 (omega (arith, c.loop-b.invariant.0)) c.row_marked.ensures
    c.if-row_marked.false c.rows_marked.ensures c.if-not-rows_marked.true-raw)
    refl

-- no plan up to this b suits
turned_down :
    (c : Else-not-rows_marked) →
    NoneFrom (TestOf c.args.self.now.cells) (λ test b. trial test (c.args.a * c.args.d) b c.args.d) 0 (c.loop-b.b + 1)
turned_down c =
    let none = rows_marked_none c.requires.1 (omega (arith, c.loop-b.invariant.0)) c.rows_marked.ensures c.if-not-rows_marked.false-raw in
    one_more_none _ 0 _ c.loop-b.invariant.3 none refl

pub loop-b-preserved : goal.loop-b-preserved
loop-b-preserved c =
    let u = c.loop-b in
    let next : c.if-s-a.s ≡ (31 + (u.b + 1)) % c.args.a = elim c.if-s-a.branch [
      | then-s-a w ↦ w.s-is ∙ wrapped-cell c.args.a u.b u.s c.requires.0 u.invariant.2 w.if-s-a.true
      | else-s-a w ↦ w.s-is ∙ next-cell c.args.a u.b u.s c.requires.0 u.invariant.2 w.if-s-a.false
    ] in
    (u.invariant.0, omega arith, next, turned_down c.before)

pub returns : goal.returns
unfolding least_below
returns c =
    let m = c.args.below in
    found_nowhere _ 0 m m
    (none_below c.args.a c.args.d m c.loop-b.b c.requires.1 (omega (arith, c.loop-b.invariant.0)) c.loop-b.invariant.3) (omega arith)
