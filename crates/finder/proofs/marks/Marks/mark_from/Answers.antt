-- `finder::marks::Marks::mark_from` meets its contract. The loop's invariant: the differences of the pixels before position l are
-- marked.
-- Assumes nothing.
use Prim.Native.Nat.{ℕ}
use native.Mathlib.Numerals.{add-one}
use native.Mathlib.Omega.{arith}
use mathlib.Core.Path.{◌≡◌, refl, ◌∙◌, ap, ap₂}
use mathlib.Core.List.{List}
use lib.ListN.{set}
use mir.Syntax.{w8}
use Rattle.scope.specs.Plans.{Pixel, at, minus, pixel_at}
use Rattle.scope.specs.declared.Pattern.{Pattern}
use Rattle.scope.proofs.PlanFacts.{entry_handed}
use Rattle.finder.specs.Table.{table_cell, mark_from}
use Rattle.finder.proofs.Marking.{cell_below}
use Rattle.finder.proofs.marks.Marks.mark_from.Goals.{After-difference_cell-k}
use Rattle.finder.proofs.marks.Marks.mark_from.Goals as goal

pub loop-l-init : goal.loop-l-init
unfolding mark_from
loop-l-init c = refl

-- in a turn, at position l of the pattern t, where the difference's cell is known
module _ (c : After-difference_cell-k) where
  abbrev t : Pattern
  t = c.args.t

  abbrev e : ℕ
  e = c.args.e

  abbrev l : ℕ
  l = c.loop-l.l

  cell-is : c.difference_cell-k.result ≡ table_cell (minus (pixel_at t l) (pixel_at t e))
  unfolding pixel_at at
  cell-is =
      c.difference_cell-k.ensures
      ∙ ap₂ (λ (v w : Pixel). table_cell (minus v w))
      (entry_handed w8 _ _ c.difference_cell-arg-1.given c.difference_cell-arg-in-loop-l-1.given)
      (entry_handed w8 _ _ c.x-1.given c.y-1.given)

pub bounds-self-k : goal.bounds-self-k
bounds-self-k c =
    let h = c.before in
    let cell = cell_below (minus (pixel_at (t h) (l h)) (pixel_at (t h) (e h))) in
    omega (arith, cell-is h, cell)

pub loop-l-preserved : goal.loop-l-preserved
unfolding mark_from
loop-l-preserved c =
    let mark : List ℕ → ℕ → List ℕ = λ marks k. set marks k 1 in
    rw (add-one c.loop-l.l) (ap₂ mark c.loop-l.invariant (cell-is c.before))

pub returns : goal.returns
returns c =
    let u = c.args in
    let done : c.loop-l.l ≡ u.t.used = omega arith in
    c.loop-l.invariant ∙ ap (λ (n : ℕ). mark_from u.t u.e n u.self.now.cells) done

pub bounds-columns-e : goal.bounds-columns-e
bounds-columns-e c = omega arith

pub bounds-rows-e : goal.bounds-rows-e
bounds-rows-e c = omega arith

pub bounds-columns-l : goal.bounds-columns-l
bounds-columns-l c = omega arith

pub bounds-rows-l : goal.bounds-rows-l
bounds-rows-l c = omega arith
