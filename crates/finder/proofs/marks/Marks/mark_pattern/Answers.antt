-- `finder::marks::Marks::mark_pattern` meets its contract. The loop's invariant: the differences with the pixels before position e
-- are marked.
-- Assumes nothing.
use Prim.Native.Nat.{ℕ}
use native.Mathlib.Numerals.{add-one}
use native.Mathlib.Omega.{arith}
use mathlib.Core.Path.{◌≡◌, refl, ◌∙◌, ap}
use mathlib.Core.List.{List}
use Rattle.finder.specs.Table.{mark_from, mark_pattern}
use Rattle.finder.proofs.marks.Marks.mark_pattern.Goals as goal

pub loop-e-init : goal.loop-e-init
unfolding mark_pattern
loop-e-init c = refl

pub mark_from-requires : goal.mark_from-requires
mark_from-requires c = (omega arith, omega arith)

pub loop-e-preserved : goal.loop-e-preserved
unfolding mark_pattern
loop-e-preserved c =
    let t = c.args.t in
    let turn : List ℕ → List ℕ = mark_from t c.loop-e.e t.used in
    rw (add-one c.loop-e.e) (c.mark_from.ensures ∙ ap turn c.loop-e.invariant)

pub returns : goal.returns
returns c =
    let u = c.args in
    let done : c.loop-e.e ≡ u.t.used = omega arith in
    c.loop-e.invariant ∙ ap (λ (n : ℕ). mark_pattern u.t n u.self.now.cells) done
