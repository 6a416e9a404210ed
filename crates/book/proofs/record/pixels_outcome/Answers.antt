-- `book::record::pixels_outcome` meets its contract. The loop's invariant: the pixels before position e pass their tests, and
-- the entries are theirs.
-- Assumes nothing.
use Prim.Native.Nat.{ℕ}
use native.Mathlib.Omega.{arith}
use mathlib.Core.Path.{◌∙◌, ◌≡◌, refl, sym}
use mathlib.Core.List.{List}
use lib.IntN.{ℤ, pos}
use lib.ListN.{get_or}
use mir.Syntax.{w8}
use mir.Val.{to_z, of_z}
use Rattle.scope.specs.Plans.{at, pixel_at}
use Rattle.scope.specs.declared.Pattern.{Pattern}
use Rattle.scope.proofs.PlanFacts.{entry_handed}
use Rattle.checks.proofs.Chains.{passed_on}
use Rattle.book.proofs.PixelLoops.{no_pixel_passed, pixel_not_taken, one_more_pixel, all_pixels_passed}
use Rattle.book.proofs.record.pixels_outcome.Goals as goal
use Rattle.book.proofs.record.pixels_outcome.Goals.{After-pixel_outcome}

-- the loop's columns, rows and count as the record they came from
abbrev pattern : List ℤ → List ℤ → ℕ → Pattern
pattern columns rows used = record { columns = columns; rows = rows; used = used }

pub loop-e-init : goal.loop-e-init
loop-e-init c = (omega arith, no_pixel_passed _ _)

-- the pixel that was handed over is the pattern's at position e
pixel-is :
    (c : After-pixel_outcome) →
    let columns = c.args.t.columns in
    let rows = c.args.t.rows in
    pixel_at c.args.t c.loop-e.e
    ≡ at (to_z w8 (of_z w8 (get_or columns c.loop-e.e (pos 0)))) (to_z w8 (of_z w8 (get_or rows c.loop-e.e (pos 0))))
unfolding pixel_at at
pixel-is c =
    sym (entry_handed w8 _ _ c.pixel_outcome-arg-1.given c.pixel_outcome-arg-in-loop-e-1.given)

pub returns-in_err-pixel_outcome : goal.returns-in_err-pixel_outcome
returns-in_err-pixel_outcome c =
    passed_on _ c.from_residual.ensures c.in_err-pixel_outcome.was
    ∙ (pixel_not_taken c.loop-e.invariant.1 c.pixel_outcome.ensures (pixel-is c.before.before.before.before) refl
    c.loop-e-test.true c.in_err-pixel_outcome.was)

pub loop-e-preserved : goal.loop-e-preserved
loop-e-preserved c = (
  omega arith,
  one_more_pixel c.loop-e.invariant.1 c.pixel_outcome.ensures (pixel-is c.before.before.before) refl c.in_ok-pixel_outcome.was,
)

pub returns : goal.returns
returns c = all_pixels_passed c.loop-e.invariant.1 c.loop-e-test.false

pub bounds-columns-e : goal.bounds-columns-e
bounds-columns-e c =
    omega arith

pub bounds-rows-e : goal.bounds-rows-e
bounds-rows-e c =
    omega arith

pub pixel_outcome-requires : goal.pixel_outcome-requires
pixel_outcome-requires c =
    (c.loop-e.invariant.1.passed.size, omega arith)
