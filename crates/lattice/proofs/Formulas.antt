-- The lists of pixels and patterns entry by entry, and document 01's formulas by divisions with remainder.
-- Assumes nothing.
use Prim.Native.Nat.{ℕ, ◌+◌, ◌*◌, ◌^◌, ◌≤◌, ◌<◌}
use mathlib.Core.Path.{◌≡◌, refl, sym, ◌∙◌, ap, ap₂}
use mathlib.Core.Logic.{◌↔◌}
use mathlib.Core.List.{List, [], Memᴰ}
use native.Mathlib.Omega.{arith}
use lib.IntN.{pos, ◌+ℤ◌}
use lib.ListN.{length, get_or, length-map}
use Rattle.integers.specs.Division.{ceil_div}
use Rattle.integers.proofs.Digits.{upper_digit}
use Rattle.integers.proofs.Divisions.{floor_division, ceiling_division}
use Rattle.scope.specs.Plans.{Pixel, at, plus, minus, pixel_at, pixels, differences}
use Rattle.scope.specs.Banks.{quotient, across, address_of, depth_of, exchanged, wrapped}
use Rattle.scope.specs.Calls.{moved, ring_moved, record_pixel}
use Rattle.scope.specs.promises.Meaning.{IsPlan, PatternsAre}
use Rattle.scope.specs.promises.PicturePromises.{RoundedUp, FormulasAre}
use Rattle.scope.specs.declared.Plan.{Plan}
use Rattle.scope.specs.declared.Pattern.{Pattern}
use Rattle.checks.proofs.Lists.{get_d_map}
use Rattle.checks.proofs.Patterns.{origin, length_pixels, get_d_pixels, length_patterns, get_d_patterns}
use Rattle.lattice.proofs.SameBank.{bank_by_divisions}
use Rattle.lattice.proofs.Suits.{DifferenceIn, mem_differences, differences_mem, suits_all_iff}

-- a difference is that of two different pixels
difference_iff :
    (t : List Pixel) (v : Pixel)
    → Memᴰ v (differences t)
    ↔ ((p : Pixel) × (q : Pixel) × Memᴰ p t × Memᴰ q t × (p ≡ q → ⊥) × (v ≡ minus p q))
difference_iff t v = (
  λ m. let d : DifferenceIn t v = mem_differences t v m in (d.left, d.right, d.left_in, d.right_in, d.different, d.is),
  λ (p, q, m, k, other, is). rw is (differences_mem t p q m k other),
)

-- a moved pattern: how many pixels, and the one at a position
pub moved_size : (t : Pattern) (o : Pixel) → length (moved t o) ≡ t.used
unfolding moved
moved_size t o = length-map (pixels t) (plus o) ∙ length_pixels t

moved_pixel :
    (t : Pattern) (o : Pixel) (e : ℕ) → e < t.used
    → get_or (moved t o) e origin ≡ at (o.column +ℤ (pixel_at t e).column) (o.row +ℤ (pixel_at t e).row)
unfolding moved plus at
moved_pixel t o e h =
    get_d_map (plus o) (pixels t) e origin origin (omega (arith, length_pixels t))
    ∙ ap (plus o) (get_d_pixels t e origin h)

-- The lists that the promises speak of are the record's patterns and pixels, and their differences.
pub patterns_are : PatternsAre
patterns_are =
    record {
      count = length_patterns;
      each = λ book n h. get_d_patterns book n [] h;
      size = length_pixels;
      pixel = λ t e h. get_d_pixels t e origin h;
      difference = difference_iff;
      suits_each = suits_all_iff;
      moved_size = moved_size;
      moved_pixel = moved_pixel;
    }

-- there is only one number that is n/d rounded up
rounded_up_is : (n d C : ℕ) → 0 < d → RoundedUp n d C → ceil_div n d ≡ C
rounded_up_is n d C h up =
    let least : ceil_div n d ≤ C = (ceiling_division n d h C).1 ((up C).0 (omega arith)) in
    let most : C ≤ ceil_div n d = (up (ceil_div n d)).1 ((ceiling_division n d h (ceil_div n d)).0 (omega arith)) in
    omega arith

-- the depth and the address, each by its divisions
depth_formula : (p : Plan) (W H C R : ℕ) → IsPlan p → RoundedUp W p.a C → RoundedUp H p.d R → depth_of p W H ≡ C * R
unfolding depth_of across
depth_formula p W H C R plan wide high =
    ap₂ (λ (m n : ℕ). m * n) (rounded_up_is W p.a C plan.a_least wide) (rounded_up_is H p.d R plan.d_least high)

address_formula :
    (p : Plan) (W H C : ℕ) → IsPlan p → RoundedUp W p.a C → (q r u s : ℕ) → r < p.d → s < p.a
    → address_of p W H (at (pos (u * p.a + s)) (pos (q * p.d + r))) ≡ q * C + u
unfolding address_of quotient across at
address_formula p W H C plan wide q r u s row column =
    rw (rounded_up_is W p.a C plan.a_least wide, upper_digit q p.d r row, upper_digit u p.a s column) refl

-- Banks, depths, addresses and wrapped pixels are what document 01's formulas give.
pub formulas_are : FormulasAre
unfolding wrapped ring_moved exchanged record_pixel at
formulas_are =
    record {
      bank = bank_by_divisions;
      depth = depth_formula;
      address = address_formula;
      wrapped_column = λ W H h v q c e. ap pos (sym ((floor_division v.column W h q c).0 e).1);
      wrapped_row = λ W H h v q c e. ap pos (sym ((floor_division v.row H h q c).0 e).1);
      ring_moved_lem = λ W H t o. refl;
      exchanged_sum = λ sum old new q n h. sym ((floor_division _ (2 ^ 64) (omega arith) q n).0 h).1;
      record_pixel_lem = λ r. refl;
    }
