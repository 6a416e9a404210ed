-- What the tests of a plan, of a picture's sides and of a pixel say in plain numbers, with the bounds that the code rests on.
-- Assumes nothing.
use Prim.Native.Nat.{ℕ, ◌*◌, ◌^◌, ◌≤◌, ◌<◌}
use native.Mathlib.Omega.{arith}
use native.Mathlib.Nat.{le-mul_of_pos_right, mul_comm}
use mathlib.Core.Path.{◌≡◌, refl, sym, ap, ap₂}
use mathlib.Core.Logic.Iff
use mathlib.Core.Logic.{◌↔◌}
use mathlib.Core.Bool.{true, false, ◌&&◌, false≢true}
use lib.Dec.{ltb}
use lib.IntN.{ℤ, pos, negsuc, nat_abs, pos-ne-negsuc}
use lib.Signed.{mag, ◌≤ℤ◌, ◌<ℤ◌}
use mir.Syntax.{Width, w16}
use mir.Val.{SFits, to_z, of_z, hbits}
use mir.Facts.{to_z-of_z}
use Rattle.std.proofs.lemmas.Int.{ints}
use Rattle.integers.proofs.Comparisons.{leb_iff, ltb_iff, and_iff}
use Rattle.integers.proofs.Raised.{number_handed}
use Rattle.scope.specs.Plans.{Pixel, at, is_plan, banks}
use Rattle.scope.specs.Banks.{within, inside}
use Rattle.scope.specs.Numbers.{is_side}
use Rattle.scope.specs.promises.Meaning.{IsPlan, IsSide, Inside, InsideMeans}
use Rattle.scope.specs.declared.Plan.{Plan}
use Rattle.scope.proofs.Ceilings.{Rounds}

-- 11
pub is_plan_iff : (p : Plan) → (is_plan p ≡ true) ↔ IsPlan p
unfolding is_plan banks
is_plan_iff p =
    Iff.trans
    (and_iff _ _ (and_iff _ _ (and_iff _ _ (leb_iff 1 p.a) (leb_iff 1 p.d)) (ltb_iff p.b p.a))
    (leb_iff (p.a * p.d) 1024)) (
      λ h. record { a_least = h.0.0.0; d_least = h.0.0.1; b_below = h.0.1; most = h.1 },
      λ h. (((h.a_least, h.d_least), h.b_below), h.most),
    )

pub plan_means : (p : Plan) → is_plan p ≡ true → IsPlan p
plan_means p = (is_plan_iff p).0

-- neither factor of the bank count is above it
pub a_at_most : (p : Plan) → IsPlan p → p.a ≤ 1024
a_at_most p h = omega (arith, le-mul_of_pos_right {m = p.d} p.a h.d_least)

pub d_at_most : (p : Plan) → IsPlan p → p.d ≤ 1024
d_at_most p h = omega (arith, le-mul_of_pos_right {m = p.a} p.d h.a_least, mul_comm p.a p.d)

-- 12: both sides are 1 to 4096
is_side_iff : (n : ℕ) → (is_side n ≡ true) ↔ IsSide n
unfolding is_side
is_side_iff n = and_iff _ _ (leb_iff 1 n) (leb_iff n 4096)

pub are_sides_iff : (W H : ℕ) → (is_side W && is_side H ≡ true) ↔ (IsSide W × IsSide H)
are_sides_iff W H = and_iff _ _ (is_side_iff W) (is_side_iff H)

pub sides_mean : (W H : ℕ) → is_side W && is_side H ≡ true → IsSide W × IsSide H
sides_mean W H = (are_sides_iff W H).0

-- either side can be divided by a and by d
pub sides_round : (p : Plan) (W H : ℕ) → is_plan p ≡ true → is_side W && is_side H ≡ true → Rounds W p.a × Rounds H p.d
sides_round p W H plan sides =
    let m = plan_means p plan in
    let (width, height) = sides_mean W H sides in
    ((width.1, m.a_least, a_at_most p m), (height.1, m.d_least, d_at_most p m))

-- 14: both coordinates of a pixel inside are naturals below the sides
within_iff : (z : ℤ) (n : ℕ) → (within z n ≡ true) ↔ ((i : ℕ) × (z ≡ pos i) × (i < n))
unfolding within
within_iff (pos i) n = (λ e. (i, refl, (ltb_iff i n).0 e), λ t. (ltb_iff i n).1 (rw (ap nat_abs t.1) t.2))
within_iff (negsuc i) n = (λ e. absurd (false≢true e), λ t. absurd (pos-ne-negsuc t.0 i (sym t.1)))

-- and so the code tests a coordinate: by two comparisons, the second of the number without its sign
pub below_zero : (z : ℤ) (n : ℕ) → z <ℤ pos 0 → within z n ≡ false
unfolding within
below_zero (pos i) n h = absurd (omega (arith, ints))
below_zero (negsuc i) n h = refl

pub fits_within : (z : ℤ) (n : ℕ) → pos 0 ≤ℤ z → within z n ≡ ltb (nat_abs z) n
unfolding within
fits_within (pos i) n h = refl
fits_within (negsuc i) n h = absurd (omega (arith, ints))

pub inside_iff : InsideMeans
unfolding inside
inside_iff W H v =
    Iff.trans (and_iff _ _ (within_iff v.column W) (within_iff v.row H)) (
      λ t. record { i = t.0.0; j = t.1.0; column = t.0.1; row = t.1.1; i_below = t.0.2; j_below = t.1.2 },
      λ t. ((t.i, t.column, t.i_below), (t.j, t.row, t.j_below)),
    )

pub inside_means : (W H : ℕ) (v : Pixel) → inside W H v ≡ true → Inside W H v
inside_means W H v = (inside_iff W H v).0

-- a pixel handed to a callee is the same pixel
pub pixel_handed : {i j : ℤ} → SFits w16 i → SFits w16 j → at (to_z w16 (of_z w16 i)) (to_z w16 (of_z w16 j)) ≡ at i j
pixel_handed f g = rw (to_z-of_z f, to_z-of_z g)

-- and one whose coordinates are elements of arrays, by their bounds
pub entry_handed :
    (w : Width) (i j : ℤ) → mag i < 2 ^ hbits w → mag j < 2 ^ hbits w → at (to_z w (of_z w i)) (to_z w (of_z w j)) ≡ at i j
entry_handed w i j f g = ap₂ at (number_handed w f) (number_handed w g)
