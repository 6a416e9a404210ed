-- The coordinates of a pixel inside a picture are naturals: what the code reads of them, and the bounds that it rests on.
-- Assumes nothing.
use Prim.Native.Nat.{ℕ, ◌+◌, ◌-◌, ◌*◌, ◌/◌, ◌%◌, ◌≤◌, ◌<◌}
use native.Mathlib.Omega.{arith}
use native.Mathlib.Nat.{div-le_self, div-add-mod', mod-lt, mul-le-mul}
use mathlib.Core.Path.{◌≡◌, refl, sym, ◌∙◌, ap, ap₂, subst}
use lib.Dec.{T}
use lib.IntN.{ℤ, pos, nat_abs, ◌-ℤ◌, ◌*ℤ◌}
use lib.Signed.{non_neg}
use mir.Syntax.{w16, w32}
use mir.Val.{Fits, SFits, to_z, of_z}
use mir.Facts.{to_z-of_z}
use Rattle.integers.specs.Division.{floor_mod}
use Rattle.scope.specs.Plans.{at}
use Rattle.scope.specs.Banks.{bank_of, across, address_of}
use Rattle.scope.specs.promises.Meaning.{Inside}
use Rattle.scope.specs.declared.Plan.{Plan}
use Rattle.scope.specs.declared.formulas.Spot.{Spot}
use Rattle.integers.proofs.Sizes.{small_fits}
use Rattle.scope.proofs.Ceilings.{Rounds}
use Rattle.scope.proofs.PlanFacts.{sides_round, inside_means}

-- a coordinate z that is n, as the code reads it
module _ {n : ℕ} {z : ℤ} (f : SFits w16 z) (e : z ≡ pos n) where
  abbrev read : ℤ
  read = to_z w16 (of_z w16 z)

  natural_fits : n < 4096 → T (non_neg read) × Fits w32 (nat_abs read)
  natural_fits h =
      subst (λ (y : ℤ). T (non_neg y) × Fits w32 (nat_abs y)) (sym (to_z-of_z f ∙ e)) (tt, record { fits = omega arith })

  natural_is : nat_abs read ≡ n
  natural_is = ap nat_abs (to_z-of_z f ∙ e)

-- no quotient of it is above it
pub quotient_below : (m k : ℕ) {q : ℕ} → q ≡ m / k → m < 4096 → q < 4096
quotient_below m k e h = rw e (omega (arith, div-le_self m k))

-- a bank by its digits, below 1024 each
pub digits_at_most : (r n c : ℕ) → r ≤ 1023 → n ≤ 1024 → c ≤ 1023 → r * n + c ≤ 1048576
digits_at_most r n c h k l = omega (arith, mul-le-mul {n₁ = r} {m₁ = n} {n₂ = 1023} {m₂ = 1024} h k)

-- bank and address of naturals
natural_address : (p : Plan) (W H x y : ℕ) → y / p.d * across p W + x / p.a ≡ address_of p W H (at (pos x) (pos y))
unfolding address_of at
natural_address p W H x y = refl

natural_bank :
    (p : Plan) (x y : ℕ) → y % p.d * p.a + floor_mod (pos x -ℤ pos p.b *ℤ pos (y / p.d)) p.a ≡ bank_of p (at (pos x) (pos y))
unfolding bank_of at
natural_bank p x y = refl

-- a spot, by the coordinates that its type can hold
module _ (s : Spot) (f : SFits w16 s.i) (g : SFits w16 s.j) where
  abbrev p : Plan
  p = s.layout.tested.plan

  abbrev W : ℕ
  W = s.layout.w

  abbrev H : ℕ
  H = s.layout.h

  abbrev i : ℤ
  i = s.i

  abbrev j : ℤ
  j = s.j

  abbrev pub column : ℕ
  column = nat_abs (to_z w16 (of_z w16 i))

  abbrev pub row : ℕ
  row = nat_abs (to_z w16 (of_z w16 j))

  pixel : Inside W H (at i j)
  pixel = inside_means W H (at i j) s.there

  column_natural : i ≡ pos pixel.i
  unfolding at
  column_natural = pixel.column

  row_natural : j ≡ pos pixel.j
  unfolding at
  row_natural = pixel.row

  -- which answers for either side and either divisor, so that an exchange is refused where the answer is returned
  pub both_round : Rounds W p.a × Rounds H p.d
  both_round = sides_round p W H s.layout.tested.is s.layout.sides

  column_below : pixel.i < 4096
  column_below = omega (arith, pixel.i_below, both_round)

  row_below : pixel.j < 4096
  row_below = omega (arith, pixel.j_below, both_round)

  -- the casts of the coordinates to numbers without a sign, and what they give
  pub column_fits : T (non_neg (to_z w16 (of_z w16 i))) × Fits w32 column
  column_fits = natural_fits f column_natural column_below

  pub row_fits : T (non_neg (to_z w16 (of_z w16 j))) × Fits w32 row
  row_fits = natural_fits g row_natural row_below

  pub column_small : column < 4096
  column_small = rw (natural_is f column_natural) column_below

  pub row_small : row < 4096
  row_small = rw (natural_is g row_natural) row_below

  -- the pixel is the one of these naturals
  pub pixel_is : at (pos column) (pos row) ≡ at i j
  pixel_is = rw (natural_is f column_natural, natural_is g row_natural) (ap₂ at (sym column_natural) (sym row_natural))

  -- an address that is made of them is the pixel's
  pub address_of_naturals :
      {q x : ℕ} → q ≡ row / p.d → x ≡ q * across p W + column / p.a → x ≡ address_of p W H (at i j)
  address_of_naturals strip is =
      is ∙ ap (λ (q : ℕ). q * across p W + column / p.a) strip ∙ natural_address p W H column row ∙ ap (address_of p W H) pixel_is

  -- and of the row's quotient by d, its remainder too
  module _ {q : ℕ} (strip : q ≡ row / p.d) where
    pub strip_small : q < 4096
    strip_small = quotient_below row p.d strip row_small

    row_parts : row ≡ q * p.d + row % p.d
    row_parts = rw strip (sym (div-add-mod' row p.d))

    pub strips_before : q * p.d ≤ row
    strips_before = omega (arith, row_parts)

    pub row_in_strip : row - q * p.d < p.d
    row_in_strip = omega (arith, row_parts, mod-lt row {m = p.d} both_round.1.1)

    -- a bank that is made of them is the pixel's
    pub bank_of_naturals :
        {k : ℕ}
        → k ≡ (row - q * p.d) * p.a + floor_mod (to_z w16 (of_z w16 i) -ℤ pos p.b *ℤ to_z w32 (of_z w32 (pos q))) p.a
        → k ≡ bank_of p (at i j)
    bank_of_naturals is =
        let remainder_is : row - q * p.d ≡ row % p.d = omega (arith, row_parts) in
        let column_read : to_z w16 (of_z w16 i) ≡ pos column = rw (to_z-of_z f, column_natural) refl in
        let strip_read : to_z w32 (of_z w32 (pos q)) ≡ pos (row / p.d) =
        to_z-of_z (small_fits w32 4096 (pos q) (omega (arith, strip_small)) (omega arith)) ∙ ap pos strip in
        rw (remainder_is, column_read, strip_read) at is ∙ natural_bank p column row ∙ ap (bank_of p) pixel_is
