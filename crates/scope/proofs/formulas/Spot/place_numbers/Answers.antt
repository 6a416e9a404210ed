-- `scope::formulas::Spot::place_numbers` meets its contract: the row's quotient by d serves bank and address.
-- Assumes nothing.
use Prim.Native.Nat.{ℕ, ◌+◌, ◌*◌, ◌-◌, ◌/◌, ◌≤◌, ◌<◌}
use native.Mathlib.Omega.{arith}
use native.Mathlib.Nat.{mul-le-mul}
use mathlib.Core.Path.{◌≡◌, refl}
use lib.IntN.{ℤ, pos}
use mir.Syntax.{w16, w32}
use mir.Val.{SFits}
use mir.Facts.{to_z-of_z}
use Rattle.std.proofs.Common.{rules}
use Rattle.integers.specs.Division.{floor_mod, ceil_div}
use Rattle.integers.proofs.Divisions.{remainder_below}
use Rattle.integers.proofs.Sizes.{small_fits}
use Rattle.scope.specs.Banks.{across, depth_of, word_of}
use Rattle.scope.specs.declared.Plan.{Plan}
use Rattle.scope.specs.declared.formulas.Spot.{Spot}
use Rattle.scope.proofs.Ceilings.{Rounds, rounded_at_most, product_at_most}
use Rattle.scope.proofs.Naturals.{quotient_below, column_fits, row_fits, column_small, row_small, both_round, address_of_naturals}
use Rattle.scope.proofs.Naturals.{row, strip_small, strips_before, row_in_strip, bank_of_naturals, digits_at_most}
use Rattle.scope.proofs.formulas.Spot.place_numbers.Goals as goal

-- how large the bank, the depth and the address are at most
bank-most : (r a : ℕ) (z : ℤ) {k : ℕ} → r ≤ 1023 → (1 ≤ a) × (a ≤ 1024) → k ≡ r * a + floor_mod z a → k ≤ 1048576
bank-most r a z h n e =
    rw e (digits_at_most r a (floor_mod z a) h n.1 (omega (arith, remainder_below z a n.0)))

depth-most : (p : Plan) (W H : ℕ) {n : ℕ} → Rounds W p.a × Rounds H p.d → n ≡ depth_of p W H → n ≤ 16777216
unfolding depth_of across
depth-most p W H (r, s) e =
    rw e (product_at_most _ _ (rounded_at_most W p.a r refl) (rounded_at_most H p.d s refl))

address-most :
    (p : Plan) (W q i : ℕ) {x : ℕ} → Rounds W p.a → q < 4096 → i < 4096 → x ≡ q * across p W + i / p.a → x ≤ 16781312
unfolding across
address-most p W q i r h l e =
    rw e
    (omega (
      arith,
      product_at_most q (ceil_div W p.a) (omega arith) (rounded_at_most W p.a r refl),
      quotient_below i p.a refl l,
    ))

pub divided-q-requires : goal.divided-q-requires
divided-q-requires c =
    let r = both_round c.args.self (search rules) (search rules) in
    (omega (arith, row_small c.args.self (search rules) (search rules)), omega (arith, r), omega (arith, r))

-- where the strip is known
module _ (s : Spot) (f : SFits w16 s.i) (g : SFits w16 s.j) {q : ℕ} (strip : q ≡ row s f g / s.layout.tested.plan.d) where
  below : q < 4096
  below = strip_small s f g strip

  strip-fits : SFits w32 (pos q)
  strip-fits = small_fits w32 4096 (pos q) (omega (arith, below)) (omega arith)

  -- and the bank
  module _ (z : ℤ) {k : ℕ} (bank : k ≡ (row s f g - q * s.layout.tested.plan.d) * s.layout.tested.plan.a + floor_mod z s.layout.tested.plan.a) where
    bank-small : k ≤ 1048576
    bank-small =
        let r = both_round s f g in bank-most _ _ _ (omega (arith, row_in_strip s f g strip, r)) (r.0.1, r.0.2) bank

    -- and the depth
    product-most : {n : ℕ} → n ≡ depth_of s.layout.tested.plan s.layout.w s.layout.h → k * n ≤ 1048576 * 16777216
    product-most {n} e =
        mul-le-mul {n₁ = k} {m₁ = n} {n₂ = 1048576} {m₂ = 16777216} bank-small (depth-most _ _ _ (both_round s f g) e)

pub overflow_cast-y : goal.overflow_cast-y
overflow_cast-y c = row_fits c.args.self (search rules) (search rules)

pub overflow_cast-q : goal.overflow_cast-q
overflow_cast-q c = strip-fits c.args.self (search rules) (search rules) c.divided-q.ensures

pub overflow_mul-q : goal.overflow_mul-q
overflow_mul-q c =
    let s = c.args.self in
    record {
      fits =
          omega (arith, strips_before s (search rules) (search rules) c.divided-q.ensures, row_small s (search rules) (search rules));
    }

pub overflow_sub-y : goal.overflow_sub-y
overflow_sub-y c = strips_before c.args.self (search rules) (search rules) c.divided-q.ensures

pub bank_in-bank-requires : goal.bank_in-bank-requires
bank_in-bank-requires c =
    let s = c.args.self in
    let f : SFits w16 s.i = search rules in
    let g : SFits w16 s.j = search rules in (
      rw (to_z-of_z (strip-fits s f g c.divided-q.ensures)) (omega (arith, below s f g c.divided-q.ensures)),
      row_in_strip s f g c.divided-q.ensures,
    )

pub overflow_mul-word : goal.overflow_mul-word
overflow_mul-word c =
    record {
      fits =
          omega (
            arith,
            product-most c.args.self (search rules) (search rules) c.divided-q.ensures _ c.bank_in-bank.ensures c.depth_number.ensures,
          );
    }

pub overflow_cast-i : goal.overflow_cast-i
overflow_cast-i c = column_fits c.args.self (search rules) (search rules)

pub address_in-requires : goal.address_in-requires
address_in-requires c =
    let s = c.args.self in
    (column_small s (search rules) (search rules), below s (search rules) (search rules) c.divided-q.ensures)

pub overflow_add-word : goal.overflow_add-word
overflow_add-word c =
    let s = c.args.self in
    let f : SFits w16 s.i = search rules in
    let g : SFits w16 s.j = search rules in
    let strip = c.divided-q.ensures in
    let address = address-most _ _ _ _ (both_round s f g).0 (below s f g strip) (column_small s f g) c.address_in.ensures in
    record { fits = omega (arith, product-most s f g strip _ c.bank_in-bank.ensures c.depth_number.ensures, address) }

pub returns : goal.returns
unfolding word_of
returns c =
    let s = c.args.self in
    let f : SFits w16 s.i = search rules in
    let g : SFits w16 s.j = search rules in
    let bank = bank_of_naturals s f g c.divided-q.ensures c.bank_in-bank.ensures in
    (bank, rw (bank, c.depth_number.ensures, address_of_naturals s f g c.divided-q.ensures c.address_in.ensures))
