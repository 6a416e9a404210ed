-- `pictures::moving::is_within` meets its contract: the sum fits 32 bits, and is compared as it is.
-- Assumes nothing.
use Rattle.std.proofs.Common.{◌≡◌, ltb, ℤ, nat_abs, ◌+ℤ◌, sym, ap, ◌∙◌, arith, w8, w16, w32, SFits, to_z, of_z}
use Rattle.std.proofs.lemmas.Int.{ints}
use Rattle.scope.proofs.PlanFacts.{fits_within, below_zero}
use Rattle.pictures.proofs.moving.is_within.Goals as goal

-- z + c, as the machine has it
abbrev sum : ℤ → ℤ → ℤ
sum z c =
    to_z w32 (of_z w32 (to_z w32 (of_z w32 (to_z w16 (of_z w16 z))) +ℤ to_z w32 (of_z w32 (to_z w8 (of_z w8 c)))))

sum-is : (z c : ℤ) → SFits w16 z → SFits w8 c → sum z c ≡ z +ℤ c
sum-is z c f g = omega (arith, ints, f.sfits, g.sfits)

pub returns-then-x-ge0 : goal.returns-then-x-ge0
returns-then-x-ge0 c =
    let z = c.args.z in
    let k = c.args.c in
    let e = sum-is z k c.ranges.z c.ranges.c in
    ap (λ (y : ℤ). ltb (nat_abs y) c.args.side) e ∙ sym (fits_within (z +ℤ k) c.args.side (omega (arith, ints, e)))

pub returns-else-x-ge0 : goal.returns-else-x-ge0
returns-else-x-ge0 c =
    let z = c.args.z in
    let k = c.args.c in
    let e = sum-is z k c.ranges.z c.ranges.c in
    c.if-x-ge0.false ∙ sym (below_zero (z +ℤ k) c.args.side (omega (arith, ints, e)))
