-- No two words of a fetch have both bank and cycle in common, and each cycle is below r: under a plan that suits for r, wherever the
-- pattern is moved.
-- Assumes nothing.
use Prim.Native.Nat.{ℕ, ◌<◌}
use native.Mathlib.Omega.{arith}
use mathlib.Core.Path.{◌≡◌, sym, ◌∙◌, ap}
use mathlib.Core.Bool.{true}
use mathlib.Core.List.{List, map}
use lib.ListN
use lib.ListN.{length, get_or, length-map}
use Rattle.scope.specs.Plans.{Pixel, plus, pixels}
use Rattle.scope.specs.Finding.{pixel_in}
use Rattle.scope.specs.Banks.{bank_of}
use Rattle.scope.specs.Cycles.{suits_for, cycles}
use Rattle.scope.specs.Calls.{moved}
use Rattle.scope.specs.promises.Meaning.{IsPlan}
use Rattle.scope.specs.promises.Demand.{InCycles}
use Rattle.scope.specs.declared.Plan.{Plan}
use Rattle.scope.specs.declared.Pattern.{Pattern}
use Rattle.checks.proofs.Lists.{get_d_map}
use Rattle.checks.proofs.Patterns.{origin}
use Rattle.lattice.proofs.Cycles.{cycle_below, cycles_part}

-- the banks and cycles of a pattern's pixels, moved by o
moved_in_cycles :
    (r : ℕ) (p : Plan) (t : List Pixel) (o : Pixel) → IsPlan p → suits_for r p t ≡ true
    → InCycles r (map (bank_of p) (map (plus o) t)) (cycles p t)
moved_in_cycles r p t o plan suiting =
    record {
      as_many = omega (arith, cycles_part.as_many p t, length-map (map (plus o) t) (bank_of p), length-map t (plus o));
      apart = λ e l h k same alike.
          let l_within : l < length t = omega (arith, k, length-map (map (plus o) t) (bank_of p), length-map t (plus o)) in
          let e_within : e < length t = omega (arith, h, l_within) in
          cycles_part.apart p plan t o e l h (sym (bank_at_lem e e_within) ∙ same ∙ bank_at_lem l l_within)
          (sym (cycles_part.in_order p t e e_within) ∙ alike ∙ cycles_part.in_order p t l l_within);
      below = λ e h.
          let within : e < length t = omega (arith, h, cycles_part.as_many p t) in
          omega (arith, cycles_part.in_order p t e within, cycle_below p plan t r suiting e within);
    }
  where
    bank_at_lem : (i : ℕ) → i < length t → get_or (map (bank_of p) (map (plus o) t)) i 0 ≡ bank_of p (plus o (pixel_in t i))
    bank_at_lem i below =
        get_d_map (bank_of p) (map (plus o) t) i (plus o origin) 0 (omega (arith, length-map t (plus o)))
        ∙ ap (bank_of p) (ListN.get_or-map (plus o) t i origin)

-- those of a fetch
pub fetched_in_cycles :
    (r : ℕ) (p : Plan) (t : Pattern) (o : Pixel) → IsPlan p → suits_for r p (pixels t) ≡ true
    → InCycles r (map (bank_of p) (moved t o)) (cycles p (pixels t))
unfolding moved
fetched_in_cycles r p t o plan = moved_in_cycles r p (pixels t) o plan
