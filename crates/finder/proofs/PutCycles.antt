-- The cycles of a pattern, put at the start of an output one after the other: the cycle of a pixel is what was counted in its bank
-- before it.
-- Assumes nothing.
use Prim.Native.Nat.{ℕ, suc, ◌+◌, ◌≤◌, ◌<◌}
use native.Mathlib.Nat.{zero-add}
use native.Mathlib.Omega.{arith}
use mathlib.Core.Path.{◌≡◌, refl, sym, ◌∙◌, ap}
use mathlib.Core.List.{List, [], ◌∷◌, ◌++◌}
use lib.Dec.{eqb}
use lib.ListN.{length, get_or, set, replicate}
use Rattle.scope.specs.Search.{gather}
use Rattle.scope.specs.Plans.{pixels}
use Rattle.scope.specs.Finding.{pixel_in}
use Rattle.scope.specs.Banks.{bank_of, over_start}
use Rattle.scope.specs.Cycles.{cycle_of, cycles}
use Rattle.scope.specs.declared.Pattern.{Pattern}
use Rattle.scope.specs.declared.Plan.{Plan}
use Rattle.checks.proofs.Outputs.{Put, one_more_put}
use Rattle.checks.proofs.Patterns.{origin, length_pixels, get_d_pixels}
use Rattle.checks.proofs.Picked.{picked_at_most}
use Rattle.checks.proofs.Searches.{length_gather, gather_one_more}
use Rattle.finder.proofs.CountedBanks.{CountedTo, none_counted, cycle_counted, one_more_counted}
use Rattle.finder.proofs.Meetings.{bank_at}

-- The cycles of the first e pixels are put, and these pixels are counted.
pub record CyclesPut (p : Plan) (t : Pattern) (before out taken : List ℕ) (e : ℕ) : Type 0 where
  pub put : Put (gather 0 e (cycle_of p (pixels t))) before out
  pub counted : CountedTo p (pixels t) 64 taken e

pub no_cycle_put : (p : Plan) (t : Pattern) (out : List ℕ) → CyclesPut p t out out (replicate 1024 0) 0
unfolding gather over_start
no_cycle_put p t out = record { put = record { same_length = refl; is = refl }; counted = none_counted p (pixels t) 64 }

-- no cycle is above its position
cycle_at_most : (p : Plan) (t : Pattern) (e : ℕ) → cycle_of p (pixels t) e ≤ e
unfolding cycle_of
cycle_at_most p t e = picked_at_most (λ l. eqb (bank_of p (pixel_in (pixels t) l)) (bank_of p (pixel_in (pixels t) e))) e 0

-- Pixel e is the next; its bank is k.
module _ {p : Plan} {t : Pattern} {before out taken : List ℕ} {e k : ℕ} (s : CyclesPut p t before out taken e)
    (e_in : e < t.used) (most : t.used ≤ 64) (is : k ≡ bank_at p t e) (small : k < 1024)
  where
    bank_is : k ≡ bank_of p (pixel_in (pixels t) e)
    bank_is = is ∙ ap (bank_of p) (sym (get_d_pixels t e origin e_in))

    cycle_is : get_or taken k 0 ≡ cycle_of p (pixels t) e
    cycle_is = cycle_counted p (pixels t) s.counted bank_is small

    pub cycle_below : get_or taken k 0 < 64
    cycle_below = omega (arith, cycle_is, cycle_at_most p t e)

    pub one_cycle_put :
        t.used ≤ length before → CyclesPut p t before (set out e (get_or taken k 0)) (set taken k (get_or taken k 0 + 1)) (e + 1)
    one_cycle_put room =
        let next : e + 1 ≡ suc e = omega arith in
        let more : gather 0 (e + 1) (cycle_of p (pixels t)) ≡ gather 0 e (cycle_of p (pixels t)) ++ (get_or taken k 0 ∷ []) =
        ap (λ (n : ℕ). gather 0 n (cycle_of p (pixels t))) next
        ∙ gather_one_more 0 e (cycle_of p (pixels t))
        ∙ ap (λ (c : ℕ). gather 0 e (cycle_of p (pixels t)) ++ (c ∷ [])) (ap (cycle_of p (pixels t)) (zero-add e) ∙ sym cycle_is) in
        record {
          put = rw more (one_more_put s.put e (get_or taken k 0) (sym (length_gather 0 e (cycle_of p (pixels t)))) (omega arith));
          counted = one_more_counted p (pixels t) s.counted bank_is small cycle_below;
        }

-- Behind the last pixel all are put.
pub all_cycles_put :
    {p : Plan} {t : Pattern} {before out taken : List ℕ} {e : ℕ} → CyclesPut p t before out taken e → e ≤ t.used → t.used ≤ e
    → out ≡ over_start (cycles p (pixels t)) before
unfolding cycles
all_cycles_put {p} {t} {before} {out} {taken} {e} s within past =
    let end : e ≡ length (pixels t) = omega (arith, length_pixels t) in
    s.put.is ∙ ap (λ (n : ℕ). over_start (gather 0 n (cycle_of p (pixels t))) before) end
