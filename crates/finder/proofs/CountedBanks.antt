-- Counting the pixels to a bank: what is counted before a pixel is its cycle, and a plan suits for r exactly if no cycle reaches r.
-- Assumes nothing.
use Prim.Native.Nat.{ℕ, suc, ◌+◌, ◌≤◌, ◌<◌}
use native.Mathlib.Omega.{arith}
use native.Mathlib.Decide.{ℕ_discrete}
use mathlib.Core.Path.{◌≡◌, sym, ◌∙◌, ap}
use mathlib.Core.Bool.{Bool, true, false, not}
use mathlib.Core.List.{List}
use lib.Dec.{eqb}
use lib.ListN.{length, get_or, set, replicate, length-set, length-replicate, get_or-replicate}
use Rattle.integers.proofs.Comparisons.{eqb_iff, eqb_false_iff}
use Rattle.scope.specs.Search.{picked}
use Rattle.scope.specs.Plans.{Pixel}
use Rattle.scope.specs.Finding.{pixel_in}
use Rattle.scope.specs.Banks.{bank_of}
use Rattle.scope.specs.Cycles.{suits_for, cycle_of}
use Rattle.scope.specs.promises.Meaning.{IsPlan}
use Rattle.scope.specs.declared.Plan.{Plan}
use Rattle.checks.proofs.Searches.{not_true_is_false}
use Rattle.checks.proofs.Lists.{get_or-set_same, get_or-set_other}
use Rattle.checks.proofs.Picked.{picked_one_more, picked_no_more}
use Rattle.lattice.proofs.Cycles.{cycle_below, cycles_below_suits}

module _ (p : Plan) (t : List Pixel) where
  -- the pixel at l is in bank β
  abbrev in_bank : ℕ → ℕ → Bool
  in_bank β l = eqb (bank_of p (pixel_in t l)) β

  -- The first e pixels are counted, and the cycle of each is below r.
  pub record CountedTo (r : ℕ) (counts : List ℕ) (e : ℕ) : Type 0 where
    pub size : length counts ≡ 1024
    pub count : (β : ℕ) → β < 1024 → get_or counts β 0 ≡ length (picked 0 e (in_bank β))
    pub below : (l : ℕ) → l < e → cycle_of p t l < r

  pub none_counted : (r : ℕ) → CountedTo r (replicate 1024 0) 0
  unfolding picked
  none_counted r =
      record {
        size = length-replicate {A = ℕ} 1024 0;
        count = λ β h. get_or-replicate 1024 β 0 0 h;
        below = λ l h. absurd (omega arith);
      }

  module _ {r : ℕ} {counts : List ℕ} {e k : ℕ} (s : CountedTo r counts e) (is : k ≡ bank_of p (pixel_in t e)) (small : k < 1024) where
    -- what is counted in the bank of the next pixel is its cycle
    pub cycle_counted : get_or counts k 0 ≡ cycle_of p t e
    unfolding cycle_of
    cycle_counted = s.count k small ∙ ap (λ (β : ℕ). length (picked 0 e (in_bank β))) is

    pub one_more_counted : get_or counts k 0 < r → CountedTo r (set counts k (get_or counts k 0 + 1)) (e + 1)
    one_more_counted few =
        record {
          size = length-set counts k (get_or counts k 0 + 1) ∙ s.size;
          count = λ β h. counted β h (ℕ_discrete β k);
          below = λ l h. each l h (ℕ_discrete l e);
        }
      where
        next : e + 1 ≡ suc e
        next = omega arith

        counted : (β : ℕ) → β < 1024 → Dec (β ≡ k) → get_or (set counts k (get_or counts k 0 + 1)) β 0 ≡ length (picked 0 (e + 1) (in_bank β))
        counted β h (yes d) =
            let here : in_bank β e ≡ true = (eqb_iff _ _).1 (sym is ∙ sym d) in
            rw (next)
            (ap (λ (i : ℕ). get_or (set counts k (get_or counts k 0 + 1)) i 0) d
            ∙ get_or-set_same counts k (get_or counts k 0 + 1) 0 (omega (arith, s.size))
            ∙ omega (arith, s.count k small, ap (λ (i : ℕ). length (picked 0 e (in_bank i))) d, picked_one_more (in_bank β) e here))
        counted β h (no d) =
            let elsewhere : in_bank β e ≡ false = (eqb_false_iff _ _).1 (λ i. d (sym i ∙ sym is)) in
            rw (next) (get_or-set_other counts k β (get_or counts k 0 + 1) 0 d ∙ s.count β h ∙ sym (picked_no_more (in_bank β) e elsewhere))

        each : (l : ℕ) → l < e + 1 → Dec (l ≡ e) → cycle_of p t l < r
        each l h (yes d) = rw d (omega (arith, cycle_counted))
        each l h (no d) = s.below l (omega arith)

    -- A bank with r pixels before the next one is too full,
    pub counted_crowded : IsPlan p → e < length t → r ≤ get_or counts k 0 → true ≡ not (suits_for r p t)
    counted_crowded legal within full =
        sym (ap not (not_true_is_false _ (λ h. absurd (omega (arith, cycle_below p legal t r h e within, cycle_counted)))))

  -- and where all are counted the plan suits.
  pub all_counted : {r : ℕ} {counts : List ℕ} {e : ℕ} → IsPlan p → CountedTo r counts e → length t ≤ e → false ≡ not (suits_for r p t)
  all_counted {r} legal s all = sym (ap not (cycles_below_suits p legal t r (λ l h. s.below l (omega arith))))
