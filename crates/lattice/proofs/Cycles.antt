-- Bank and cycle of a pattern's pixels: of two in one bank the earlier has the smaller cycle, so no two have both in common, wherever
-- the pattern is moved; and a plan suits for r exactly if each cycle is below r.
-- Assumes nothing.
use Prim.Native.Nat.{ℕ, ◌≤◌, ◌<◌}
use native.Mathlib.Nat.{zero-add}
use native.Mathlib.Omega.{arith}
use mathlib.Core.Path.{◌≡◌, refl, ◌∙◌, ap, subst}
use mathlib.Core.Logic.{◌↔◌, ◌⊎◌, inl, inr}
use mathlib.Core.Bool.{Bool, true}
use mathlib.Core.List.{List}
use lib.Dec.{eqb}
use lib.ListN.{length}
use Rattle.integers.proofs.Comparisons.{eqb_iff, same_truth}
use Rattle.scope.specs.Search.{picked}
use Rattle.scope.specs.Plans.{Pixel, plus, minus, InLattice}
use Rattle.scope.specs.Finding.{pixel_in, together}
use Rattle.scope.specs.Banks.{bank_of}
use Rattle.scope.specs.Cycles.{class_of, suits_for, cycle_of, cycles}
use Rattle.scope.specs.promises.Meaning.{IsPlan}
use Rattle.scope.specs.promises.CyclePromises.{CyclesPart}
use Rattle.scope.specs.declared.Plan.{Plan}
use Rattle.checks.proofs.Searches.{length_gather, get_d_gather}
use Rattle.checks.proofs.Picked.{LastPicked, picked_more, last_picked, picked_same}
use Rattle.lattice.proofs.SameBank.{same_bank_means_lattice, lattice_means_same_bank}
use Rattle.lattice.proofs.Classes.{suits_for_iff, together_iff, moved_difference}

module _ (p : Plan) (t : List Pixel) where
  -- position l has a pixel in the bank of that at e
  abbrev in_bank : ℕ → ℕ → Bool
  in_bank e l = eqb (bank_of p (pixel_in t l)) (bank_of p (pixel_in t e))

  pub earlier_cycle_smaller : (e l : ℕ) → e < l → bank_of p (pixel_in t e) ≡ bank_of p (pixel_in t l) → cycle_of p t e < cycle_of p t l
  unfolding cycle_of
  earlier_cycle_smaller e l h same = rw same (picked_more (in_bank l) e l h ((eqb_iff _ _).1 same))

module _ (p : Plan) (legal : IsPlan p) where
  -- moving two pixels alike keeps it whether their banks are the same
  pub moved_same_bank : (o v w : Pixel) → bank_of p (plus o v) ≡ bank_of p (plus o w) → bank_of p v ≡ bank_of p w
  moved_same_bank o v w same =
      lattice_means_same_bank p legal v w
      (subst (InLattice p) (moved_difference o v w) (same_bank_means_lattice p legal (plus o v) (plus o w) same))

module _ (p : Plan) (legal : IsPlan p) (t : List Pixel) where
  bank_and_cycle_apart :
      (o : Pixel) (e l : ℕ) → e < l → bank_of p (plus o (pixel_in t e)) ≡ bank_of p (plus o (pixel_in t l)) → cycle_of p t e ≡ cycle_of p t l → ⊥
  bank_and_cycle_apart o e l h same again =
      omega (arith, earlier_cycle_smaller p t e l h (moved_same_bank p legal o (pixel_in t e) (pixel_in t l) same), again)

  -- two pixels are in one class exactly if they have one bank
  pub together_by_bank : (e l : ℕ) → together p t e l ≡ in_bank p t e l
  together_by_bank e l =
      same_truth (together p t e l) (in_bank p t e l)
      (λ h. (eqb_iff _ _).1 (lattice_means_same_bank p legal (pixel_in t l) (pixel_in t e) (joined.0 h)))
      (λ h. joined.1 (same_bank_means_lattice p legal (pixel_in t l) (pixel_in t e) ((eqb_iff _ _).0 h)))
    where
      joined : (together p t e l ≡ true) ↔ InLattice p (minus (pixel_in t l) (pixel_in t e))
      joined = together_iff p legal.a_least legal.d_least t e l

  -- so a class is all that the pattern has in a bank
  class_by_bank : (e : ℕ) → class_of p t e ≡ picked 0 (length t) (in_bank p t e)
  unfolding class_of
  class_by_bank e = picked_same (together p t e) (in_bank p t e) (length t) 0 (λ l _ _. together_by_bank e l)

  -- Under a plan that suits for r each cycle is below r,
  pub cycle_below : (r : ℕ) → suits_for r p t ≡ true → (e : ℕ) → e < length t → cycle_of p t e < r
  unfolding cycle_of
  cycle_below r h e below =
      omega (
        arith,
        picked_more (in_bank p t e) e (length t) below ((eqb_iff (bank_of p (pixel_in t e)) (bank_of p (pixel_in t e))).1 refl),
        ap length (class_by_bank e),
        (suits_for_iff r p t).0 h e below,
      )

  -- and where each cycle is below r it suits for r: the last pixel of a class has the others before it.
  pub cycles_below_suits : (r : ℕ) → ((e : ℕ) → e < length t → cycle_of p t e < r) → suits_for r p t ≡ true
  unfolding cycle_of
  cycles_below_suits r h = (suits_for_iff r p t).1 (λ e _. by_last e (last_picked (in_bank p t e) (length t)))
    where
      by_last : (e : ℕ) → (length (picked 0 (length t) (in_bank p t e)) ≡ 0) ⊎ LastPicked (in_bank p t e) (length t) → length (class_of p t e) ≤ r
      by_last e (inl no_one) = omega (arith, ap length (class_by_bank e))
      by_last e (inr (l, below, in-bank, size)) =
          let same : bank_of p (pixel_in t l) ≡ bank_of p (pixel_in t e) = (eqb_iff _ _).0 in-bank in
          omega (arith, ap length (class_by_bank e), size, rw same at (h l below))

pub cycles_part : CyclesPart
unfolding cycles
cycles_part =
    record {
      as_many = λ p t. length_gather 0 (length t) (cycle_of p t);
      in_order = λ p t e below. get_d_gather 0 (length t) (cycle_of p t) e 0 below ∙ ap (cycle_of p t) (zero-add e);
      ascend = earlier_cycle_smaller;
      apart = bank_and_cycle_apart;
      below = λ r p legal t. (cycle_below p legal t r, cycles_below_suits p legal t r);
    }
