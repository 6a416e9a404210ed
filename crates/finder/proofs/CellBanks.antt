-- The bank of a pixel by what its column and row add to it: lane, shift, and the first bank of the row.
-- Assumes nothing.
use Prim.Native.Nat.{ℕ, ◌+◌, ◌*◌, ◌/◌, ◌%◌, ◌≤◌, ◌<◌}
use native.Mathlib.Omega.{arith}
use native.Mathlib.Nat.{div-add-mod', mod-lt, mul_comm}
use mathlib.Core.Path.{◌≡◌, refl, sym, ap}
use mathlib.Core.Logic.{◌⊎◌, ⊎_elim}
use mathlib.Core.List.{[], ◌∷◌}
use lib.IntN.{pos, negsuc, ◌+ℤ◌, ◌-ℤ◌}
use Rattle.integers.proofs.Ring.{ring, linear, ◌·◌, reify}
use Rattle.integers.proofs.Digits.{digits_below}
use Rattle.scope.specs.Plans.{at, plan}
use Rattle.scope.specs.Banks.{bank_of}
use Rattle.scope.specs.promises.Meaning.{IsPlan}
use Rattle.lattice.proofs.SameBank.{bank_is}
use Rattle.finder.specs.Counting.{Shift}

-- lane and shift together are y, up to e times a
bank_around :
    (a b d : ℕ) → IsPlan (plan a b d) → (c j x y e : ℕ) → Shift a b d j x → y < a → c % a + x ≡ y + e * a
    → bank_of (plan a b d) (at (pos c) (pos j)) ≡ (j % d) * a + y
unfolding at plan
bank_around a b d p c j x y e s below sum =
    bank_is (plan a b d) p (at (pos c) (pos j)) (pos (j / d)) (pos (c / a) +ℤ pos e -ℤ pos s.times) (j % d) y
    (mod-lt j p.d_least)
    below
    (ap pos (sym (div-add-mod' j d)))
    (linear ((pos 1 · ap pos (sym (div-add-mod' c a))) ∷ (pos 1 · ap pos sum) ∷ (negsuc 0 · ap pos s.is) ∷ [])
    (ring
    (pos a ∷ pos b ∷ pos c ∷ pos x ∷ pos y ∷ pos e ∷ pos (j / d) ∷ pos (c / a) ∷ pos (c % a) ∷ pos s.times ∷ [])
    (search reify depth 40 fits 9000)
    refl))

-- both are below a, so e is 0 or 1
pub bank_by_tables :
    (a b d : ℕ) → IsPlan (plan a b d) → (c j x y : ℕ) → Shift a b d j x → y < a
    → (c % a + x ≡ y) ⊎ (c % a + x ≡ y + a)
    → bank_of (plan a b d) (at (pos c) (pos j)) ≡ (j % d) * a + y
bank_by_tables a b d p c j x y s below =
    ⊎_elim (λ e. bank_around a b d p c j x y 0 s below (omega arith)) (λ e. bank_around a b d p c j x y 1 s below (omega arith))

pub bank_in_range : (a d j y : ℕ) → 1 ≤ d → y < a → (j % d) * a + y < a * d
bank_in_range a d j y least below = rw (mul_comm a d) (digits_below d a (mod-lt j least) below)
