-- The shifts of the rows, one row after the other: the d rows of a strip have the same, the next strip's is b less, modulo a.
-- Assumes nothing.
use Prim.Native.Nat.{ℕ, ◌+◌, ◌*◌, ◌/◌, ◌%◌, ◌≤◌, ◌<◌}
use native.Mathlib.Omega.{arith}
use native.Mathlib.Decide.{ℕ_discrete}
use native.Mathlib.Nat.{div-add-mod', mod-lt, zero-div, zero-mod}
use mathlib.Core.Path.{◌≡◌, refl, sym, ◌∙◌, ap, subst}
use mathlib.Core.Logic.{◌⊎◌, ⊎_elim}
use mathlib.Core.List.{List}
use lib.ListN.{length, get_or, set, replicate, length-set, get_or-replicate}
use lib.Seq.{get_or-set_same, get_or-set_other}
use Rattle.integers.proofs.Digits.{upper_digit, lower_digit}
use Rattle.finder.specs.Counting.{Shift, ShiftsOf}

-- The rows before j have their shifts; j is row k of its strip, and x is its shift.
pub record ShiftsPut (a b d j k x : ℕ) (shifts : List ℕ) : Type 0 where
  pub size : length shifts ≡ 32
  pub each : (i : ℕ) → i < j → Shift a b d i (get_or shifts i 0)
  pub row : k ≡ j % d
  pub shift : Shift a b d j x

-- the row after row j, which is row k of its strip
module _ (d j k : ℕ) (row : k ≡ j % d) where
  next_row : j + 1 ≡ j / d * d + (k + 1)
  next_row = omega (arith, div-add-mod' j d, row)

  -- it is in the same strip
  same_quotient : k + 1 < d → (j + 1) / d ≡ j / d
  same_quotient h = ap (λ (n : ℕ). n / d) next_row ∙ upper_digit (j / d) d (k + 1) h

  next_in_strip : k + 1 < d → k + 1 ≡ (j + 1) % d
  next_in_strip h = sym (ap (λ (n : ℕ). n % d) next_row ∙ lower_digit (j / d) d (k + 1) h)

  -- or the first of the next strip
  next_strip : k + 1 ≡ d → j + 1 ≡ (j / d + 1) * d + 0
  next_strip e = omega (arith, next_row)

  next_quotient : k + 1 ≡ d → (j + 1) / d ≡ j / d + 1
  next_quotient e = ap (λ (n : ℕ). n / d) (next_strip e) ∙ upper_digit (j / d + 1) d 0 (omega arith)

  no_remainder : k + 1 ≡ d → 0 ≡ (j + 1) % d
  no_remainder e = sym (ap (λ (n : ℕ). n % d) (next_strip e) ∙ lower_digit (j / d + 1) d 0 (omega arith))

module _ {a b d : ℕ} where
  same_shift : {i j x : ℕ} → j / d ≡ i / d → Shift a b d i x → Shift a b d j x
  same_shift {x} e s = record { below = s.below; times = s.times; is = ap (λ (q : ℕ). x + b * q) e ∙ s.is }

  -- in the next strip it is b less, and e times a more
  moved_shift : {i j x y : ℕ} (e : ℕ) → j / d ≡ i / d + 1 → y < a → y + b ≡ x + e * a → Shift a b d i x → Shift a b d j y
  moved_shift {i} {y} e next below sum s =
      record {
        below = below;
        times = s.times + e;
        is = ap (λ (q : ℕ). y + b * q) next ∙ omega (arith, s.is);
      }

  -- the shift of row j is written
  one_more :
      {j k x : ℕ} {shifts : List ℕ} → j < 32 → ShiftsPut a b d j k x shifts
      → (i : ℕ) → i < j + 1 → Shift a b d i (get_or (set shifts j x) i 0)
  one_more {j} {x} {shifts} h t i below = by_row (ℕ_discrete i j)
    where
      by_row : Dec (i ≡ j) → Shift a b d i (get_or (set shifts j x) i 0)
      by_row (yes e) =
          rw e (subst (Shift a b d j) (sym (get_or-set_same shifts j x 0 (omega (arith, t.size)))) t.shift)
      by_row (no u) = subst (Shift a b d i) (sym (get_or-set_other shifts j i x 0 u)) (t.each i (omega arith))

  pub none_put : {shifts : List ℕ} → b < a → length shifts ≡ 32 → ShiftsPut a b d 0 0 0 shifts
  none_put h e =
      record {
        size = e;
        each = λ i l. absurd (omega arith);
        row = sym (zero-mod d);
        shift = record { below = omega arith; times = 0; is = rw (zero-div d) (omega arith) };
      }

  pub put_in_strip :
      {j k x : ℕ} {shifts : List ℕ} → 1 ≤ d → j < 32 → (k + 1 ≡ d → ⊥) → ShiftsPut a b d j k x shifts
      → ShiftsPut a b d (j + 1) (k + 1) x (set shifts j x)
  put_in_strip {j} {k} {x} {shifts} least h more t =
      let below : k + 1 < d = omega (arith, mod-lt j least, t.row) in
      record {
        size = length-set shifts j x ∙ t.size;
        each = one_more h t;
        row = next_in_strip d j k t.row below;
        shift = same_shift (same_quotient d j k t.row below) t.shift;
      }

  pub put_last_of_strip :
      {j k x y : ℕ} {shifts : List ℕ} → j < 32 → k + 1 ≡ d → y < a → (y + b ≡ x) ⊎ (y + b ≡ x + a)
      → ShiftsPut a b d j k x shifts → ShiftsPut a b d (j + 1) 0 y (set shifts j x)
  put_last_of_strip {j} {k} {x} {y} {shifts} h last below sum t =
      let next = next_quotient d j k t.row last in
      record {
        size = length-set shifts j x ∙ t.size;
        each = one_more h t;
        row = no_remainder d j k t.row last;
        shift =
            ⊎_elim (λ e. moved_shift 0 next below (omega arith) t.shift) (λ e. moved_shift 1 next below (omega arith) t.shift)
            sum;
      }

  pub all_put : {j k x : ℕ} {shifts : List ℕ} → 32 ≤ j → ShiftsPut a b d j k x shifts → ShiftsOf a b d shifts
  all_put h t = record { size = t.size; each = λ i l. t.each i (omega arith) }

-- where b is 0 no row is moved
pub none_moved : (a d : ℕ) → 1 ≤ a → ShiftsOf a 0 d (replicate 32 0)
none_moved a d least =
    record {
      size = refl;
      each = λ j h. rw (get_or-replicate {A = ℕ} 32 j 0 0 h) (record { below = least; times = 0; is = omega arith });
    }
