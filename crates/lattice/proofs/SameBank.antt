-- The banks of a plan are the classes of its lattice: same bank exactly if the difference is in the lattice.
-- Assumes nothing.
use Prim.Native.Nat.{ℕ, ◌+◌, ◌*◌, ◌/◌, ◌%◌, ◌<◌}
use mathlib.Core.Path.{◌≡◌, refl, sym, ◌∙◌, ap}
use mathlib.Core.Logic.{◌↔◌}
use mathlib.Core.List.{[], ◌∷◌}
use native.Mathlib.Nat.{div-add-mod', mod-lt, div-lt_iff_lt-mul, mul_comm}
use lib.IntN.{ℤ, pos, negsuc, ◌+ℤ◌, ◌*ℤ◌, ◌-ℤ◌}
use Rattle.integers.specs.Division.{floor_div, floor_mod, IsDivision}
use Rattle.integers.proofs.Ring.{ring, linear, ◌·◌, reify}
use Rattle.integers.proofs.Divisions.{division, remainder_below, floor_division}
use Rattle.integers.proofs.Digits.{upper_digit, lower_digit, digits_determine, digits_below}
use Rattle.scope.specs.Plans.{Pixel, at, minus, banks, InLattice}
use Rattle.scope.specs.Banks.{quotient, remainder, bank_of}
use Rattle.scope.specs.promises.Meaning.{IsPlan}
use Rattle.scope.specs.promises.PicturePromises.{BanksAreClasses}
use Rattle.scope.specs.declared.Plan.{Plan}
use Rattle.lattice.proofs.Membership.{unslanted}

-- i - b × q = x × a + c: here are x, and c, the lower digit of the bank
abbrev pub lap : Plan → Pixel → ℤ
lap p v = floor_div (unslanted p v) p.a

abbrev pub lane : Plan → Pixel → ℕ
lane p v = floor_mod (unslanted p v) p.a

module _ (p : Plan) (plan : IsPlan p) where
  -- j = q × d + r and i = b × q + (x × a + c), with r below d and c below a
  row_division : (v : Pixel) → v.row ≡ quotient p v *ℤ pos p.d +ℤ pos (remainder p v)
  unfolding quotient remainder
  row_division v = division v.row p.d plan.d_least

  pub column_division : (v : Pixel) → v.column ≡ pos p.b *ℤ quotient p v +ℤ (lap p v *ℤ pos p.a +ℤ pos (lane p v))
  unfolding quotient
  column_division v =
      linear ((pos 1 · division (unslanted p v) p.a plan.a_least) ∷ [])
      (ring (v.column ∷ pos p.b ∷ quotient p v ∷ lap p v ∷ pos p.a ∷ pos (lane p v) ∷ [])
      (search reify depth 40 fits 9000)
      refl)

  remainder_below_d : (v : Pixel) → remainder p v < p.d
  unfolding remainder
  remainder_below_d v = remainder_below v.row p.d plan.d_least

  lane_below_a : (v : Pixel) → lane p v < p.a
  lane_below_a v = remainder_below (unslanted p v) p.a plan.a_least

  -- the bank is r × a + c
  bank_digits : (v : Pixel) → bank_of p v ≡ remainder p v * p.a + lane p v
  unfolding bank_of quotient
  bank_digits v = refl

  -- so r and c are its quotient and its remainder by a
  pub remainder_of_bank : (v : Pixel) → bank_of p v / p.a ≡ remainder p v
  remainder_of_bank v = rw (bank_digits v) (upper_digit (remainder p v) p.a (lane p v) (lane_below_a v))

  pub lane_of_bank : (v : Pixel) → bank_of p v % p.a ≡ lane p v
  lane_of_bank v = rw (bank_digits v) (lower_digit (remainder p v) p.a (lane p v) (lane_below_a v))

  -- it is so for any division j = q × d + r and i - b × q = x × a + c
  pub bank_by_divisions :
      (v : Pixel) (q x : ℤ) (r c : ℕ) → IsDivision v.row p.d q r → IsDivision (v.column -ℤ pos p.b *ℤ q) p.a x c
      → bank_of p v ≡ r * p.a + c
  unfolding bank_of quotient remainder
  bank_by_divisions v q x r c row column =
      let (q-is, r-is) = (floor_division v.row p.d plan.d_least q r).0 row in
      let (x-is, c-is) = (floor_division (v.column -ℤ pos p.b *ℤ q) p.a plan.a_least x c).0 column in
      rw (r-is, c-is, q-is) refl

  pub bank_is :
      (v : Pixel) (q x : ℤ) (r c : ℕ) → r < p.d → c < p.a → v.row ≡ q *ℤ pos p.d +ℤ pos r
      → v.column ≡ pos p.b *ℤ q +ℤ (x *ℤ pos p.a +ℤ pos c)
      → bank_of p v ≡ r * p.a + c
  bank_is v q x r c r-below c-below row column =
      bank_by_divisions v q x r c (record { sum = row; below = r-below })
      (record {
        sum =
            linear ((pos 1 · column) ∷ [])
            (ring (v.column ∷ q ∷ x ∷ pos p.b ∷ pos p.a ∷ pos c ∷ []) (search reify depth 40 fits 9000) refl);
        below = c-below;
      })

  -- same bank exactly if both digits are the same
  bank_parts : (v w : Pixel) → (bank_of p v ≡ bank_of p w) ↔ ((remainder p v ≡ remainder p w) × (lane p v ≡ lane p w))
  bank_parts v w = (
    λ e. digits_determine p.a (lane_below_a v) (lane_below_a w) (sym (bank_digits v) ∙ e ∙ bank_digits w),
    λ (e, f). rw (bank_digits v, e, f) (sym (bank_digits w)),
  )

  -- same bank exactly if the difference is in the lattice
  pub same_bank_means_lattice : (v w : Pixel) → bank_of p v ≡ bank_of p w → InLattice p (minus v w)
  unfolding minus
  same_bank_means_lattice v w e =
      let (r, c) = (bank_parts v w).0 e in
      record {
        m = lap p v -ℤ lap p w;
        n = quotient p v -ℤ quotient p w;
        columns =
            linear ((pos 1 · column_division v) ∷ (negsuc 0 · column_division w) ∷ (pos 1 · ap pos c) ∷ [])
            (ring
            (v.column ∷ w.column ∷ pos p.a ∷ pos p.b ∷ pos (lane p v) ∷ pos (lane p w)
            ∷ lap p v ∷ lap p w ∷ quotient p v ∷ quotient p w ∷ [])
            (search reify depth 40 fits 9000)
            refl);
        rows =
            linear ((pos 1 · row_division v) ∷ (negsuc 0 · row_division w) ∷ (pos 1 · ap pos r) ∷ [])
            (ring
            (v.row ∷ w.row ∷ pos p.d ∷ pos (remainder p v) ∷ pos (remainder p w)
            ∷ lap p v ∷ lap p w ∷ quotient p v ∷ quotient p w ∷ [])
            (search reify depth 40 fits 9000)
            refl);
      }

  pub lattice_means_same_bank : (v w : Pixel) → InLattice p (minus v w) → bank_of p v ≡ bank_of p w
  unfolding minus
  lattice_means_same_bank v w l =
      bank_is v (quotient p w +ℤ l.n) (lap p w +ℤ l.m) (remainder p w) (lane p w) (remainder_below_d w) (lane_below_a w)
      (linear ((pos 1 · l.rows) ∷ (pos 1 · row_division w) ∷ [])
      (ring (v.row ∷ w.row ∷ pos p.d ∷ quotient p w ∷ l.m ∷ l.n ∷ pos (remainder p w) ∷ [])
      (search reify depth 40 fits 9000)
      refl))
      (linear ((pos 1 · l.columns) ∷ (pos 1 · column_division w) ∷ [])
      (ring (v.column ∷ w.column ∷ pos p.b ∷ pos p.a ∷ quotient p w ∷ lap p w ∷ l.m ∷ l.n ∷ pos (lane p w) ∷ [])
      (search reify depth 40 fits 9000)
      refl))
      ∙ sym (bank_digits w)

  -- a bank is below N, and a number below N has its upper digit below d
  pub bank_below_count : (v : Pixel) → bank_of p v < banks p
  unfolding banks
  bank_below_count v =
      rw (bank_digits v, mul_comm p.a p.d) (digits_below p.d p.a (remainder_below_d v) (lane_below_a v))

  pub upper_digit_below : (k : ℕ) → k < banks p → k / p.a < p.d
  unfolding banks
  upper_digit_below k h = (div-lt_iff_lt-mul plan.a_least).1 (rw (mul_comm p.d p.a) h)

  -- the pixel with column k mod a and row k/a has bank k
  bank_of_digits : (k : ℕ) → k < banks p → bank_of p (at (pos (k % p.a)) (pos (k / p.a))) ≡ k
  unfolding at
  bank_of_digits k h =
      bank_is (at (pos (k % p.a)) (pos (k / p.a))) (pos 0) (pos 0) (k / p.a) (k % p.a) (upper_digit_below k h)
      (mod-lt k plan.a_least)
      (ring (pos (k / p.a) ∷ pos p.d ∷ []) (search reify depth 40 fits 9000) refl)
      (ring (pos (k % p.a) ∷ pos p.a ∷ pos p.b ∷ []) (search reify depth 40 fits 9000) refl)
      ∙ div-add-mod' k p.a

-- The banks of a plan are the classes of its lattice, and each number below N is one.
pub banks_are_classes : BanksAreClasses
banks_are_classes p plan =
    record {
      same_bank = λ v w. (same_bank_means_lattice p plan v w, lattice_means_same_bank p plan v w);
      bank_below = bank_below_count p plan;
      each_bank = λ k h. (at (pos (k % p.a)) (pos (k / p.a)), bank_of_digits p plan k h);
    }
