-- Each pixel of a picture of any size has a word of its own: bank and address by naturals, and the reverse map undoes them.
-- Assumes nothing.
use Prim.Native.Nat.{ℕ, ◌+◌, ◌*◌, ◌/◌, ◌%◌, ◌≤◌, ◌<◌}
use mathlib.Core.Path.{◌≡◌, refl, sym, ◌∙◌, ap}
use mathlib.Core.List.{[], ◌∷◌}
use native.Mathlib.Omega.{arith}
use native.Mathlib.Nat.{div-add-mod', mod-lt, div-lt_iff_lt-mul, mul_comm, mul-le-mul, le_trans}
use lib.IntN.{pos, negsuc, ◌+ℤ◌}
use Rattle.integers.specs.Division.{floor_div, ceil_div}
use Rattle.integers.proofs.Ring.{ring, linear, ◌·◌, reify}
use Rattle.integers.proofs.Divisions.{quotient_of_pos, remainder_of_pos, remainder_is, ceiling_division}
use Rattle.scope.specs.Plans.{Pixel, banks}
use Rattle.scope.specs.Banks.{quotient, remainder, bank_of, across, address_of, depth_of, word_of, pixel_of}
use Rattle.scope.specs.promises.Meaning.{IsPlan, IsSide, Inside}
use Rattle.scope.specs.promises.PicturePromises.{PixelsHaveWords}
use Rattle.scope.specs.declared.Plan.{Plan}
use Rattle.scope.proofs.Ceilings.{ceiling_at_most}
use Rattle.integers.proofs.Digits.{upper_digit, lower_digit, digits_below}
use Rattle.lattice.proofs.SameBank.{lap, lane, remainder_of_bank, lane_of_bank, column_division, bank_below_count}

-- a number below n has its quotient below n/d rounded up
quotient_below_ceiling : (i n d : ℕ) → 0 < d → i < n → i / d < ceil_div n d
quotient_below_ceiling i n d h l = (div-lt_iff_lt-mul h).1 (omega (arith, (ceiling_division n d h (ceil_div n d)).0 (omega arith)))

-- quotient, remainder and address of a pixel inside are those of its naturals i and j
module _ (p : Plan) {W H : ℕ} {v : Pixel} (u : Inside W H v) where
  quotient_of_inside : quotient p v ≡ pos (u.j / p.d)
  unfolding quotient
  quotient_of_inside = rw u.row (quotient_of_pos u.j p.d)

  remainder_of_inside : remainder p v ≡ u.j % p.d
  unfolding remainder
  remainder_of_inside = rw u.row (remainder_of_pos u.j p.d)

  pub address_of_inside : address_of p W H v ≡ u.j / p.d * across p W + u.i / p.a
  unfolding address_of floor_div
  address_of_inside = rw (quotient_of_inside, u.column)

module _ (p : Plan) (plan : IsPlan p) {W H : ℕ} {v : Pixel} (u : Inside W H v) where
  -- i/a is below C, so q and i/a are the digits of the address, and it is below the depth
  column_quotient_below : u.i / p.a < across p W
  unfolding across
  column_quotient_below = quotient_below_ceiling u.i W p.a plan.a_least u.i_below

  row_quotient_of_address : address_of p W H v / across p W ≡ u.j / p.d
  row_quotient_of_address =
      rw (address_of_inside p u) (upper_digit (u.j / p.d) (across p W) (u.i / p.a) column_quotient_below)

  column_quotient_of_address : address_of p W H v % across p W ≡ u.i / p.a
  column_quotient_of_address =
      rw (address_of_inside p u) (lower_digit (u.j / p.d) (across p W) (u.i / p.a) column_quotient_below)

  pub address_below_depth : address_of p W H v < depth_of p W H
  unfolding depth_of
  address_below_depth =
      rw (address_of_inside p u, mul_comm (across p W) (ceil_div H p.d))
      (digits_below (ceil_div H p.d) (across p W)
      (quotient_below_ceiling u.j H p.d plan.d_least u.j_below)
      column_quotient_below)

  word_below_memory : word_of p W H v < banks p * depth_of p W H
  unfolding word_of
  word_below_memory = digits_below (banks p) (depth_of p W H) (bank_below_count p plan v) address_below_depth

  -- the bank and the address of a pixel's word
  bank_of_word : word_of p W H v / depth_of p W H ≡ bank_of p v
  unfolding word_of
  bank_of_word = upper_digit (bank_of p v) (depth_of p W H) (address_of p W H v) address_below_depth

  address_of_word : word_of p W H v % depth_of p W H ≡ address_of p W H v
  unfolding word_of
  address_of_word = lower_digit (bank_of p v) (depth_of p W H) (address_of p W H v) address_below_depth

  -- c + b × q is the column modulo a
  column_of_lane : (lane p v + p.b * (u.j / p.d)) % p.a ≡ u.i % p.a
  column_of_lane =
      let s : ℕ = lane p v + p.b * (u.j / p.d) in
      sym
      (remainder_is p.a plan.a_least (pos u.i) (lap p v +ℤ pos (s / p.a)) (s % p.a) (mod-lt s plan.a_least)
      (linear
      ((negsuc 0 · u.column) ∷ (pos 1 · column_division p plan v)
      ∷ (pos p.b · quotient_of_inside p u) ∷ (negsuc 0 · ap pos (div-add-mod' s p.a)) ∷ [])
      (ring
      (v.column ∷ pos u.i ∷ pos p.b ∷ pos p.a ∷ quotient p v ∷ pos (u.j / p.d)
      ∷ lap p v ∷ pos (lane p v) ∷ pos (s / p.a) ∷ pos (s % p.a) ∷ [])
      (search reify depth 40 fits 9000)
      refl)))
      ∙ remainder_of_pos u.i p.a

  -- the reverse map undoes bank and address, so a word tells its pixel
  pub reverse_undoes : pixel_of p W H (bank_of p v) (address_of p W H v) ≡ v
  unfolding pixel_of
  reverse_undoes =
      rw (
        remainder_of_bank p plan v,
        remainder_of_inside p u,
        lane_of_bank p plan v,
        row_quotient_of_address,
        column_quotient_of_address,
        column_of_lane,
        div-add-mod' u.i p.a,
        div-add-mod' u.j p.d,
        ← u.column,
        ← u.row,
      )

  pixel_of_word : pixel_of p W H (word_of p W H v / depth_of p W H) (word_of p W H v % depth_of p W H) ≡ v
  pixel_of_word = rw (bank_of_word, address_of_word) reverse_undoes

-- The depth of a picture is at most 4096 × 4096.
pub depth_at_most : (p : Plan) (W H : ℕ) → IsPlan p → IsSide W → IsSide H → depth_of p W H ≤ 4096 * 4096
unfolding depth_of across
depth_at_most p W H plan (_, W-most) (_, H-most) =
    mul-le-mul (le_trans (ceiling_at_most W p.a plan.a_least) W-most) (le_trans (ceiling_at_most H p.d plan.d_least) H-most)

-- Each pixel of a picture has a word of its own in the memory.
pub pixels_have_words : PixelsHaveWords
pixels_have_words p W H plan =
    record {
      address_below = λ v u. address_below_depth p plan u;
      word_below = λ v u. word_below_memory p plan u;
      own = λ v w u t e.
          sym (pixel_of_word p plan u)
          ∙ ap (λ (n : ℕ). pixel_of p W H (n / depth_of p W H) (n % depth_of p W H)) e
          ∙ pixel_of_word p plan t;
    }
