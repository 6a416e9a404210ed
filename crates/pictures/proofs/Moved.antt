-- A pattern's pixels moved to a position: the remainder of a moved coordinate by a side, and how a loop finds whether
-- all are inside.
-- Assumes nothing.
use Rattle.std.proofs.Common.{◌≡◌, ℕ, ◌+◌, ◌<◌, ◌≤◌, true, false, List, get_or, ℤ, pos, negsuc, ◌+ℤ◌, sym, refl, ap, ◌∙◌, subst, arith, w16, SFits, to_z, of_z}
use native.Mathlib.Decide.{ℕ_discrete}
use mathlib.Core.Bool.{and-false, and-eq-true_iff, false≢true}
use mathlib.Core.List.{Memᴰ}
use Rattle.integers.specs.Division.{floor_mod}
use Rattle.integers.proofs.Comparisons.{ltb_iff}
use Rattle.integers.proofs.Divisions.{remainder_below, remainder_of_small}
use Rattle.integers.proofs.Sizes.{small_fits}
use Rattle.scope.specs.Search.{every}
use Rattle.scope.specs.Plans.{Pixel, at, plus, pixel_at, pixels}
use Rattle.scope.specs.Banks.{within, inside}
use Rattle.scope.specs.declared.Pattern.{Pattern}
use Rattle.scope.proofs.PlanFacts.{pixel_handed}
use Rattle.checks.proofs.Searches.{every_holds, holds_every, fails_every}
use Rattle.checks.proofs.Lists.{mem-map, map-mem}
use Rattle.checks.proofs.Patterns.{pixels_mem, mem_pixels}
use Rattle.scope.specs.Calls.{moved}

-- within a side it is its own remainder
pub own_remainder : (z : ℤ) (side : ℕ) → within z side ≡ true → z ≡ pos (floor_mod z side)
unfolding within
own_remainder (pos n) side e =
    let h : n < side = (ltb_iff n side).0 e in
    ap pos (sym (remainder_of_small side (omega arith) n h))
own_remainder (negsuc n) side e = absurd (false≢true e)

-- a remainder by a picture's side fits 16 bits
pub remainder_fits : {x : ℤ} (z : ℤ) (side : ℕ) → (1 ≤ side) × (side ≤ 4096) → x ≡ pos (floor_mod z side) → SFits w16 x
remainder_fits z side h e =
    subst (SFits w16) (sym e)
    (small_fits w16 4096 (pos (floor_mod z side)) (omega (arith, remainder_below z side h.0)) (omega arith))

-- a pattern's record from what a loop has of it, and the position that it moves to from its coordinates' bits
abbrev pub pattern : List ℤ → List ℤ → ℕ → Pattern
pattern columns rows used = record { columns = columns; rows = rows; used = used }

abbrev pub position : ℕ → ℕ → Pixel
position i j = record { column = to_z w16 i; row = to_z w16 j }

pub position_handed : {i j : ℤ} → SFits w16 i → SFits w16 j → position (of_z w16 i) (of_z w16 j) ≡ at i j
unfolding at
position_handed f g = pixel_handed f g

-- the moved pixel at position e of a pattern's record, and that these are all
module _ (t : Pattern) (o : Pixel) where
  moved_mem : (e : ℕ) → e < t.used → Memᴰ (plus o (pixel_at t e)) (moved t o)
  unfolding moved
  moved_mem e h = map-mem (plus o) (pixels_mem t e h)

  mem_moved : {v : Pixel} → Memᴰ v (moved t o) → (e : ℕ) × (e < t.used) × (plus o (pixel_at t e) ≡ v)
  unfolding moved
  mem_moved m =
      let (w, k, is) = mem-map (plus o) (pixels t) m in
      let (e, h, at-e) = mem_pixels t k in
      (e, h, ap (plus o) at-e ∙ is)

-- the moved pixels before e are inside
pub record InsideBefore (W H : ℕ) (t : Pattern) (o : Pixel) (e : ℕ) : Type 0 where
  pub each : (k : ℕ) → k < e → inside W H (plus o (pixel_at t k)) ≡ true

module _ (W H : ℕ) (t : Pattern) (o : Pixel) where
  pub none_inside : InsideBefore W H t o 0
  none_inside = record { each = λ k h. absurd (omega arith) }

  -- the pixel at position e
  module _ (e : ℕ) where
    abbrev column : ℤ
    column = o.column +ℤ get_or t.columns e (pos 0)

    abbrev row : ℤ
    row = o.row +ℤ get_or t.rows e (pos 0)

    pub one_more_inside :
        InsideBefore W H t o e → within column W ≡ true → within row H ≡ true → InsideBefore W H t o (e + 1)
    unfolding inside plus pixel_at
    one_more_inside before c r = record { each = λ k h. at_number k h (ℕ_discrete k e) }
      where
        at_number : (k : ℕ) → k < e + 1 → Dec (k ≡ e) → inside W H (plus o (pixel_at t k)) ≡ true
        at_number k h (yes d) = rw (d, c) r
        at_number k h (no d) = before.each k (omega arith)

    -- where one coordinate is not within its side the test fails
    pub column_outside : e < t.used → within column W ≡ false → every (inside W H) (moved t o) ≡ false
    unfolding inside plus pixel_at
    column_outside h c = fails_every (inside W H) (moved t o) (plus o (pixel_at t e)) (moved_mem t o e h) (rw c refl)

    pub row_outside : e < t.used → within row H ≡ false → every (inside W H) (moved t o) ≡ false
    unfolding inside plus pixel_at
    row_outside h r =
        fails_every (inside W H) (moved t o) (plus o (pixel_at t e)) (moved_mem t o e h)
        (rw r (and-false (within column W)))

    -- where it holds both coordinates are within their sides
    module _ (all : every (inside W H) (moved t o) ≡ true) (h : e < t.used) where
      both_within : (within column W ≡ true) × (within row H ≡ true)
      unfolding inside plus pixel_at
      both_within =
          (and-eq-true_iff (within column W) (within row H)).0
          (every_holds (inside W H) (moved t o) all (plus o (pixel_at t e)) (moved_mem t o e h))

      pub column_within : within column W ≡ true
      column_within = both_within.0

      pub row_within : within row H ≡ true
      row_within = both_within.1

  -- where all are inside it holds
  pub every_inside : InsideBefore W H t o t.used → every (inside W H) (moved t o) ≡ true
  every_inside before =
      holds_every (inside W H) (moved t o)
      (λ v m. let (e, h, is) = mem_moved t o m in ap (inside W H) (sym is) ∙ before.each e h)
