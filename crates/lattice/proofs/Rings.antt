-- A ring fetch: its condition in plain numbers is that (W, 0) and (0, H) are in the lattice, and then wrapping keeps the bank of each
-- pixel. The pixels that either fetch reads are inside, and their banks and cycles apart.
-- Assumes nothing.
use Prim.Native.Nat.{ℕ, ◌*◌, ◌/◌, ◌≤◌}
use mathlib.Core.Path.{◌≡◌, refl, sym, ap, ◌∙◌}
use mathlib.Core.Bool.{Bool, true, false}
use mathlib.Core.List.{List, [], ◌∷◌, map, map-map, map_congr_left}
use lib.IntN.{ℤ, pos, negsuc, neg_ℤ, ◌*ℤ◌, ◌-ℤ◌}
use Rattle.integers.specs.Gcd.{Multiple}
use Rattle.integers.specs.Division.{floor_div, floor_mod}
use Rattle.integers.proofs.Ring.{ring, linear, ◌·◌, reify}
use Rattle.integers.proofs.Divisions.{Divides, division, remainder_below, remainder_zero_iff_divides, quotient_of_multiple, divides_multiple, multiple_divides}
use Rattle.scope.specs.Plans.{Pixel, at, minus, pixels, banks, Combination, InLattice}
use Rattle.scope.specs.Banks.{bank_of, wrapped}
use Rattle.scope.specs.Cycles.{suits_for, cycles}
use Rattle.scope.specs.Calls.{moved, pixels_read, ring_moved}
use Rattle.scope.specs.promises.Meaning.{IsPlan, Inside, AllInside, RingAllowed}
use Rattle.scope.specs.promises.Demand.{EdgeAllowed, InCycles}
use Rattle.scope.specs.promises.PicturePromises.{RingKeepsBanks}
use Rattle.scope.specs.declared.Plan.{Plan}
use Rattle.scope.specs.declared.Pattern.{Pattern}
use Rattle.checks.proofs.Lists.{mem-map}
use Rattle.lattice.proofs.Membership.{combination_of_combinations, unslanted, lattice_by_divisors}
use Rattle.lattice.proofs.SameBank.{same_bank_means_lattice, lattice_means_same_bank}
use Rattle.lattice.proofs.Apart.{fetched_in_cycles}

-- the steps that a ring fetch goes around by
abbrev across : ℕ → Pixel
across W = at (pos W) (pos 0)

abbrev down : ℕ → Pixel
down H = at (pos 0) (pos H)

-- 0 is a multiple of each number, and z is one where it is s times one
none_of : (n : ℕ) → pos 0 ≡ pos 0 *ℤ pos n
none_of n = ring (pos n ∷ []) (search reify depth 40 fits 9000) refl

none_divided : (n : ℕ) → Divides n (pos 0)
none_divided n = record { times = pos 0; is = none_of n }

once : (n : ℕ) → pos n ≡ pos 1 *ℤ pos n
once n = ring (pos n ∷ []) (search reify depth 40 fits 9000) refl

divides_times : {g : ℕ} {y z : ℤ} (s : ℤ) → z ≡ s *ℤ y → Divides g y → Divides g z
divides_times {g} {y} {z} s e w =
    record {
      times = s *ℤ w.times;
      is = linear ((pos 1 · e) ∷ (s · w.is) ∷ []) (ring (y ∷ z ∷ s ∷ w.times ∷ pos g ∷ []) (search reify depth 40 fits 9000) refl);
    }

-- the lattice has every vector with both coordinates multiples of N: (x × a × d, y × a × d) is x × d - y × b times (a, 0)
-- and y × a times (b, d)
multiples_in_lattice :
    (p : Plan) (v : Pixel) (x y : ℤ) → v.column ≡ x *ℤ pos (banks p) → v.row ≡ y *ℤ pos (banks p) → InLattice p v
unfolding banks
multiples_in_lattice p v x y column row =
    record {
      m = x *ℤ pos p.d -ℤ y *ℤ pos p.b;
      n = y *ℤ pos p.a;
      columns =
          column ∙ ring (x ∷ y ∷ pos p.a ∷ pos p.b ∷ pos p.d ∷ []) (search reify depth 40 fits 9000) refl;
      rows = row ∙ ring (x ∷ y ∷ pos p.a ∷ pos p.b ∷ pos p.d ∷ []) (search reify depth 40 fits 9000) refl;
    }

-- both steps are in the lattice
abbrev BothSteps : Plan → ℕ → ℕ → Type 0
BothSteps p W H = InLattice p (across W) × InLattice p (down H)

module _ (p : Plan) (plan : IsPlan p) (W H : ℕ) where
  -- document 01's test of the lattice at (W, 0) asks that a divides W less b × (0/d), and at (0, H) that it divides 0 less b × (H/d)
  at_across : unslanted p (across W) ≡ pos W
  unfolding at none_divided
  at_across =
      linear ((neg_ℤ (pos p.b) · quotient_of_multiple p.d plan.d_least (none_divided p.d)) ∷ [])
      (ring (pos W ∷ pos p.b ∷ floor_div (pos 0) p.d ∷ []) (search reify depth 40 fits 9000) refl)

  at_down : unslanted p (down H) ≡ negsuc 0 *ℤ pos (p.b * (H / p.d))
  unfolding at floor_div
  at_down = ring (pos p.b ∷ pos (H / p.d) ∷ []) (search reify depth 40 fits 9000) refl

  -- the three parts are that test at both steps
  steps_in_lattice : RingAllowed p W H → BothSteps p W H
  unfolding at
  steps_in_lattice allowed = (
    (lattice_by_divisors p plan.d_least (across W)).0 (
      none_divided p.d,
      divides_times (pos 1) (at_across ∙ once W) (multiple_divides p.a W allowed.w_multiple),
    ),
    (lattice_by_divisors p plan.d_least (down H)).0 (
      multiple_divides p.d H allowed.h_multiple,
      divides_times (negsuc 0) at_down (multiple_divides p.a (p.b * (H / p.d)) allowed.shift_multiple),
    ),
  )

  steps_in_numbers : BothSteps p W H → RingAllowed p W H
  unfolding at
  steps_in_numbers (c, e) =
      let (row, shift) = (lattice_by_divisors p plan.d_least (down H)).1 e in
      let column = ((lattice_by_divisors p plan.d_least (across W)).1 c).1 in
      record {
        w_multiple = divides_multiple p.a W (divides_times (pos 1) (once W ∙ ap (λ (z : ℤ). pos 1 *ℤ z) (sym at_across)) column);
        h_multiple = divides_multiple p.d H row;
        shift_multiple =
            divides_multiple p.a (p.b * (H / p.d))
            (divides_times (negsuc 0)
            (linear ((pos 1 · at_down) ∷ [])
            (ring (unslanted p (down H) ∷ pos (p.b * (H / p.d)) ∷ []) (search reify depth 40 fits 9000) refl)) shift);
      }

  -- W = x × N and H = y × N will do
  multiples_allowed : Multiple (banks p) W → Multiple (banks p) H → RingAllowed p W H
  unfolding at
  multiples_allowed (x, W-is) (y, H-is) =
      steps_in_numbers (
        multiples_in_lattice p (across W) (pos x) (pos 0) (ap pos W-is) (none_of (banks p)),
        multiples_in_lattice p (down H) (pos 0) (pos y) (none_of (banks p)) (ap pos H-is),
      )

  module _ (w_least : 1 ≤ W) (h_least : 1 ≤ H) where
    -- a wrapped pixel differs from the pixel by whole steps
    steps_between : (v : Pixel) → Combination (across W) (down H) (minus (wrapped W H v) v)
    unfolding at wrapped minus
    steps_between v =
        record {
          m = neg_ℤ (floor_div v.column W);
          n = neg_ℤ (floor_div v.row H);
          columns =
              linear ((negsuc 0 · division v.column W w_least) ∷ [])
              (ring (v.column ∷ pos W ∷ floor_div v.column W ∷ floor_div v.row H ∷ pos (floor_mod v.column W) ∷ []) (search reify depth 40 fits 9000) refl);
          rows =
              linear ((negsuc 0 · division v.row H h_least) ∷ [])
              (ring (v.row ∷ pos H ∷ floor_div v.column W ∷ floor_div v.row H ∷ pos (floor_mod v.row H) ∷ []) (search reify depth 40 fits 9000) refl);
        }

    pub bank_kept : RingAllowed p W H → (v : Pixel) → bank_of p (wrapped W H v) ≡ bank_of p v
    bank_kept allowed v =
        let (c, e) = steps_in_lattice allowed in
        lattice_means_same_bank p plan (wrapped W H v) v (combination_of_combinations c e (steps_between v))

    -- a pixel whose coordinates are multiples of the sides wraps to (0, 0), so it is in the lattice if its bank is kept
    kept_in_lattice :
        (v : Pixel) → Divides W v.column → Divides H v.row → bank_of p (wrapped W H v) ≡ bank_of p v → InLattice p v
    unfolding wrapped minus
    kept_in_lattice v column row kept =
        let c = same_bank_means_lattice p plan (wrapped W H v) v kept in
        record {
          m = neg_ℤ c.m;
          n = neg_ℤ c.n;
          columns =
              linear ((negsuc 0 · c.columns) ∷ (pos 1 · ap pos ((remainder_zero_iff_divides W w_least v.column).1 column)) ∷ [])
              (ring (v.column ∷ c.m ∷ c.n ∷ pos p.a ∷ pos p.b ∷ pos (floor_mod v.column W) ∷ []) (search reify depth 40 fits 9000) refl);
          rows =
              linear ((negsuc 0 · c.rows) ∷ (pos 1 · ap pos ((remainder_zero_iff_divides H h_least v.row).1 row)) ∷ [])
              (ring (v.row ∷ c.m ∷ c.n ∷ pos p.d ∷ pos (floor_mod v.row H) ∷ []) (search reify depth 40 fits 9000) refl);
        }

    kept_allowed : ((v : Pixel) → bank_of p (wrapped W H v) ≡ bank_of p v) → RingAllowed p W H
    unfolding at
    kept_allowed kept =
        let own : (n : ℕ) → Divides n (pos n) = λ n. record { times = pos 1; is = once n } in
        steps_in_numbers (
          kept_in_lattice (across W) (own W) (none_divided H) (kept (across W)),
          kept_in_lattice (down H) (none_divided W) (own H) (kept (down H)),
        )

-- a wrapped pixel is inside
wrapped_inside : (W H : ℕ) → 1 ≤ W → 1 ≤ H → (v : Pixel) → Inside W H (wrapped W H v)
unfolding wrapped
wrapped_inside W H w_least h_least v =
    record {
      i = floor_mod v.column W;
      j = floor_mod v.row H;
      column = refl;
      row = refl;
      i_below = remainder_below v.column W w_least;
      j_below = remainder_below v.row H h_least;
    }

module _ (p : Plan) (W H : ℕ) (w_least : 1 ≤ W) (h_least : 1 ≤ H) where
  -- What either fetch reads is inside,
  pub read_inside : (ring : Bool) (vs : List Pixel) → EdgeAllowed ring p W H vs → AllInside W H (pixels_read ring W H vs)
  unfolding pixels_read
  read_inside false vs inside = inside
  read_inside true vs allowed =
      λ v m. let (w, k, is) = mem-map (wrapped W H) vs m in rw (sym is) (wrapped_inside W H w_least h_least w)

  -- from the banks of the pixels before wrapping,
  same_banks : IsPlan p → (ring : Bool) (vs : List Pixel) → EdgeAllowed ring p W H vs → map (bank_of p) (pixels_read ring W H vs) ≡ map (bank_of p) vs
  unfolding pixels_read
  same_banks plan false vs inside = refl
  same_banks plan true vs allowed =
      map-map (bank_of p) (wrapped W H) vs ∙ map_congr_left {l = vs} (λ v _. bank_kept p plan W H w_least h_least allowed v)

  -- so at most one word of each bank comes in each of r cycles.
  pub read_in_cycles :
      (ring : Bool) (r : ℕ) (t : Pattern) (o : Pixel) → IsPlan p → EdgeAllowed ring p W H (moved t o) → suits_for r p (pixels t) ≡ true
      → InCycles r (map (bank_of p) (pixels_read ring W H (moved t o))) (cycles p (pixels t))
  read_in_cycles ring r t o plan allowed suiting =
      rw (same_banks plan ring (moved t o) allowed) (fetched_in_cycles r p t o plan suiting)

-- What a ring fetch goes by.
pub ring_keeps_banks : RingKeepsBanks
unfolding ring_moved pixels_read
ring_keeps_banks =
    record {
      in_lattice = λ p W H plan. (steps_in_lattice p plan W H, steps_in_numbers p plan W H);
      same_bank = λ p W H plan w_least h_least. (bank_kept p plan W H w_least h_least, kept_allowed p plan W H w_least h_least);
      lands = wrapped_inside;
      in_cycles = λ r p W H plan w_least h_least allowed t o. read_in_cycles p W H w_least h_least true r t o plan allowed;
      multiples = λ p W H plan. multiples_allowed p plan W H;
    }
