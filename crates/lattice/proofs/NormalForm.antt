-- The normal form of two independent vectors: it generates their lattice, and no other plan does.
-- Assumes nothing.
use Prim.Native.Nat.{ℕ, zero, suc, ◌*◌, ◌/◌, ◌≤◌, ◌<◌}
use mathlib.Core.Path.{◌≡◌, refl, sym, ap, ◌∙◌}
use mathlib.Core.List.{[], ◌∷◌}
use native.Mathlib.Omega.{arith}
use native.Mathlib.Nat.{div-eq_of_eq-mul_right}
use lib.IntN.{ℤ, pos, negsuc, neg_ℤ, nat_abs, ◌+ℤ◌, ◌*ℤ◌}
use Rattle.integers.specs.Division.{floor_div, floor_mod}
use Rattle.integers.proofs.Integers.{size_of_neg, size_of_product, size_zero}
use Rattle.integers.proofs.Ring.{ring, linear, ◌·◌, reify}
use Rattle.integers.proofs.Divisions.{Divides, division, remainder_below, remainder_is, remainder_of_small, cancel_factor, divisor_at_most}
use Rattle.integers.proofs.Bezout.{Sign, sign_of}
use Rattle.scope.specs.Plans.{Pixel, plan, banks, along, up, InLattice, determinant, determinant_size, normal_form}
use Rattle.scope.specs.promises.Meaning.{IsPlan, Independent}
use Rattle.scope.specs.promises.PlanPromises.{Generates, NormalFormIsOnly}
use Rattle.scope.specs.declared.Plan.{Plan}
use Rattle.lattice.proofs.Membership.{row_of_lattice, first_is_combination, second_is_combination}
use Rattle.lattice.proofs.Bases.{SameBasis, same_basis_then, unit_gives_basis}
use Rattle.lattice.proofs.Euclid.{Reduced, euclid_reduces}

-- the factor of (b, d) in a pixel of the lattice, from its row
factor_of_row : (p : Plan) → 1 ≤ p.d → {v : Pixel} (c : InLattice p v) (k : ℤ) → v.row ≡ k *ℤ pos p.d → c.n ≡ k
factor_of_row p least {v} c k e =
    cancel_factor p.d least c.n k
    (linear ((negsuc 0 · c.rows) ∷ (pos 1 · e) ∷ [])
    (ring (v.row ∷ c.m ∷ c.n ∷ k ∷ pos p.d ∷ []) (search reify depth 40 fits 9000) refl))

-- Two plans with the same lattice are the same. The first's lattice is part of the second's:
module _ (p q : Plan) (least : 1 ≤ q.d) (part : (v : Pixel) → InLattice p v → InLattice q v) where
  d_divides : Divides q.d (pos p.d)
  d_divides = row_of_lattice q (part (up p) second_is_combination)

  a_divides : Divides q.a (pos p.a)
  a_divides = level (part (along p) first_is_combination)
    where
      level : InLattice q (along p) → Divides q.a (pos p.a)
      level c =
          record {
            times = c.m;
            is =
                linear
                ((pos 1 · c.columns)
                ∷ (pos q.b · factor_of_row q least c (pos 0) (ring (pos q.d ∷ []) (search reify depth 40 fits 9000) refl))
                ∷ [])
                (ring (c.m ∷ c.n ∷ pos p.a ∷ pos q.a ∷ pos q.b ∷ []) (search reify depth 40 fits 9000) refl);
          }

  b_equal : p.a ≡ q.a → p.d ≡ q.d → p.b < p.a → q.b < q.a → p.b ≡ q.b
  b_equal e f l k = risen (part (up p) second_is_combination)
    where
      one_step : pos p.d ≡ pos 1 *ℤ pos q.d
      one_step =
          linear ((pos 1 · ap pos f) ∷ []) (ring (pos p.d ∷ pos q.d ∷ []) (search reify depth 40 fits 9000) refl)

      risen : InLattice q (up p) → p.b ≡ q.b
      risen c =
          sym (remainder_of_small q.a (omega arith) p.b (omega arith))
          ∙ remainder_is q.a (omega arith) (pos p.b) c.m q.b k
          (linear ((pos 1 · c.columns) ∷ (pos q.b · factor_of_row q least c (pos 1) one_step) ∷ [])
          (ring (c.m ∷ c.n ∷ pos p.b ∷ pos q.a ∷ pos q.b ∷ []) (search reify depth 40 fits 9000) refl))

record SamePlan (p q : Plan) : Type 0 where
  a_same : p.a ≡ q.a
  b_same : p.b ≡ q.b
  d_same : p.d ≡ q.d

only_plan : {p q : Plan} {x y : Pixel} → Generates p x y → Generates q x y → SamePlan p q
only_plan {p} {q} g h =
    record { a_same = a_equal; b_same = b_equal p q h.d_least there a_equal d_equal g.b_below h.b_below; d_same = d_equal }
  where
    there : (v : Pixel) → InLattice p v → InLattice q v
    there v c = (h.same v).0 ((g.same v).1 c)

    back : (v : Pixel) → InLattice q v → InLattice p v
    back v c = (g.same v).0 ((h.same v).1 c)

    a_equal : p.a ≡ q.a
    a_equal =
        omega (
          arith,
          divisor_at_most q.a p.a g.a_least (a_divides p q h.d_least there),
          divisor_at_most p.a q.a h.a_least (a_divides q p g.d_least back),
        )

    d_equal : p.d ≡ q.d
    d_equal =
        omega (
          arith,
          divisor_at_most q.d p.d g.d_least (d_divides p q h.d_least there),
          divisor_at_most p.d q.d h.d_least (d_divides q p g.d_least back),
        )

-- a product that is not 0 has factors of at least 1
both_positive : (m n k : ℕ) → k ≡ m * n → (k ≡ 0 → ⊥) → (1 ≤ m) × (1 ≤ n)
both_positive zero n k e f = absurd (f (omega arith))
both_positive (suc m) zero k e f = absurd (f (omega arith))
both_positive (suc m) (suc n) k e f = (omega arith, omega arith)

-- From a reduced basis v, w, with v's row d and w's row 0, to the plan: a is the size of w's column, since the
-- determinant's size is d times it.
module _ (x y v : Pixel) (d : ℕ) (r : Reduced x y v d) (independent : Independent x y) where
  determinant_is : determinant v r.w ≡ neg_ℤ (pos d *ℤ r.w.column)
  unfolding determinant
  determinant_is =
      linear ((v.column · r.level) ∷ (neg_ℤ r.w.column · r.row) ∷ [])
      (ring (v.column ∷ v.row ∷ r.w.column ∷ r.w.row ∷ pos d ∷ []) (search reify depth 40 fits 9000) refl)

  size_is : determinant_size x y ≡ d * nat_abs r.w.column
  unfolding determinant_size
  size_is =
      r.basis.size ∙ ap nat_abs determinant_is ∙ size_of_neg (pos d *ℤ r.w.column) ∙ size_of_product (pos d) r.w.column

  positive : (1 ≤ d) × (1 ≤ nat_abs r.w.column)
  unfolding determinant_size
  positive =
      both_positive d (nat_abs r.w.column) (determinant_size x y) size_is (λ e. independent (size_zero (determinant x y) e))

  a_is : determinant_size x y / d ≡ nat_abs r.w.column
  a_is = div-eq_of_eq-mul_right positive.0 size_is

  -- so the determinant's size / d is at least 1, and the plan has the basis (a, 0), (v's column mod a, d)
  abbrev a : ℕ
  a = determinant_size x y / d

  abbrev form : Plan
  form = plan a (floor_mod v.column a) d

  a_least : 1 ≤ a
  a_least = rw a_is positive.1

  form_gives_basis : SameBasis x y (along form) (up form)
  unfolding plan
  form_gives_basis =
      let s : Sign r.w.column = sign_of r.w.column in
      same_basis_then r.basis
      (by_sign (floor_div v.column a) s.sign s.unit (ap pos a_is ∙ s.size) (division v.column a a_least))
    where
      by_sign :
          (q s : ℤ) → s *ℤ s ≡ pos 1 → pos a ≡ s *ℤ r.w.column → v.column ≡ q *ℤ pos a +ℤ pos (floor_mod v.column a)
          → SameBasis v r.w (along form) (up form)
      by_sign q s unit size divided =
          unit_gives_basis
          (record {
            m = pos 0;
            n = s;
            columns =
                linear ((pos 1 · size) ∷ []) (ring (v.column ∷ r.w.column ∷ s ∷ pos a ∷ []) (search reify depth 40 fits 9000) refl);
            rows = linear ((neg_ℤ s · r.level) ∷ []) (ring (v.row ∷ r.w.row ∷ s ∷ []) (search reify depth 40 fits 9000) refl);
          })
          (record {
            m = pos 1;
            n = neg_ℤ (q *ℤ s);
            columns =
                linear ((negsuc 0 · divided) ∷ (neg_ℤ q · size) ∷ [])
                (ring (v.column ∷ r.w.column ∷ q ∷ s ∷ pos a ∷ pos (floor_mod v.column a) ∷ [])
                (search reify depth 40 fits 9000)
                refl);
            rows =
                linear ((negsuc 0 · r.row) ∷ (q *ℤ s · r.level) ∷ [])
                (ring (v.row ∷ r.w.row ∷ q ∷ s ∷ pos d ∷ []) (search reify depth 40 fits 9000) refl);
          })
          (linear ((pos 1 · unit) ∷ []) (ring (q ∷ s ∷ []) (search reify depth 40 fits 9000) refl))

  form_generates : Generates form x y
  unfolding plan
  form_generates =
      record {
        a_least = a_least;
        d_least = positive.0;
        b_below = remainder_below v.column a a_least;
        same = form_gives_basis.same;
      }

  form_banks : banks form ≡ determinant_size x y
  unfolding plan banks
  form_banks = omega (arith, size_is, ap (λ (n : ℕ). n * d) a_is)

-- The normal form is that plan of the basis that Euclid's steps find.
normal_form_generates : (x y : Pixel) → Independent x y → Generates (normal_form x y) x y
unfolding normal_form
normal_form_generates x y = form_generates x y _ _ (euclid_reduces x y)

normal_form_banks : (x y : Pixel) → Independent x y → banks (normal_form x y) ≡ determinant_size x y
unfolding normal_form
normal_form_banks x y = form_banks x y _ _ (euclid_reduces x y)

-- It generates the lattice, as no other plan does, and a × d is the determinant's size.
pub normal_form_is_only : NormalFormIsOnly
normal_form_is_only =
    record {
      generates = normal_form_generates;
      only_a = λ x y h p g. (only_plan g (normal_form_generates x y h)).a_same;
      only_b = λ x y h p g. (only_plan g (normal_form_generates x y h)).b_same;
      only_d = λ x y h p g. (only_plan g (normal_form_generates x y h)).d_same;
      banks_are = normal_form_banks;
    }

-- The normal form of legal vectors is a plan: its bank count is the determinant's size.
pub normal_form_is_plan : (x y : Pixel) → Independent x y → determinant_size x y ≤ 1024 → IsPlan (normal_form x y)
unfolding banks
normal_form_is_plan x y independent most =
    let g : Generates (normal_form x y) x y = normal_form_generates x y independent in
    record {
      a_least = g.a_least;
      d_least = g.d_least;
      b_below = g.b_below;
      most = omega (arith, normal_form_banks x y independent);
    }
