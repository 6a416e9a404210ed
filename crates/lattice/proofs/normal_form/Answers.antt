-- `lattice::normal_form` meets its contract: the refusals of the definition in its order, then its a, b and d.
-- Assumes nothing.
use Rattle.std.specs.Prelude.{Ok, Err}
use Prim.Native.Nat.{ℕ, ◌/◌, ◌≤◌, ◌<◌}
use native.Mathlib.Omega.{arith}
use native.Mathlib.Nat.{div-le_self, mul-le-mul_right}
use mathlib.Core.Path.{◌≡◌, sym, ap, ap₂, ◌∙◌}
use mathlib.Core.List.{[], ◌∷◌}
use lib.IntN.{nat_abs}
use mir.Syntax.{w16}
use mir.Facts.{to_z-of_z}
use Rattle.integers.specs.Division.{floor_mod}
use Rattle.integers.specs.Gcd.{gcd}
use Rattle.integers.proofs.Divisions.{remainder_below}
use Rattle.integers.proofs.Integers.{size_zero}
use Rattle.integers.proofs.Sizes.{fitting_size}
use Rattle.scope.specs.Plans.{Pixel, at, plan, determinant, determinant_size, upright, normal_form}
use Rattle.scope.specs.Numbers.{dependent_test, large_test}
use Rattle.scope.specs.Calls.{normal}
use Rattle.scope.specs.promises.Meaning.{IsPlan, Independent}
use Rattle.scope.specs.declared.Plan.{Plan}
use Rattle.scope.specs.declared.Refusal.{Refusal}
use Rattle.scope.proofs.PlanFacts.{pixel_handed}
use Rattle.checks.proofs.Chains.{chain_refuses, chain_goes_on, answered_none, answered_some}
use Rattle.checks.proofs.Booleans.{last_test, test_before}
use Rattle.checks.proofs.Tests.{independent_iff, size_within_iff}
use Rattle.checks.proofs.Deciding.{independent_decides, size_decides}
use Rattle.lattice.proofs.Carried.{falling_of_upright}
use Rattle.lattice.proofs.NormalForm.{normal_form_is_plan}
use Rattle.lattice.proofs.normal_form.Lts as lts
use Rattle.lattice.proofs.normal_form.Tie as tie
use Rattle.lattice.proofs.normal_form.Reads as reads
use Rattle.lattice.proofs.normal_form.Goals as goal

-- what is known at a step of the code
abbrev After-determinant_size-n : Type 0
After-determinant_size-n = lts.After-determinant_size tie.the-claims reads.Pre reads.Post

abbrev Else-n-eq0 : Type 0
Else-n-eq0 = lts.Else1 tie.the-claims reads.Pre reads.Post

-- what the call answers, by the determinant's size
module _ (x y : Pixel) where
  is-independent : (determinant_size x y ≡ 0 → ⊥) → Independent x y
  unfolding determinant_size
  is-independent h e = h (ap nat_abs e)

  dependent-answer : determinant_size x y ≡ 0 → normal x y ≡ Err Refusal.Dependent
  unfolding normal determinant_size
  dependent-answer e =
      answered_some _ Err _ Refusal.Dependent
      (chain_refuses (dependent_test x y) (large_test x y ∷ []) Refusal.Dependent
      ((independent_decides x y).refuses (λ h. h (size_zero (determinant x y) e))))

  large-answer : Independent x y → 1024 < determinant_size x y → normal x y ≡ Err Refusal.Large
  unfolding normal
  large-answer independent more =
      answered_some _ Err _ Refusal.Large
      (chain_goes_on (dependent_test x y) (large_test x y ∷ []) ((independent_decides x y).passes independent)
      ∙ chain_refuses (large_test x y) [] Refusal.Large ((size_decides x y).refuses (λ most. omega arith)))

  form-answer : Independent x y → determinant_size x y ≤ 1024 → normal x y ≡ Ok (normal_form x y)
  unfolding normal
  form-answer independent most =
      answered_none _ Err _
      ((test_before (independent_iff x y) (last_test (size_within_iff x y))).iff.1 (independent, most))

-- the normal form is the plan of its a, b and d
form-is : (x y : Pixel) {a b d : ℕ} → let p = normal_form x y in a ≡ p.a → b ≡ p.b → d ≡ p.d → plan a b d ≡ p
unfolding normal_form
form-is x y e f g = rw (e, f, g)

-- the two vectors, and the determinant's size as the code has it
module _ (c : After-determinant_size-n) where
  abbrev x : Pixel
  x = at c.args.x1 c.args.x2

  abbrev y : Pixel
  y = at c.args.y1 c.args.y2

  determinant-size-is : c.determinant_size-n.result ≡ determinant_size x y
  determinant-size-is =
      let f = c.ranges in
      c.determinant_size-n.ensures ∙ ap₂ determinant_size (pixel_handed f.x1 f.x2) (pixel_handed f.y1 f.y2)

pub returns-then-n-eq0 : goal.returns-then-n-eq0
returns-then-n-eq0 c =
    sym (dependent-answer (x c.before) (y c.before) (sym (determinant-size-is c.before) ∙ c.if-n-eq0.true))

independent : (c : Else-n-eq0) → Independent (x c.before) (y c.before)
independent c = is-independent (x c.before) (y c.before) (λ e. c.if-n-eq0.false (determinant-size-is c.before ∙ e))

pub returns-then-n-gt1024 : goal.returns-then-n-gt1024
returns-then-n-gt1024 c =
    sym
    (large-answer (x c.before.before) (y c.before.before) (independent c.before)
    (omega (arith, determinant-size-is c.before.before)))

-- the normal form is a plan, and the code's d and a are its own
module _ (c : goal.After-gcd_of-d) where
  -- past the first test, and where the determinant's size is known
  abbrev passed : Else-n-eq0
  passed = c.before.before.before.before

  abbrev sized : After-determinant_size-n
  sized = passed.before

  abbrev form : Plan
  form = normal_form (x sized) (y sized)

  most : determinant_size (x sized) (y sized) ≤ 1024
  most = omega (arith, determinant-size-is sized)

  is-plan : IsPlan form
  is-plan = normal_form_is_plan (x sized) (y sized) (independent passed) most

  p-is : c.size-p.result ≡ nat_abs sized.args.x2
  p-is = c.size-p.ensures ∙ ap nat_abs (to_z-of_z sized.ranges.x2)

  q-is : c.size-q.result ≡ nat_abs sized.args.y2
  q-is = c.size-q.ensures ∙ ap nat_abs (to_z-of_z sized.ranges.y2)

  d-is : c.gcd_of-d.result ≡ form.d
  unfolding normal_form at
  d-is = c.gcd_of-d.ensures ∙ ap₂ gcd p-is q-is

  abbrev a : ℕ
  a = sized.determinant_size-n.result / c.gcd_of-d.result

  a-is : a ≡ form.a
  unfolding normal_form at
  a-is = ap₂ (λ (m n : ℕ). m / n) (determinant-size-is sized) d-is

  a_small : (0 < a) × (a ≤ 1024)
  a_small = omega (arith, a-is, is-plan.a_least, div-le_self sized.determinant_size-n.result c.gcd_of-d.result)

pub nonzero_div-a : goal.nonzero_div-a
nonzero_div-a c = omega (arith, d-is c, (is-plan c).d_least)

-- the columns that are carried along, and where they lead
module _ (c : goal.After-upright_column-y) where
  abbrev g : goal.After-gcd_of-d
  g = c.before.before

  x-column-is : c.upright_column-x.result ≡ floor_mod (upright (x (sized g))).column (a g)
  x-column-is =
      let f = (sized g).ranges in
      c.upright_column-x.ensures ∙ ap (λ (v : Pixel). floor_mod (upright v).column (a g)) (pixel_handed f.x1 f.x2)

  y-column-is : c.upright_column-y.result ≡ floor_mod (upright (y (sized g))).column (a g)
  y-column-is =
      let f = (sized g).ranges in
      c.upright_column-y.ensures ∙ ap (λ (v : Pixel). floor_mod (upright v).column (a g)) (pixel_handed f.y1 f.y2)

b-is : (c : goal.After-falling_column-b) → c.falling_column-b.result ≡ (form (g c.before)).b
unfolding normal_form at
b-is c =
    let m = g c.before in
    rw (
      ← (a-is m),
      ← (falling_of_upright (a m) (a_small m).0 (x (sized m)) (y (sized m)) _ _ _ _ (x-column-is c.before) (p-is m) (y-column-is c.before)
          (q-is m)),
    )
    c.falling_column-b.ensures

pub falling_column-b-requires : goal.falling_column-b-requires
falling_column-b-requires c =
    let m = g c in
    let v = (sized m).before in
    omega (
      arith,
      a_small m,
      x-column-is c,
      remainder_below (upright (x (sized m))).column (a m) (a_small m).0,
      y-column-is c,
      remainder_below (upright (y (sized m))).column (a m) (a_small m).0,
      p-is m,
      fitting_size w16 v.args.x2 v.ranges.x2,
      q-is m,
      fitting_size w16 v.args.y2 v.ranges.y2,
    )

pub overflow_cast-result : goal.overflow_cast-result
overflow_cast-result c = omega (arith, a_small (g c.before))

pub overflow_cast-result-2 : goal.overflow_cast-result-2
overflow_cast-result-2 c = let m = g c.before in omega (arith, b-is c, (is-plan m).b_below, a-is m, a_small m)

pub overflow_cast-result-3 : goal.overflow_cast-result-3
overflow_cast-result-3 c =
    let m = g c.before in omega (arith, d-is m, (is-plan m).most, mul-le-mul_right (form m).d (is-plan m).a_least)

pub returns : goal.returns
unfolding plan
returns c =
    let m = g c.before in
    ap Ok (form-is (x (sized m)) (y (sized m)) (a-is m) (b-is c) (d-is m))
    ∙ sym (form-answer (x (sized m)) (y (sized m)) (independent (passed m)) (most m))

pub upright_column-x-requires : goal.upright_column-x-requires
upright_column-x-requires c =
    a_small c

pub upright_column-y-requires : goal.upright_column-y-requires
upright_column-y-requires c =
    a_small c.before
