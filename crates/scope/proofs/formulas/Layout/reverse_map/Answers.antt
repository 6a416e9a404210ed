-- `scope::formulas::Layout::reverse_map` meets its contract: column and row are below the picture's sides rounded up to whole blocks, so
-- no number on the way passes 32 bits.
-- Assumes nothing.
use Rattle.scope.specs.declared.Refusal.{Refusal}
use Rattle.std.specs.Prelude.{Result, Ok, Err, ℤ}
use Prim.Native.Nat.{ℕ, zero, suc, ◌+◌, ◌*◌, ◌/◌, ◌%◌, ◌≤◌, ◌<◌}
use native.Mathlib.Omega.{arith}
use native.Mathlib.Nat.{mul-le-mul, mul_comm, mod-lt, div-lt_iff_lt-mul}
use mathlib.Core.Path.{◌≡◌, refl, sym, ◌∙◌, ap}
use mathlib.Core.Bool.{Bool, true, false, not, ◌&&◌, ◌||◌}
use mathlib.Core.Option.{Option}
use mathlib.Core.List.{[], ◌∷◌}
use lib.Dec.{leb, lit<}
use lib.IntN.{pos}
use mir.Syntax.{w16}
use mir.Val.{to_z}
use mir.Facts.{to_z-of_z}
use borrow.Author.Tests.{le-leb, lt-leb}
use Rattle.integers.specs.Division.{ceil_div}
use Rattle.integers.proofs.Digits.{digits_below}
use Rattle.integers.proofs.Sizes.{small_fits}
use Rattle.scope.specs.Search.{whenever}
use Rattle.scope.specs.Plans.{Pixel, at, banks, is_plan}
use Rattle.scope.specs.Banks.{inside, depth_of, pixel_of}
use Rattle.scope.specs.Numbers.{is_side, cell_test}
use Rattle.scope.specs.Calls.{answered, locate}
use Rattle.scope.specs.declared.Plan.{Plan}
use Rattle.scope.specs.declared.Refusal.TheVariants.{Cell}
use Rattle.scope.proofs.Ceilings.{Rounds, ceiling_at_most, blocks_at_most, product_at_most}
use Rattle.scope.proofs.Chains.{none_whenever, some_whenever, chain_of_one, answered_none, answered_some}
use Rattle.scope.proofs.PlanFacts.{plan_means, sides_round}
use Rattle.scope.proofs.MethodAnswers.{fails, holds, both_pass, past_first}
use Rattle.scope.proofs.formulas.Layout.reverse_map.Goals.{Else-banks-k}
use Rattle.scope.proofs.formulas.Layout.reverse_map.Goals as goal

-- a product above i has a positive factor
factor-least : (m n i : ℕ) → i < m * n → 0 < m
factor-least zero n i h = absurd (omega arith)
factor-least (suc m) n i h = omega arith

-- column and row as the code forms them, C being the width divided by a and rounded up
abbrev slanted : Plan → ℕ → ℕ → ℕ → ℕ
slanted p C k i = k % p.a + p.b * (i / C)

abbrev column : Plan → ℕ → ℕ → ℕ → ℕ
column p C k i = i % C * p.a + slanted p C k i % p.a

abbrev row : Plan → ℕ → ℕ → ℕ → ℕ
row p C k i = i / C * p.d + k / p.a

-- past the tests of bank and address: what the code forms fits 32 bits, column and row 16, and its answers are right
record There (p : Plan) (W H k i C : ℕ) : Type 0 where
  bank-small : k < 1024
  address-small : i < 16777216
  across : 0 < C
  a-least : 0 < p.a
  slanted-small : slanted p C k i < 8388608
  column-small : column p C k i < 5120
  row_small : row p C k i < 5120
  no-pixel : inside W H (at (to_z w16 (column p C k i)) (to_z w16 (row p C k i))) ≡ false → Err Cell ≡ locate p W H k i
  pixel :
      inside W H (at (to_z w16 (column p C k i)) (to_z w16 (row p C k i))) ≡ true
      → Ok (to_z w16 (column p C k i), to_z w16 (row p C k i)) ≡ locate p W H k i

module _ (p : Plan) (W H k i : ℕ) (plan : is_plan p ≡ true) (sides : is_side W && is_side H ≡ true) where
  abbrev given : Result (ℤ × ℤ) Refusal
  given = Ok ((pixel_of p W H k i).column, (pixel_of p W H k i).row)

  abbrev lacking : Bool
  lacking = leb (banks p) k || leb (depth_of p W H) i || not (inside W H (pixel_of p W H k i))

  -- past 11 and 12 the answer is left to 15
  by-cell : locate p W H k i ≡ answered (whenever lacking Cell) Err given
  unfolding locate cell_test
  by-cell =
      past_first p W H Err given (cell_test p W H k i ∷ []) (both_pass p W H plan sides)
      ∙ ap (λ (t : Option _). answered t Err given) (chain_of_one (cell_test p W H k i))

  refused : lacking ≡ true → Err Cell ≡ locate p W H k i
  refused e = sym (by-cell ∙ answered_some _ Err given Cell (some_whenever lacking Cell e))

  located : lacking ≡ false → given ≡ locate p W H k i
  located e = sym (by-cell ∙ answered_none _ Err given (none_whenever lacking Cell e))

  -- by the values of the three tests
  lacking-is :
      {s t u : Bool} → leb (banks p) k ≡ s → leb (depth_of p W H) i ≡ t → inside W H (pixel_of p W H k i) ≡ u
      → lacking ≡ (s || t || not u)
  lacking-is e f g = rw (e, f, g)

  no-bank : banks p ≤ k → Err Cell ≡ locate p W H k i
  no-bank h = refused (lacking-is (le-leb (banks p) k h) refl refl)

  no_address : k < banks p → depth_of p W H ≤ i → Err Cell ≡ locate p W H k i
  no_address h l = refused (lacking-is (lt-leb (banks p) k h) (le-leb (depth_of p W H) i l) refl)

  -- past the tests of bank and address: C is the width divided by a and rounded up
  module _ (h : k < banks p) (l : i < depth_of p W H) {C : ℕ} (e : C ≡ ceil_div W p.a) where
    abbrev by-a : Rounds W p.a
    by-a = (sides_round p W H plan sides).0

    abbrev by-d : Rounds H p.d
    by-d = (sides_round p W H plan sides).1

    bank-small : k < 1024
    unfolding banks
    bank-small = omega (arith, (plan_means p plan).most)

    address_below : i < C * ceil_div H p.d
    unfolding depth_of
    address_below = rw e l

    address-small : i < 16777216
    address-small =
        omega (
          arith,
          address_below,
          product_at_most C (ceil_div H p.d) (rw e (omega (arith, ceiling_at_most W p.a by-a.1, by-a.0)))
              (omega (arith, ceiling_at_most H p.d by-d.1, by-d.0)),
        )

    across : 0 < C
    across = factor-least C (ceil_div H p.d) i address_below

    strip-below : i / C < ceil_div H p.d
    strip-below =
        (div-lt_iff_lt-mul {k = C} {x = i} {y = ceil_div H p.d} across).1
        (omega (arith, address_below, mul_comm C (ceil_div H p.d)))

    r-below : k / p.a < p.d
    unfolding banks
    r-below = (div-lt_iff_lt-mul {k = p.a} {x = k} {y = p.d} by-a.1).1 (omega (arith, h, mul_comm p.a p.d))

    slant-most : p.b * (i / C) ≤ 1024 * 4096
    slant-most =
        mul-le-mul {n₁ = p.b} {m₁ = i / C} {n₂ = 1024} {m₂ = 4096} (omega (arith, (plan_means p plan).b_below, by-a.2))
        (omega (arith, strip-below, ceiling_at_most H p.d by-d.1, by-d.0))

    column-small : column p C k i < 5120
    column-small =
        omega (
          arith,
          digits_below C p.a (mod-lt i across) (mod-lt (slanted p C k i) {m = p.a} by-a.1),
          rw (← e) at (blocks_at_most W p.a),
          by-a,
        )

    row_small : row p C k i < 5120
    row_small =
        omega (arith, digits_below (ceil_div H p.d) p.d strip-below r-below, blocks_at_most H p.d, by-d)

    slanted-small : slanted p C k i < 8388608
    slanted-small = omega (arith, slant-most, mod-lt k {m = p.a} by-a.1, by-a.2)

    read : (n : ℕ) → n < 5120 → to_z w16 n ≡ pos n
    read n small = to_z-of_z {z = pos n} (small_fits w16 5119 (pos n) (omega arith) (lit< tt))

    pixel-is : at (to_z w16 (column p C k i)) (to_z w16 (row p C k i)) ≡ pixel_of p W H k i
    unfolding pixel_of at
    pixel-is = rw (read (column p C k i) column-small, read (row p C k i) row_small, e)

    by-pixel : {u : Bool} → inside W H (at (to_z w16 (column p C k i)) (to_z w16 (row p C k i))) ≡ u → lacking ≡ not u
    by-pixel {u} g =
        lacking-is {s = false} {t = false} {u = u} (lt-leb (banks p) k h) (lt-leb (depth_of p W H) i l) (ap (inside W H) (sym pixel-is) ∙ g)

    pixel-there :
        inside W H (at (to_z w16 (column p C k i)) (to_z w16 (row p C k i))) ≡ true
        → Ok (to_z w16 (column p C k i), to_z w16 (row p C k i)) ≡ locate p W H k i
    unfolding at
    pixel-there g = ap (λ (v : Pixel). Ok (v.column, v.row)) pixel-is ∙ located (by-pixel g)

    is-there : There p W H k i C
    is-there =
        record {
          bank-small = bank-small;
          address-small = address-small;
          across = across;
          a-least = by-a.1;
          slanted-small = slanted-small;
          column-small = column-small;
          row_small = row_small;
          no-pixel = λ g. refused (by-pixel g);
          pixel = pixel-there;
        }

pub returns-then-banks-k : goal.returns-then-banks-k
returns-then-banks-k c =
    let l = c.args.self in
    no-bank _ _ _ _ _ l.tested.is l.sides (rw (← c.banks.ensures) c.if-banks-k.true)

-- the bank is there
bank-there : (c : Else-banks-k) → c.args.k < banks c.args.self.tested.plan
bank-there c = rw (← c.banks.ensures) c.if-banks-k.false

pub returns-then-depth_number-i : goal.returns-then-depth_number-i
returns-then-depth_number-i c =
    let l = c.args.self in
    no_address _ _ _ _ _ l.tested.is l.sides (bank-there c.before.before) (rw (← c.depth_number.ensures) c.if-depth_number-i.true)

pub rounded_up-across-requires : goal.rounded_up-across-requires
rounded_up-across-requires c = let l = c.args.self in (sides_round _ _ _ l.tested.is l.sides).0

-- the address is there too, and the width was divided
there :
    (c : goal.After-rounded_up-across) →
    let l = c.args.self in
    There l.tested.plan l.w l.h c.args.k c.args.i c.rounded_up-across.result
there c =
    let l = c.args.self in
    is-there _ _ _ _ _ l.tested.is l.sides (bank-there c.before.before.before) (rw (← c.depth_number.ensures) c.if-depth_number-i.false)
    c.rounded_up-across.ensures

pub returns-then-not-is_inside : goal.returns-then-not-is_inside
returns-then-not-is_inside c = (there c.before.before).no-pixel (fails c.is_inside.ensures c.if-not-is_inside.true-raw)

pub returns : goal.returns
returns c = (there c.before.before).pixel (holds c.is_inside.ensures c.if-not-is_inside.false-raw)

pub overflow_cast-bank : goal.overflow_cast-bank
overflow_cast-bank c =
    record { fits = omega (arith, (there c).bank-small) }

pub overflow_cast-address : goal.overflow_cast-address
overflow_cast-address c =
    record { fits = omega (arith, (there c).address-small) }

pub nonzero_div-q : goal.nonzero_div-q
nonzero_div-q c =
    (there c).across

pub nonzero_rem-column : goal.nonzero_rem-column
nonzero_rem-column c =
    (there c).across

pub overflow_mul-column : goal.overflow_mul-column
overflow_mul-column c =
    record { fits = omega (arith, (there c).column-small) }

pub nonzero_rem-column-2 : goal.nonzero_rem-column-2
nonzero_rem-column-2 c =
    (there c).a-least

pub overflow_mul-column-2 : goal.overflow_mul-column-2
overflow_mul-column-2 c =
    record { fits = omega (arith, (there c).slanted-small) }

pub overflow_add-column : goal.overflow_add-column
overflow_add-column c =
    record { fits = omega (arith, (there c).slanted-small) }

pub nonzero_rem-column-3 : goal.nonzero_rem-column-3
nonzero_rem-column-3 c =
    (there c).a-least

pub overflow_add-column-2 : goal.overflow_add-column-2
overflow_add-column-2 c =
    record { fits = omega (arith, (there c).column-small) }

pub overflow_cast-column : goal.overflow_cast-column
overflow_cast-column c =
    small_fits w16 5119 _ (omega (arith, (there c).column-small)) (lit< tt)

pub overflow_mul-row : goal.overflow_mul-row
overflow_mul-row c =
    record { fits = omega (arith, (there c).row_small) }

pub nonzero_div-row : goal.nonzero_div-row
nonzero_div-row c =
    (there c).a-least

pub overflow_add-row : goal.overflow_add-row
overflow_add-row c =
    record { fits = omega (arith, (there c).row_small) }

pub overflow_cast-row : goal.overflow_cast-row
overflow_cast-row c =
    small_fits w16 5119 _ (omega (arith, (there c).row_small)) (lit< tt)
