-- The reverse map gives the pixel of a bank and address, and refuses by 15 exactly where no pixel of the picture has them.
-- Assumes nothing.
use Prim.Native.Nat.{ℕ, ◌+◌, ◌*◌, ◌/◌, ◌%◌, ◌<◌}
use mathlib.Core.Path.{◌≡◌, refl, sym, ◌∙◌, ap}
use mathlib.Core.Bool.{Bool, true, false, not, ◌||◌}
use mathlib.Core.Logic.{◌⊎◌, inl, inr}
use mathlib.Core.Option.{none, some}
use mathlib.Core.List.{[], ◌∷◌}
use native.Mathlib.Nat.{div-add-mod', mod-lt}
use lib.Dec.{leb}
use lib.IntN.{pos, ◌-ℤ◌}
use Rattle.integers.proofs.Integers.{pos_injective}
use Rattle.integers.proofs.Ring.{ring, linear, ◌·◌, reify}
use Rattle.scope.specs.Search.{first_of, whenever}
use Rattle.scope.specs.Plans.{Pixel, banks}
use Rattle.scope.specs.Banks.{bank_of, inside, across, address_of, depth_of, pixel_of}
use Rattle.scope.specs.Numbers.{value, refusal, of_located, cell_test}
use Rattle.scope.specs.Calls.{answered, locate}
use Rattle.scope.specs.promises.Meaning.{IsPlan, IsSide, Inside}
use Rattle.scope.specs.promises.PicturePromises.{ReverseMap}
use Rattle.scope.specs.declared.Plan.{Plan}
use Rattle.scope.specs.declared.Refusal.{Refusal}
use Rattle.checks.proofs.Searches.{some_whenever, none_whenever}
use Rattle.checks.proofs.Chains.{value_not_refusal, value_injective}
use Rattle.checks.proofs.Tests.{plan_legal_iff, sides_legal_iff, cell_legal_iff}
use Rattle.integers.proofs.Digits.{upper_digit}
use Rattle.lattice.proofs.SameBank.{bank_is, bank_below_count, upper_digit_below}
use Rattle.lattice.proofs.Words.{address_of_inside, address_below_depth, reverse_undoes}

module _ (p : Plan) (plan : IsPlan p) (W H k i : ℕ) where
  -- the bank of the reverse map's pixel is the bank it was given
  bank_of_reverse : k < banks p → bank_of p (pixel_of p W H k i) ≡ k
  unfolding pixel_of
  bank_of_reverse k-below =
      let q : ℕ = i / across p W in
      let s : ℕ = k % p.a + p.b * q in
      let u : ℕ = i % across p W in
      bank_is p plan (pixel_of p W H k i) (pos q) (pos u -ℤ pos (s / p.a)) (k / p.a) (k % p.a)
      (upper_digit_below p plan k k-below)
      (mod-lt k plan.a_least)
      refl
      (linear ((pos 1 · ap pos (div-add-mod' s p.a)) ∷ [])
      (ring
      (pos u ∷ pos p.a ∷ pos p.b ∷ pos q ∷ pos (k % p.a) ∷ pos (s / p.a) ∷ pos (s % p.a) ∷ [])
      (search reify depth 40 fits 9000)
      refl))
      ∙ div-add-mod' k p.a

  -- and so is its address, where the pixel is inside
  address_of_reverse : k < banks p → Inside W H (pixel_of p W H k i) → address_of p W H (pixel_of p W H k i) ≡ i
  unfolding pixel_of
  address_of_reverse k-below within =
      let q : ℕ = i / across p W in
      let s : ℕ = k % p.a + p.b * q in
      let u : ℕ = i % across p W in
      address_of_inside p within
      ∙ rw (
        ← (pos_injective within.row),
        ← (pos_injective within.column),
        upper_digit q p.d (k / p.a) (upper_digit_below p plan k k-below),
        upper_digit u p.a (s % p.a) (mod-lt s plan.a_least),
      )
      (div-add-mod' i (across p W))

-- 15 is refused or not
cell_refused_or_not : (p : Plan) (W H k i : ℕ) → (cell_test p W H k i ≡ none) ⊎ (cell_test p W H k i ≡ some Refusal.Cell)
unfolding cell_test
cell_refused_or_not p W H k i = either (leb (banks p) k || leb (depth_of p W H) i || not (inside W H (pixel_of p W H k i)))
  where
    either : (test : Bool) → (whenever test Refusal.Cell ≡ none) ⊎ (whenever test Refusal.Cell ≡ some Refusal.Cell)
    either true = inr (some_whenever true Refusal.Cell refl)
    either false = inl (none_whenever false Refusal.Cell refl)

module _ (p : Plan) (W H : ℕ) (plan : IsPlan p) (w_side : IsSide W) (h_side : IsSide H) where
  -- under a plan and with legal sides, 15 alone decides what the reverse map answers
  located_where_no_cell_refused : (k i : ℕ) → cell_test p W H k i ≡ none → of_located (locate p W H k i) ≡ value (pixel_of p W H k i)
  unfolding locate answered first_of
  located_where_no_cell_refused k i e =
      rw (locate, (plan_legal_iff p).1 plan, (sides_legal_iff W H).1 (w_side, h_side), e)

  refused_where_cell_refused : (k i : ℕ) → cell_test p W H k i ≡ some Refusal.Cell → of_located (locate p W H k i) ≡ refusal 15 0 none
  unfolding locate answered first_of
  refused_where_cell_refused k i e =
      rw (locate, (plan_legal_iff p).1 plan, (sides_legal_iff W H).1 (w_side, h_side), e)

  -- it undoes bank and address
  located_of_inside : (v : Pixel) → Inside W H v → of_located (locate p W H (bank_of p v) (address_of p W H v)) ≡ value v
  located_of_inside v u =
      let back : pixel_of p W H (bank_of p v) (address_of p W H v) ≡ v = reverse_undoes p plan u in
      located_where_no_cell_refused (bank_of p v) (address_of p W H v)
      ((cell_legal_iff p W H (bank_of p v) (address_of p W H v)).1
      (bank_below_count p plan v, address_below_depth p plan u, rw back u))
      ∙ ap value back

  -- where 15 does not hold, the reverse map's pixel is inside and has the bank and the address
  cell_of_reverse :
      (k i : ℕ) → cell_test p W H k i ≡ none
      → Inside W H (pixel_of p W H k i) × (bank_of p (pixel_of p W H k i) ≡ k) × (address_of p W H (pixel_of p W H k i) ≡ i)
  cell_of_reverse k i e =
      let (k-below, i_below, within) = (cell_legal_iff p W H k i).0 e in
      (within, bank_of_reverse p plan W H k i k-below, address_of_reverse p plan W H k i k-below within)

  cell_of_located :
      (k i : ℕ) (v : Pixel) → of_located (locate p W H k i) ≡ value v
      → Inside W H v × (bank_of p v ≡ k) × (address_of p W H v ≡ i)
  cell_of_located k i v e = by_test (cell_refused_or_not p W H k i)
    where
      by_test :
          (cell_test p W H k i ≡ none) ⊎ (cell_test p W H k i ≡ some Refusal.Cell)
          → Inside W H v × (bank_of p v ≡ k) × (address_of p W H v ≡ i)
      by_test (inl h) = rw (value_injective (sym (located_where_no_cell_refused k i h) ∙ e)) at (cell_of_reverse k i h)
      by_test (inr h) = absurd (value_not_refusal (sym e ∙ refused_where_cell_refused k i h))

  refused_means_no_pixel :
      (k i : ℕ) → of_located (locate p W H k i) ≡ refusal 15 0 none → (v : Pixel) → Inside W H v → bank_of p v ≡ k
      → address_of p W H v ≡ i
      → ⊥
  refused_means_no_pixel k i e v u bank address = value_not_refusal (sym (rw (bank, address) at (located_of_inside v u)) ∙ e)

  no_pixel_means_refused :
      (k i : ℕ) → ((v : Pixel) → Inside W H v → bank_of p v ≡ k → address_of p W H v ≡ i → ⊥)
      → of_located (locate p W H k i) ≡ refusal 15 0 none
  no_pixel_means_refused k i no_pixel = by_test (cell_refused_or_not p W H k i)
    where
      by_test :
          (cell_test p W H k i ≡ none) ⊎ (cell_test p W H k i ≡ some Refusal.Cell)
          → of_located (locate p W H k i) ≡ refusal 15 0 none
      by_test (inl h) = let (within, bank, address) = cell_of_reverse k i h in absurd (no_pixel (pixel_of p W H k i) within bank address)
      by_test (inr h) = refused_where_cell_refused k i h

-- The reverse map undoes bank and address, gives only what it undoes, and refuses exactly where there is no pixel.
pub reverse_map : ReverseMap
reverse_map p W H plan w_side h_side =
    record {
      undone = located_of_inside p W H plan w_side h_side;
      given = cell_of_located p W H plan w_side h_side;
      refused = λ k i. (refused_means_no_pixel p W H plan w_side h_side k i, no_pixel_means_refused p W H plan w_side h_side k i);
    }
