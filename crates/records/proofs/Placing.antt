-- One record: what its pixel's address and bank tell of it.
-- Assumes nothing.
use Rattle.std.specs.Prelude.{is_ok, Result, Ok, Err}
use Prim.Native.Nat.{ℕ, ◌<◌, ◌^◌}
use native.Mathlib.Omega.{arith}
use mathlib.Core.Path.{◌≡◌, refl, sym, ◌∙◌, ap}
use mathlib.Core.Bool.{true, false}
use mathlib.Core.Option.{Option, none}
use mathlib.Core.List.Memᴰ
use mathlib.Core.List.{[], ◌∷◌}
use lib.Signed.{mag}
use mir.Syntax.{w16}
use mir.Val.{hbits, to_z, of_z}
use Rattle.integers.proofs.Raised.{number_handed}
use Rattle.scope.specs.Search.{first_of}
use Rattle.scope.specs.Plans.{Pixel, at, banks}
use Rattle.scope.specs.Banks.{bank_of, address_of}
use Rattle.scope.specs.Numbers.{plan_test, sides_test, outside_test}
use Rattle.scope.specs.Calls.{bank, address, record_pixel, placed}
use Rattle.scope.specs.promises.Meaning.{IsPlan, IsSide, AllInside}
use Rattle.scope.specs.declared.Plan.{Plan}
use Rattle.scope.specs.declared.PixelRecord.{PixelRecord}
use Rattle.scope.specs.declared.Refusal.{Refusal}
use Rattle.scope.proofs.PlanFacts.{entry_handed}
use Rattle.checks.proofs.Searches.{none_not_some}
use Rattle.checks.proofs.Tests.{plan_legal_iff}
use Rattle.lattice.proofs.SameBank.{bank_below_count}
use Rattle.lattice.proofs.Words.{address_below_depth, depth_at_most}
use Rattle.checks.proofs.CountedAnswers.{number_shows, refusal_shows}
use Rattle.checks.proofs.Legal.{fill_test_iff}
use Rattle.records.specs.Filling.{is_placeable, placed_if}

-- a record's pixel handed to a callee is its pixel
record_pixel_handed :
    (r : PixelRecord) → mag r.column < 2 ^ hbits w16 → mag r.row < 2 ^ hbits w16
    → at (to_z w16 (of_z w16 r.column)) (to_z w16 (of_z w16 r.row)) ≡ record_pixel r
unfolding record_pixel at
record_pixel_handed r f g = entry_handed w16 r.column r.row f g

-- and so is a record whose pixel was read and put again
pub record_put :
    (r : PixelRecord) (k u : ℕ) → mag r.column < 2 ^ hbits w16 → mag r.row < 2 ^ hbits w16
    → ◌≡◌ {A = PixelRecord}
    (record { column = to_z w16 (of_z w16 r.column); row = to_z w16 (of_z w16 r.row); bank = k; address = u })
    (record { column = r.column; row = r.row; bank = k; address = u })
record_put r k u f g = rw (number_handed w16 f, number_handed w16 g)

-- what the address's and the bank's calls answered, of the record's pixel
module _ (r : PixelRecord) (f : mag r.column < 2 ^ hbits w16) (g : mag r.row < 2 ^ hbits w16) where
  abbrev handed : Pixel
  handed = at (to_z w16 (of_z w16 r.column)) (to_z w16 (of_z w16 r.row))

  pub address_handed : {A : Result ℕ Refusal} (p : Plan) (W H : ℕ) → A ≡ address p W H handed → A ≡ address p W H (record_pixel r)
  address_handed p W H e = rw (record_pixel_handed r f g) at e

  pub bank_handed : {B : Result ℕ Refusal} (p : Plan) → B ≡ bank p handed → B ≡ bank p (record_pixel r)
  bank_handed p e = rw (record_pixel_handed r f g) at e

module _ (p : Plan) (W H : ℕ) (r : PixelRecord) where
  abbrev v : Pixel
  v = record_pixel r

  abbrev tests : Option Refusal
  tests = first_of (plan_test p ∷ sides_test W H ∷ outside_test W H (v ∷ []) ∷ [])

  -- by what the address's call answered
  module _ {A : Result ℕ Refusal} (told_address : A ≡ address p W H v) where
    pub no_address : {q : Refusal} → A ≡ Err q → is_placeable p W H r ≡ false
    unfolding is_placeable
    no_address e = ap is_ok (sym told_address ∙ e)

    pub has_address : {u : ℕ} → A ≡ Ok u → is_placeable p W H r ≡ true
    unfolding is_placeable
    has_address e = ap is_ok (sym told_address ∙ e)

    pub kept : {q : Refusal} → A ≡ Err q → r ≡ placed_if p W H r
    unfolding placed_if
    kept e = sym (rw (no_address e, placed_if))

    module _ {u : ℕ} (u_is : A ≡ Ok u) where
      address_shows : (tests ≡ none) × (address_of p W H v ≡ u)
      unfolding address
      address_shows = number_shows tests (address_of p W H v) told_address u_is

      legal : IsPlan p × ((IsSide W × IsSide H) × AllInside W H (v ∷ []))
      legal = (fill_test_iff p W H (v ∷ [])).0 address_shows.0

      pub address_small : u < 4294967296
      address_small =
          omega (
            arith,
            rw address_shows.1 at
                (address_below_depth p legal.0 (legal.1.1 v (Memᴰ.head refl))),
            depth_at_most p W H legal.0 legal.1.0.0 legal.1.0.1,
          )

      -- and by what the bank's call answered
      module _ {B : Result ℕ Refusal} (told_bank : B ≡ bank p v) where
        pub no_bank : {q : Refusal} → B ≡ Err q → ⊥
        unfolding bank
        no_bank e = none_not_some (sym ((plan_legal_iff p).1 legal.0) ∙ refusal_shows (plan_test p) (bank_of p v) told_bank e)

        module _ {k : ℕ} (k_is : B ≡ Ok k) where
          bank_shows : bank_of p v ≡ k
          unfolding bank
          bank_shows = (number_shows (plan_test p) (bank_of p v) told_bank k_is).1

          pub bank_small : k < 4294967296
          unfolding banks
          bank_small = omega (arith, rw bank_shows at (bank_below_count p legal.0 v), legal.0.most)

          pub is_placed : record { column = r.column; row = r.row; bank = k; address = u } ≡ placed_if p W H r
          unfolding placed_if placed
          is_placed = sym (rw (has_address u_is, placed_if, bank_shows, address_shows.1))
