-- What filling a record list asks of one record, and the answer for the whole list.
-- Assumes nothing.
use Rattle.std.specs.Prelude.{ℕ, Bool, true, false, not, [], ◌∷◌, is_ok, Result, Ok, Err}
use Rattle.scope.specs.Search.{whenever, first_of}
use Rattle.scope.specs.Numbers.{plan_test, sides_test}
use Rattle.scope.specs.Calls.{answered, address, record_pixel, placed}
use Rattle.scope.specs.declared.Plan.{Plan}
use Rattle.scope.specs.declared.PixelRecord.{PixelRecord}
use Rattle.scope.specs.declared.Refusal.{Refusal}

-- the record's pixel has an address: none of 11, 12, 14 holds of it
unfoldable pub is_placeable : Plan → ℕ → ℕ → PixelRecord → Bool
unfolding address record_pixel
is_placeable p W H r = is_ok (address p W H (record_pixel r))

-- the record with its bank and address, or as it was
unfoldable pub placed_if : Plan → ℕ → ℕ → PixelRecord → PixelRecord
unfolding is_placeable placed
placed_if p W H r = elim (is_placeable p W H r) [ true ↦ placed p W H r | false ↦ r ]

-- the answer for a list whose pixels are all inside, or not
unfoldable pub fill_answer : Plan → ℕ → ℕ → Bool → Result Unit Refusal
unfolding answered first_of whenever plan_test sides_test
fill_answer p W H inside =
    answered (first_of (plan_test p ∷ sides_test W H ∷ whenever (not inside) Refusal.Outside ∷ [])) Err (Ok tt)
