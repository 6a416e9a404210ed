-- What the answer of `part_outcome` tells: whether the part was refused, and where it begins.
-- Assumes nothing.
use Rattle.std.specs.Prelude.{Result, Ok, Err}
use Prim.Native.Nat.{ℕ, ◌+◌, ◌*◌, ◌≤◌, ◌<◌}
use native.Mathlib.Omega.{arith}
use mathlib.Core.Path.{◌≡◌}
use mathlib.Core.Option.{none, some}
use mathlib.Core.List.{List}
use lib.ListN.{length}
use Rattle.scope.specs.Books.{byte, start}
use Rattle.scope.specs.Numbers.{bytes_test}
use Rattle.scope.specs.Calls.{part_test, part_outcome, part_place}
use Rattle.scope.specs.declared.Refusal.{Refusal}
use Rattle.checks.proofs.Chains.{answered_none, gives_refusal}
use Rattle.book.proofs.Outcomes.{done_found_nothing, refused_found}
use Rattle.book.proofs.Parts.{part_test_iff}
use Rattle.book.proofs.Taken.{pattern_bounds}

module _ (s : List ℕ) (n : ℕ) {outcome : Result Unit Refusal} (answer : outcome ≡ part_outcome s n) where
  module _ {r : Refusal} (refused : outcome ≡ Err r) where
    pub refused_part_lem : part_test s n ≡ some r
    unfolding part_outcome
    refused_part_lem = refused_found (part_test s n) answer refused

    pub refused_place : 0 ≡ part_place s n
    unfolding part_place
    refused_place = gives_refusal refused_part_lem (λ r. 0) (start s n + 1)

  module _ (done : outcome ≡ Ok tt) where
    pub taken_part : part_test s n ≡ none
    unfolding part_outcome
    taken_part = done_found_nothing (part_test s n) answer done

    part_in_book : (bytes_test s ≡ none) × (n < byte s 0)
    part_in_book = (part_test_iff s n).0 taken_part

    -- what `start_of` requires
    pub start_shows : (bytes_test s ≡ none) × (n ≤ byte s 0)
    start_shows = (part_in_book.0, omega (arith, part_in_book.1))

    -- the part begins after the pixel count, at the place of the first pixel; the counts are legal, and it is inside
    module _ {at : ℕ} (is : at ≡ start s n) where
      pub taken_place : at + 1 ≡ part_place s n
      unfolding part_place
      taken_place = omega (arith, is, answered_none (part_test s n) (λ r. 0) (start s n + 1) taken_part)

      pub taken_bounds : (n < 16) × (byte s at ≤ 64) × (at + 1 + 2 * byte s at ≤ length s)
      taken_bounds = pattern_bounds s part_in_book.0 n is part_in_book.1
