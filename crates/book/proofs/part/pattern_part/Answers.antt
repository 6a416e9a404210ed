-- `book::part::pattern_part` meets its contract: the part begins after the pixel count, at the place of the first pixel.
-- Assumes nothing.
use Rattle.std.specs.Prelude.{Result, Ok, Err}
use Prim.Native.Nat.{ℕ, ◌+◌, ◌*◌, ◌-◌, ◌≤◌}
use native.Mathlib.Omega.{arith}
use mathlib.Core.Path.{◌≡◌, ap, ap₂}
use mathlib.Core.List.{List, []}
use lib.ListN.{length, take, drop}
use Rattle.scope.specs.Books.{byte, start, part_in}
use Rattle.scope.specs.Calls.{part_outcome, pattern_part, part_place}
use Rattle.scope.specs.declared.Refusal.{Refusal}
use Rattle.checks.proofs.Chains.{gives_value, gives_refusal}
use Rattle.book.proofs.PartAnswers.{refused_part_lem, taken_part, refused_place, start_shows, taken_place, taken_bounds}
use Rattle.book.proofs.part.pattern_part.Goals as goal

module _ (s : List ℕ) (n : ℕ) {outcome : Result Unit Refusal} (answer : outcome ≡ part_outcome s n) where
  -- a refused part is empty, and at the start
  module _ {r : Refusal} (refused : outcome ≡ Err r) where
    empty-part : [] ≡ pattern_part s n
    unfolding pattern_part
    empty-part = gives_refusal (refused_part_lem s n answer refused) (λ r. []) (part_in s n)

    at-start : (p : ℕ × ℕ) → ◌≡◌ {A = ℕ × ℕ} (p.0, 0 + p.1) (p.0, p.1 + part_place s n)
    at-start p = ap {B = ℕ × ℕ} (λ k. (p.0, k)) (omega (arith, refused_place s n answer refused))

  -- else its pattern is one of a book's, and it is what stands from the first pixel's place on
  module _ (done : outcome ≡ Ok tt) {at : ℕ} (is : at ≡ start s n) where
    part-there : take (at + 1 + 2 * byte s at - (at + 1)) (drop (at + 1) s) ≡ pattern_part s n
    unfolding pattern_part part_in
    part-there =
        let size : at + 1 + 2 * byte s at - (at + 1) ≡ 2 * byte s (start s n) = omega (arith, ap (byte s) is) in
        let begin : at + 1 ≡ start s n + 1 = omega (arith, is) in
        gives_value (taken_part s n answer done) (λ r. []) (ap₂ (λ k i. take k (drop i s)) size begin)

    at-first-pixel : (p : ℕ × ℕ) → ◌≡◌ {A = ℕ × ℕ} (p.0, at + 1 + p.1) (p.0, p.1 + part_place s n)
    at-first-pixel p = ap {B = ℕ × ℕ} (λ k. (p.0, k)) (omega (arith, taken_place s n answer done is))

    -- the counts are legal, and it is inside
    bounds : (byte s at ≤ 64) × (at + 1 + 2 * byte s at ≤ length s)
    bounds = let b = taken_bounds s n answer done is in (b.1, b.2)

pub returns-in-Err : goal.returns-in-Err
returns-in-Err c =
    let answer = c.part_outcome-outcome.ensures in
    let refused = c.in-Err.is in
    record { content = empty-part _ _ answer refused; place = at-start _ _ answer refused _ }

pub start_of-at-requires : goal.start_of-at-requires
start_of-at-requires c = start_shows _ _ c.part_outcome-outcome.ensures c.in_default.is

pub returns : goal.returns
unfolding byte
returns c =
    let answer = c.part_outcome-outcome.ensures in
    let done = c.in_default.is in
    record {
      content = part-there _ _ answer done c.start_of-at.ensures;
      place = at-first-pixel _ _ answer done c.start_of-at.ensures _;
    }

pub overflow_add-first : goal.overflow_add-first
overflow_add-first c = omega (arith, bounds _ _ c.part_outcome-outcome.ensures c.in_default.is c.start_of-at.ensures)

pub bounds-s-at : goal.bounds-s-at
bounds-s-at c = omega (arith, bounds _ _ c.part_outcome-outcome.ensures c.in_default.is c.start_of-at.ensures)

pub overflow_cast-end : goal.overflow_cast-end
overflow_cast-end c = omega (arith, bounds _ _ c.part_outcome-outcome.ensures c.in_default.is c.start_of-at.ensures)

pub overflow_mul-end : goal.overflow_mul-end
overflow_mul-end c = omega (arith, bounds _ _ c.part_outcome-outcome.ensures c.in_default.is c.start_of-at.ensures)

pub overflow_add-end : goal.overflow_add-end
overflow_add-end c = omega (arith, bounds _ _ c.part_outcome-outcome.ensures c.in_default.is c.start_of-at.ensures)

pub slice_bounds-result-end-2 : goal.slice_bounds-result-end-2
unfolding byte
slice_bounds-result-end-2 c = (bounds _ _ c.part_outcome-outcome.ensures c.in_default.is c.start_of-at.ensures).1
