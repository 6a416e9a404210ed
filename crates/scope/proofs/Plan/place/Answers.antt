-- `scope::Plan::place` meets its contract: 11, 12, 14, then the bank and the word.
-- Assumes nothing.
use Rattle.std.specs.Prelude.{Ok, Err}
use mathlib.Core.Path.{◌∙◌, ◌≡◌, ap, ap₂}
use Prim.Native.Nat.{ℕ}
use Rattle.scope.specs.Plans.{Pixel}
use Rattle.scope.specs.Banks.{bank_of, word_of}
use Rattle.scope.specs.code.Words.{place}
use Rattle.scope.specs.declared.Plan.{Plan}
use Rattle.scope.specs.declared.Place.{Place}
use Rattle.scope.proofs.Chains.{handed_on, done_found_nothing, refused_found, gives_value}
use Rattle.scope.proofs.PlanFacts.{pixel_handed}
use Rattle.scope.proofs.MethodAnswers.{pixel_done, refusal_told}
use Rattle.scope.proofs.Plan.place.Goals as goal

abbrev both : Plan → ℕ → ℕ → Pixel → Place
both p W H v = record { bank = bank_of p v; word = word_of p W H v }

are-both : {k n : ℕ} {x : Place} → (x.bank ≡ k) × (x.word ≡ n) → x ≡ record { bank = k; word = n }
are-both (bank, word) = ap₂ (λ (k n : ℕ). record { bank = k; word = n }) bank word

pub returns-in_err-pixel_outcome : goal.returns-in_err-pixel_outcome
unfolding place
returns-in_err-pixel_outcome c =
    let found = refused_found _ c.pixel_outcome.ensures c.in_err-pixel_outcome.was in
    handed_on _ c.from_residual.ensures ∙ (let u = c.args in
    refusal_told Err Ok both u.self u.w u.h (pixel_handed c.ranges.i c.ranges.j) found)

pub invariant_of-tested : goal.invariant_of-tested
invariant_of-tested c =
    let (plan, sides, pixel) = pixel_done _ _ _ _ c.pixel_outcome.ensures c.in_ok-pixel_outcome.was in
    record { is = plan }

pub invariant_of-layout : goal.invariant_of-layout
invariant_of-layout c =
    let (plan, sides, pixel) = pixel_done _ _ _ _ c.pixel_outcome.ensures c.in_ok-pixel_outcome.was in
    record { sides = sides }

pub invariant_of-place_numbers : goal.invariant_of-place_numbers
invariant_of-place_numbers c =
    let (plan, sides, pixel) = pixel_done _ _ _ _ c.pixel_outcome.ensures c.in_ok-pixel_outcome.was in
    record { there = pixel }

pub returns : goal.returns
unfolding place
returns c =
    let passed = done_found_nothing _ c.pixel_outcome.ensures c.in_ok-pixel_outcome.was in
    rw (← pixel_handed c.ranges.i c.ranges.j) (gives_value passed Err (ap Ok (are-both c.place_numbers.ensures)))
