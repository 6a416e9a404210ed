-- A loop that tests a pattern's pixels one after the other, by the cells of those before: it answers with the first refusal.
-- Assumes nothing.
use Rattle.std.specs.Prelude.{Result, Ok, Err}
use Prim.Native.Nat.{ℕ, ◌+◌, ◌≤◌, ◌<◌}
use native.Mathlib.Omega.{arith}
use mathlib.Core.Path.{◌≡◌, sym, ◌∙◌, ap}
use mathlib.Core.Option.{Option, none}
use mathlib.Core.List.{List}
use lib.ListN.{replicate}
use borrow.Author.Count.{below_none, below_more}
use Rattle.scope.specs.Search.{first}
use Rattle.scope.specs.Plans.{Pixel}
use Rattle.scope.specs.Numbers.{pixel_test}
use Rattle.scope.specs.declared.Refusal.{Refusal}
use Rattle.book.specs.Scan.{outcome_of, Passed, Tested}
use Rattle.book.proofs.Outcomes.{done_found_nothing, refused_found, refused_at, done_after}
use Rattle.book.proofs.PixelTests.{none_passed}

-- The pixels before position e have passed their tests, and the entries are theirs.
pub record PixelsPassed (test : ℕ → Option Refusal) (pixel : ℕ → Pixel) (least : List ℕ) (e : ℕ) : Type 0 where
  pub before : (l : ℕ) → l < e → test l ≡ none
  pub passed : Passed least pixel e

pub no_pixel_passed : (test : ℕ → Option Refusal) (pixel : ℕ → Pixel) → PixelsPassed test pixel (replicate 65 0) 0
no_pixel_passed test pixel = record { before = below_none _; passed = none_passed pixel }

-- The pixel at position e was tested, and its test is that of the pattern at e.
module _
    {test : ℕ → Option Refusal} {pixel : ℕ → Pixel} {least after : List ℕ} {e i j : ℕ} {v : Pixel} {outcome : Result Unit Refusal}
    (before : PixelsPassed test pixel least e) (tested : Tested i j e v least after outcome) (is : pixel e ≡ v)
    (here : test e ≡ pixel_test i j pixel e) where
  of_test : outcome ≡ outcome_of (test e)
  of_test = tested.answer pixel before.passed is ∙ ap outcome_of (sym here)

  pub pixel_not_taken :
      {n : ℕ} {r : Refusal} → e < n → outcome ≡ Err r → outcome ≡ outcome_of (first 0 n test)
  pixel_not_taken below refused =
      refused ∙ refused_at before.before below (refused_found (test e) of_test refused)

  pub one_more_pixel : outcome ≡ Ok tt → PixelsPassed test pixel after (e + 1)
  one_more_pixel done =
      record {
        before = below_more _ _ before.before (done_found_nothing (test e) of_test done);
        passed = tested.passed pixel before.passed is done;
      }

pub all_pixels_passed :
    {test : ℕ → Option Refusal} {pixel : ℕ → Pixel} {least : List ℕ} {n e : ℕ} → PixelsPassed test pixel least e → n ≤ e
    → (Ok tt) ≡ outcome_of (first 0 n test)
all_pixels_passed passed over = done_after (λ l h. passed.before l (omega arith))
