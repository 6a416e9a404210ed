-- What a book's table tells of a plan on trial.
-- Assumes nothing.
use Rattle.std.specs.Prelude.{Ok}
use Prim.Native.Nat.{ℕ, ◌+◌, ◌*◌, ◌≤◌, ◌<◌}
use native.Mathlib.Omega.{arith}
use mathlib.Core.Path.{◌≡◌, refl, sym, ◌∙◌, ap, ap₂}
use mathlib.Core.Bool.{Bool, true, false, not, ◌&&◌}
use mathlib.Core.List.{List}
use Rattle.scope.specs.Search.{whenever}
use Rattle.scope.specs.Plans.{plan}
use Rattle.scope.specs.Finding.{trial}
use Rattle.scope.specs.Calls.{found}
use Rattle.scope.specs.declared.Plan.{Plan}
use Rattle.scope.proofs.MethodAnswers.{fails, holds}
use Rattle.finder.specs.Table.{row_marked, rows_marked, TestOf}
use Rattle.finder.specs.Searching.{Searched}
use Rattle.checks.proofs.BookTests.{book_legal_iff}
use Rattle.finder.proofs.Tables.{suits_by_table}
use Rattle.finder.proofs.OneCycle.{suits_all_one}
use Rattle.finder.proofs.PlanLoops.{no_plan, trial_gives}

-- A plan suits where neither its row 0 nor a row above is marked.
module _ {marks : List ℕ} {a b d : ℕ} (d_least : 1 ≤ d) (b_below : b < a) where
  trial_by_table :
      {x : Bool} → not (row_marked marks a 0 (31 + a)) && not (rows_marked marks a b d) ≡ x
      → Searched (TestOf marks) (λ test. trial test (a * d) b d) (found (whenever x (plan a b d)))
  unfolding plan
  trial_by_table unmarked =
      trial_gives d_least b_below (λ test t.
      ap (λ (f : Plan → Bool). f (plan a b d)) t.is
      ∙ suits_all_one t.book ((book_legal_iff t.book).0 t.legal) (plan a b d) (omega arith) d_least
      ∙ suits_by_table t.book t.legal a b d d_least b_below
      ∙ ap (λ (m : List ℕ). not (row_marked m a 0 (31 + a)) && not (rows_marked m a b d)) (sym t.table)
      ∙ unmarked)

  -- what the code's tests of the rows tell
  pub row_marked_none :
      {r : Bool} → r ≡ row_marked marks a 0 (31 + a) → r ≡ true → Searched (TestOf marks) (λ test. trial test (a * d) b d) no_plan
  unfolding found whenever
  row_marked_none is e = trial_by_table (ap (λ (x : Bool). not x && not (rows_marked marks a b d)) (sym is ∙ e))

  pub rows_marked_none :
      {r : Bool} → r ≡ rows_marked marks a b d → not r ≡ false → Searched (TestOf marks) (λ test. trial test (a * d) b d) no_plan
  unfolding found whenever
  rows_marked_none is e = trial_by_table (both (row_marked marks a 0 (31 + a)) (rows_marked marks a b d) (holds is e))
    where
      both : (x y : Bool) → y ≡ true → not x && not y ≡ false
      both true y h = refl
      both false y h = ap not h

  pub unmarked_found :
      {r q : Bool} → r ≡ row_marked marks a 0 (31 + a) → r ≡ false → q ≡ rows_marked marks a b d → not q ≡ true
      → Searched (TestOf marks) (λ test. trial test (a * d) b d) (Ok (plan a b d))
  unfolding found whenever
  unmarked_found row e rows h = trial_by_table (ap₂ (λ (x y : Bool). not x && not y) (sym row ∙ e) (fails rows h))
