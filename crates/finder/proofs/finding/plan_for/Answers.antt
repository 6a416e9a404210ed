-- `finder::finding::plan_for` meets its contract: the search by the book's marks for r = 1, and by its cells for any other.
-- Assumes nothing.
use Rattle.std.specs.Prelude.{Result}
use Prim.Native.Nat.{ℕ}
use mathlib.Core.Path.{◌≡◌, sym, ap}
use mathlib.Core.Option.{none}
use mathlib.Core.List.{List}
use Rattle.scope.specs.Plans.{patterns}
use Rattle.scope.specs.Finding.{least_of}
use Rattle.scope.specs.Numbers.{record_test}
use Rattle.scope.specs.Cycles.{suitable_for, least_plan_for}
use Rattle.scope.specs.Calls.{found}
use Rattle.scope.specs.declared.Book.{Book}
use Rattle.scope.specs.declared.Plan.{Plan}
use Rattle.scope.specs.declared.Refusal.{Refusal}
use Rattle.finder.specs.Table.{mark_book, TestOf}
use Rattle.finder.specs.Counting.{cells_of, CellTest}
use Rattle.finder.specs.Searching.{Searched}
use Rattle.finder.proofs.finding.plan_for.Goals as goal

-- what a search by a book's marks or cells gives
module _ (book : Book) (legal : record_test book ≡ none) (r limit : ℕ) {result : Result Plan Refusal} where
  by_marks :
      (marks : List ℕ) → Searched (TestOf marks) (λ test. least_of test limit) result → marks ≡ mark_book book book.count → r ≡ 1
      → result ≡ found (least_plan_for r (patterns book) limit)
  by_marks marks searched is one =
      searched.is (suitable_for r (patterns book))
      (record { book = book; legal = legal; table = is; is = ap (λ (r : ℕ). suitable_for r (patterns book)) one })

  by_cells :
      (s : ℕ) (entries : List ℕ) → Searched (CellTest s entries) (λ test. least_of test limit) result
      → (entries ≡ cells_of book) × (s ≡ r)
      → result ≡ found (least_plan_for r (patterns book) limit)
  by_cells s entries searched is =
      searched.is (suitable_for r (patterns book))
      (record { book = book; legal = legal; entries = is.0; is = ap (λ (r : ℕ). suitable_for r (patterns book)) (sym is.1) })

pub returns-then-r-eq1 : goal.returns-then-r-eq1
returns-then-r-eq1 c = by_marks _ c.requires.0 _ _ _ c.least_plan.ensures c.mark_book.ensures c.if-r-eq1.true

pub returns-else-r-eq1 : goal.returns-else-r-eq1
returns-else-r-eq1 c = by_cells _ c.requires.0 _ _ _ _ c.least_plan-else-r-eq1.ensures c.put_book.ensures
