-- `finder::cells::Cells::book_crowded` meets its contract.
-- Assumes nothing.
use Prim.Native.Nat.{ℕ}
use mathlib.Core.Path.{refl, ◌∙◌}
use mathlib.Core.Bool.{not}
use borrow.Author.Tests.{tests}
use Rattle.std.proofs.Common.{rules}
use Rattle.std.proofs.lemmas.Iterator.{YieldsList-from_range}
use Rattle.std.proofs.lemmas.Iterator.Search.{any_from_yields_List}
use Rattle.scope.specs.Cycles.{suits_for}
use Rattle.book.proofs.RangeTests.{any_below}
use Rattle.finder.specs.Counting.{pattern_in}
use Rattle.finder.proofs.cells.Cells.book_crowded.Goals as goal

pub returns : goal.returns
returns c =
    let test = λ (n : ℕ). not (suits_for c.args.self.now.r c.args.tables.now.tested.plan (pattern_in c.args.self.now.entries n)) in
    any_from_yields_List test _ _ _ c.any.ensures.ran (YieldsList-from_range 0 16 16 (cc) refl) (λ x b q k. search (rules, tests))
    ∙ any_below test 16
