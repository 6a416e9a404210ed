-- `book::cells::is_among` meets its contract.
-- Assumes nothing.
use Prim.Native.Nat.{ℕ, ◌+◌}
use native.Mathlib.Omega.{arith}
use mathlib.Core.Path.{◌∙◌}
use lib.Dec.{eqb}
use lib.ListN.{get_or}
use borrow.Author.Tests.{tests}
use Rattle.std.proofs.Common.{rules}
use Rattle.std.proofs.lemmas.Iterator.{YieldsList-from_range}
use Rattle.std.proofs.lemmas.Iterator.Search.{any_from_yields_List}
use Rattle.book.specs.Scan.{is_among}
use Rattle.book.proofs.RangeTests.{any_below}
use Rattle.book.proofs.cells.is_among.Goals as goal

pub returns : goal.returns
unfolding is_among
returns c =
    let test = λ (l : ℕ). eqb (get_or c.args.least.now (l + 1) 0) c.args.k in
    any_from_yields_List test _ _ _ c.any.ensures.ran (YieldsList-from_range 0 c.args.e c.args.e (cc) (omega arith))
    (λ x b q k. search (rules, tests))
    ∙ any_below test c.args.e
