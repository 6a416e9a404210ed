-- `pictures::lists::starts_of` meets its contract. The loop's invariant: the first n entries are filled.
-- Assumes nothing.
use Rattle.std.specs.Prelude.{Ok}
use Rattle.std.proofs.Common.{ℕ, replicate}
use Rattle.scope.specs.Plans.{pattern_at, pixels}
use Rattle.scope.specs.Cycles.{clash_in_for}
use Rattle.scope.specs.Calls.{clash_beside, fetch_first, fetch_start}
use Rattle.scope.specs.declared.Book.{Book}
use Rattle.scope.specs.declared.Plan.{Plan}
use Rattle.book.specs.Scan.{outcome_of}
use Rattle.finder.specs.declared.clash.Suited.{Suited}
use Rattle.checks.proofs.FilledArrays.{Filled}
use Rattle.pictures.specs.Lists.{no_start}
use Rattle.pictures.proofs.lists.starts_of.Given as goal

-- what a fetch of pattern number n begins with, as one value
abbrev pub start_of : Book → ℕ → Plan → ℕ → ℕ → ℕ → ℕ → Suited
start_of book r p W H words n =
    record {
      outcome = outcome_of (fetch_start book r p W H words n);
      positions = clash_beside (fetch_first book r p W H words n) (clash_in_for r p n (pixels (pattern_at book n)));
    }

-- an entry that is not filled yet
abbrev pub unset : Suited
unset = record { outcome = Ok tt; positions = replicate 9 0 }

abbrev pub invariant-loop-n : goal.invariant-loop-n
invariant-loop-n l =
    Filled no_start (start_of l.book l.r l.p l.w l.h l.words) l.n (replicate 17 unset) l.starts
