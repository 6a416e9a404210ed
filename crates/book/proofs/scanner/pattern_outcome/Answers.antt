-- `book::scanner::pattern_outcome` meets its contract: a refused count decides, and after a legal one the pixels do.
-- Assumes nothing.
use Rattle.std.specs.Prelude.{Err}
use Prim.Native.Nat.{ℕ}
use native.Mathlib.Omega.{arith}
use mathlib.Core.Path.{◌≡◌, sym, ◌∙◌, ap}
use mathlib.Core.Option.{some}
use mathlib.Core.List.{List}
use Rattle.scope.specs.Books.{byte}
use Rattle.scope.specs.Numbers.{count_read, pattern_read}
use Rattle.scope.specs.declared.Refusal.{Refusal}
use Rattle.book.specs.Scan.{outcome_of}
use Rattle.book.proofs.Outcomes.{answered_by_refusal}
use Rattle.book.proofs.ReaderRefusals.{ends_before_count, count_not_taken}
use Rattle.book.proofs.Scanning.{count_decides_from}
use Rattle.book.proofs.Scanned.{pixels_decide_from}
use Rattle.book.proofs.scanner.pattern_outcome.Goals as goal

-- the refusal of the count is the pattern's
refused-by-count :
    (s : List ℕ) (at : ℕ) (r : Refusal) → count_read s 64 at ≡ some r → Err r ≡ outcome_of (pattern_read s at)
refused-by-count s at r e = answered_by_refusal (pattern_read s at) r (count_decides_from s at r e)

pub returns-then-s-at : goal.returns-then-s-at
returns-then-s-at c = refused-by-count _ _ _ (ends_before_count _ 64 _ c.if-s-at.true)

pub overflow_cast-count : goal.overflow_cast-count
overflow_cast-count c = omega (arith, c.shared_slice_known-2-1.given c.args.at)

pub returns-then-count-eq0 : goal.returns-then-count-eq0
unfolding byte
returns-then-count-eq0 c = refused-by-count _ _ _ (count_not_taken _ 64 _ (omega arith) (λ h. omega arith))

pub returns-then-count-gt64 : goal.returns-then-count-gt64
unfolding byte
returns-then-count-gt64 c = refused-by-count _ _ _ (count_not_taken _ 64 _ (omega arith) (λ h. omega arith))

pub returns : goal.returns
unfolding byte
returns c =
    c.pixels_outcome.ensures ∙ ap outcome_of (sym (pixels_decide_from _ _ (omega arith) (omega arith)))
