-- `capi::flat::book_of` meets its contract. The loop's invariant: the first n patterns are those of the arrays, the others empty.
-- Assumes nothing.
use Prim.Native.Nat.{ℕ, min}
use native.Mathlib.Omega.{arith}
use mathlib.Core.Path.{◌≡◌, refl, ◌∙◌, ap}
use mathlib.Core.List.{List, []}
use lib.IntN.{ℤ}
use lib.ListN.{length-replicate, get_or-replicate}
use Rattle.scope.specs.Books.{pattern_of}
use Rattle.scope.specs.declared.Book.{Book}
use Rattle.scope.specs.declared.Pattern.{Pattern}
use Rattle.checks.proofs.FilledArrays.{filled_none, filled_more}
use Rattle.capi.specs.Flat.{flat_book}
use Rattle.capi.proofs.Flattened.{is_flat_book}
use Rattle.capi.proofs.flat.book_of.Invariants.{FilledTo}
use Rattle.capi.proofs.flat.book_of.Goals as goal

-- all patterns that count and have a place are there
book-filled :
    (columns rows : List ℤ) (used : List ℕ) (count : ℕ) {patterns : List Pattern}
    → FilledTo columns rows used (min count 16) patterns
    → record { patterns = patterns; count = count } ≡ flat_book columns rows used count
book-filled columns rows used count t =
    let size = t.size ∙ length-replicate 16 (pattern_of []) in
    is_flat_book columns rows used count (pattern_of []) size (λ m b h. t.new m (omega arith) (omega (arith, size)))
    (λ m b h. t.old m (omega arith) ∙ get_or-replicate 16 m (pattern_of []) (pattern_of []) b)

-- a record by its patterns and its count
same_count : {book : Book} {count : ℕ} → book.count ≡ count → book ≡ record { patterns = book.patterns; count = count }
same_count {book} e = ap (λ (n : ℕ). record { patterns = book.patterns; count = n }) e

pub loop-n-init : goal.loop-n-init
loop-n-init c = (rw c.empty_pattern-empty.ensures (filled_none _), refl)

pub loop-n-preserved : goal.loop-n-preserved
loop-n-preserved c =
    let i = c.loop-n.invariant in (filled_more i.0 c.pattern_of.ensures, i.1)

pub returns : goal.returns
returns c =
    let all : c.loop-n.n ≡ min c.args.count 16 = omega (arith, c.entries_used-end.ensures) in
    same_count c.loop-n.invariant.1 ∙ book-filled _ _ _ _ (rw all at c.loop-n.invariant.0)
