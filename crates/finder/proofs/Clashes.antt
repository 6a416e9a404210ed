-- The clash that a refusal by 10 carries is the first one: of the book for a check, of its own pattern for a fetch and for the cycles.
-- Assumes nothing.
use Prim.Native.Nat.{ℕ, suc, ◌<◌}
use native.Mathlib.Omega.{arith}
use mathlib.Core.Path.{◌≡◌, refl, sym, ◌∙◌, ap, subst}
use mathlib.Core.Bool.{true, false}
use mathlib.Core.List.{List, []}
use lib.ListN.{get_or, drop}
use Rattle.scope.specs.Plans.{Pixel, pattern_at, pixels, patterns, normal_form}
use Rattle.scope.specs.Cycles.{LongClash, suits_for}
use Rattle.scope.specs.Calls.{check}
use Rattle.scope.specs.Calls.{fetch, ring_fetch}
use Rattle.scope.specs.promises.CyclePromises.{LongClashIsFirst, FirstOfClass}
use Rattle.scope.specs.promises.PlanPromises.{ClashOf, ClashIsFirst}
use Rattle.scope.specs.declared.Book.{Book}
use Rattle.checks.proofs.ClashAnswers.{places_rest}
use Rattle.checks.proofs.Patterns.{length_patterns, get_d_patterns}
use Rattle.lattice.proofs.LongClashes.{long_clashes_lem}
use Rattle.lattice.proofs.NormalForm.{normal_form_is_only}
use Rattle.finder.proofs.OwnClashes.{first_found, clash_of_fetch, clash_of_cycles}
use Rattle.finder.proofs.CheckClashes.{ClashOfCheck, clash_of_check}

-- The clash of a check is the first of the lowest pattern that has one, and that of a fetch and of the cycles the first of their own.
pub clash_is_first : ClashIsFirst
unfolding fetch ring_fetch
clash_is_first =
    record {
      is_clash = λ book r x y c h. (clash_of_check book r x y c h).verdict;
      in_pattern = λ book r x y c h. (of_check_lem book r x y c (clash_of_check book r x y c h)).0;
      lowest = λ book r x y c h. (of_check_lem book r x y c (clash_of_check book r x y c h)).1;
      of_fetch_lem = λ book r p W H mem n o out c h. first_found (clash_of_fetch false book r p W H mem n o out c h);
      of_ring_fetch = λ book r p W H mem n o out c h. first_found (clash_of_fetch true book r p W H mem n o out c h);
      of_cycles = λ book r p n out c h. first_found (clash_of_cycles book r p n out c h);
    }
  where
    of_check_lem :
        (book : Book) (r : ℕ) (x y : Pixel) (c : LongClash) → ClashOfCheck book r x y c
        → ClashOf book r (normal_form x y) c.pattern c (check book r x y).positions
        × ((n : ℕ) → n < c.pattern → suits_for r (normal_form x y) (pixels (pattern_at book n)) ≡ true)
    of_check_lem book r x y c k = (
      record {
        in_book_lem = in_book_lem;
        pattern = refl;
        first = subst (λ (t : List Pixel). FirstOfClass r (normal_form x y) t c.positions) (get_d_patterns book c.pattern [] in_book_lem) first;
        rest = ap (drop (suc r)) k.nine ∙ places_rest c r first.size k.most;
      },
      λ n h. ap (suits_for r (normal_form x y)) (sym (get_d_patterns book n [] (omega (arith, h, in_book_lem)))) ∙ laws.lowest (patterns book) c k.found n h,
    )
      where
        laws : LongClashIsFirst r (normal_form x y)
        laws = let g = normal_form_is_only.generates x y k.independent in long_clashes_lem r (normal_form x y) g.a_least g.d_least

        in_book_lem : c.pattern < book.count
        in_book_lem = omega (arith, (laws.in_book_lem (patterns book) c k.found).0, length_patterns book)

        first : FirstOfClass r (normal_form x y) (get_or (patterns book) c.pattern []) c.positions
        first = (laws.in_book_lem (patterns book) c k.found).1
