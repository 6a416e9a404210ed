-- The next pixel of a pattern: what its tests find and answer by its cell and the cells of the pixels before it, which ascend.
-- Assumes nothing.
use Rattle.std.specs.Prelude.{Ok, Err}
use Prim.Native.Nat.{ℕ, suc, ◌+◌, ◌-◌, ◌≤◌, ◌<◌}
use native.Mathlib.Omega.{arith}
use native.Mathlib.Decide.{ℕ_discrete}
use mathlib.Core.Path.{◌≡◌, refl, sym, ◌∙◌, ap}
use mathlib.Core.Logic.{◌↔◌}
use mathlib.Core.Bool.{true, false}
use mathlib.Core.Option.{none, some}
use mathlib.Core.List.{List}
use lib.Dec.{eqb}
use lib.ListN.{get_or, set, replicate, length-set, length-replicate}
use Rattle.integers.proofs.Comparisons.{eqb_iff}
use Rattle.scope.specs.Plans.{Pixel}
use Rattle.scope.specs.Numbers.{pixel_test}
use Rattle.scope.specs.promises.Meaning.{InRange}
use Rattle.scope.specs.declared.Refusal.{Refusal}
use Rattle.checks.proofs.Searches.{true-not-false, not_true_is_false, some_below_iff}
use Rattle.checks.proofs.Lists.{get_or-set_same, get_or-set_other}
use Rattle.checks.proofs.BookTests.{pixel_legal_iff}
use Rattle.checks.proofs.BookRefusals.{column_refused, row_refused, repeat_refused, lower_refused}
use Rattle.book.specs.Scan.{cell_of, is_among, Passed, Tested}
use Rattle.book.proofs.Outcomes.{answered_by_refusal, answered_by_done, done_not_refused}
use Rattle.book.proofs.Window.{column_outside, row_outside, in_window, cell_injective, lower_by_cell}

-- Before the first pixel every cell may come.
pub none_passed : (pixel : ℕ → Pixel) → Passed (replicate 65 0) pixel 0
none_passed pixel =
    record {
      size = length-replicate {A = ℕ} 65 0;
      first = refl;
      next = λ l h. absurd (omega arith);
      inside = λ l h. absurd (omega arith);
      ascend = λ l m h k. absurd (omega arith);
    }

-- What the code's search for a cell means.
pub among_iff : (least : List ℕ) (e k : ℕ) → (is_among least e k ≡ true) ↔ ((l : ℕ) × (l < e) × (get_or least (l + 1) 0 ≡ k))
unfolding is_among
among_iff least e k = some_below_iff e (λ l. eqb (get_or least (l + 1) 0) k) _ (λ l. eqb_iff (get_or least (l + 1) 0) k)

pub not_among : (least : List ℕ) (e k : ℕ) → ((l : ℕ) → l < e → get_or least (l + 1) 0 ≡ k → ⊥) → is_among least e k ≡ false
not_among least e k h =
    not_true_is_false (is_among least e k) (λ t. let (l, below, is) = (among_iff least e k).0 t in h l below is)

-- The next pixel, with its cell k.
module _ {least : List ℕ} {pixel : ℕ → Pixel} {e k : ℕ} (passed : Passed least pixel e) (is : k ≡ cell_of (pixel e)) where
  -- the entry at e, where there is a pixel before
  entry_is : (l : ℕ) → suc l ≡ e → get_or least e 0 ≡ suc (cell_of (pixel l))
  entry_is l q = ap (λ m. get_or least m 0) (omega arith) ∙ passed.next l (omega arith)

  -- a cell from the entry on comes after all of those before
  after_each : get_or least e 0 ≤ k → (l : ℕ) → l < e → cell_of (pixel l) < k
  after_each from l h = by_place (ℕ_discrete (suc l) e)
    where
      by_place : Dec (suc l ≡ e) → cell_of (pixel l) < k
      by_place (yes q) = omega (arith, entry_is l q)
      by_place (no q) = omega (arith, entry_is (e - 1) (omega arith), passed.ascend l (e - 1) (omega arith) (omega arith))

  -- one that is not among them is unlike each, and if it is below the entry it comes before the last
  unlike_each : is_among least e (k + 1) ≡ false → (l : ℕ) → l < e → cell_of (pixel l) ≡ k → ⊥
  unlike_each other l h same =
      true-not-false (sym ((among_iff least e (k + 1)).1 (l, h, passed.next l h ∙ omega (arith, same))) ∙ other)

  before_last : k < get_or least e 0 → is_among least e (k + 1) ≡ false → (l : ℕ) × (suc l ≡ e) × (k < cell_of (pixel l))
  before_last below other = by_place (ℕ_discrete e 0)
    where
      by_place : Dec (e ≡ 0) → (l : ℕ) × (suc l ≡ e) × (k < cell_of (pixel l))
      by_place (yes q) = absurd (omega (arith, ap (λ m. get_or least m 0) q, passed.first))
      by_place (no q) =
          (e - 1, omega arith, omega (arith, entry_is (e - 1) (omega arith), unlike_each other (e - 1) (omega arith)))

  more_passed : e < 64 → k < 1024 → get_or least e 0 ≤ k → Passed (set least (e + 1) (k + 1)) pixel (e + 1)
  more_passed room h from =
      record {
        size = length-set least (e + 1) (k + 1) ∙ passed.size;
        first = get_or-set_other least (e + 1) 0 (k + 1) 0 (λ q. omega arith) ∙ passed.first;
        next = λ l p. next l p (ℕ_discrete l e);
        inside = λ l p. inside l p (ℕ_discrete l e);
        ascend = λ l m p q. ascend l m p q (ℕ_discrete m e);
      }
    where
      next : (l : ℕ) → l < e + 1 → Dec (l ≡ e) → get_or (set least (e + 1) (k + 1)) (l + 1) 0 ≡ suc (cell_of (pixel l))
      next l p (yes d) =
          ap (λ m. get_or (set least (e + 1) (k + 1)) m 0) (omega arith)
          ∙ get_or-set_same least (e + 1) (k + 1) 0 (omega (arith, passed.size))
          ∙ omega (arith, is, ap (λ m. cell_of (pixel m)) d)
      next l p (no d) = get_or-set_other least (e + 1) (l + 1) (k + 1) 0 (λ q. omega arith) ∙ passed.next l (omega arith)

      inside : (l : ℕ) → l < e + 1 → Dec (l ≡ e) → cell_of (pixel l) < 1024
      inside l p (yes d) = rw d (omega arith)
      inside l p (no d) = passed.inside l (omega arith)

      ascend : (l m : ℕ) → l < m → m < e + 1 → Dec (m ≡ e) → cell_of (pixel l) < cell_of (pixel m)
      ascend l m p q (yes d) = rw d (omega (arith, after_each from l (omega arith)))
      ascend l m p q (no d) = passed.ascend l m p (omega arith)

  in_range : k < 1024 → InRange (pixel e).column × InRange (pixel e).row
  in_range h = in_window (pixel e) (omega arith)

  -- what its tests find, with i and j the places of its column and row
  module _ (i j : ℕ) where
    column_found : k ≡ 1024 → pixel_test i j pixel e ≡ some (Refusal.Coordinate i)
    column_found h = column_refused i j pixel e (column_outside (pixel e) (sym is ∙ h))

    row_found : k ≡ 1025 → pixel_test i j pixel e ≡ some (Refusal.Coordinate j)
    row_found h = let (column, row) = row_outside (pixel e) (sym is ∙ h) in row_refused i j pixel e column row

    repeat_found : k < 1024 → is_among least e (k + 1) ≡ true → pixel_test i j pixel e ≡ some (Refusal.Repeat i)
    repeat_found h among =
        let (l, below, here) = (among_iff least e (k + 1)).0 among in
        repeat_refused i j pixel e (in_range h).0 (in_range h).1 l below
        (cell_injective (pixel l) (pixel e) (passed.inside l below) (omega (arith, passed.next l below)))

    lower_found :
        k < 1024 → k < get_or least e 0 → is_among least e (k + 1) ≡ false → pixel_test i j pixel e ≡ some (Refusal.Lower i)
    lower_found h below other =
        let (l, next, less) = before_last below other in
        lower_refused i j pixel e (in_range h).0 (in_range h).1
        (λ m p same. unlike_each other m p (ap cell_of same ∙ sym is)) l next
        (lower_by_cell (pixel e) (pixel l) (omega arith) (passed.inside l (omega arith)) (omega arith))

    nothing_found : k < 1024 → get_or least e 0 ≤ k → pixel_test i j pixel e ≡ none
    nothing_found h from =
        (pixel_legal_iff i j pixel e).1 (record {
          column = (in_range h).0;
          row = (in_range h).1;
          new = λ l p same. omega (arith, after_each from l p, ap cell_of same, is);
          ascends = λ l next.
              lower_by_cell (pixel l) (pixel e) (passed.inside l (omega arith)) (omega arith)
              (omega (arith, after_each from l (omega arith), is));
        })

-- A pixel v with its cell k, tested by the cells of the pixels before it, whatever these are.
module _ {least : List ℕ} {v : Pixel} {k i j e : ℕ} (is : k ≡ cell_of v) where
  refused_pixel :
      {r : Refusal}
      → ((pixel : ℕ → Pixel) → Passed least pixel e → k ≡ cell_of (pixel e) → pixel_test i j pixel e ≡ some r)
      → Tested i j e v least least (Err r)
  refused_pixel {r} found =
      record {
        answer = λ pixel before same.
            answered_by_refusal (pixel_test i j pixel e) r (found pixel before (is ∙ ap cell_of (sym same)));
        passed = λ pixel before same done. absurd (done_not_refused (sym done));
      }

  pub column_tested : k ≡ 1024 → Tested i j e v least least (Err (Refusal.Coordinate i))
  column_tested h = refused_pixel (λ pixel before here. column_found before here i j h)

  pub row_tested : k ≡ 1025 → Tested i j e v least least (Err (Refusal.Coordinate j))
  row_tested h = refused_pixel (λ pixel before here. row_found before here i j h)

  pub new_tested :
      e < 64 → k < 1024 → get_or least e 0 ≤ k → Tested i j e v least (set least (e + 1) (k + 1)) (Ok tt)
  new_tested room h from =
      record {
        answer = λ pixel before same.
            answered_by_done (pixel_test i j pixel e) (nothing_found before (is ∙ ap cell_of (sym same)) i j h from);
        passed = λ pixel before same done. more_passed before (is ∙ ap cell_of (sym same)) room h from;
      }

  pub repeat_tested : k < 1024 → is_among least e (k + 1) ≡ true → Tested i j e v least least (Err (Refusal.Repeat i))
  repeat_tested h among = refused_pixel (λ pixel before here. repeat_found before here i j h among)

  pub lower_tested :
      k < 1024 → k < get_or least e 0 → is_among least e (k + 1) ≡ false
      → Tested i j e v least least (Err (Refusal.Lower i))
  lower_tested h below other = refused_pixel (λ pixel before here. lower_found before here i j h below other)
