-- What counting tells of a plan on trial: the patterns that a book's cells have are the book's, moved, so a plan suits the book for r
-- exactly if none of them is crowded.
-- Assumes nothing.
use Rattle.std.specs.Prelude.{Ok}
use Prim.Native.Nat.{ℕ, ◌*◌, ◌≤◌, ◌<◌}
use native.Mathlib.Omega.{arith}
use native.Mathlib.Decide.{dec_lt}
use mathlib.Core.Path.{◌≡◌, refl, sym, ◌∙◌, ap}
use mathlib.Core.Bool.{Bool, true, false, not, not-not}
use mathlib.Core.Option.{none}
use mathlib.Core.List.{List}
use Rattle.scope.specs.Search.{some_below, whenever}
use Rattle.scope.specs.Plans.{Pixel, plan, pixels, pattern_at, patterns}
use Rattle.scope.specs.Finding.{trial}
use Rattle.scope.specs.Cycles.{suits_for, suits_all_for}
use Rattle.scope.specs.Numbers.{record_test}
use Rattle.scope.specs.Calls.{found}
use Rattle.scope.specs.declared.Plan.{Plan}
use Rattle.scope.specs.declared.Book.{Book}
use Rattle.scope.proofs.MethodAnswers.{holds}
use Rattle.checks.proofs.Searches.{some_below_none, none_some_below, true-not-false}
use Rattle.checks.proofs.BookTests.{book_legal_iff}
use Rattle.checks.proofs.Patterns.{mem_patterns, patterns_mem}
use Rattle.lattice.proofs.Classes.{suits_all_for_iff, moved_suits_for}
use Rattle.finder.specs.Counting.{cells_of, pattern_in, CellTest}
use Rattle.finder.specs.Searching.{Searched}
use Rattle.finder.proofs.PlanLoops.{no_plan, trial_gives}
use Rattle.finder.proofs.BookCells.{pattern_in_cells, no_pattern_in_cells}

module _ (r : ℕ) (p : Plan) (book : Book) (legal : record_test book ≡ none) where
  abbrev crowded : ℕ → Bool
  crowded n = not (suits_for r p (pattern_in (cells_of book) n))

  -- a pattern of the cells is crowded exactly if the book's is,
  crowded_in_book : (n : ℕ) → n < book.count → crowded n ≡ not (suits_for r p (pixels (pattern_at book n)))
  crowded_in_book n h = ap not (ap (suits_for r p) (pattern_in_cells book n legal h) ∙ moved_suits_for p _ (pixels (pattern_at book n)) r)

  -- and beyond the book none is
  none_beyond : (n : ℕ) → book.count ≤ n → n < 16 → crowded n ≡ false
  unfolding suits_for
  none_beyond n h k = ap (λ (t : List Pixel). not (suits_for r p t)) (no_pattern_in_cells book n h k)

  pub crowded_is_unsuited : some_below 16 crowded ≡ not (suits_all_for r p (patterns book))
  crowded_is_unsuited = by_suits (suits_all_for r p (patterns book)) (some_below 16 crowded) refl refl
    where
      each : suits_all_for r p (patterns book) ≡ true → (n : ℕ) → n < 16 → Dec (n < book.count) → crowded n ≡ false
      each h n k (yes l) = crowded_in_book n l ∙ ap not ((suits_all_for_iff r p (patterns book)).0 h (pixels (pattern_at book n)) (patterns_mem book n l))
      each h n k (no l) = none_beyond n (omega arith) k

      all : some_below 16 crowded ≡ false → (t : List Pixel) → (n : ℕ) × (n < book.count) × (pixels (pattern_at book n) ≡ t) → suits_for r p t ≡ true
      all h t (n, k, is) =
          ap (suits_for r p) (sym is)
          ∙ holds refl
          (sym (crowded_in_book n k) ∙ some_below_none 16 crowded h n (omega (arith, ((book_legal_iff book).0 legal).most)))

      by_suits : (b c : Bool) → suits_all_for r p (patterns book) ≡ b → some_below 16 crowded ≡ c → some_below 16 crowded ≡ not (suits_all_for r p (patterns book))
      by_suits true c e h = none_some_below 16 crowded (λ n k. each e n k (dec_lt n book.count)) ∙ sym (ap not e)
      by_suits false true e h = h ∙ sym (ap not e)
      by_suits false false e h =
          absurd (true-not-false (sym ((suits_all_for_iff r p (patterns book)).1 (λ t m. all h t (mem_patterns book m))) ∙ e))

-- A plan on trial: it suits for r where no pattern of the cells is crowded.
module _ {r : ℕ} {cells : List ℕ} {a b d : ℕ} (d_least : 1 ≤ d) (b_below : b < a) {x : Bool}
    (is : x ≡ some_below 16 (λ n. not (suits_for r (plan a b d) (pattern_in cells n)))) where
  trial_by_cells : {y : Bool} → not x ≡ y → Searched (CellTest r cells) (λ test. trial test (a * d) b d) (found (whenever y (plan a b d)))
  trial_by_cells uncrowded =
      trial_gives d_least b_below (λ test t.
      ap (λ (f : Plan → Bool). f (plan a b d)) t.is
      ∙ sym (not-not _)
      ∙ ap not
      (sym (crowded_is_unsuited r (plan a b d) t.book t.legal)
      ∙ ap (λ (es : List ℕ). some_below 16 (λ n. not (suits_for r (plan a b d) (pattern_in es n)))) (sym t.entries)
      ∙ sym is)
      ∙ uncrowded)

  pub crowded_none : not x ≡ false → Searched (CellTest r cells) (λ test. trial test (a * d) b d) no_plan
  unfolding found whenever
  crowded_none h = trial_by_cells h

  pub uncrowded_found : not x ≡ true → Searched (CellTest r cells) (λ test. trial test (a * d) b d) (Ok (plan a b d))
  unfolding found whenever
  uncrowded_found h = trial_by_cells h
