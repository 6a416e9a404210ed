-- What the clash for r of a book is by those of its patterns.
-- Assumes nothing.
use Prim.Native.Nat.{ℕ, ◌≤◌, ◌<◌}
use native.Mathlib.Omega.{arith}
use mathlib.Core.Path.{◌≡◌, sym, ◌∙◌, ap, subst}
use mathlib.Core.Option.{Option, none, some}
use mathlib.Core.List.{[]}
use lib.ListN.{get_or}
use Rattle.scope.specs.Search.{first}
use Rattle.scope.specs.Plans.{pattern_at, pixels, patterns}
use Rattle.scope.specs.Cycles.{LongClash, clash_in_for, clash_for}
use Rattle.scope.specs.declared.Plan.{Plan}
use Rattle.scope.specs.declared.Book.{Book}
use Rattle.checks.proofs.Searches.{Found, first_found, found_from_0, none_first, first_same}
use Rattle.lattice.proofs.LongClashes.{long_clashes_lem}
use Rattle.checks.proofs.Patterns.{length_patterns, get_d_patterns}

-- The clash of a book is that of its first pattern that has one.
module _ (r : ℕ) (p : Plan) (book : Book) where
  abbrev pub pattern_clash : ℕ → Option LongClash
  pattern_clash n = clash_in_for r p n (pixels (pattern_at book n))

  clash_of_book : clash_for r p (patterns book) ≡ first 0 book.count pattern_clash
  unfolding clash_for
  clash_of_book =
      ap (λ (m : ℕ). first 0 m (λ n. clash_in_for r p n (get_or (patterns book) n []))) (length_patterns book)
      ∙ first_same 0 book.count (λ n. clash_in_for r p n (get_or (patterns book) n [])) pattern_clash
      (λ n from below. ap (clash_in_for r p n) (get_d_patterns book n [] (omega arith)))

  pub clash_at_lem :
      (n : ℕ) (c : LongClash) → n < book.count → ((m : ℕ) → m < n → pattern_clash m ≡ none) → pattern_clash n ≡ some c
      → clash_for r p (patterns book) ≡ some c
  clash_at_lem n c below before here = clash_of_book ∙ found_from_0 book.count pattern_clash n c below before here

  pub clash_nowhere : ((n : ℕ) → n < book.count → pattern_clash n ≡ none) → clash_for r p (patterns book) ≡ none
  clash_nowhere each = clash_of_book ∙ none_first 0 book.count pattern_clash (λ n from below. each n (omega arith))

  -- A clash of the book is one of the pattern that it names.
  pub record InItsPattern (c : LongClash) : Type 0 where
    pub below : c.pattern < book.count
    pub here : pattern_clash c.pattern ≡ some c

  pub in_its_pattern : 1 ≤ p.a → 1 ≤ p.d → (c : LongClash) → clash_for r p (patterns book) ≡ some c → InItsPattern c
  in_its_pattern a_least d_least c e =
      record { below = omega (arith, f.below, number); here = subst (λ (n : ℕ). pattern_clash n ≡ some c) (sym number) f.here }
    where
      f : Found 0 book.count pattern_clash c
      f = first_found 0 book.count pattern_clash c (sym clash_of_book ∙ e)

      number : c.pattern ≡ f.where_is
      number = ((long_clashes_lem r p a_least d_least).in_pattern f.where_is (pixels (pattern_at book f.where_is)) c f.here).0
