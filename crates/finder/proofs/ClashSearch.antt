-- What the search for a clash finds in a book: the first pair of the lowest pattern that has one, and nothing exactly where the plan
-- suits.
-- Assumes nothing.
use Prim.Native.Nat.{ℕ, ◌≤◌, ◌<◌}
use native.Mathlib.Omega.{arith}
use native.Mathlib.Decide.{dec_lt}
use mathlib.Core.Path.{◌≡◌, sym, ◌∙◌, ap}
use mathlib.Core.Logic.{◌↔◌}
use mathlib.Core.Bool.{true}
use mathlib.Core.Option.{Option, none, some}
use mathlib.Core.List.{List, []}
use lib.ListN.{length, get_or}
use Rattle.scope.specs.Search.{first}
use Rattle.scope.specs.Plans.{Pixel, minus, pattern_at, pixels, patterns, suits, suits_all, InLattice}
use Rattle.scope.specs.Finding.{pixel_in, clash_in, clash}
use Rattle.scope.specs.promises.Meaning.{IsBook}
use Rattle.scope.specs.promises.OneCyclePromises.{Meets, FirstClashIn}
use Rattle.scope.specs.declared.Plan.{Plan}
use Rattle.scope.specs.declared.Pattern.{Pattern}
use Rattle.scope.specs.declared.Book.{Book}
use Rattle.scope.specs.declared.Clash.{Clash}
use Rattle.checks.proofs.Searches.{Found, first_found, first_none, none_first, first_same}
use Rattle.checks.proofs.Patterns.{origin, length_pixels, get_d_pixels, length_patterns, get_d_patterns}
use Rattle.checks.proofs.Patterns.{mem_patterns, patterns_mem, pattern_different}
use Rattle.lattice.proofs.Suits.{suits_all_iff}
use Rattle.lattice.proofs.OneCycle.{FirstPair, clash_is_first_pair, no_clash_none_joined, no_clash_iff_suits}

-- The clash of a book is the first of those of its patterns.
module _ (p : Plan) (book : Book) where
  abbrev pub pattern_clash : ℕ → Option Clash
  pattern_clash n = clash_in p n (pixels (pattern_at book n))

  pub clash_of_book : clash p (patterns book) ≡ first 0 book.count pattern_clash
  unfolding clash
  clash_of_book =
      ap (λ (m : ℕ). first 0 m (λ n. clash_in p n (get_or (patterns book) n []))) (length_patterns book)
      ∙ first_same 0 book.count (λ n. clash_in p n (get_or (patterns book) n [])) pattern_clash
      (λ n from below. ap (clash_in p n) (get_d_patterns book n [] (omega arith)))

module _ (book : Book) (p : Plan) (a_least : 1 ≤ p.a) (d_least : 1 ≤ p.d) where
  -- two positions of a pattern meet exactly if the pixels of its list there are in one class
  abbrev Joined : ℕ → ℕ → ℕ → Type 0
  Joined n e l = InLattice p (minus (pixel_in (pixels (pattern_at book n)) l) (pixel_in (pixels (pattern_at book n)) e))

  meets_of_positions :
      (n e l : ℕ) → n < book.count → e < l → l < length (pixels (pattern_at book n)) → Joined n e l → Meets book p n e l
  meets_of_positions n e l in_book_lem ordered within joined =
      let t : Pattern = pattern_at book n in
      let l_in : l < (pattern_at book n).used = omega (arith, length_pixels (pattern_at book n)) in
      record {
        in_book_lem = in_book_lem;
        ordered = ordered;
        in_pattern = l_in;
        joined = rw (get_d_pixels t e origin (omega arith), get_d_pixels t l origin l_in) at joined;
      }

  positions_of_meets : (n e l : ℕ) → Meets book p n e l → (l < length (pixels (pattern_at book n))) × Joined n e l
  positions_of_meets n e l m = (
    omega (arith, length_pixels (pattern_at book n), m.in_pattern),
    rw (get_d_pixels (pattern_at book n) e origin (omega (arith, m.ordered, m.in_pattern)), get_d_pixels (pattern_at book n) l origin m.in_pattern)
        m.joined,
  )

  -- What the search in pattern n of a book finds is the first clash there.
  pub first_clash_in_pattern :
      (n : ℕ) → n < book.count → (c : Clash) → pattern_clash p book n ≡ some c
      → FirstClashIn book p c × (c.pattern ≡ n)
  first_clash_in_pattern n in_book_lem c h = (
    record {
      meets = rw f.number (meets_of_positions n c.earlier c.later in_book_lem f.ordered f.within f.joined);
      earliest = λ e l m.
          let (within, joined) = positions_of_meets n e l (rw f.number at m) in
          f.earliest e l m.ordered within joined;
    },
    f.number,
  )
    where
      f : FirstPair p a_least d_least n (pixels (pattern_at book n)) c
      f = clash_is_first_pair p a_least d_least n (pixels (pattern_at book n)) c h

  -- In a pattern in which it finds nothing no two positions meet, nor do they in such a book.
  none_found_none_meets : (n e l : ℕ) → Meets book p n e l → pattern_clash p book n ≡ none → ⊥
  none_found_none_meets n e l m none_in =
      let (within, joined) = positions_of_meets n e l m in
      no_clash_none_joined p a_least d_least n (pixels (pattern_at book n)) none_in e l m.ordered within joined

  no_clash_each : clash p (patterns book) ≡ none → (n : ℕ) → n < book.count → pattern_clash p book n ≡ none
  no_clash_each h n in_book_lem =
      first_none 0 book.count (pattern_clash p book) (sym (clash_of_book p book) ∙ h) n (omega arith) (omega arith)

  pub no_clash_none_meets : clash p (patterns book) ≡ none → (n e l : ℕ) → Meets book p n e l → ⊥
  no_clash_none_meets h n e l m = none_found_none_meets n e l m (no_clash_each h n m.in_book_lem)

  -- What it finds is the first clash of the lowest pattern that has one.
  pub first_clash_in_book :
      (c : Clash) → clash p (patterns book) ≡ some c
      → FirstClashIn book p c × ((n e l : ℕ) → Meets book p n e l → c.pattern ≤ n)
  first_clash_in_book c h = (found.0, λ n e l m. not_before n e l m (dec_lt n k.where_is))
    where
      k : Found 0 book.count (pattern_clash p book) c
      k = first_found 0 book.count (pattern_clash p book) c (sym (clash_of_book p book) ∙ h)

      found : FirstClashIn book p c × (c.pattern ≡ k.where_is)
      found = first_clash_in_pattern k.where_is (omega (arith, k.below)) c k.here

      not_before : (n e l : ℕ) → Meets book p n e l → Dec (n < k.where_is) → c.pattern ≤ n
      not_before n e l m (no after) = omega (arith, found.1)
      not_before n e l m (yes before) =
          absurd (none_found_none_meets n e l m (k.before n (omega arith) before))

  -- Of a legal book it finds nothing exactly if the plan suits the book.
  pub no_clash_iff_suits_all : IsBook book → (clash p (patterns book) ≡ none) ↔ (suits_all p (patterns book) ≡ true)
  no_clash_iff_suits_all legal = (there, back)
    where
      ts : List (List Pixel)
      ts = patterns book

      pattern_iff : (n : ℕ) → n < book.count → (pattern_clash p book n ≡ none) ↔ (suits p (pixels (pattern_at book n)) ≡ true)
      pattern_iff n in_book_lem =
          no_clash_iff_suits p a_least d_least n (pixels (pattern_at book n))
          (pattern_different (pattern_at book n) (legal.each n in_book_lem))

      there : clash p ts ≡ none → suits_all p ts ≡ true
      there h = (suits_all_iff p ts).1 (λ t m. in_pattern t (mem_patterns book m))
        where
          in_pattern : (t : List Pixel) → (n : ℕ) × (n < book.count) × (pixels (pattern_at book n) ≡ t) → suits p t ≡ true
          in_pattern t (n, in_book_lem, is) = ap (suits p) (sym is) ∙ (pattern_iff n in_book_lem).0 (no_clash_each h n in_book_lem)

      back : suits_all p ts ≡ true → clash p ts ≡ none
      back h =
          clash_of_book p book
          ∙ none_first 0 book.count (pattern_clash p book) (λ n _ below. in_pattern n (omega arith))
        where
          in_pattern : (n : ℕ) → n < book.count → pattern_clash p book n ≡ none
          in_pattern n in_book_lem =
              (pattern_iff n in_book_lem).1 ((suits_all_iff p ts).0 h (pixels (pattern_at book n)) (patterns_mem book n in_book_lem))
