-- The clash for r: where it is found, it is the first r + 1 ascending positions of one class, and nothing is found exactly where the
-- plan suits for r; of a book it is that of the lowest pattern that has one.
-- Assumes nothing.
use Prim.Native.Nat.{ℕ, suc, ◌-◌, ◌≤◌, ◌<◌}
use native.Mathlib.Omega.{arith}
use native.Mathlib.Decide.{dec_lt}
use mathlib.Core.Path.{◌≡◌, refl, sym, ◌∙◌, ap, subst}
use mathlib.Core.Logic.{◌↔◌, ◌⊎◌, inl, inr}
use mathlib.Core.Bool.{true, false}
use mathlib.Core.Option.{Option, none, some}
use mathlib.Core.List.Memᴰ
use mathlib.Core.List.{List, [], ◌∷◌, Memᴰ}
use lib.Dec.{leb}
use lib.ListN.{length, get_or, take}
use lib.Seq.{length-take-le}
use Rattle.integers.proofs.Comparisons.{leb_iff, leb_false_iff}
use Rattle.scope.specs.Search.{first, whenever}
use Rattle.scope.specs.Plans.{Pixel, minus, InLattice, along, up}
use Rattle.scope.specs.Finding.{pixel_in, together}
use Rattle.scope.specs.Cycles.{suits_for, suits_all_for, LongClash, followers, clash_in_for, clash_for}
use Rattle.scope.specs.promises.CyclePromises.{OneClass, NotAfter, FirstOfClass, LongClashes}
use Rattle.scope.specs.declared.Plan.{Plan}
use Rattle.checks.proofs.Searches.{Found, first_found, first_none, none_first, whenever_some, whenever_none, none_whenever, not_true_is_false}
use Rattle.checks.proofs.Lists.{mem_get_d, get_d_mem}
use Rattle.checks.proofs.Picked.{Passes, Ahead, mem_picked, picked_first, picked_ascend, ascending_rest, ascending_above, ascending_cons, ahead_not_after, take_mem, take_ascend}
use Rattle.lattice.proofs.Classes.{together_iff, itself_joined, joined_by_third, suits_for_means, suits_all_for_iff}

module _ (r : ℕ) (p : Plan) (a_least : 1 ≤ p.a) (d_least : 1 ≤ p.d) where
  module _ (t : List Pixel) where
    -- e and its first r followers
    abbrev from : ℕ → List ℕ
    from e = e ∷ take r (followers p t e)

    abbrev Follows : ℕ → ℕ → Type 0
    Follows e l = Passes (suc e) (length t - suc e) (together p t e) l

    follower_in : (e l : ℕ) → Memᴰ l (followers p t e) → Follows e l
    unfolding followers
    follower_in e l m = mem_picked (together p t e) (suc e) (length t - suc e) l m

    -- of ascending positions of one class those after the first are among its followers
    rest_follows : (e : ℕ) (es : List ℕ) → OneClass (along p) (up p) t (e ∷ es) → Ahead (followers p t e) es
    unfolding followers
    rest_follows e es c =
        picked_first (together p t e) (length t - suc e) (suc e) es (ascending_rest e es c.ascending)
        (λ l m.
        let above : e < l = ascending_above e es c.ascending l m in
        let in_t : l < length t = c.within l (Memᴰ.tail m) in
        record {
          from = omega arith;
          below = omega arith;
          passes = (together_iff p a_least d_least t e l).1 (c.joined e l (Memᴰ.head refl) (Memᴰ.tail m));
        })

    -- a position with r followers begins r + 1 of one class
    begins_class : (e : ℕ) → e < length t → r ≤ length (followers p t e) → OneClass (along p) (up p) t (from e)
    unfolding followers
    begins_class e below enough =
        record {
          ascending =
              ascending_cons e (take r (followers p t e))
              (λ l m. omega (arith, (follower_in e l (take_mem r (followers p t e) l m)).from))
              (take_ascend r (followers p t e) enough (picked_ascend (together p t e) (length t - suc e) (suc e)));
          within = λ l m. in_t l (place l m);
          joined = λ l k m n. joined_by_third (pixel_in t k) (pixel_in t l) (pixel_in t e) (in_class k (place k n)) (in_class l (place l m));
        }
      where
        place : (l : ℕ) → Memᴰ l (from e) → (l ≡ e) ⊎ Follows e l
        place l m = by_place (Memᴰ.cases_cons m)
          where
            by_place : (l ≡ e) ⊎ Memᴰ l (take r (followers p t e)) → (l ≡ e) ⊎ Follows e l
            by_place (inl h) = inl h
            by_place (inr h) = inr (follower_in e l (take_mem r (followers p t e) l h))

        in_t : (l : ℕ) → (l ≡ e) ⊎ Follows e l → l < length t
        in_t l (inl h) = omega arith
        in_t l (inr q) = omega (arith, q.below)

        in_class : (l : ℕ) → (l ≡ e) ⊎ Follows e l → InLattice p (minus (pixel_in t l) (pixel_in t e))
        in_class l (inl h) = rw h (itself_joined (pixel_in t e))
        in_class l (inr q) = (together_iff p a_least d_least t e l).0 q.passes

    -- few followers: no class is that large
    few_at_most : (e : ℕ) (es : List ℕ) → OneClass (along p) (up p) t (e ∷ es) → leb r (length (followers p t e)) ≡ false → length (e ∷ es) ≤ r
    few_at_most e es c few = omega (arith, (leb_false_iff r (length (followers p t e))).0 few, (rest_follows e es c).as_long)

    module _ (n : ℕ) where
      abbrev tried : ℕ → Option LongClash
      tried e = whenever (leb r (length (followers p t e))) (record { pattern = n; positions = from e })

      -- no r + 1 positions of one class come before those of the first position with r followers
      none_sooner :
          (e : ℕ) → ((l : ℕ) → l < e → tried l ≡ none) → (ls : List ℕ) → length ls ≡ suc r → OneClass (along p) (up p) t ls
          → NotAfter (from e) ls
      none_sooner e before [] size c = absurd (omega arith)
      none_sooner e before (l ∷ ls) size c = by_order (dec_lt e l) (dec_lt l e)
        where
          by_order : Dec (e < l) → Dec (l < e) → NotAfter (from e) (l ∷ ls)
          by_order (yes u) w = inl u
          by_order (no u) (yes w) =
              absurd (omega (arith, few_at_most l ls c (whenever_none (leb r (length (followers p t l))) _ (before l w)), size))
          by_order (no u) (no w) =
              let same : e ≡ l = omega arith in
              inr (same, rw same (ahead_not_after r (followers p t l) ls (omega arith) (rest_follows l ls c)))

      -- Where a clash is found it is the first.
      pub found_is_first : (c : LongClash) → clash_in_for r p n t ≡ some c → (c.pattern ≡ n) × FirstOfClass r p t c.positions
      unfolding clash_in_for
      found_is_first c h =
          let f : Found 0 (length t) tried c = first_found 0 (length t) tried c h in
          let (test, is) = whenever_some (leb r (length (followers p t f.where_is))) _ c f.here in
          let enough : r ≤ length (followers p t f.where_is) = (leb_iff _ _).0 test in
          subst (λ (c : LongClash). (c.pattern ≡ n) × FirstOfClass r p t c.positions) is (
            refl,
            record {
              size = ap suc (length-take-le r (followers p t f.where_is) enough);
              class = begins_class f.where_is (omega (arith, f.below)) enough;
              first = none_sooner f.where_is (λ l w. f.before l (omega arith) w);
            },
          )

      -- None is found exactly where the plan suits for r.
      pub none_found_iff : (clash_in_for r p n t ≡ none) ↔ (suits_for r p t ≡ true)
      unfolding clash_in_for
      none_found_iff = (
        λ h. (suits_for_means p a_least d_least t r).1 (λ es c. at_most es c h),
        λ h. none_first 0 (length t) tried (λ e _ below. none_whenever (leb r (length (followers p t e))) _
            (not_true_is_false _ (λ enough. too_many e (omega arith) ((leb_iff _ _).0 enough) h))),
      )
        where
          at_most : (es : List ℕ) → OneClass (along p) (up p) t es → first 0 (length t) tried ≡ none → length es ≤ r
          at_most [] c h = omega arith
          at_most (e ∷ es) c h =
              let below : e < length t = c.within e (Memᴰ.head refl) in
              few_at_most e es c
              (whenever_none (leb r (length (followers p t e))) _ (first_none 0 (length t) tried h e (omega arith) (omega arith)))

          too_many : (e : ℕ) → e < length t → r ≤ length (followers p t e) → suits_for r p t ≡ true → ⊥
          too_many e below enough h =
              absurd (omega (
                arith,
                (suits_for_means p a_least d_least t r).0 h (from e) (begins_class e below enough),
                length-take-le r (followers p t e) enough,
              ))

  -- The clash of a book is that of the lowest pattern that has one.
  module _ (ts : List (List Pixel)) where
    abbrev in_book : ℕ → Option LongClash
    in_book n = clash_in_for r p n (get_or ts n [])

    lowest_found : (c : LongClash) → clash_for r p ts ≡ some c → Found 0 (length ts) in_book c
    unfolding clash_for
    lowest_found c h = first_found 0 (length ts) in_book c h

    pattern_is : (c : LongClash) (h : clash_for r p ts ≡ some c) → c.pattern ≡ (lowest_found c h).where_is
    pattern_is c h = let f = lowest_found c h in (found_is_first (get_or ts f.where_is []) f.where_is c f.here).0

    first_in_book :
        (c : LongClash) → clash_for r p ts ≡ some c → (c.pattern < length ts) × FirstOfClass r p (get_or ts c.pattern []) c.positions
    first_in_book c h =
        let f = lowest_found c h in (
          omega (arith, f.below, pattern_is c h),
          rw (pattern_is c h) (found_is_first (get_or ts f.where_is []) f.where_is c f.here).1,
        )

    none_lower : (c : LongClash) → clash_for r p ts ≡ some c → (n : ℕ) → n < c.pattern → suits_for r p (get_or ts n []) ≡ true
    none_lower c h n below =
        (none_found_iff (get_or ts n []) n).0 ((lowest_found c h).before n (omega arith) (omega (arith, pattern_is c h)))

    pub none_in_book_iff : (clash_for r p ts ≡ none) ↔ (suits_all_for r p ts ≡ true)
    unfolding clash_for
    none_in_book_iff = (
      λ h. (suits_all_for_iff r p ts).1 (λ t m. each t h (get_d_mem ts [] m)),
      λ h. none_first 0 (length ts) in_book (λ n _ below. (none_found_iff (get_or ts n []) n).1
          ((suits_all_for_iff r p ts).0 h (get_or ts n []) (mem_get_d ts n [] (omega arith)))),
    )
      where
        each : (t : List Pixel) → first 0 (length ts) in_book ≡ none → (n : ℕ) × (n < length ts) × (get_or ts n [] ≡ t) → suits_for r p t ≡ true
        each t h (n, below, is) =
            ap (suits_for r p) (sym is) ∙ (none_found_iff (get_or ts n []) n).0 (first_none 0 (length ts) in_book h n (omega arith) (omega arith))

pub long_clashes_lem : LongClashes
long_clashes_lem r p a_least d_least =
    record {
      in_pattern = λ n t. found_is_first r p a_least d_least t n;
      none_in_pattern = λ n t. none_found_iff r p a_least d_least t n;
      in_book_lem = first_in_book r p a_least d_least;
      lowest = none_lower r p a_least d_least;
      none_in_book = none_in_book_iff r p a_least d_least;
    }
