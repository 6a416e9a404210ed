-- r = 1 is what there was before: a class with no more than one pixel means that no combination joins two different ones, a plan suits
-- for 1 exactly if it suits, and the clash for 1 is the clash, so this is the first pair of positions of one class.
-- Assumes nothing.
use Prim.Native.Nat.{ℕ, suc, ◌-◌, ◌≤◌, ◌<◌}
use native.Mathlib.Omega.{arith}
use native.Mathlib.Decide.{dec_lt}
use mathlib.Core.Path.{◌≡◌, refl, sym, ◌∙◌, ap, subst}
use mathlib.Core.Logic.Iff
use mathlib.Core.Logic.{◌↔◌, ◌⊎◌, inl, inr}
use mathlib.Core.Bool.{true}
use mathlib.Core.Option.{Option, none, some, map}
use mathlib.Core.List.Memᴰ
use mathlib.Core.List.{List, [], ◌∷◌, Memᴰ}
use lib.Dec.{leb}
use lib.ListN.{length, get_or, take}
use Rattle.integers.proofs.Comparisons.{same_truth, leb_iff}
use Rattle.scope.specs.Search.{first, whenever}
use Rattle.scope.specs.Plans.{Pixel, minus, Combination, InLattice, along, up, suits}
use Rattle.scope.specs.Finding.{pixel_in, together, meeting, clash_in, clash}
use Rattle.scope.specs.Cycles.{suits_for, LongClash, lengthened, followers, clash_in_for, clash_for}
use Rattle.scope.specs.promises.CyclePromises.{Ascending, OneClass, UncrowdedIn, NotAfter}
use Rattle.scope.specs.declared.Plan.{Plan}
use Rattle.scope.specs.declared.Clash.{Clash}
use Rattle.checks.proofs.Searches.{none_not_some, first_same, first_mapped, some_whenever}
use Rattle.checks.proofs.Lists.{mem_get_d, get_d_mem}
use Rattle.checks.proofs.Picked.{ascending_cons, ascending_none, first_is_picked}
use Rattle.checks.proofs.Patterns.{origin, Different}
use Rattle.lattice.proofs.Membership.{combination_of_negative}
use Rattle.lattice.proofs.Suits.{suits_means}
use Rattle.lattice.proofs.Classes.{itself_joined, suits_for_means}
use Rattle.lattice.proofs.LongClashes.{found_is_first, none_found_iff}

-- what holds of two entries holds of each entry of their list
of_two : (P : ℕ → Type 0) (e l : ℕ) → P e → P l → (i : ℕ) → Memᴰ i (e ∷ l ∷ []) → P i
of_two P e l pe pl i m = by_place (Memᴰ.cases_cons m)
  where
    by_last : (i ≡ l) ⊎ Memᴰ i [] → P i
    by_last (inl h) = subst P (sym h) pl
    by_last (inr h) = absurd (Memᴰ.not-nil h)

    by_place : (i ≡ e) ⊎ Memᴰ i (l ∷ []) → P i
    by_place (inl h) = subst P (sym h) pe
    by_place (inr h) = by_last (Memᴰ.cases_cons h)

two_ascend : (e l : ℕ) → e < l → Ascending (e ∷ l ∷ [])
two_ascend e l h = ascending_cons e (l ∷ []) above (ascending_cons l [] (λ i m. absurd (Memᴰ.not-nil m)) ascending_none)
  where
    above : (i : ℕ) → Memᴰ i (l ∷ []) → e < i
    above i m = of_two (λ i. e < i) l l h h i (Memᴰ.tail m)

module _ (x y : Pixel) (t : List Pixel) where
  -- no combination joins two different pixels of t
  abbrev pub PartedIn : Type 0
  PartedIn = (v w : Pixel) → Memᴰ v t → Memᴰ w t → (v ≡ w → ⊥) → Combination x y (minus v w) → ⊥

  -- two positions whose pixels are joined are of one class
  two_joined : (e l : ℕ) → e < l → l < length t → Combination x y (minus (pixel_in t l) (pixel_in t e)) → OneClass x y t (e ∷ l ∷ [])
  two_joined e l h k c =
      record {
        ascending = two_ascend e l h;
        within = of_two (λ i. i < length t) e l (omega arith) k;
        joined = λ i j m n.
            of_two (λ i. Combination x y (minus (pixel_in t j) (pixel_in t i))) e l
            (of_two (λ j. Combination x y (minus (pixel_in t j) (pixel_in t e))) e l (itself_joined (pixel_in t e)) c j n)
            (of_two (λ j. Combination x y (minus (pixel_in t j) (pixel_in t l))) e l
            (combination_of_negative (pixel_in t l) (pixel_in t e) c)
            (itself_joined (pixel_in t l))
            j
            n)
            i
            m;
      }

  -- In a pattern of different pixels no class holds more than one exactly if no combination joins two.
  pub uncrowded_one_iff : Different t → UncrowdedIn 1 x y t ↔ PartedIn
  uncrowded_one_iff different = (there, back)
    where
      there : UncrowdedIn 1 x y t → PartedIn
      there h v w in-v in-w unlike c =
          let (i, i-in, i-is) = get_d_mem t origin in-v in
          let (j, j-in, j-is) = get_d_mem t origin in-w in
          at_places i j i-in j-in (rw (i-is, j-is) c) (λ s. unlike (sym i-is ∙ ap (pixel_in t) s ∙ j-is)) (dec_lt j i) (dec_lt i j)
        where
          at_places : (i j : ℕ) → i < length t → j < length t → Combination x y (minus (pixel_in t i) (pixel_in t j)) → (i ≡ j → ⊥)
              → Dec (j < i) → Dec (i < j) → ⊥
          at_places i j i-in j-in c other (yes l) b = absurd (omega (arith, h (j ∷ i ∷ []) (two_joined j i l i-in c)))
          at_places i j i-in j-in c other (no l) (yes b) =
              absurd (omega (arith, h (i ∷ j ∷ []) (two_joined i j b j-in (combination_of_negative (pixel_in t i) (pixel_in t j) c))))
          at_places i j i-in j-in c other (no l) (no b) = other (omega arith)

      back : PartedIn → UncrowdedIn 1 x y t
      back h [] c = omega arith
      back h (e ∷ []) c = omega arith
      back h (e ∷ l ∷ es) c =
          absurd (h (pixel_in t l) (pixel_in t e) (mem_get_d t l origin l_in) (mem_get_d t e origin (omega (arith, above, l_in)))
          (λ s. different e l above l_in (sym s))
          (c.joined e l (Memᴰ.head refl) (Memᴰ.tail (Memᴰ.head refl))))
        where
          above : e < l
          above = c.ascending 0 1 (omega arith) (omega arith)

          l_in : l < length t
          l_in = c.within l (Memᴰ.tail (Memᴰ.head refl))

-- So a plan suits it for 1 exactly if it suits.
pub suits_for_one : (p : Plan) → 1 ≤ p.a → 1 ≤ p.d → (t : List Pixel) → Different t → suits_for 1 p t ≡ suits p t
suits_for_one p a_least d_least t different =
    same_truth (suits_for 1 p t) (suits p t)
    (λ h. (suits_means p a_least d_least t).1 (parted.0 ((suits_for_means p a_least d_least t 1).0 h)))
    (λ h. (suits_for_means p a_least d_least t 1).1 (parted.1 ((suits_means p a_least d_least t).0 h)))
  where
    parted : UncrowdedIn 1 (along p) (up p) t ↔ PartedIn (along p) (up p) t
    parted = uncrowded_one_iff (along p) (up p) t different

-- The clash for 1 is the clash.
module _ (p : Plan) where
  -- from one position on: the first later one that meets it is its first follower
  clash_for_one_from :
      (n : ℕ) (t : List Pixel) (e : ℕ)
      → whenever (leb 1 (length (followers p t e))) (record { pattern = n; positions = e ∷ take 1 (followers p t e) })
      ≡ map lengthened (first (suc e) (length t - suc e) (meeting p t n e))
  unfolding meeting followers
  clash_for_one_from n t e =
      by_followers (followers p t e)
      ∙ ap (map lengthened) (sym (first_is_picked (together p t e) (pair n e) (length t - suc e) (suc e)))
    where
      pair : ℕ → ℕ → ℕ → Clash
      pair n e l = record { pattern = n; earlier = e; later = l }

      by_followers :
          (ls : List ℕ)
          → ◌≡◌ {A = Option LongClash} (whenever (leb 1 (length ls)) (record { pattern = n; positions = e ∷ take 1 ls }))
          (map lengthened (elim ls [ [] ↦ none | l ∷ ls ↦ some (pair n e l) ]))
      by_followers [] = refl
      by_followers (l ∷ ls) = some_whenever (leb 1 (suc (length ls))) _ ((leb_iff 1 (suc (length ls))).1 (omega arith))

  pub clash_for_one_in : (n : ℕ) (t : List Pixel) → clash_in_for 1 p n t ≡ map lengthened (clash_in p n t)
  unfolding clash_in_for clash_in
  clash_for_one_in n t =
      first_same 0 (length t) _ _ (λ e _ _. clash_for_one_from n t e)
      ∙ first_mapped lengthened 0 (length t) (λ e. first (suc e) (length t - suc e) (meeting p t n e))

  pub clash_for_one : (ts : List (List Pixel)) → clash_for 1 p ts ≡ map lengthened (clash p ts)
  unfolding clash_for clash
  clash_for_one ts =
      first_same 0 (length ts) _ _ (λ n _ _. clash_for_one_in n (get_or ts n []))
      ∙ first_mapped lengthened 0 (length ts) (λ n. clash_in p n (get_or ts n []))

module _ (p : Plan) (a_least : 1 ≤ p.a) (d_least : 1 ≤ p.d) (n : ℕ) (t : List Pixel) where
  -- the pixels at positions e and l are in one class
  abbrev Joined : ℕ → ℕ → Type 0
  Joined e l = InLattice p (minus (pixel_in t l) (pixel_in t e))

  -- of the pairs of positions of one class c names the one with the least earlier position, then the least later one
  pub record FirstPair (c : Clash) : Type 0 where
    pub number : c.pattern ≡ n
    pub ordered : c.earlier < c.later
    pub within : c.later < length t
    pub joined : Joined c.earlier c.later
    pub earliest : (e l : ℕ) → e < l → l < length t → Joined e l → (c.earlier < e) ⊎ ((c.earlier ≡ e) × (c.later ≤ l))

  -- So the clash of a pattern is its first pair,
  pub clash_is_first_pair : (c : Clash) → clash_in p n t ≡ some c → FirstPair c
  clash_is_first_pair c h =
      let (number, f) = found_is_first 1 p a_least d_least t n (lengthened c) (clash_for_one_in p n t ∙ ap (map lengthened) h) in
      record {
        number = number;
        ordered = f.class.ascending 0 1 (omega arith) (omega arith);
        within = f.class.within c.later (Memᴰ.tail (Memᴰ.head refl));
        joined = f.class.joined c.earlier c.later (Memᴰ.head refl) (Memᴰ.tail (Memᴰ.head refl));
        earliest = λ e l below within joined.
            by_order e l (f.first (e ∷ l ∷ []) refl (two_joined (along p) (up p) t e l below within joined));
      }
    where
      by_order : (e l : ℕ) → NotAfter (c.earlier ∷ c.later ∷ []) (e ∷ l ∷ []) → (c.earlier < e) ⊎ ((c.earlier ≡ e) × (c.later ≤ l))
      by_order e l (inl sooner) = inl sooner
      by_order e l (inr (same, inl sooner)) = inr (same, omega arith)
      by_order e l (inr (same, inr (again, _))) = inr (same, omega arith)

  -- and there is none exactly if the plan suits for 1: then no pair is joined, and of different pixels, if the plan suits.
  no_clash_iff_suits_one : (clash_in p n t ≡ none) ↔ (suits_for 1 p t ≡ true)
  no_clash_iff_suits_one =
      Iff.trans (λ e. clash_for_one_in p n t ∙ ap (map lengthened) e, by_found (clash_in p n t) refl)
      (none_found_iff 1 p a_least d_least t n)
    where
      by_found : (o : Option Clash) → clash_in p n t ≡ o → clash_in_for 1 p n t ≡ none → clash_in p n t ≡ none
      by_found none h e = h
      by_found (some c) h e = absurd (none_not_some (sym e ∙ clash_for_one_in p n t ∙ ap (map lengthened) h))

  pub no_clash_none_joined : clash_in p n t ≡ none → (e l : ℕ) → e < l → l < length t → Joined e l → ⊥
  no_clash_none_joined h e l below within joined =
      absurd (omega (
        arith,
        (suits_for_means p a_least d_least t 1).0 (no_clash_iff_suits_one.0 h) (e ∷ l ∷ [])
            (two_joined (along p) (up p) t e l below within joined),
      ))

  pub no_clash_iff_suits : Different t → (clash_in p n t ≡ none) ↔ (suits p t ≡ true)
  no_clash_iff_suits different =
      Iff.trans no_clash_iff_suits_one
      (λ h. sym (suits_for_one p a_least d_least t different) ∙ h, λ h. suits_for_one p a_least d_least t different ∙ h)
