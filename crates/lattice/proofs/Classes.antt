-- The lattice classes of a pattern's pixels: a plan suits for r exactly if no class holds more than r of them, and what suits for r
-- suits for more.
-- Assumes nothing.
use Prim.Native.Nat.{ℕ, ◌≤◌, ◌<◌}
use native.Mathlib.Omega.{arith}
use mathlib.Core.Path.{◌≡◌, refl, ◌∙◌, ap, ap₂, subst}
use mathlib.Core.Logic.{◌↔◌}
use mathlib.Core.Bool.{true, not}
use mathlib.Core.List.{List, [], ◌∷◌, map, Memᴰ}
use lib.Dec.{ltb}
use lib.IntN.{ℤ, pos, ◌-ℤ◌, ◌+ℤ◌}
use lib.ListN.{length, length-map}
use Rattle.integers.proofs.Ring.{ring, reify}
use Rattle.integers.proofs.Comparisons.{ltb_false_iff}
use Rattle.scope.specs.Search.{picked, some_below}
use Rattle.scope.specs.Plans.{Pixel, at, plus, minus, Combination, InLattice, along, up, lattice_test}
use Rattle.scope.specs.Finding.{pixel_in, together}
use Rattle.scope.specs.Cycles.{class_of, suits_for, suits_all_for}
use Rattle.scope.specs.promises.CyclePromises.{OneClass, UncrowdedIn, SuitsForMeans}
use Rattle.scope.specs.declared.Plan.{Plan}
use Rattle.scope.proofs.MethodAnswers.{fails}
use Rattle.checks.proofs.Searches.{some_below_none, none_some_below, some_below_same, every_holds, holds_every}
use Rattle.checks.proofs.Lists.{get_d_map}
use Rattle.checks.proofs.Picked.{mem_picked, picked_first, picked_ascend, picked_same}
use Rattle.checks.proofs.Patterns.{origin, same_coordinates}
use Rattle.lattice.proofs.Membership.{lattice_means, combination_of_difference, zero_is_combination}

-- By positions: no class is larger.
pub suits_for_iff : (r : ℕ) (p : Plan) (t : List Pixel) → (suits_for r p t ≡ true) ↔ ((e : ℕ) → e < length t → length (class_of p t e) ≤ r)
unfolding suits_for
suits_for_iff r p t = (
  λ h e below. (ltb_false_iff r (length (class_of p t e))).0 (some_below_none (length t) _ (fails refl h) e below),
  λ h. ap not (none_some_below (length t) _ (λ e below. (ltb_false_iff r (length (class_of p t e))).1 (h e below))),
)

-- what suits for r suits for more
pub suits_for_monotone : (r s : ℕ) → r ≤ s → (p : Plan) (t : List Pixel) → suits_for r p t ≡ true → suits_for s p t ≡ true
suits_for_monotone r s more p t h = (suits_for_iff s p t).1 (λ e below. omega (arith, (suits_for_iff r p t).0 h e below))

-- (u - s) - (v - s) = u - v
same_less : (u v s : Pixel) → minus (minus u s) (minus v s) ≡ minus u v
unfolding minus
same_less u v s = same_coordinates (less u.column v.column s.column) (less u.row v.row s.row)
  where
    less : (i j k : ℤ) → (i -ℤ k) -ℤ (j -ℤ k) ≡ i -ℤ j
    less i j k = ring (i ∷ j ∷ k ∷ []) (search reify depth 40 fits 9000) refl

module _ {x y : Pixel} where
  -- a vector less itself is a combination,
  pub itself_joined : (v : Pixel) → Combination x y (minus v v)
  unfolding minus at
  itself_joined v = subst (Combination x y) (same_coordinates (none_of v.column) (none_of v.row)) zero_is_combination
    where
      none_of : (i : ℤ) → pos 0 ≡ i -ℤ i
      none_of i = ring (i ∷ []) (search reify depth 40 fits 9000) refl

  -- and two that are joined to a third are joined
  pub joined_by_third : (u v s : Pixel) → Combination x y (minus u s) → Combination x y (minus v s) → Combination x y (minus u v)
  joined_by_third u v s c d = subst (Combination x y) (same_less u v s) (combination_of_difference c d)

module _ (p : Plan) (a_least : 1 ≤ p.a) (d_least : 1 ≤ p.d) (t : List Pixel) where
  pub together_iff : (e l : ℕ) → (together p t e l ≡ true) ↔ InLattice p (minus (pixel_in t l) (pixel_in t e))
  unfolding together
  together_iff e l = lattice_means p a_least d_least (minus (pixel_in t l) (pixel_in t e))

  -- ascending positions of one class are among those of the class of each of them
  class_at_most : (es : List ℕ) → OneClass (along p) (up p) t es → (e : ℕ) → Memᴰ e es → length es ≤ length (class_of p t e)
  unfolding class_of
  class_at_most es c e m =
      (picked_first (together p t e) (length t) 0 es c.ascending
      (λ l k. record { from = omega arith; below = omega (arith, c.within l k); passes = (together_iff e l).1 (c.joined e l m k) })
      ).as_long

  -- the positions of a class are such positions
  class_is_one : (e : ℕ) → OneClass (along p) (up p) t (class_of p t e)
  unfolding class_of
  class_is_one e =
      record {
        ascending = picked_ascend (together p t e) (length t) 0;
        within = λ l m. omega (arith, (mem_picked (together p t e) 0 (length t) l m).below);
        joined = λ l k m n.
            joined_by_third (pixel_in t k) (pixel_in t l) (pixel_in t e)
            ((together_iff e k).0 (mem_picked (together p t e) 0 (length t) k n).passes)
            ((together_iff e l).0 (mem_picked (together p t e) 0 (length t) l m).passes);
      }

  -- A plan suits for r exactly if its lattice has no class with more than r pixels.
  pub suits_for_means : (r : ℕ) → (suits_for r p t ≡ true) ↔ UncrowdedIn r (along p) (up p) t
  suits_for_means r = (λ h es c. by_list es c h, λ h. (suits_for_iff r p t).1 (λ e below. h (class_of p t e) (class_is_one e)))
    where
      by_list : (es : List ℕ) → OneClass (along p) (up p) t es → suits_for r p t ≡ true → length es ≤ r
      by_list [] c h = omega arith
      by_list (e ∷ es) c h =
          omega (
            arith,
            class_at_most (e ∷ es) c e (Memᴰ.head refl),
            (suits_for_iff r p t).0 h e (c.within e (Memᴰ.head refl)),
          )

-- It suits a list of patterns for r exactly if it suits each of them for r.
pub suits_all_for_iff :
    (r : ℕ) (p : Plan) (ts : List (List Pixel)) → (suits_all_for r p ts ≡ true) ↔ ((t : List Pixel) → Memᴰ t ts → suits_for r p t ≡ true)
unfolding suits_all_for
suits_all_for_iff r p ts = (every_holds (suits_for r p) ts, holds_every (suits_for r p) ts)

-- moving two pixels alike keeps their difference
pub moved_difference : (o v w : Pixel) → minus (plus o v) (plus o w) ≡ minus v w
unfolding minus plus
moved_difference o v w =
    same_coordinates (along o.column v.column w.column) (along o.row v.row w.row)
  where
    along : (x y z : ℤ) → (x +ℤ y) -ℤ (x +ℤ z) ≡ y -ℤ z
    along x y z = ring (x ∷ y ∷ z ∷ []) (search reify depth 40 fits 9000) refl

-- so moving a pattern keeps its classes, and what suits it.
module _ (p : Plan) (o : Pixel) (t : List Pixel) where
  moved_pixel : (e : ℕ) → e < length t → pixel_in (map (plus o) t) e ≡ plus o (pixel_in t e)
  moved_pixel e h = get_d_map (plus o) t e origin origin h

  moved_together : (e l : ℕ) → e < length t → l < length t → together p (map (plus o) t) e l ≡ together p t e l
  unfolding together
  moved_together e l h k =
      ap (lattice_test p) (ap₂ minus (moved_pixel l k) (moved_pixel e h) ∙ moved_difference o (pixel_in t l) (pixel_in t e))

  moved_class : (e : ℕ) → e < length t → class_of p (map (plus o) t) e ≡ class_of p t e
  unfolding class_of
  moved_class e h =
      ap (λ (n : ℕ). picked 0 n (together p (map (plus o) t) e)) (length-map t (plus o))
      ∙ picked_same (together p (map (plus o) t) e) (together p t e) (length t) 0 (λ l _ k. moved_together e l h (omega arith))

  pub moved_suits_for : (r : ℕ) → suits_for r p (map (plus o) t) ≡ suits_for r p t
  unfolding suits_for
  moved_suits_for r =
      ap not
      (ap (λ (n : ℕ). some_below n (λ e. ltb r (length (class_of p (map (plus o) t) e)))) (length-map t (plus o))
      ∙ some_below_same (length t) _ _ (λ e h. ap (λ (es : List ℕ). ltb r (length es)) (moved_class e h)))

pub suits_for_means_classes : SuitsForMeans
suits_for_means_classes =
    record {
      of_pattern = λ r p a_least d_least t. suits_for_means p a_least d_least t r;
      of_book = suits_all_for_iff;
      monotone = suits_for_monotone;
    }
