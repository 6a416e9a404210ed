-- What it means that a plan suits a pattern: by differences, and by combinations.
-- Assumes nothing.
use mathlib.Core.Path.{◌≡◌, refl, sym, ◌∙◌, ap}
use mathlib.Core.Logic.Iff
use mathlib.Core.Logic.{◌↔◌, ◌⊎◌, inl, inr}
use mathlib.Core.Bool.{Bool, true, false, not, cond}
use mathlib.Core.List.Memᴰ
use mathlib.Core.List.{List, [], ◌∷◌, flat_map, Memᴰ}
use Rattle.scope.specs.Plans.{Pixel, same_pixel, minus, differences, lattice_test, suits, suits_all}
use Rattle.scope.specs.promises.Meaning.{SuitsMeans}
use Rattle.scope.specs.declared.Plan.{Plan}
use Rattle.checks.proofs.Searches.{true-not-false, not_true_is_false, every_holds, holds_every}
use Rattle.checks.proofs.Lists.{mem_flat_map, flat_map_mem}
use Rattle.checks.proofs.BookTests.{same_pixel_iff}
use Rattle.lattice.proofs.Membership.{lattice_means}

-- v is the difference of two different pixels of t
pub record DifferenceIn (t : List Pixel) (v : Pixel) : Type 0 where
  pub left : Pixel
  pub right : Pixel
  pub left_in : Memᴰ left t
  pub right_in : Memᴰ right t
  pub different : left ≡ right → ⊥
  pub is : v ≡ minus left right

-- p - q alone, if p and q are different
abbrev apart : Pixel → Pixel → List Pixel
apart p q = cond (same_pixel p q) [] (minus p q ∷ [])

unless_same : (p q v : Pixel) → Memᴰ v (apart p q) → (p ≡ q → ⊥) × (v ≡ minus p q)
unless_same p q v m = by_test (same_pixel p q) refl m
  where
    by_test : (b : Bool) → same_pixel p q ≡ b → Memᴰ v (cond b [] (minus p q ∷ [])) → (p ≡ q → ⊥) × (v ≡ minus p q)
    by_test true h m = absurd (Memᴰ.not-nil m)
    by_test false h m = (λ e. true-not-false (sym ((same_pixel_iff p q).1 e) ∙ h), only (Memᴰ.cases_cons m))
      where
        only : (v ≡ minus p q) ⊎ Memᴰ v [] → v ≡ minus p q
        only (inl e) = e
        only (inr k) = absurd (Memᴰ.not-nil k)

-- The list of differences holds each difference of two different pixels, and nothing else.
pub mem_differences : (t : List Pixel) (v : Pixel) → Memᴰ v (differences t) → DifferenceIn t v
unfolding differences
mem_differences t v m =
    let k = mem_flat_map (λ p. flat_map (apart p) t) t m in
    let l = mem_flat_map (apart k.0) t k.2 in
    let d = unless_same k.0 l.0 v l.2 in
    record { left = k.0; right = l.0; left_in = k.1; right_in = l.1; different = d.0; is = d.1 }

pub differences_mem :
    (t : List Pixel) (p q : Pixel) → Memᴰ p t → Memᴰ q t → (p ≡ q → ⊥) → Memᴰ (minus p q) (differences t)
unfolding differences
differences_mem t p q m k n =
    flat_map_mem (λ p. flat_map (apart p) t) t p m (flat_map_mem (apart p) t q k (by_test (same_pixel p q) refl))
  where
    by_test : (b : Bool) → same_pixel p q ≡ b → Memᴰ (minus p q) (cond b [] (minus p q ∷ []))
    by_test true h = absurd (n ((same_pixel_iff p q).0 h))
    by_test false h = Memᴰ.head refl

-- no difference of two different pixels of t passes the lattice test
abbrev Apart : Plan → List Pixel → Type 0
Apart p t = (v w : Pixel) → Memᴰ v t → Memᴰ w t → (v ≡ w → ⊥) → lattice_test p (minus v w) ≡ true → ⊥

-- A plan suits a pattern exactly if no difference passes.
suits_iff_apart : (p : Plan) (t : List Pixel) → (suits p t ≡ true) ↔ Apart p t
unfolding suits
suits_iff_apart p t = (there, back)
  where
    fails : Pixel → Bool
    fails v = not (lattice_test p v)

    there : suits p t ≡ true → Apart p t
    there e v w m k unlike h =
        true-not-false (sym (every_holds fails (differences t) e (minus v w) (differences_mem t v w m k unlike)) ∙ ap not h)

    back : Apart p t → suits p t ≡ true
    back h = holds_every fails (differences t) (λ v m. ap not (not_true_is_false _ (not_in v (mem_differences t v m))))
      where
        not_in : (v : Pixel) → DifferenceIn t v → lattice_test p v ≡ true → ⊥
        not_in v d e = h d.left d.right d.left_in d.right_in d.different (ap (lattice_test p) (sym d.is) ∙ e)

-- It suits a list of patterns exactly if it suits each of them.
pub suits_all_iff :
    (p : Plan) (ts : List (List Pixel)) → (suits_all p ts ≡ true) ↔ ((t : List Pixel) → Memᴰ t ts → suits p t ≡ true)
unfolding suits_all
suits_all_iff p ts = (every_holds (suits p) ts, holds_every (suits p) ts)

-- A plan suits a pattern exactly if no combination is the difference of two different pixels of it.
pub suits_means : SuitsMeans
suits_means p a_least d_least t =
    Iff.trans (suits_iff_apart p t) (
      λ h v w m k n c. h v w m k n ((lattice_means p a_least d_least (minus v w)).1 c),
      λ h v w m k n e. h v w m k n ((lattice_means p a_least d_least (minus v w)).0 e),
    )
