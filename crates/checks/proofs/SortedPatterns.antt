-- A pattern is legal exactly if it is sorted by row, then column, and two sorted patterns with the same set of pixels are the
-- same list (document 02, Card 3).
-- Assumes nothing.
use Prim.Native.Nat.{ℕ, zero, suc, ◌≤◌, ◌<◌}
use native.Mathlib.Omega.{arith}
use native.Mathlib.Decide.{ℕ_discrete, dec_lt}
use mathlib.Core.Path.{◌≡◌, refl, sym, ◌∙◌, ap, subst}
use mathlib.Core.Logic.{◌↔◌}
use mathlib.Core.List.{Memᴰ}
use Rattle.scope.specs.Search.{gather}
use Rattle.scope.specs.Plans.{Pixel, pixel_at, pixels}
use Rattle.scope.specs.promises.Meaning.{Lower, IsPattern}
use Rattle.scope.specs.promises.BookPromises.{Sorted}
use Rattle.scope.specs.declared.Pattern.{Pattern}
use Rattle.checks.proofs.Searches.{gather_same}
use Rattle.checks.proofs.Patterns.{mem_pixels, pixels_mem}
use Rattle.checks.proofs.Orders.{not_lower_than_itself, lower_goes_on}

-- Each of the first n pixels is lower than those after it.
pub record Ascending (pixel : ℕ → Pixel) (n : ℕ) : Type 0 where
  pub lower_than : (e l : ℕ) → e < l → l < n → Lower (pixel e) (pixel l)

-- It is enough that each is lower than the next.
pub ascending_by_steps : (pixel : ℕ → Pixel) (n : ℕ) → ((l : ℕ) → suc l < n → Lower (pixel l) (pixel (suc l))) → Ascending pixel n
ascending_by_steps pixel n step = record { lower_than = λ e l. up_to l e }
  where
    next : (e l : ℕ) → e < suc l → suc l < n → (e < l → Lower (pixel e) (pixel l)) → Dec (e < l) → Lower (pixel e) (pixel (suc l))
    next e l below inside before (yes h) = lower_goes_on (before h) (step l inside)
    next e l below inside before (no h) = subst (λ m. Lower (pixel m) (pixel (suc l))) (omega arith) (step l inside)

    up_to : (l e : ℕ) → e < l → l < n → Lower (pixel e) (pixel l)
    up_to zero e below inside = absurd (omega arith)
    up_to (suc l) e below inside = next e l below inside (λ h. up_to l e h (omega arith)) (dec_lt e l)

-- The pixels of a legal pattern ascend, and a pattern whose pixels ascend has each once.
pub pattern_ascends : (t : Pattern) → IsPattern t → Ascending (pixel_at t) t.used
pattern_ascends t legal =
    ascending_by_steps (pixel_at t) t.used (λ l inside. (legal.each (suc l) inside).ascends l refl)

pub sorted_iff : (t : Pattern) → IsPattern t ↔ Sorted t
sorted_iff t = (there, back)
  where
    there : IsPattern t → Sorted t
    there legal =
        record {
          least = legal.least;
          most = legal.most;
          in_range = λ e h. ((legal.each e h).column, (legal.each e h).row);
          ascending = (pattern_ascends t legal).lower_than;
        }

    back : Sorted t → IsPattern t
    back sorted =
        record {
          least = sorted.least;
          most = sorted.most;
          each = λ e h. record {
            column = (sorted.in_range e h).0;
            row = (sorted.in_range e h).1;
            new = λ l earlier same. not_lower_than_itself _ _ same (sorted.ascending l e earlier h);
            ascends = λ l next. sorted.ascending l e (omega arith) h;
          };
        }

-- Where two patterns agree before position e, a pixel of the one at e stands in the other at e or later.
not_earlier :
    {f g : ℕ → Pixel} {m : ℕ} → Ascending f m → (e : ℕ) → e < m → ((l : ℕ) → l < e → f l ≡ g l)
    → (k : ℕ) → g k ≡ f e → e ≤ k
not_earlier {f} {g} up e inside before k is = by_place (dec_lt k e)
  where
    by_place : Dec (k < e) → e ≤ k
    by_place (yes h) = absurd (not_lower_than_itself (f k) (f e) (before k h ∙ is) (up.lower_than k e h inside))
    by_place (no h) = omega arith

-- Two patterns whose pixels ascend: each pixel of either is one of the other.
module _
    {f g : ℕ → Pixel} {m n : ℕ} (f_ascends : Ascending f m) (g_ascends : Ascending g n)
    (in_g : (e : ℕ) → e < m → (k : ℕ) × (k < n) × (g k ≡ f e)) (in_f : (e : ℕ) → e < n → (k : ℕ) × (k < m) × (f k ≡ g e)) where
  agree_at : (e : ℕ) → e < m → e < n → ((l : ℕ) → l < e → f l ≡ g l) → f e ≡ g e
  agree_at e inside there before = by_places (in_g e inside) (in_f e there)
    where
      by_places : (k : ℕ) × (k < n) × (g k ≡ f e) → (k : ℕ) × (k < m) × (f k ≡ g e) → f e ≡ g e
      by_places (k, below, is) (l, below-l, is-l) = by_place (ℕ_discrete k e) (ℕ_discrete l e)
        where
          by_place : Dec (k ≡ e) → Dec (l ≡ e) → f e ≡ g e
          by_place (yes h) same = sym is ∙ ap g h
          by_place (no h) (yes same) = ap f (sym same) ∙ is-l
          by_place (no h) (no other) =
              let after : e ≤ k = not_earlier f_ascends e inside before k is in
              let after_l : e ≤ l = not_earlier g_ascends e there (λ i p. sym (before i p)) l is-l in
              let high : Lower (g e) (f e) = subst (Lower (g e)) is (g_ascends.lower_than e k (omega arith) below) in
              let low : Lower (f e) (g e) = subst (Lower (f e)) is-l (f_ascends.lower_than e l (omega arith) below-l) in
              absurd (not_lower_than_itself (f e) (f e) refl (lower_goes_on low high))

  agree_before : (e l : ℕ) → l < e → l < m → l < n → f l ≡ g l
  agree_before zero l below inside there = absurd (omega arith)
  agree_before (suc e) l below inside there =
      agree_at l inside there (λ i p. agree_before e i (omega arith) (omega arith) (omega arith))

  pub agree : (e : ℕ) → e < m → e < n → f e ≡ g e
  agree e = agree_before (suc e) e (omega arith)

-- Of two such patterns neither is longer, so they are the same list.
not_longer :
    {f g : ℕ → Pixel} {m n : ℕ} → Ascending f m → Ascending g n
    → ((e : ℕ) → e < m → (k : ℕ) × (k < n) × (g k ≡ f e)) → ((e : ℕ) → e < n → (k : ℕ) × (k < m) × (f k ≡ g e)) → n ≤ m
not_longer {f} {g} {m} {n} f_ascends g_ascends in_g in_f = by_size (dec_lt m n)
  where
    by_size : Dec (m < n) → n ≤ m
    by_size (no h) = omega arith
    by_size (yes h) =
        let (k, below, is) = in_f m h in
        absurd (not_lower_than_itself (g k) (g m) (sym (agree f_ascends g_ascends in_g in_f k below (omega arith)) ∙ is) (g_ascends.lower_than k m below h))

pub same_set_same_list :
    (t u : Pattern) → IsPattern t → IsPattern u → ((v : Pixel) → Memᴰ v (pixels t) ↔ Memᴰ v (pixels u)) → pixels t ≡ pixels u
unfolding pixels
same_set_same_list t u legal other same =
    let size : t.used ≡ u.used = omega (arith, not_longer u_ascends t_ascends in_t in_u, not_longer t_ascends u_ascends in_u in_t) in
    gather_same 0 t.used (pixel_at t) (pixel_at u) (λ e low high. agree t_ascends u_ascends in_u in_t e (omega arith) (omega arith))
    ∙ ap (λ count. gather 0 count (pixel_at u)) size
  where
    t_ascends : Ascending (pixel_at t) t.used
    t_ascends = pattern_ascends t legal

    u_ascends : Ascending (pixel_at u) u.used
    u_ascends = pattern_ascends u other

    in_u : (e : ℕ) → e < t.used → (k : ℕ) × (k < u.used) × (pixel_at u k ≡ pixel_at t e)
    in_u e h = mem_pixels u ((same (pixel_at t e)).0 (pixels_mem t e h))

    in_t : (e : ℕ) → e < u.used → (k : ℕ) × (k < t.used) × (pixel_at t k ≡ pixel_at u e)
    in_t e h = mem_pixels t ((same (pixel_at u e)).1 (pixels_mem u e h))
