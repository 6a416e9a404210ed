-- The one argument over r: of the plans that suit for r the search finds the one whose count is least among all pairs of integer
-- vectors whose lattice has no class with more than r pixels of one pattern, and none exactly where all these are above the limit.
-- Assumes nothing.
use Prim.Native.Nat.{ℕ, suc, ◌+◌, ◌*◌, ◌≤◌}
use native.Mathlib.Omega.{arith}
use mathlib.Core.Path.{◌≡◌, refl, sym, ◌∙◌, ap}
use mathlib.Core.Logic.{◌↔◌}
use mathlib.Core.Bool.{true}
use mathlib.Core.Option.{none, some}
use mathlib.Core.List.{List, [], ◌∷◌}
use lib.IntN.{pos, nat_abs}
use lib.ListN.{length}
use Rattle.integers.proofs.Integers.{pos_injective}
use Rattle.integers.proofs.Ring.{ring, reify}
use Rattle.integers.proofs.Divisions.{ceiling_division}
use Rattle.integers.proofs.Digits.{digits_determine, digits_below}
use Rattle.scope.specs.Plans.{Pixel, minus, patterns, plan, banks, along, up, determinant, determinant_size, normal_form}
use Rattle.scope.specs.Finding.{Before, pixel_in, box_width, box_height}
use Rattle.scope.specs.Banks.{bank_of}
use Rattle.scope.specs.Cycles.{suits_for, suits_all_for, suitable_for, least_plan_for, least_count_for, cycle_of}
use Rattle.scope.specs.promises.Meaning.{IsPlan, IsBook, Independent}
use Rattle.scope.specs.promises.PlanPromises.{Generates}
use Rattle.scope.specs.promises.CyclePromises.{OneClass, Uncrowded, LeastForCycles, NoneForCycles, LeastInCyclesEach}
use Rattle.scope.specs.declared.Plan.{Plan}
use Rattle.scope.specs.declared.Book.{Book}
use Rattle.checks.proofs.Patterns.{different_in_book}
use Rattle.lattice.proofs.SameBank.{bank_below_count}
use Rattle.lattice.proofs.Suits.{suits_all_iff}
use Rattle.lattice.proofs.NormalForm.{normal_form_is_only}
use Rattle.lattice.proofs.Classes.{suits_for_means, suits_all_for_iff, suits_for_monotone}
use Rattle.lattice.proofs.Cycles.{earlier_cycle_smaller, cycle_below}
use Rattle.lattice.proofs.OneCycle.{suits_for_one}
use Rattle.finder.proofs.SuitingPlans.{Suiting, suiting_banks, suitable_for_by_numbers, suiting_passes, passes_suiting, plan_suiting}
use Rattle.finder.proofs.PlanSearch.{least_is_plan, least_plan_some, least_plan_none, none_least_plan, some_least_plan, count_is}
use Rattle.finder.proofs.Pigeonhole.{pigeonhole}
use Rattle.finder.proofs.Boxes.{box, box_suits, box_within}

-- the determinant of a plan's own two vectors is its count
determinant_of_plan : (p : Plan) → determinant (along p) (up p) ≡ pos (banks p)
unfolding determinant banks
determinant_of_plan p = ring (pos p.a ∷ pos p.b ∷ pos p.d ∷ []) (search reify depth 40 fits 9000) refl

determinant_size_of_plan : (p : Plan) → determinant_size (along p) (up p) ≡ banks p
unfolding determinant_size
determinant_size_of_plan p = ap nat_abs (determinant_of_plan p)

-- so these are independent
independent_of_plan : (p : Plan) → 1 ≤ banks p → Independent (along p) (up p)
independent_of_plan p some-bank e =
    let k : banks p ≡ 0 = pos_injective (sym (determinant_of_plan p) ∙ e) in
    absurd (omega arith)

-- A plan that suits a pattern for r has room for its pixels: bank and cycle of each are its own.
pixels_at_most : (r : ℕ) (p : Plan) → IsPlan p → (t : List Pixel) → suits_for r p t ≡ true → length t ≤ banks p * r
pixels_at_most r p legal t h =
    pigeonhole (length t) (banks p * r) (λ e. bank_of p (pixel_in t e) * r + cycle_of p t e)
    (λ e below. digits_below (banks p) r (bank_below_count p legal (pixel_in t e)) (cycle_below p legal t r h e below))
    (λ e l up below same.
    let (b, c) = digits_determine r (cycle_below p legal t r h e (omega arith)) (cycle_below p legal t r h l below) same in
    absurd (omega (arith, earlier_cycle_smaller p t e l up b, c)))

module _ (r : ℕ) (ts : List (List Pixel)) where
  abbrev Suits : Plan → Type 0
  Suits p = Suiting (suitable_for r ts) p

  -- A plan suits for r exactly if its own two vectors leave no class with more than r pixels.
  suits_iff_uncrowded : (p : Plan) → 1 ≤ p.a → 1 ≤ p.d → (suits_all_for r p ts ≡ true) ↔ Uncrowded r (along p) (up p) ts
  suits_iff_uncrowded p a_least d_least = (
    λ e t m. (suits_for_means p a_least d_least t r).0 ((suits_all_for_iff r p ts).0 e t m),
    λ h. (suits_all_for_iff r p ts).1 (λ t m. (suits_for_means p a_least d_least t r).1 (h t m)),
  )

  suiting_suits : (p : Plan) → Suits p → suits_all_for r p ts ≡ true
  suiting_suits = suiting_passes (suitable_for r ts) (suitable_for_by_numbers r ts)

  suiting_uncrowded : (p : Plan) → Suits p → Uncrowded r (along p) (up p) ts
  suiting_uncrowded p s = (suits_iff_uncrowded p s.a_least s.d_least).0 (suiting_suits p s)

  -- The normal form of such vectors suits for r: it has their lattice, so the same classes.
  normal_form_suits : (x y : Pixel) → Independent x y → Uncrowded r x y ts → Suits (normal_form x y)
  normal_form_suits x y independent uncrowded =
      passes_suiting (suitable_for r ts) (suitable_for_by_numbers r ts) (normal_form x y) g.a_least g.d_least g.b_below
      ((suits_iff_uncrowded (normal_form x y) g.a_least g.d_least).1 (λ t m es c. uncrowded t m es (same_class t es c)))
    where
      g : Generates (normal_form x y) x y
      g = normal_form_is_only.generates x y independent

      same_class : (t : List Pixel) (es : List ℕ) → OneClass (along (normal_form x y)) (up (normal_form x y)) t es → OneClass x y t es
      same_class t es c =
          record {
            ascending = c.ascending;
            within = c.within;
            joined = λ e l m n. (g.same (minus (pixel_in t l) (pixel_in t e))).1 (c.joined e l m n);
          }

  -- What no suiting plan's count is below, no determinant of such vectors is below.
  bound_for_vectors :
      (n : ℕ) → ((q : Plan) → Suits q → n ≤ banks q) → (x y : Pixel) → Independent x y → Uncrowded r x y ts → n ≤ determinant_size x y
  bound_for_vectors n bound x y independent uncrowded =
      rw (normal_form_is_only.banks_are x y independent) at (bound (normal_form x y) (normal_form_suits x y independent uncrowded))

module _ (r : ℕ) (book : Book) where
  abbrev ts : List (List Pixel)
  ts = patterns book

  least_found :
      (limit : ℕ) → limit ≤ 1024 → (p : Plan) → least_plan_for r ts limit ≡ some p → LeastForCycles r book p × (banks p ≤ limit)
  least_found limit most p f =
      let (least, within) = least_plan_some (suitable_for r ts) limit p f in (
        record {
          plan = least_is_plan (suitable_for r ts) p least (omega (arith, within));
          suiting = suiting_suits r ts p least.itself;
          uncrowded = suiting_uncrowded r ts p least.itself;
          least = bound_for_vectors r ts (banks p) least.least_count_lem;
        },
        within,
      )

  none_found : (limit : ℕ) → (least_plan_for r ts limit ≡ none) ↔ NoneForCycles r book limit
  none_found limit = (
    λ f. bound_for_vectors r ts (suc limit) (least_plan_none (suitable_for r ts) limit f),
    λ above. none_least_plan (suitable_for r ts) limit (λ q s.
        rw (determinant_size_of_plan q) at
        (above (along q) (up q) (independent_of_plan q (suiting_banks (suitable_for r ts) q s)) (suiting_uncrowded r ts q s))),
  )

  comes_first :
      (limit : ℕ) (p : Plan) → least_plan_for r ts limit ≡ some p
      → (q : Plan) → IsPlan q → suits_all_for r q ts ≡ true → banks q ≡ banks p → Before p q
  comes_first limit p f q legal suiting =
      (least_plan_some (suitable_for r ts) limit p f).0.before q
      (plan_suiting (suitable_for r ts) (suitable_for_by_numbers r ts) q legal suiting)

  -- The box suits for each r from 1 on, as it suits for 1.
  box_suits_for : 1 ≤ r → IsBook book → Suits r ts (box ts)
  unfolding plan box_width box_height
  box_suits_for r-least legal =
      passes_suiting (suitable_for r ts) (suitable_for_by_numbers r ts) (box ts) (omega arith) (omega arith) (omega arith)
      ((suits_all_for_iff r (box ts) ts).1 (λ t m.
      suits_for_monotone 1 r r-least (box ts) t
      (suits_for_one (box ts) (omega arith) (omega arith) t (different_in_book book t m legal)
      ∙ (suits_all_iff (box ts) ts).0 (box_suits ts) t m)))

  at_most_box : 1 ≤ r → IsBook book → (limit : ℕ) (p : Plan) → least_plan_for r ts limit ≡ some p → banks p ≤ box_width ts * box_height ts
  unfolding plan banks
  at_most_box r-least legal limit p f =
      (least_plan_some (suitable_for r ts) limit p f).0.least_count_lem (box ts) (box_suits_for r-least legal)

  enough_limit : 1 ≤ r → IsBook book → (p : Plan) × (least_plan_for r ts 1024 ≡ some p) × (least_count_for r ts ≡ banks p)
  unfolding least_count_for
  enough_limit r-least legal =
      let (p, f) = some_least_plan (suitable_for r ts) 1024 (box ts) (box_suits_for r-least legal) (box_within book legal) in
      (p, f, count_is (suitable_for r ts) p f)

pub least_in_cycles : LeastInCyclesEach
least_in_cycles r book =
    record {
      found = least_found r book;
      none_found = none_found r book;
      order = comes_first r book;
      pixel_count = λ r-least p legal suiting t m.
          (ceiling_division (length t) r r-least (banks p)).1
          (pixels_at_most r p legal t ((suits_all_for_iff r p (patterns book)).0 suiting t m));
      box = at_most_box r book;
      enough = enough_limit r book;
    }
