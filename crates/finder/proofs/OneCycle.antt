-- Of a legal book the search for r = 1 is the finder's: the same plans suit, so the same plan is found and the same least count.
-- Assumes nothing.
use Prim.Native.Nat.{ℕ, ◌≤◌}
use mathlib.Core.Path.{◌≡◌, sym, ◌∙◌}
use mathlib.Core.Logic.{◌↔◌}
use mathlib.Core.List.{List, Memᴰ}
use native.Mathlib.Omega.{arith}
use Rattle.integers.proofs.Comparisons.{same_truth}
use Rattle.scope.specs.Plans.{Pixel, plan, patterns, suits, suits_all}
use Rattle.scope.specs.Finding.{suitable, least_plan, least_count}
use Rattle.scope.specs.Cycles.{suits_for, suits_all_for, suitable_for, least_plan_for, least_count_for}
use Rattle.scope.specs.promises.Meaning.{IsBook}
use Rattle.scope.specs.promises.OneCyclePromises.{Parted}
use Rattle.scope.specs.promises.CyclePromises.{Uncrowded}
use Rattle.scope.specs.declared.Plan.{Plan}
use Rattle.scope.specs.declared.Book.{Book}
use Rattle.checks.proofs.Patterns.{Different, different_in_book}
use Rattle.lattice.proofs.Suits.{suits_all_iff}
use Rattle.lattice.proofs.Classes.{suits_all_for_iff}
use Rattle.lattice.proofs.OneCycle.{uncrowded_one_iff, suits_for_one}
use Rattle.finder.proofs.PlanSearch.{search_same, least_count_is}
use Rattle.finder.proofs.LeastCycles.{least_in_cycles}

module _ (book : Book) (legal : IsBook book) where
  abbrev ts : List (List Pixel)
  ts = patterns book

  different : (t : List Pixel) → Memᴰ t ts → Different t
  different t m = different_in_book book t m legal

  -- the same pairs of vectors
  pub uncrowded_one : (x y : Pixel) → Uncrowded 1 x y ts ↔ Parted x y ts
  uncrowded_one x y = (
    λ h t m. (uncrowded_one_iff x y t (different t m)).0 (h t m),
    λ h t m. (uncrowded_one_iff x y t (different t m)).1 (h t m),
  )

  -- the same plans
  pub suits_one : (p : Plan) → 1 ≤ p.a → 1 ≤ p.d → (t : List Pixel) → Memᴰ t ts → suits_for 1 p t ≡ suits p t
  suits_one p a_least d_least t m = suits_for_one p a_least d_least t (different t m)

  pub suits_all_one : (p : Plan) → 1 ≤ p.a → 1 ≤ p.d → suits_all_for 1 p ts ≡ suits_all p ts
  suits_all_one p a_least d_least =
      same_truth (suits_all_for 1 p ts) (suits_all p ts)
      (λ h. (suits_all_iff p ts).1 (λ t m. sym (suits_one p a_least d_least t m) ∙ (suits_all_for_iff 1 p ts).0 h t m))
      (λ h. (suits_all_for_iff 1 p ts).1 (λ t m. suits_one p a_least d_least t m ∙ (suits_all_iff p ts).0 h t m))

  -- so the same search
  pub least_plan_one : (limit : ℕ) → least_plan_for 1 ts limit ≡ least_plan ts limit
  unfolding plan
  least_plan_one =
      search_same (suitable_for 1 ts) (suitable ts) (λ a b d d_least b_below. suits_all_one (plan a b d) (omega arith) d_least)

  pub least_count_one : least_count_for 1 ts ≡ least_count ts
  least_count_one =
      let (p, found, count) = (least_in_cycles 1 book).enough (omega arith) legal in
      count ∙ sym (least_count_is ts p (sym (least_plan_one 1024) ∙ found))
