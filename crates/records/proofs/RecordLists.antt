-- A whole list by its records: one that is not placeable leaves the list as it was, and where all are each is placed.
-- Assumes nothing.
use Rattle.std.specs.Prelude.{is_ok, Ok, Err}
use Prim.Native.Nat.{ℕ, ◌<◌}
use native.Mathlib.Decide.{ℕ_discrete}
use native.Mathlib.Omega.{arith}
use mathlib.Core.Path.{◌≡◌, refl, sym, ◌∙◌, ap, subst}
use mathlib.Core.Bool.{true, false}
use mathlib.Core.Option.{Option, none, some}
use mathlib.Core.List.Memᴰ
use mathlib.Core.List.{List, [], ◌∷◌, map}
use lib.ListN.{length, get_or, length-map}
use Rattle.scope.specs.Search.{gather, whenever, first_of}
use Rattle.scope.specs.Banks.{address_of}
use Rattle.scope.specs.Numbers.{plan_test, sides_test, outside_test}
use Rattle.scope.specs.Calls.{answered, address, record_pixel, placed, fill_records}
use Rattle.scope.specs.promises.Meaning.{Inside, AllInside}
use Rattle.scope.specs.promises.PicturePromises.{no_record}
use Rattle.scope.specs.declared.Plan.{Plan}
use Rattle.scope.specs.declared.PixelRecord.{PixelRecord}
use Rattle.scope.specs.declared.Refusal.{Refusal}
use Rattle.checks.proofs.Searches.{true-not-false, none_not_some}
use Rattle.checks.proofs.Lists.{mem_get_d, get_d_mem, get_d_map, mem-map, map-mem}
use Rattle.checks.proofs.FilledArrays.{gathered}
use Rattle.checks.proofs.Chains.{Gives, chain_none_iff, answered_none, answered_some, changed_answer, changed_content}
use Rattle.checks.proofs.Tests.{all_inside_iff}
use Rattle.checks.proofs.Deciding.{inside_decides}
use Rattle.checks.proofs.Legal.{one_inside}
use Rattle.records.specs.Filling.{is_placeable, placed_if, fill_answer}

-- a call's answer is a number exactly where its tests find nothing
number_passed : (t : Option Refusal) (n : ℕ) → is_ok (answered t Err (Ok n)) ≡ true → t ≡ none
unfolding answered
number_passed none n e = refl
number_passed (some r) n e = absurd (true-not-false (sym e))

passed_number : (t : Option Refusal) (n : ℕ) → t ≡ none → is_ok (answered t Err (Ok n)) ≡ true
unfolding answered
passed_number none n e = refl
passed_number (some r) n e = absurd (none_not_some (sym e))

-- two chains whose last tests agree where the others find nothing
last_alike :
    (x y s t : Option Refusal) → (x ≡ none → y ≡ none → s ≡ t) → first_of (x ∷ y ∷ s ∷ []) ≡ first_of (x ∷ y ∷ t ∷ [])
unfolding first_of
last_alike (some r) y s t h = refl
last_alike none (some r) s t h = refl
last_alike none none s t h = ap (λ (u : Option Refusal). first_of (u ∷ [])) (h refl refl)

-- a chain of no test
no_tests : first_of {A = Refusal} [] ≡ none
unfolding first_of
no_tests = refl

-- a chain whose last test refuses
some_refusal : (x y : Option Refusal) (r : Refusal) → (q : Refusal) × (first_of (x ∷ y ∷ some r ∷ []) ≡ some q)
unfolding first_of
some_refusal (some q) y r = (q, refl)
some_refusal none (some q) r = (q, refl)
some_refusal none none r = (r, refl)

map_of_none : (f : PixelRecord → PixelRecord) (rs : List PixelRecord) → length rs ≡ 0 → map f rs ≡ rs
map_of_none f [] e = refl
map_of_none f (r ∷ rs) e = absurd (omega arith)

always : {X : Type 0} (t : Option Refusal) (x : X) → answered t (λ r. x) x ≡ x
unfolding answered
always none x = refl
always (some r) x = refl

module _ (p : Plan) (W H : ℕ) where
  -- the tests 11, 12 and one more
  abbrev chain : Option Refusal → Option Refusal
  chain t = first_of (plan_test p ∷ sides_test W H ∷ t ∷ [])

  passes : (t : Option Refusal) → plan_test p ≡ none → sides_test W H ≡ none → t ≡ none → chain t ≡ none
  passes t plan sides e =
      (chain_none_iff (plan_test p) (sides_test W H ∷ t ∷ [])).1
      (plan, (chain_none_iff (sides_test W H) (t ∷ [])).1 (sides, (chain_none_iff t []).1 (e, no_tests)))

  module _ (r : PixelRecord) where
    abbrev own : Option Refusal
    own = outside_test W H (record_pixel r ∷ [])

    placeable_passed : is_placeable p W H r ≡ true → chain own ≡ none
    unfolding is_placeable address
    placeable_passed = number_passed (chain own) (address_of p W H (record_pixel r))

    passed_placeable : chain own ≡ none → is_placeable p W H r ≡ true
    unfolding is_placeable address
    passed_placeable = passed_number (chain own) (address_of p W H (record_pixel r))

    -- a placeable record: its plan and its sides, and its pixel inside
    parts : chain own ≡ none → (plan_test p ≡ none) × ((sides_test W H ≡ none) × (first_of (own ∷ []) ≡ none))
    parts e =
        let (plan, rest) = (chain_none_iff (plan_test p) (sides_test W H ∷ own ∷ [])).0 e in
        (plan, (chain_none_iff (sides_test W H) (own ∷ [])).0 rest)

    is_inside : is_placeable p W H r ≡ true → Inside W H (record_pixel r)
    is_inside e =
        (all_inside_iff W H (record_pixel r ∷ [])).0 ((chain_none_iff own []).0 (parts (placeable_passed e)).1.1).0 (record_pixel r)
        (Memᴰ.head refl)

    inside_is : plan_test p ≡ none → sides_test W H ≡ none → Inside W H (record_pixel r) → is_placeable p W H r ≡ true
    inside_is plan sides h =
        passed_placeable
        (passes own plan sides ((all_inside_iff W H (record_pixel r ∷ [])).1 (one_inside W H (record_pixel r) h)))

  module _ (rs : List PixelRecord) where
    abbrev outside : Option Refusal
    outside = outside_test W H (map record_pixel rs)

    abbrev entry : ℕ → PixelRecord
    entry m = get_or rs m no_record

    -- One record that is not placeable: the answer is 11, 12 or 14, and no record changes.
    pub none_filled :
        (m : ℕ) → m < length rs → is_placeable p W H (entry m) ≡ false → Gives (fill_records p W H rs) (fill_answer p W H false) rs
    unfolding fill_records fill_answer whenever
    none_filled m b e =
        let (q, refused) = some_refusal (plan_test p) (sides_test W H) Refusal.Outside in
        let same : chain outside ≡ chain (some Refusal.Outside) = last_alike (plan_test p) (sides_test W H) outside (some Refusal.Outside) found in (
          sym
              (changed_answer (chain outside) Err rs (Ok tt) (map (placed p W H) rs)
              ∙ ap (λ (t : Option Refusal). answered t Err (Ok tt)) same),
          sym
              (changed_content (chain outside) Err rs (Ok tt) (map (placed p W H) rs)
              ∙ answered_some (chain outside) (λ r. rs) (map (placed p W H) rs) q (same ∙ refused)),
        )
      where
        found : plan_test p ≡ none → sides_test W H ≡ none → outside ≡ some Refusal.Outside
        found plan sides =
            (inside_decides W H (map record_pixel rs)).refuses
            (λ all.
            true-not-false
            (sym (inside_is (entry m) plan sides (all (record_pixel (entry m)) (map-mem record_pixel (mem_get_d rs m no_record b)))) ∙ e))

    -- All records placeable: the answer is 11, 12 or done, and each record has its bank and address.
    module _ (each : (m : ℕ) → m < length rs → is_placeable p W H (entry m) ≡ true) where
      all_inside : AllInside W H (map record_pixel rs)
      all_inside v h =
          let (r, k, e) = mem-map record_pixel rs h in
          let (m, b, i) = get_d_mem rs no_record k in
          subst (Inside W H) (ap record_pixel i ∙ e) (is_inside (entry m) (each m b))

      none_outside : outside ≡ none
      none_outside = (all_inside_iff W H (map record_pixel rs)).1 all_inside

      placed_each : map (placed p W H) rs ≡ gather 0 (length rs) (λ m. placed_if p W H (entry m))
      unfolding placed_if
      placed_each =
          gathered no_record (length rs) (λ m. placed_if p W H (entry m)) (map (placed p W H) rs) (length-map rs (placed p W H))
          (λ m b. get_d_map (placed p W H) rs m no_record no_record b ∙ sym (rw (each m b, placed_if)))

      -- where there is a record, no test refuses
      passed : 0 < length rs → chain outside ≡ none
      passed b =
          let h = parts (entry 0) (placeable_passed (entry 0) (each 0 b)) in
          passes outside h.0 h.1.0 none_outside

      content_is :
          Dec (length rs ≡ 0) → answered (chain outside) (λ r. rs) (map (placed p W H) rs) ≡ map (placed p W H) rs
      content_is (no h) = answered_none (chain outside) (λ r. rs) (map (placed p W H) rs) (passed (omega (arith, h)))
      content_is (yes h) =
          ap (answered (chain outside) (λ r. rs)) (map_of_none (placed p W H) rs h)
          ∙ always (chain outside) rs
          ∙ sym (map_of_none (placed p W H) rs h)

      pub all_filled :
          Gives (fill_records p W H rs) (fill_answer p W H true) (gather 0 (length rs) (λ m. placed_if p W H (entry m)))
      unfolding fill_records fill_answer whenever
      all_filled = (
        sym
            (changed_answer (chain outside) Err rs (Ok tt) (map (placed p W H) rs)
            ∙ ap (λ (t : Option Refusal). answered (chain t) Err (Ok tt)) none_outside),
        sym
            (changed_content (chain outside) Err rs (Ok tt) (map (placed p W H) rs)
            ∙ content_is (ℕ_discrete (length rs) 0)
            ∙ placed_each),
      )
