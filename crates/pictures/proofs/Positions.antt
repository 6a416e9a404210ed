-- The positions beside a fetch: they are nine, those of its clash come first, and a refused fetch is told with its clash.
-- Assumes nothing.
use Rattle.std.proofs.Common.{◌≡◌, ℕ, suc, ◌≤◌, Bool, List, [], ◌∷◌, length, take, sym, refl, ap, ◌∙◌, arith, length-take}
use mathlib.Core.Option.{Option, none, some}
use Rattle.scope.specs.Plans.{Pixel, pattern_at, pixels}
use Rattle.scope.specs.Cycles.{LongClash, clash_in_for}
use Rattle.scope.specs.Numbers.{clash_of, turned_down, suits_test, output_test, places, with_positions}
use Rattle.scope.specs.Calls.{clash_beside, fetch_first, fetch_start, moved, edge_test, rest_test, fetch_test}
use Rattle.scope.specs.promises.Demand.{Setting, refused_fetch}
use Rattle.scope.specs.declared.Book.{Book}
use Rattle.scope.specs.declared.Pattern.{Pattern}
use Rattle.scope.specs.declared.Plan.{Plan}
use Rattle.scope.specs.declared.Refusal.{Refusal}
use Rattle.checks.proofs.Chains.{tests_as_one}
use Rattle.checks.proofs.ClashAnswers.{other_number, places_first, beside_none}
use Rattle.finder.proofs.OwnClashes.{first_nine, own_size, OwnClash, own_clash, fetch_passed, fetch_not_ten, rest_not_ten}

module _ (book : Book) (r : ℕ) (p : Plan) (W H words n : ℕ) where
  abbrev first : Option Refusal
  first = fetch_first book r p W H words n

  abbrev found : Option LongClash
  found = clash_in_for r p n (pixels (pattern_at book n))

  abbrev positions : List ℕ
  positions = clash_beside first found

  -- those that a refusal by 10 tells
  abbrev pub told : List ℕ
  told = take (suc r) positions

  -- where the tests before 10 find nothing r is at most 8, and a clash has r + 1 positions
  clash_size : first ≡ none → (r ≤ 8) × ((c : LongClash) → found ≡ some c → length c.positions ≡ suc r)
  clash_size passed = own_size book r p n (fetch_passed book r p W H words n passed)

  -- The positions are nine,
  pub positions_long : length positions ≡ 9
  positions_long = first_nine book r p W H words n

  pub told_most : length told ≤ 9
  told_most = omega (arith, length-take (suc r) positions, positions_long)

  -- and the first r + 1 of them are those of the clash.
  clash_first : first ≡ none → (c : LongClash) → found ≡ some c → told ≡ c.positions
  clash_first passed c h =
      ap (take (suc r)) (beside_none first found passed ∙ ap places h) ∙ places_first c r ((clash_size passed).1 c h)

  -- A fetch whose refusal has a clash passed the tests before 10, and the search found a clash.
  module _ (ring : Bool) (o : Pixel) (room : ℕ) where
    abbrev t : Pattern
    t = pattern_at book n

    abbrev after : List (Option Refusal)
    after = edge_test ring p W H (moved t o) ∷ output_test t.used room ∷ []

    refused_by_10 :
        {f : Refusal} (d : LongClash) → fetch_test ring book r p W H words n o room ≡ some f → clash_of f ≡ some d
        → OwnClash book r p n d first after d
    unfolding fetch_test rest_test fetch_start
    refused_by_10 {f} d e h =
        own_clash book r p n d first after (fetch_not_ten book r p W H words n) (rest_not_ten ring p W H (moved t o) t.used room) d
        (f, tests_as_one [] (first ∷ suits_test r p n t ∷ []) after ∙ e, refl, refl, h)

-- What a refused fetch is to tell: the refusal, with its clash if there is one.
module _ (g : Setting) (n : ℕ) (f : Refusal) where
  abbrev clash : Option LongClash
  clash = clash_in_for g.r g.plan n (pixels (pattern_at g.book n))

  due_alone : clash ≡ none → refused_fetch g n f ≡ turned_down f
  unfolding refused_fetch
  due_alone h = rw (h, refused_fetch)

  due_with : (c : LongClash) → clash ≡ some c → refused_fetch g n f ≡ with_positions c.positions (turned_down f)
  unfolding refused_fetch
  due_with c h = rw (h, refused_fetch)

  -- a refusal that has no clash is told as it is
  told_alone : (es : List ℕ) → clash_of f ≡ none → with_positions es (turned_down f) ≡ refused_fetch g n f
  told_alone es h = other_number es (turned_down f) f h refl ∙ sym (by_clash clash refl)
    where
      by_clash : (o : Option LongClash) → clash ≡ o → refused_fetch g n f ≡ turned_down f
      by_clash none e = due_alone e
      by_clash (some c) e = due_with c e ∙ other_number c.positions (turned_down f) f h refl

  -- That is what a refused fetch tells.
  pub told_as_due :
      (words : ℕ) (ring : Bool) (o : Pixel) (room : ℕ)
      → fetch_test ring g.book g.r g.plan g.W g.H words n o room ≡ some f
      → with_positions (told g.book g.r g.plan g.W g.H words n) (turned_down f) ≡ refused_fetch g n f
  told_as_due words ring o room e = by_clash (clash_of f) refl
    where
      es : List ℕ
      es = told g.book g.r g.plan g.W g.H words n

      by_clash : (l : Option LongClash) → clash_of f ≡ l → with_positions es (turned_down f) ≡ refused_fetch g n f
      by_clash none h = told_alone es h
      by_clash (some d) h =
          let own = refused_by_10 g.book g.r g.plan g.W g.H words n ring o room d e h in
          ap (λ (xs : List ℕ). with_positions xs (turned_down f))
          (clash_first g.book g.r g.plan g.W g.H words n own.passed own.own own.found)
          ∙ sym (due_with own.own own.found)
