-- The search for a pattern's clash from its last position to its first: two positions are of one class exactly if their pixels have
-- one bank. One list holds for each bank the first position from e on that has it, another for each of these positions how many its
-- bank has from there on.
-- Assumes nothing.
use Prim.Native.Nat.{ℕ, zero, suc, ◌+◌, ◌-◌, ◌≤◌, ◌<◌}
use native.Mathlib.Omega.{arith}
use native.Mathlib.Decide.{ℕ_discrete}
use mathlib.Core.Path.{◌≡◌, refl, sym, ◌∙◌, ap}
use mathlib.Core.Bool.{true}
use mathlib.Core.Option.{Option, map}
use mathlib.Core.List.{List, [], ◌∷◌}
use lib.Dec.{leb, eqb}
use lib.ListN.{length, get_or, take, set, replicate, length-set, length-replicate, get_or-replicate}
use Rattle.integers.proofs.Comparisons.{leb_iff, leb_false_iff, eqb_iff, eqb_false_iff}
use Rattle.scope.specs.Search.{first, picked, whenever}
use Rattle.scope.specs.Plans.{is_plan, pixel_at, pixels}
use Rattle.scope.specs.Finding.{together}
use Rattle.scope.specs.Banks.{bank_of}
use Rattle.scope.specs.Cycles.{LongClash, shortened, followers, clash_in_for}
use Rattle.scope.specs.declared.Plan.{Plan}
use Rattle.scope.specs.declared.Pattern.{Pattern}
use Rattle.scope.specs.declared.Clash.{Clash}
use Rattle.scope.proofs.PlanFacts.{plan_means}
use Rattle.checks.proofs.Searches.{first_here, first_beyond, none_whenever, some_whenever}
use Rattle.checks.proofs.Lists.{get_or-set_same, get_or-set_other}
use Rattle.checks.proofs.Picked.{FirstPicked, picked_here, picked_beyond, picked_same, picked_at_most, first_picked}
use Rattle.checks.proofs.Patterns.{origin, length_pixels, get_d_pixels}
use Rattle.lattice.proofs.Cycles.{together_by_bank}
use Rattle.finder.specs.Clashing.{met_at}
use Rattle.std.specs.Prelude.{Option as Optional, Some, None}

-- the positions k, k + 1, .., m of them, that have bank β
abbrev pub in_bank : (ℕ → ℕ) → ℕ → ℕ → ℕ → List ℕ
in_bank bank β k m = picked k m (λ l. eqb (bank l) β)

-- the first of a list, and 0 of none
abbrev first_or0 : List ℕ → ℕ
first_or0 [] = 0
first_or0 (l ∷ ls) = l

first_taken : (r : ℕ) → 1 ≤ r → (ls : List ℕ) → get_or (take r ls) 0 0 ≡ first_or0 ls
first_taken zero h ls = absurd (omega arith)
first_taken (suc r) h [] = refl
first_taken (suc r) h (l ∷ ls) = refl

module _ (bank : ℕ → ℕ) (β : ℕ) where
  pub bank_here : (k m : ℕ) → bank k ≡ β → in_bank bank β k (suc m) ≡ k ∷ in_bank bank β (suc k) m
  bank_here k m e = picked_here (λ l. eqb (bank l) β) k m ((eqb_iff (bank k) β).1 e)

  pub bank_beyond : (k m : ℕ) → (bank k ≡ β → ⊥) → in_bank bank β k (suc m) ≡ in_bank bank β (suc k) m
  bank_beyond k m u = picked_beyond (λ l. eqb (bank l) β) k m ((eqb_false_iff (bank k) β).1 u)

  -- the first of them is below a number that the range ends below
  first_below : (k m n : ℕ) → k + m ≤ n → 0 < n → first_or0 (in_bank bank β k m) < n
  first_below k m n within some = by_list (in_bank bank β k m) refl
    where
      by_list : (ls : List ℕ) → in_bank bank β k m ≡ ls → first_or0 ls < n
      by_list [] e = some
      by_list (l ∷ ls) e = omega (arith, (first_picked (λ l. eqb (bank l) β) m k l ls e).here.below)

-- the bank of position l, and the clash of positions e and l of pattern n
abbrev pub bank_at : Plan → Pattern → ℕ → ℕ
bank_at p t l = bank_of p (pixel_at t l)

abbrev clash_at : ℕ → ℕ → ℕ → Clash
clash_at n e l = record { pattern = n; earlier = e; later = l }

-- the positions after e with its bank
abbrev behind : Plan → Pattern → ℕ → List ℕ
behind p t e = in_bank (bank_at p t) (bank_at p t e) (suc e) (t.used - suc e)

-- the clash for r that begins at position e of a pattern record; the pattern's clash is the first of these
abbrev clash_from : ℕ → Plan → ℕ → Pattern → ℕ → Option LongClash
clash_from r p n t e =
    whenever (leb r (length (followers p (pixels t) e))) (record { pattern = n; positions = e ∷ take r (followers p (pixels t) e) })

clash_of_record : (r : ℕ) (p : Plan) (n : ℕ) (t : Pattern) → clash_in_for r p n (pixels t) ≡ first 0 t.used (clash_from r p n t)
unfolding clash_in_for
clash_of_record r p n t = ap (λ (u : ℕ). first 0 u (clash_from r p n t)) (length_pixels t)

module _ (p : Plan) (plan : is_plan p ≡ true) (t : Pattern) where
  -- the followers of a position are those after it with its bank
  pub followers_by_bank : (e : ℕ) → e < t.used → followers p (pixels t) e ≡ behind p t e
  unfolding followers
  followers_by_bank e e_in =
      ap (λ (u : ℕ). picked (suc e) (u - suc e) (together p (pixels t) e)) (length_pixels t)
      ∙ picked_same (together p (pixels t) e) (λ l. eqb (bank_at p t l) (bank_at p t e)) (t.used - suc e) (suc e)
      (λ l above below.
      together_by_bank p (plan_means p plan) (pixels t) e l
      ∙ (rw (get_d_pixels t e origin e_in, get_d_pixels t l origin (omega arith)) refl))

-- The positions from e on are searched: `next` has for each bank the first of them, `held` for each of them how many its bank has from
-- there on, and `met` the first two positions of the clash that comes first.
pub record SearchedFrom (r : ℕ) (p : Plan) (n : ℕ) (t : Pattern) (next held : List ℕ) (met : Optional Clash) (e : ℕ) : Type 0 where
  pub size : length next ≡ 1024
  pub room : length held ≡ 64
  pub places : (β : ℕ) → β < 1024 → get_or next β 0 ≡ first_or0 (in_bank (bank_at p t) β e (t.used - e))
  pub counts : (l : ℕ) → e ≤ l → l < t.used → get_or held l 0 ≡ suc (length (behind p t l))
  pub none_held : 0 < e → get_or held 0 0 ≡ 0
  pub found : met ≡ met_at (map shortened (first e (t.used - e) (clash_from r p n t)))

pub none_searched :
    (r : ℕ) (p : Plan) (n : ℕ) (t : Pattern) → SearchedFrom r p n t (replicate 1024 0) (replicate 64 0) None t.used
unfolding picked first met_at
none_searched r p n t =
    let empty : t.used - t.used ≡ 0 = omega arith in
    record {
      size = length-replicate {A = ℕ} 1024 0;
      room = length-replicate {A = ℕ} 64 0;
      places = λ β h. get_or-replicate 1024 β 0 0 h ∙ sym (ap (λ (m : ℕ). first_or0 (in_bank (bank_at p t) β t.used m)) empty);
      counts = λ l from below. absurd (omega arith);
      none_held = λ h. get_or-replicate 64 0 0 0 (omega arith);
      found = sym (ap (λ (m : ℕ). met_at (map shortened (first t.used m (clash_from r p n t)))) empty);
    }

-- from position 0 on: the clash of the pattern
pub all_searched :
    {r : ℕ} {p : Plan} {n : ℕ} {t : Pattern} {next held : List ℕ} {met : Optional Clash} {e : ℕ}
    → SearchedFrom r p n t next held met e → e ≤ 0 → met ≡ met_at (map shortened (clash_in_for r p n (pixels t)))
all_searched {r} {p} {n} {t} {e} s h =
    let start : e ≡ 0 = omega arith in
    let all : t.used - e ≡ t.used = omega arith in
    rw (all, start) at s.found ∙ ap (λ (o : Option LongClash). met_at (map shortened o)) (sym (clash_of_record r p n t))

-- a position that `next` has is in the pattern
pub place_below :
    {r : ℕ} {p : Plan} {n : ℕ} {t : Pattern} {next held : List ℕ} {met : Optional Clash} {e : ℕ}
    → SearchedFrom r p n t next held met e → e ≤ t.used → t.used ≤ 64 → (β : ℕ) → β < 1024 → get_or next β 0 < 64
place_below {p} {t} {e} s within most β h =
    rw (s.places β h) (first_below (bank_at p t) β e (t.used - e) 64 (omega arith) (omega arith))

-- Position e comes to those after it; its bank is k.
module _ {r : ℕ} {p : Plan} (plan : is_plan p ≡ true) {n : ℕ} {t : Pattern} {next held : List ℕ} {met : Optional Clash} {e k : ℕ}
    (s : SearchedFrom r p n t next held met (suc e)) (e_in : e < t.used) (most : t.used ≤ 64) (is : k ≡ bank_at p t e) (small : k < 1024)
  where
    abbrev count : ℕ
    count = get_or held (get_or next k 0) 0

    next_behind : get_or next k 0 ≡ first_or0 (behind p t e)
    next_behind = s.places k small ∙ ap (λ (β : ℕ). first_or0 (in_bank (bank_at p t) β (suc e) (t.used - suc e))) is

    -- how many of those after it have its bank
    count_is : count ≡ length (behind p t e)
    count_is = by_list (behind p t e) refl
      where
        by_list : (ls : List ℕ) → behind p t e ≡ ls → count ≡ length ls
        by_list [] h = ap (λ (l : ℕ). get_or held l 0) (next_behind ∙ ap first_or0 h) ∙ s.none_held (omega arith)
        by_list (l ∷ ls) h =
            let q : FirstPicked (λ l. eqb (bank_at p t l) (bank_at p t e)) (suc e) (t.used - suc e) l ls = first_picked _ (t.used - suc e) (suc e) l ls h in
            let same : bank_at p t l ≡ bank_at p t e = (eqb_iff _ _).0 q.here.passes in
            let end : suc e + (t.used - suc e) ≡ t.used = omega arith in
            let rest : behind p t l ≡ ls =
            ap (λ (β : ℕ). in_bank (bank_at p t) β (suc l) (t.used - suc l)) same ∙ sym (rw end at q.rest) in
            ap (λ (l : ℕ). get_or held l 0) (next_behind ∙ ap first_or0 h)
            ∙ s.counts l q.here.from (omega (arith, q.here.below))
            ∙ ap (λ (ls : List ℕ). suc (length ls)) rest

    pub count_below : count < 64
    count_below = omega (arith, count_is, picked_at_most (λ l. eqb (bank_at p t l) (bank_at p t e)) (t.used - suc e) (suc e))

    one_more : t.used - e ≡ suc (t.used - suc e)
    one_more = omega arith

    next_place : (β : ℕ) → β < 1024 → get_or (set next k e) β 0 ≡ first_or0 (in_bank (bank_at p t) β e (t.used - e))
    next_place β h = rw one_more (by_bank (ℕ_discrete β k))
      where
        by_bank : Dec (β ≡ k) → get_or (set next k e) β 0 ≡ first_or0 (in_bank (bank_at p t) β e (suc (t.used - suc e)))
        by_bank (yes d) =
            ap (λ (i : ℕ). get_or (set next k e) i 0) d
            ∙ get_or-set_same next k e 0 (omega (arith, s.size))
            ∙ sym (ap first_or0 (bank_here (bank_at p t) β e (t.used - suc e) (sym is ∙ sym d)))
        by_bank (no d) =
            get_or-set_other next k β e 0 d
            ∙ s.places β h
            ∙ sym (ap first_or0 (bank_beyond (bank_at p t) β e (t.used - suc e) (λ i. d (sym i ∙ sym is))))

    held_from : (l : ℕ) → e ≤ l → l < t.used → get_or (set held e (count + 1)) l 0 ≡ suc (length (behind p t l))
    held_from l from below = by_place (ℕ_discrete l e)
      where
        by_place : Dec (l ≡ e) → get_or (set held e (count + 1)) l 0 ≡ suc (length (behind p t l))
        by_place (yes d) =
            ap (λ (i : ℕ). get_or (set held e (count + 1)) i 0) d
            ∙ get_or-set_same held e (count + 1) 0 (omega (arith, s.room))
            ∙ omega (arith, count_is, ap (λ (i : ℕ). length (behind p t i)) d)
        by_place (no d) = get_or-set_other held e l (count + 1) 0 d ∙ s.counts l (omega arith) below

    enough_by_count : leb r (length (followers p (pixels t) e)) ≡ leb r count
    enough_by_count = ap (leb r) (ap length (followers_by_bank p plan t e e_in) ∙ sym count_is)

    module _ {met' : Optional Clash} where
      more_searched :
          met' ≡ met_at (map shortened (first e (suc (t.used - suc e)) (clash_from r p n t)))
          → SearchedFrom r p n t (set next k e) (set held e (count + 1)) met' e
      more_searched found =
          record {
            size = length-set next k e ∙ s.size;
            room = length-set held e (count + 1) ∙ s.room;
            places = next_place;
            counts = held_from;
            none_held = λ h. get_or-set_other held e 0 (count + 1) 0 (omega arith) ∙ s.none_held (omega arith);
            found = rw one_more found;
          }

      pub clash_met :
          1 ≤ r → r ≤ count → met' ≡ Some (clash_at n e (get_or next k 0))
          → SearchedFrom r p n t (set next k e) (set held e (count + 1)) met' e
      unfolding met_at shortened
      clash_met r-least h i =
          more_searched
          (i
          ∙ ap (λ (l : ℕ). Some (clash_at n e l))
          (next_behind ∙ sym (ap first_or0 (followers_by_bank p plan t e e_in)) ∙ sym (first_taken r r-least (followers p (pixels t) e)))
          ∙ ap (λ (o : Option LongClash). met_at (map shortened o))
          (sym
          (first_here (clash_from r p n t) e (t.used - suc e) _
          (some_whenever _ _ (enough_by_count ∙ (leb_iff r count).1 h)))))

      pub none_met :
          count < r → met' ≡ met → SearchedFrom r p n t (set next k e) (set held e (count + 1)) met' e
      none_met h i =
          more_searched
          (i
          ∙ s.found
          ∙ ap (λ (o : Option LongClash). met_at (map shortened o))
          (sym
          (first_beyond (clash_from r p n t) e (t.used - suc e) (none_whenever _ _ (enough_by_count ∙ (leb_false_iff r count).1 h)))))
