-- The code's search within one N goes by d and keeps the best plan so far. Of the plans with a d up to this one that is the first by
-- b, then d; once every d was looked at it is the definition's.
-- Assumes nothing.
use Prim.Native.Nat.{ℕ, ◌+◌, ◌*◌, ◌≤◌, ◌<◌}
use native.Mathlib.Nat.{eq_of_mul-eq-mul_right}
use native.Mathlib.Omega.{arith}
use native.Mathlib.Decide.{dec_lt, dec_le}
use mathlib.Core.Path.{◌≡◌, refl, sym, ◌∙◌, ap, subst}
use mathlib.Core.Bool.{Bool}
use mathlib.Core.Option.{Option, none, some}
use Rattle.scope.specs.Plans.{plan, banks}
use Rattle.scope.specs.Finding.{Before, trial, first_with}
use Rattle.scope.specs.declared.Plan.{Plan}
use Rattle.checks.proofs.Searches.{Found, first_found, first_none, none_not_some, some_injective}
use Rattle.finder.specs.Searching.{least_below}
use Rattle.finder.proofs.SuitingPlans.{made, Suiting}
use Rattle.finder.proofs.CountSearch.{FirstWith, Tried, trial_none, trial_some, b_within, d_within, first_with_some, first_with_none}

module _ (test : Plan → Bool) (n : ℕ) where
  -- no suiting plan with n banks and a d of at most e has a b below m
  abbrev NoneBelow : ℕ → ℕ → Type 0
  NoneBelow e m = (q : Plan) → Suiting test q → banks q ≡ n → q.d ≤ e → m ≤ q.b

  -- p is the search's own plan, suits, has n banks, b = m and a d of at most e, and none of these has a smaller d
  record Best (e m : ℕ) (p : Plan) : Type 0 where
    is_made : made p ≡ p
    itself : Suiting test p
    count : banks p ≡ n
    b_is : p.b ≡ m
    d_most : p.d ≤ e
    least_d_lem : (q : Plan) → Suiting test q → banks q ≡ n → q.b ≡ m → q.d ≤ e → p.d ≤ q.d

  -- what was found with d from 1 to e, and the b below which a next plan is looked for: n where nothing was found
  pub record SoFar (e m : ℕ) (o : Option Plan) : Type 0 where
    none_below : NoneBelow e m
    best : (p : Plan) → o ≡ some p → Best e m p
    nothing : o ≡ none → m ≡ n

  pub none_so_far : SoFar 0 n none
  none_so_far =
      record {
        none_below = λ q s k u. absurd (omega (arith, s.d_least));
        best = λ p h. absurd (none_not_some h);
        nothing = λ h. refl;
      }

  -- With the next d too no b is below m, if none was below it so far and none with that d is.
  one_more_none_below : (e m : ℕ) → NoneBelow e m → ((b : ℕ) → b < m → trial test n b (e + 1) ≡ none) → NoneBelow (e + 1) m
  one_more_none_below e m before here q s k u = by_place (dec_le q.d e) (dec_lt q.b m)
    where
      by_place : Dec (q.d ≤ e) → Dec (q.b < m) → m ≤ q.b
      by_place (yes i) j = before q s k i
      by_place (no i) (yes j) = let d_is : q.d ≡ e + 1 = omega arith in absurd (trial_none test n q s k (rw (d_is) (here q.b j)))
      by_place (no i) (no j) = omega arith

  -- A plan that is found with the next d has a smaller b and replaces the best one.
  pub replaced :
      (e m : ℕ) (o : Option Plan) (p : Plan) → SoFar e m o → least_below test n (e + 1) m ≡ some p → SoFar (e + 1) p.b (some p)
  unfolding least_below
  replaced e m o p so_far h =
      record {
        none_below =
            one_more_none_below e p.b (λ q s k u. omega (arith, so_far.none_below q s k u, t.below, r.b_is))
            (λ b u. t.before b (omega arith) (omega (arith, r.b_is)));
        best = λ q same. subst (Best (e + 1) p.b) (some_injective same) itself_best;
        nothing = λ none_is. absurd (none_not_some (sym none_is));
      }
    where
      t : Found 0 m (λ b. trial test n b (e + 1)) p
      t = first_found 0 m (λ b. trial test n b (e + 1)) p h

      r : Tried test n t.where_is (e + 1) p
      r = trial_some test n t.where_is (e + 1) p (omega arith) t.here

      least_d_lem : (q : Plan) → Suiting test q → banks q ≡ n → q.b ≡ p.b → Dec (q.d ≤ e) → p.d ≤ q.d
      least_d_lem q s k same (yes i) = absurd (omega (arith, so_far.none_below q s k i, t.below, r.b_is))
      least_d_lem q s k same (no i) = omega (arith, r.d_is)

      itself_best : Best (e + 1) p.b p
      itself_best =
          record {
            is_made = r.is_made;
            itself = r.itself;
            count = r.count;
            b_is = refl;
            d_most = omega (arith, r.d_is);
            least_d_lem = λ q s k same u. least_d_lem q s k same (dec_le q.d e);
          }

  -- Where none is found the best one stays.
  pub kept : (e m : ℕ) (o : Option Plan) → SoFar e m o → least_below test n (e + 1) m ≡ none → SoFar (e + 1) m o
  unfolding least_below
  kept e m o so_far h =
      record {
        none_below =
            one_more_none_below e m so_far.none_below
            (λ b u. first_none 0 m (λ b. trial test n b (e + 1)) h b (omega arith) (omega arith));
        best = λ p is. still p (so_far.best p is);
        nothing = so_far.nothing;
      }
    where
      still : (p : Plan) → Best e m p → Best (e + 1) m p
      still p b =
          record {
            is_made = b.is_made;
            itself = b.itself;
            count = b.count;
            b_is = b.b_is;
            d_most = omega (arith, b.d_most);
            least_d_lem = λ q s k same u. by_d q s k same (dec_le q.d e);
          }
        where
          by_d : (q : Plan) → Suiting test q → banks q ≡ n → q.b ≡ m → Dec (q.d ≤ e) → p.d ≤ q.d
          by_d q s k same (yes i) = b.least_d_lem q s k same i
          by_d q s k same (no i) = omega (arith, b.d_most)

  -- Once every d was looked at the best one is the first by b, then d.
  only_first : (m : ℕ) (p q : Plan) → NoneBelow n m → Best n m p → FirstWith test n q → p ≡ q
  unfolding banks plan
  only_first m p q below f g =
      let within : q.d ≤ n = d_within test n q g.itself g.count in
      let back : Before q p = g.before p f.itself f.count in
      let same_b : q.b ≡ p.b = omega (arith, below q g.itself g.count within, f.b_is, back.least_b) in
      let same_d : p.d ≡ q.d =
      omega (arith, f.least_d_lem q g.itself g.count (same_b ∙ f.b_is) within, back.then_d same_b) in
      let same_a : p.a ≡ q.a = eq_of_mul-eq-mul_right q.d g.itself.d_least p.a q.a
      (ap (λ (x : ℕ). p.a * x) (sym same_d) ∙ f.count ∙ sym g.count) in
      sym f.is_made ∙ (rw (same_a, sym same_b, same_d) g.is_made)

  pub best_is_first : (m : ℕ) (o : Option Plan) → SoFar n m o → o ≡ first_with test n
  best_is_first m o so_far = by_both o (first_with test n) refl refl
    where
      by_both : (x y : Option Plan) → o ≡ x → first_with test n ≡ y → o ≡ first_with test n
      by_both none none i h = i ∙ sym h
      by_both none (some q) i h =
          let g = first_with_some test n q h in
          let above : m ≤ q.b = so_far.none_below q g.itself g.count (d_within test n q g.itself g.count) in
          absurd (omega (arith, so_far.nothing i, b_within test n q g.itself g.count))
      by_both (some p) none i h = let f = so_far.best p i in absurd (first_with_none test n h p f.itself f.count)
      by_both (some p) (some q) i h =
          i ∙ ap some (only_first m p q so_far.none_below (so_far.best p i) (first_with_some test n q h)) ∙ sym h
