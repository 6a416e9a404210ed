-- The positions of a pixel's class from its own on, at most r + 1 of them, put into nine places one after the other: those after it
-- that have its bank.
-- Assumes nothing.
use Prim.Native.Nat.{ℕ, zero, suc, ◌+◌, ◌-◌, ◌^◌, ◌≤◌, ◌<◌}
use native.Mathlib.Omega.{arith}
use mathlib.Core.Path.{◌≡◌, refl, sym, ◌∙◌, ap}
use mathlib.Core.Bool.{true}
use mathlib.Core.List.{List, [], ◌∷◌, ◌++◌, append-nil}
use lib.Dec.{eqb}
use lib.IntN.{pos}
use lib.Signed.{mag}
use lib.ListN.{length, get_or, take, set, replicate, length-append, length-set, length-take}
use lib.Seq.{take-nil, take-append-le}
use mir.Syntax.{w8}
use mir.Val.{to_z, of_z, hbits}
use Rattle.scope.specs.Search.{picked}
use Rattle.scope.specs.Plans.{at, is_plan, pixel_at, pixels}
use Rattle.scope.specs.Banks.{bank_of, over_start}
use Rattle.scope.specs.Cycles.{followers}
use Rattle.scope.specs.declared.Pattern.{Pattern}
use Rattle.scope.specs.declared.Plan.{Plan}
use Rattle.scope.proofs.PlanFacts.{entry_handed}
use Rattle.checks.proofs.Outputs.{Put, first_put, one_more_put, all_put}
use Rattle.checks.proofs.Picked.{picked_append}
use Rattle.finder.proofs.Meetings.{in_bank, bank_here, bank_beyond, bank_at, followers_by_bank}

-- the bank that a callee gave for the coordinates of position l is that of its pixel
pub bank_asked :
    (p : Plan) (t : Pattern) (l : ℕ) {k : ℕ} →
    let i = get_or t.columns l (pos 0) in
    let j = get_or t.rows l (pos 0) in
    mag i < 2 ^ hbits w8 → mag j < 2 ^ hbits w8 → k ≡ bank_of p (at (to_z w8 (of_z w8 i)) (to_z w8 (of_z w8 j))) → k ≡ bank_at p t l
unfolding pixel_at at
bank_asked p t l i-fits j-fits is = is ∙ ap (bank_of p) (entry_handed w8 _ _ i-fits j-fits)

-- one more at the end is among the first r of a list while these are fewer
take_one_more : (r : ℕ) (xs : List ℕ) (x : ℕ) → length (take r xs) < r → take r (xs ++ (x ∷ [])) ≡ take r xs ++ (x ∷ [])
take_one_more zero xs x h = absurd (omega arith)
take_one_more (suc r) [] x h = ap (λ (ys : List ℕ). x ∷ ys) (take-nil r)
take_one_more (suc r) (y ∷ xs) x h = ap (λ (ys : List ℕ). y ∷ ys) (take_one_more r xs x (omega arith))

-- the positions after e and before l that have the bank of e
abbrev between : Plan → Pattern → ℕ → ℕ → List ℕ
between p t e l = in_bank (bank_at p t) (bank_at p t e) (suc e) (l - suc e)

-- the nine places before the loop, e in the first
abbrev first_place : ℕ → List ℕ
first_place e = set (replicate 9 0) 0 e

-- e and the first r of these are put, and m is how many of these there are
pub record PlacedTo (r : ℕ) (p : Plan) (t : Pattern) (e : ℕ) (positions : List ℕ) (m l : ℕ) : Type 0 where
  pub from : e < l
  pub put : Put (e ∷ take r (between p t e l)) (first_place e) positions
  pub size : m ≡ length (take r (between p t e l))

pub none_placed : (r : ℕ) (p : Plan) (t : Pattern) (e : ℕ) → PlacedTo r p t e (first_place e) 0 (e + 1)
unfolding picked
none_placed r p t e =
    let empty : e + 1 - suc e ≡ 0 = omega arith in
    let none : take r (between p t e (e + 1)) ≡ [] = rw empty (take-nil r) in
    record {
      from = omega arith;
      put = rw none (first_put e (replicate 9 0) (omega arith));
      size = rw none refl;
    }

-- Position l comes to those before it.
module _ {r : ℕ} {p : Plan} {t : Pattern} {e : ℕ} {positions : List ℕ} {m l : ℕ} (s : PlacedTo r p t e positions m l) where
  one_more : between p t e (l + 1) ≡ between p t e l ++ in_bank (bank_at p t) (bank_at p t e) l 1
  one_more =
      let steps : l + 1 - suc e ≡ (l - suc e) + 1 = omega (arith, s.from) in
      let end : suc e + (l - suc e) ≡ l = omega (arith, s.from) in
      rw steps
      (picked_append (λ i. eqb (bank_at p t i) (bank_at p t e)) (l - suc e) (suc e) 1
      ∙ ap (λ (k : ℕ). between p t e l ++ in_bank (bank_at p t) (bank_at p t e) k 1) end)

  -- the first r stay as they are
  placed_alike : take r (between p t e (l + 1)) ≡ take r (between p t e l) → PlacedTo r p t e positions m (l + 1)
  placed_alike same = record { from = omega (arith, s.from); put = rw same s.put; size = rw same s.size }

  pub one_placed : m < r → r ≤ 8 → bank_at p t l ≡ bank_at p t e → PlacedTo r p t e (set positions (m + 1) l) (m + 1) (l + 1)
  unfolding picked
  one_placed few most is =
      let here : between p t e (l + 1) ≡ between p t e l ++ (l ∷ []) =
      one_more ∙ ap (λ (ls : List ℕ). between p t e l ++ ls) (bank_here (bank_at p t) (bank_at p t e) l 0 is) in
      let all : take r (between p t e (l + 1)) ≡ take r (between p t e l) ++ (l ∷ []) =
      ap (take r) here ∙ take_one_more r (between p t e l) l (omega (arith, s.size)) in
      record {
        from = omega (arith, s.from);
        put = rw all (one_more_put s.put (m + 1) l (omega (arith, s.size)) (omega (arith, length-set (replicate 9 0) 0 e)));
        size = rw all (omega (arith, s.size, length-append (take r (between p t e l)) (l ∷ [])));
      }

  pub other_bank : (bank_at p t l ≡ bank_at p t e → ⊥) → PlacedTo r p t e positions m (l + 1)
  unfolding picked
  other_bank u =
      placed_alike
      (ap (take r)
      (one_more
      ∙ ap (λ (ls : List ℕ). between p t e l ++ ls) (bank_beyond (bank_at p t) (bank_at p t e) l 0 u)
      ∙ append-nil (between p t e l)))

  pub enough_placed : r ≤ m → PlacedTo r p t e positions m (l + 1)
  enough_placed h =
      placed_alike
      (ap (take r) one_more
      ∙ take-append-le r (between p t e l) _ (omega (arith, s.size, length-take r (between p t e l))))

-- past the last position it is the class
pub all_placed :
    {r : ℕ} {p : Plan} {t : Pattern} {e : ℕ} {positions : List ℕ} {m l : ℕ} → is_plan p ≡ true → e < t.used → PlacedTo r p t e positions m l
    → l ≤ t.used → t.used ≤ l → positions ≡ over_start (e ∷ take r (followers p (pixels t) e)) (replicate 9 0)
all_placed {r} {p} {t} {e} {positions} {l} plan e_in s within past =
    let end : l ≡ t.used = omega arith in
    all_put e e (take r (between p t e l)) _ (replicate 9 0) positions s.put
    (ap (λ (u : ℕ). e ∷ take r (between p t e u)) end ∙ sym (ap (λ (ls : List ℕ). e ∷ take r ls) (followers_by_bank p plan t e e_in)))
