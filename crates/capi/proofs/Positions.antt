-- What stands in the array of an answer after the positions of a clash were put, one after the other.
-- Assumes nothing.
use Prim.Native.Nat.{ℕ, suc, ◌+◌, ◌≤◌, ◌<◌}
use native.Mathlib.Omega.{arith}
use mathlib.Core.Path.{◌≡◌, refl, sym, ◌∙◌, ap}
use mathlib.Core.List.{List, [], ◌∷◌, ◌++◌}
use lib.ListN.{length, get_or, take, set, length-set}
use lib.Seq.{take-suc, take_all, length-take-le}
use Rattle.capi.specs.Told.{put_from}

put_one_more : (k : ℕ) (xs : List ℕ) (x : ℕ) (out : List ℕ) → put_from k (xs ++ (x ∷ [])) out ≡ set (put_from k xs out) (k + length xs) x
put_one_more k [] x out = let same : k ≡ k + 0 = omega arith in ap (λ (i : ℕ). set out i x) same
put_one_more k (y ∷ ys) x out =
    let same : suc k + length ys ≡ k + suc (length ys) = omega arith in
    put_one_more (suc k) ys x (set out k y) ∙ ap (λ (i : ℕ). set (put_from (suc k) ys (set out k y)) i x) same

put_length : (k : ℕ) (xs out : List ℕ) → length (put_from k xs out) ≡ length out
put_length k [] out = refl
put_length k (x ∷ xs) out = put_length (suc k) xs (set out k x) ∙ length-set out k x

-- the first e of these positions stand from place 2 on
pub record Placed (positions before : List ℕ) (e : ℕ) (out : List ℕ) : Type 0 where
  pub is : out ≡ put_from 2 (take e positions) before
  pub same_length : length out ≡ length before

module _ {positions before : List ℕ} where
  pub none_placed : Placed positions before 0 before
  none_placed = record { is = refl; same_length = refl }

  pub one_placed : {e : ℕ} {out : List ℕ} → e < length positions → Placed positions before e out
      → Placed positions before (e + 1) (set out (2 + e) (get_or positions e 0))
  one_placed {e} {out} below p =
      let next : e + 1 ≡ suc e = omega arith in
      let place : 2 + length (take e positions) ≡ 2 + e = omega (arith, length-take-le e positions (omega arith)) in
      record {
        is =
            ap (λ (xs : List ℕ). set xs (2 + e) (get_or positions e 0)) p.is
            ∙ ap (λ (i : ℕ). set (put_from 2 (take e positions) before) i (get_or positions e 0)) (sym place)
            ∙ sym (put_one_more 2 (take e positions) (get_or positions e 0) before)
            ∙ ap (λ (xs : List ℕ). put_from 2 xs before) (sym (take-suc positions e 0 below))
            ∙ ap (λ (n : ℕ). put_from 2 (take n positions) before) (sym next);
        same_length = length-set out (2 + e) (get_or positions e 0) ∙ p.same_length;
      }

  -- all r + 1 of them, or nine
  pub all_placed : {r e : ℕ} {out : List ℕ} → e ≡ suc r → Placed positions before e out
      → out ≡ put_from 2 (take (suc r) positions) before
  all_placed e p = p.is ∙ ap (λ (n : ℕ). put_from 2 (take n positions) before) e

  pub nine_placed : {r e : ℕ} {out : List ℕ} → length positions ≡ 9 → 8 ≤ r → e ≡ 9 → Placed positions before e out
      → out ≡ put_from 2 (take (suc r) positions) before
  nine_placed {r} {e} size many is p =
      p.is
      ∙ ap (λ (xs : List ℕ). put_from 2 xs before)
      (take_all e positions (omega (arith, size, is)) ∙ sym (take_all (suc r) positions (omega (arith, size, many))))
