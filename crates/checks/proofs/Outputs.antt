-- What stands in an output after words or bytes were put at its start: they come first, and the rest stays. How a loop puts
-- them there, one after the other.
-- Assumes nothing.
use Prim.Native.Nat.{ℕ, suc, ◌+◌, ◌≤◌, ◌<◌}
use native.Mathlib.Omega.{arith}
use mathlib.Core.Path.{◌≡◌, refl, sym, ◌∙◌, ap}
use mathlib.Core.List.{List, [], ◌∷◌, ◌++◌, append_assoc, append-nil}
use lib.ListN.{length, get_or, take, drop, set, length-append, length-drop, length-set, drop_of_length-le, get_or-append}
use lib.Seq.{take-append_seam, drop-append_seam, take_all, drop-cons, drop-drop, set_at, drop-set-lt}
use Rattle.scope.specs.Banks.{over_start}

module _ (xs out : List ℕ) where
  pub over_start_first : take (length xs) (over_start xs out) ≡ xs
  unfolding over_start
  over_start_first = take-append_seam xs (drop (length xs) out)

  pub over_start_words : (i : ℕ) → i < length xs → get_or (over_start xs out) i 0 ≡ get_or xs i 0
  unfolding over_start
  over_start_words i h = get_or-append xs (drop (length xs) out) 0 i h

  pub over_start_rest : drop (length xs) (over_start xs out) ≡ drop (length xs) out
  unfolding over_start
  over_start_rest = drop-append_seam xs (drop (length xs) out)

  -- more words are put at the start of the rest
  over_start_more : (ys : List ℕ) → xs ++ over_start ys (drop (length xs) out) ≡ over_start (xs ++ ys) out
  unfolding over_start
  over_start_more ys = rw (drop-drop, length-append, append_assoc)

  -- the length stays if they fit
  pub over_start_length : length xs ≤ length out → length (over_start xs out) ≡ length out
  unfolding over_start
  over_start_length h = length-append xs (drop (length xs) out) ∙ omega (arith, length-drop (length xs) out)

-- The words xs were put at the start of `before`, which is `out` now.
pub record Put (xs before out : List ℕ) : Type 0 where
  pub same_length : length out ≡ length before
  pub is : out ≡ over_start xs before

-- A word stored at the first place is put there.
pub first_put : (b : ℕ) (out : List ℕ) → 0 < length out → Put (b ∷ []) (set out 0 b) (set out 0 b)
unfolding over_start
first_put b [] h = absurd (omega arith)
first_put b (x ∷ out) h = record { same_length = refl; is = refl }

module _ {xs before out : List ℕ} (put : Put xs before out) where
  -- One more is stored at the place after them.
  pub one_more_put : (i b : ℕ) → i ≡ length xs → i < length before → Put (xs ++ (b ∷ [])) before (set out i b)
  unfolding over_start
  one_more_put i b e h =
      let rest : drop (length xs) before ≡ get_or before (length xs) 0 ∷ drop (suc (length xs)) before =
      drop-cons before (length xs) 0 (omega arith) in
      let after : length (xs ++ (b ∷ [])) ≡ suc (length xs) = simp length-append (omega arith) in
      record {
        same_length = length-set out i b ∙ put.same_length;
        is = rw (put.is, rest, after, append_assoc)
            (set_at xs (get_or before (length xs) 0) (drop (suc (length xs)) before) b i (sym e));
      }

  -- More are put to the part after them, which is lent and comes back.
  pub part_put :
      (ys part : List ℕ) (i k : ℕ) → i ≡ length xs → length before ≤ i + k → i + length ys ≤ length before
      → part ≡ over_start ys (take k (drop i out))
      → Put (xs ++ ys) before (take i out ++ (part ++ drop k (drop i out)))
  part_put ys part i k e h room come =
      let all : take i out ++ (part ++ drop k (drop i out)) ≡ over_start (xs ++ ys) before =
      rw (come, first, rest, whole, none, append-nil) (over_start_more xs before ys) in
      record {
        same_length = ap length all ∙ over_start_length (xs ++ ys) before (simp length-append (omega arith));
        is = all;
      }
    where
      first : take i out ≡ xs
      first = rw (put.is, e) (over_start_first xs before)

      rest : drop i out ≡ drop (length xs) before
      rest = rw (put.is, e) (over_start_rest xs before)

      short : length (drop (length xs) before) ≤ k
      short = omega (arith, length-drop (length xs) before)

      whole : take k (drop (length xs) before) ≡ drop (length xs) before
      whole = take_all k (drop (length xs) before) short

      none : drop k (drop (length xs) before) ≡ []
      none = drop_of_length-le (drop (length xs) before) {i = k} short

-- What stood at the first place does not tell in the end.
pub all_put :
    (b x : ℕ) (xs ys before out : List ℕ) → Put (b ∷ xs) (set before 0 x) out → b ∷ xs ≡ ys → out ≡ over_start ys before
unfolding over_start
all_put b x xs ys before out put e =
    put.is
    ∙ ap (λ (zs : List ℕ). b ∷ (xs ++ zs)) (drop-set-lt (suc (length xs)) before 0 x (omega arith))
    ∙ ap (λ (zs : List ℕ). over_start zs before) e
