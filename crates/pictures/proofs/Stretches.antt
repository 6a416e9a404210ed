-- Something is put into a list from a place on, stretch after stretch.
-- Assumes nothing.
use Rattle.std.proofs.Common.{◌≡◌, ℕ, ◌+◌, ◌<◌, ◌≤◌, List, [], ◌∷◌, ◌++◌, length, get_or, take, drop, set, sym, refl, ap, ◌∙◌, ap₂, append_assoc, add-one, arith, length-append, length-drop, take-append-drop, length-take-le, take-suc, drop-drop, take_at, drop_at}
use Rattle.scope.specs.Banks.{over_start}
use Rattle.checks.proofs.Outputs.{Put, one_more_put}

-- `new` over the start of what stands in `all` from place i on
abbrev pub over_from : ℕ → List ℕ → List ℕ → List ℕ
over_from i new all = take i all ++ over_start new (drop i all)

pub nothing_put : (i : ℕ) (all : List ℕ) → over_from i [] all ≡ all
unfolding over_start
nothing_put i all = take-append-drop i all

over_start_more : (xs out ys : List ℕ) → xs ++ over_start ys (drop (length xs) out) ≡ over_start (xs ++ ys) out
unfolding over_start
over_start_more xs out ys = rw (drop-drop, length-append, append_assoc) refl

-- A stretch of r entries is put at place i, and the rest goes after it.
module _ (all part : List ℕ) (i r : ℕ) (bound : i + r ≤ length all) (size : length part ≡ r) where
  abbrev put : List ℕ
  put = take i all ++ (part ++ drop r (drop i all))

  abbrev before : List ℕ
  before = take i all ++ part

  ends : length before ≡ i + r
  ends = length-append (take i all) part ∙ ap₂ ◌+◌ (length-take-le i all (omega arith)) size

  joined : put ≡ before ++ drop r (drop i all)
  joined = sym (append_assoc (take i all) part (drop r (drop i all)))

  pub after_stretch : drop (i + r) put ≡ drop r (drop i all)
  after_stretch = ap (drop (i + r)) joined ∙ drop_at before (drop r (drop i all)) (i + r) ends

  pub stretch_length : length put ≡ length all
  stretch_length =
      ap length joined
      ∙ length-append before (drop r (drop i all))
      ∙ omega (arith, ends, length-drop r (drop i all), length-drop i all)

  pub put_after : (rest : List ℕ) → over_from (i + r) rest put ≡ over_from i (part ++ rest) all
  put_after rest =
      ap₂ (λ (xs ys : List ℕ). xs ++ over_start rest ys)
      (ap (take (i + r)) joined ∙ take_at before (drop r (drop i all)) (i + r) ends)
      after_stretch
      ∙ append_assoc (take i all) part (over_start rest (drop r (drop i all)))
      ∙ ap (λ (n : ℕ). take i all ++ (part ++ over_start rest (drop n (drop i all)))) (sym size)
      ∙ ap (λ (xs : List ℕ). take i all ++ xs) (over_start_more part (drop i all) rest)

-- The entries of ys are put one after the other behind xs, which stands at the start.
pub entry_put :
    (xs ys : List ℕ) {before out : List ℕ} (i e : ℕ) → i ≡ length xs + e → e < length ys → i < length before
    → Put (xs ++ take e ys) before out
    → Put (xs ++ take (e + 1) ys) before (set out i (get_or ys e 0))
entry_put xs ys i e at h room put =
    let longer : xs ++ take (e + 1) ys ≡ (xs ++ take e ys) ++ (get_or ys e 0 ∷ []) =
    rw (add-one e, append_assoc) (ap (λ (zs : List ℕ). xs ++ zs) (take-suc ys e 0 h)) in
    rw longer
    (one_more_put put i (get_or ys e 0) (omega (arith, length-append xs (take e ys), length-take-le e ys (omega arith))) room)
