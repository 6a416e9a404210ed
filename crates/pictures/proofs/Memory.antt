-- What a store and a clear do to the words of a memory.
-- Assumes nothing.
use Rattle.std.proofs.Common.{◌≡◌, ℕ, ◌+◌, ◌-◌, ◌*◌, ◌<◌, ◌≤◌, List, ◌++◌, length, get_or, take, drop, replicate, sym, ap, ◌∙◌, mul-le-mul_right, arith, length-append, length-drop, length-set, length-take-le, drop_at}
use native.Mathlib.Decide.{dec_lt, ℕ_discrete}
use lib.ListN.{length-replicate, get_or-replicate, get_or-append}
use Rattle.scope.specs.Plans.{Pixel, banks}
use Rattle.scope.specs.Banks.{depth_of, word_of, after_store, after_clear}
use Rattle.scope.specs.declared.Plan.{Plan}
use Rattle.checks.proofs.Lists.{get_or-append_right, get_or-take, get_or-drop, get_or-set_same, get_or-set_other}
use Rattle.checks.proofs.Lists.{drop-drop, drop-set, append_assoc}

-- where the words of bank k end, which begin at k × depth
abbrev pub bank_end : Plan → ℕ → ℕ → ℕ → ℕ
bank_end p W H k = k * depth_of p W H + depth_of p W H

-- the words of a bank below N are words of the picture
pub bank_in_picture : (p : Plan) (W H k : ℕ) → k < banks p → bank_end p W H k ≤ banks p * depth_of p W H
bank_in_picture p W H k below = omega (arith, mul-le-mul_right (depth_of p W H) below)

-- A store puts its word at its pixel's word and changes no other; the words from n on, past that word, and the length stay.
module _ (p : Plan) (W H : ℕ) (mem : List ℕ) (v : Pixel) (x : ℕ) where
  pub store_puts : word_of p W H v < length mem → get_or (after_store p W H mem v x) (word_of p W H v) 0 ≡ x
  unfolding after_store
  store_puts h = get_or-set_same mem (word_of p W H v) x 0 h

  pub store_elsewhere : (i : ℕ) → (i ≡ word_of p W H v → ⊥) → get_or (after_store p W H mem v x) i 0 ≡ get_or mem i 0
  unfolding after_store
  store_elsewhere i h = get_or-set_other mem (word_of p W H v) i x 0 h

  pub store_past : (n : ℕ) → word_of p W H v < n → drop n (after_store p W H mem v x) ≡ drop n mem
  unfolding after_store
  store_past n h = drop-set n mem (word_of p W H v) x h

  pub store_length : length (after_store p W H mem v x) ≡ length mem
  unfolding after_store
  store_length = length-set mem (word_of p W H v) x

-- If two lists agree from s on, they agree from each later place on, and in each entry from s on.
module _ (xs ys : List ℕ) (s : ℕ) (h : drop s xs ≡ drop s ys) where
  agree_later : (n : ℕ) → s ≤ n → drop n xs ≡ drop n ys
  agree_later n l =
      let e : s + (n - s) ≡ n = omega arith in
      rw (← e) (sym (drop-drop (n - s) s xs) ∙ ap (drop (n - s)) h ∙ drop-drop (n - s) s ys)

  agree_after : (i : ℕ) → s ≤ i → get_or xs i 0 ≡ get_or ys i 0
  agree_after i l =
      let e : s + (i - s) ≡ i = omega arith in
      rw (← e) (sym (get_or-drop s xs (i - s) 0) ∙ ap (λ (r : List ℕ). get_or r (i - s) 0) h ∙ get_or-drop s ys (i - s) 0)

-- A clear puts 0 in each of the depth words of bank k, from k × depth on, and changes no other; the words from n on, past
-- the bank, and the length stay.
module _ (p : Plan) (W H : ℕ) (mem : List ℕ) (k : ℕ) (fits : bank_end p W H k ≤ length mem) where
  before_bank : length (take (k * depth_of p W H) mem) ≡ k * depth_of p W H
  before_bank = length-take-le (k * depth_of p W H) mem (omega arith)

  -- the memory to the bank's end, after the clear
  abbrev to_bank_end : List ℕ
  to_bank_end = take (k * depth_of p W H) mem ++ replicate (depth_of p W H) 0

  length_to_bank_end : length to_bank_end ≡ bank_end p W H k
  length_to_bank_end =
      length-append (take (k * depth_of p W H) mem) (replicate (depth_of p W H) 0)
      ∙ omega (arith, before_bank, length-replicate {A = ℕ} (depth_of p W H) 0)

  cut_at_bank_end : after_clear p W H mem k ≡ to_bank_end ++ drop (bank_end p W H k) mem
  unfolding after_clear
  cut_at_bank_end = sym (append_assoc (take (k * depth_of p W H) mem) (replicate (depth_of p W H) 0) _)

  same_from_bank_end : drop (bank_end p W H k) (after_clear p W H mem k) ≡ drop (bank_end p W H k) mem
  same_from_bank_end = rw cut_at_bank_end (drop_at to_bank_end (drop (bank_end p W H k) mem) _ length_to_bank_end)

  pub clear_zeros : (i : ℕ) → i < depth_of p W H → get_or (after_clear p W H mem k) (k * depth_of p W H + i) 0 ≡ 0
  unfolding after_clear
  clear_zeros i h =
      ap (λ (n : ℕ). get_or (after_clear p W H mem k) (n + i) 0) (sym before_bank)
      ∙ get_or-append_right (take (k * depth_of p W H) mem) _ i 0
      ∙ get_or-append (replicate (depth_of p W H) 0) _ 0 i (omega (arith, length-replicate {A = ℕ} (depth_of p W H) 0))
      ∙ get_or-replicate (depth_of p W H) i 0 0 h

  pub clear_before : (i : ℕ) → i < k * depth_of p W H → get_or (after_clear p W H mem k) i 0 ≡ get_or mem i 0
  unfolding after_clear
  clear_before i h =
      get_or-append (take (k * depth_of p W H) mem) _ 0 i (omega (arith, before_bank))
      ∙ get_or-take (k * depth_of p W H) mem i 0 h

  pub clear_after : (i : ℕ) → bank_end p W H k ≤ i → get_or (after_clear p W H mem k) i 0 ≡ get_or mem i 0
  clear_after = agree_after (after_clear p W H mem k) mem (bank_end p W H k) same_from_bank_end

  -- a word that is none of the bank's stays, and a word that was 0 is 0
  pub clear_elsewhere :
      (i : ℕ) → ((u : ℕ) → u < depth_of p W H → i ≡ k * depth_of p W H + u → ⊥) → get_or (after_clear p W H mem k) i 0 ≡ get_or mem i 0
  clear_elsewhere i apart = by_test (dec_lt i (k * depth_of p W H)) (dec_lt i (bank_end p W H k))
    where
      by_test :
          Dec (i < k * depth_of p W H) → Dec (i < bank_end p W H k) → get_or (after_clear p W H mem k) i 0 ≡ get_or mem i 0
      by_test (yes h) l = clear_before i h
      by_test (no h) (yes l) = absurd (apart (i - k * depth_of p W H) (omega arith) (omega arith))
      by_test (no h) (no l) = clear_after i (omega arith)

  pub clear_keeps_zero : (i : ℕ) → get_or mem i 0 ≡ 0 → get_or (after_clear p W H mem k) i 0 ≡ 0
  clear_keeps_zero i zero-before = by_test (ℕ_discrete (get_or (after_clear p W H mem k) i 0) 0)
    where
      by_test : Dec (get_or (after_clear p W H mem k) i 0 ≡ 0) → get_or (after_clear p W H mem k) i 0 ≡ 0
      by_test (yes h) = h
      by_test (no h) =
          clear_elsewhere i (λ u below e. h (ap (λ (n : ℕ). get_or (after_clear p W H mem k) n 0) e ∙ clear_zeros u below))
          ∙ zero-before

  pub clear_past : (n : ℕ) → bank_end p W H k ≤ n → drop n (after_clear p W H mem k) ≡ drop n mem
  clear_past = agree_later (after_clear p W H mem k) mem (bank_end p W H k) same_from_bank_end

  pub clear_length : length (after_clear p W H mem k) ≡ length mem
  clear_length =
      ap length cut_at_bank_end
      ∙ length-append to_bank_end (drop (bank_end p W H k) mem)
      ∙ omega (arith, length_to_bank_end, length-drop (bank_end p W H k) mem)
