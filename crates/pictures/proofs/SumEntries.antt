-- What a store, a clear and a call that makes them afresh do to the entries of the sums.
-- Assumes nothing.
use Rattle.std.proofs.Common.{◌≡◌, ℕ, ◌<◌, ◌≤◌, List, length, get_or, drop, ap, ◌∙◌, subst, ap₂, zero-add, arith, length-set}
use Rattle.scope.specs.Search.{gather}
use Rattle.scope.specs.Plans.{Pixel, banks}
use Rattle.scope.specs.Banks.{bank_of, word_in, bank_sum, exchanged, sums_after_store, sums_after_clear, fresh_sums, over_start}
use Rattle.scope.specs.Calls.{Lent, size_of}
use Rattle.scope.specs.declared.Plan.{Plan}
use Rattle.checks.proofs.Lists.{get_or-set_same, get_or-set_other, drop-set}
use Rattle.checks.proofs.Outputs.{over_start_words, over_start_rest, over_start_length}
use Rattle.checks.proofs.Searches.{length_gather, get_d_gather}

-- memory and sums that are as long as others
pub same_size :
    (l m : Lent) → length l.memory ≡ length m.memory → length l.sums ≡ length m.sums → size_of l ≡ size_of m
same_size l m words entries = ap₂ (λ (n e : ℕ). record { words = n; entries = e }) words entries

-- A store changes the sum of its bank and no other,
module _ (p : Plan) (W H : ℕ) (mem sums : List ℕ) (v : Pixel) (x : ℕ) where
  pub store_sum :
      bank_of p v < length sums
      → get_or (sums_after_store p W H mem sums v x) (bank_of p v) 0 ≡ exchanged (get_or sums (bank_of p v) 0) (word_in p W H mem v) x
  unfolding sums_after_store
  store_sum h = get_or-set_same sums (bank_of p v) _ 0 h

  pub store_other_sums : (k : ℕ) → (k ≡ bank_of p v → ⊥) → get_or (sums_after_store p W H mem sums v x) k 0 ≡ get_or sums k 0
  unfolding sums_after_store
  store_other_sums k h = get_or-set_other sums (bank_of p v) k _ 0 h

  pub store_sums_past : (n : ℕ) → bank_of p v < n → drop n (sums_after_store p W H mem sums v x) ≡ drop n sums
  unfolding sums_after_store
  store_sums_past n h = drop-set n sums (bank_of p v) _ h

  pub store_sums_length : length (sums_after_store p W H mem sums v x) ≡ length sums
  unfolding sums_after_store
  store_sums_length = length-set sums (bank_of p v) _

-- so does a clear,
module _ (sums : List ℕ) (k : ℕ) where
  pub clear_sum : k < length sums → get_or (sums_after_clear sums k) k 0 ≡ 0
  unfolding sums_after_clear
  clear_sum h = get_or-set_same sums k 0 0 h

  pub clear_other_sums : (m : ℕ) → (m ≡ k → ⊥) → get_or (sums_after_clear sums k) m 0 ≡ get_or sums m 0
  unfolding sums_after_clear
  clear_other_sums m h = get_or-set_other sums k m 0 0 h

  pub clear_sums_past : (n : ℕ) → k < n → drop n (sums_after_clear sums k) ≡ drop n sums
  unfolding sums_after_clear
  clear_sums_past n h = drop-set n sums k 0 h

  pub clear_sums_length : length (sums_after_clear sums k) ≡ length sums
  unfolding sums_after_clear
  clear_sums_length = length-set sums k 0

-- and sums made afresh are those of the memory, up to N.
module _ (p : Plan) (W H : ℕ) (mem sums : List ℕ) where
  abbrev made : List ℕ
  made = gather 0 (banks p) (bank_sum p W H mem)

  made_long : length made ≡ banks p
  made_long = length_gather 0 (banks p) (bank_sum p W H mem)

  pub fresh_sum : (k : ℕ) → k < banks p → get_or (fresh_sums p W H mem sums) k 0 ≡ bank_sum p W H mem k
  unfolding fresh_sums
  fresh_sum k h =
      over_start_words made sums k (omega (arith, made_long))
      ∙ get_d_gather 0 (banks p) (bank_sum p W H mem) k 0 h
      ∙ ap (bank_sum p W H mem) (zero-add k)

  pub fresh_past : drop (banks p) (fresh_sums p W H mem sums) ≡ drop (banks p) sums
  unfolding fresh_sums
  fresh_past = subst (λ (n : ℕ). drop n (over_start made sums) ≡ drop n sums) made_long (over_start_rest made sums)

  pub fresh_length : banks p ≤ length sums → length (fresh_sums p W H mem sums) ≡ length sums
  unfolding fresh_sums
  fresh_length h = over_start_length made sums (omega (arith, made_long))
