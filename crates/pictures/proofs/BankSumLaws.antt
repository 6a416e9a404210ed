-- What a store and a clear do to the sums of the banks, which stay below 2^64; and the sum that a store puts for its bank.
-- Assumes nothing.
use Rattle.std.proofs.Common.{◌≡◌, ℕ, zero, suc, ◌+◌, ◌*◌, ◌^◌, ◌<◌, ◌≤◌, List, [], ◌∷◌, length, get_or, pos, negsuc, ◌+ℤ◌, ◌-ℤ◌, sym, refl, ap, ◌∙◌, mul-le-mul_right, arith}
use native.Mathlib.Decide.{dec_lt, ℕ_discrete}
use Rattle.integers.proofs.Ring.{ring, linear, ◌·◌, reify}
use Rattle.integers.proofs.Digits.{digits_determine}
use Rattle.integers.proofs.Divisions.{remainder_of_small}
use Rattle.scope.specs.Plans.{Pixel, banks}
use Rattle.scope.specs.Banks.{bank_of, address_of, depth_of, word_of, word_in, bank_sum, after_store, after_clear, exchanged}
use Rattle.scope.specs.promises.Meaning.{IsPicture, Inside}
use Rattle.scope.specs.promises.PicturePromises.{WordsOf, total_below}
use Rattle.scope.specs.promises.SumPromises.{Words16}
use Rattle.scope.specs.declared.Plan.{Plan}
use Rattle.lattice.proofs.SameBank.{bank_below_count}
use Rattle.lattice.proofs.Words.{pixels_have_words, depth_at_most}
use Rattle.pictures.proofs.Memory.{bank_end, bank_in_picture, store_puts, store_elsewhere, store_length, clear_zeros, clear_elsewhere, clear_length}
use Rattle.pictures.proofs.BankSums.{total_same, total_below_lem, bank_sum_is_total}

-- a total of which one number changes, and one of zeros
total_changed :
    (n : ℕ) (f g : ℕ → ℕ) (i : ℕ) → i < n → ((j : ℕ) → (j ≡ i → ⊥) → g j ≡ f j) → total_below n g + f i ≡ total_below n f + g i
unfolding total_below
total_changed zero f g i h same = absurd (omega arith)
total_changed (suc n) f g i h same = by_place (ℕ_discrete i n) (total_changed n f g i)
  where
    by_place :
        Dec (i ≡ n)
        → (i < n → ((j : ℕ) → (j ≡ i → ⊥) → g j ≡ f j) → total_below n g + f i ≡ total_below n f + g i)
        → total_below n g + g n + f i ≡ total_below n f + f n + g i
    by_place (yes e) r = omega (arith, ap f e, ap g e, total_same n g f (λ j l. same j (λ d. omega arith)))
    by_place (no e) r = omega (arith, r (omega arith) same, same n (λ d. e (sym d)))

total_of_zeros : (n : ℕ) (f : ℕ → ℕ) → ((i : ℕ) → i < n → f i ≡ 0) → total_below n f ≡ 0
unfolding total_below
total_of_zeros zero f h = refl
total_of_zeros (suc n) f h = omega (arith, total_of_zeros n f (λ i l. h i (omega arith)), h n (omega arith))

-- The old word off and the new one on gives n, where that is no negative number and below 2^64.
pub exchanged_is : (s old x n : ℕ) → n + old ≡ s + x → n < 2 ^ 64 → exchanged s old x ≡ n
unfolding exchanged
exchanged_is s old x n e h =
    let same : pos s -ℤ pos old +ℤ pos x ≡ pos n =
    linear ((negsuc 0 · ap pos e) ∷ []) (ring (pos s ∷ pos old ∷ pos x ∷ pos n ∷ []) (search reify depth 40 fits 9000) refl) in
    rw same (remainder_of_small (2 ^ 64) (omega arith) n h)

module _ (p : Plan) (W H : ℕ) (mem : List ℕ) (picture : IsPicture p W H (length mem)) where
  abbrev D : ℕ
  D = depth_of p W H

  own_words : WordsOf p W H
  own_words = pixels_have_words p W H picture.plan

  pub bank_fits : (k : ℕ) → k < banks p → bank_end p W H k ≤ length mem
  bank_fits k h = omega (arith, bank_in_picture p W H k h, picture.memory)

  sum_is : (k : ℕ) → k < banks p → bank_sum p W H mem k ≡ total_below D (λ i. get_or mem (k * D + i) 0)
  sum_is k h = bank_sum_is_total p W H mem k (bank_fits k h)

  -- the sum of a bank of 16-bit words is below 2^64
  pub sum_below : Words16 mem → (k : ℕ) → k < banks p → bank_sum p W H mem k < 2 ^ 64
  sum_below words k h =
      omega (
        arith,
        sum_is k h,
        total_below_lem D 65536 (λ i. get_or mem (k * D + i) 0) (λ i. words (k * D + i)),
        mul-le-mul_right 65536 (depth_at_most p W H picture.plan picture.w_side picture.h_side),
      )

  -- A store takes the old word off the sum of its bank and adds the new one; the sums of other banks stay.
  module _ (v : Pixel) (x : ℕ) (inside : Inside W H v) where
    abbrev stored : List ℕ
    stored = after_store p W H mem v x

    stored_fits : (k : ℕ) → k < banks p → bank_end p W H k ≤ length stored
    stored_fits k h = omega (arith, bank_fits k h, store_length p W H mem v x)

    word_fits : word_of p W H v < length mem
    word_fits = omega (arith, own_words.word_below v inside, picture.memory)

    pub store_bank_sum :
        bank_sum p W H stored (bank_of p v) + word_in p W H mem v ≡ bank_sum p W H mem (bank_of p v) + x
    unfolding word_in word_of
    store_bank_sum =
        let b : ℕ = bank_of p v in
        let below : b < banks p = bank_below_count p picture.plan v in
        let puts : get_or stored (b * D + address_of p W H v) 0 ≡ x = store_puts p W H mem v x word_fits in
        omega (
          arith,
          sum_is b below,
          bank_sum_is_total p W H stored b (stored_fits b below),
          total_changed D (λ i. get_or mem (b * D + i) 0) (λ i. get_or stored (b * D + i) 0) (address_of p W H v)
              (own_words.address_below v inside)
              (λ j other. store_elsewhere p W H mem v x (b * D + j) (λ e. other (omega (arith, e)))),
          puts,
        )

    pub store_other_bank : (k : ℕ) → k < banks p → (k ≡ bank_of p v → ⊥) → bank_sum p W H stored k ≡ bank_sum p W H mem k
    unfolding word_of
    store_other_bank k h other =
        bank_sum_is_total p W H stored k (stored_fits k h)
        ∙ total_same D _ _ (λ i l. store_elsewhere p W H mem v x (k * D + i)
        (λ e. other (digits_determine D l (own_words.address_below v inside) e).0))
        ∙ sym (sum_is k h)

    -- 16-bit words stay such
    pub store_words_16 : x < 65536 → Words16 mem → Words16 stored
    store_words_16 small words i = by_place (ℕ_discrete i (word_of p W H v))
      where
        by_place : Dec (i ≡ word_of p W H v) → get_or stored i 0 < 65536
        by_place (yes e) = omega (arith, ap (λ (n : ℕ). get_or stored n 0) e, store_puts p W H mem v x word_fits)
        by_place (no e) = omega (arith, store_elsewhere p W H mem v x i e, words i)

  -- A clear makes the sum of its bank 0; the sums of other banks stay.
  module _ (k : ℕ) (below : k < banks p) where
    abbrev cleared : List ℕ
    cleared = after_clear p W H mem k

    cleared_fits : (m : ℕ) → m < banks p → bank_end p W H m ≤ length cleared
    cleared_fits m h = omega (arith, bank_fits m h, clear_length p W H mem k (bank_fits k below))

    pub clear_bank_sum : bank_sum p W H cleared k ≡ 0
    clear_bank_sum =
        bank_sum_is_total p W H cleared k (cleared_fits k below)
        ∙ total_of_zeros D _ (clear_zeros p W H mem k (bank_fits k below))

    pub clear_other_bank : (m : ℕ) → m < banks p → (m ≡ k → ⊥) → bank_sum p W H cleared m ≡ bank_sum p W H mem m
    clear_other_bank m h other =
        bank_sum_is_total p W H cleared m (cleared_fits m h)
        ∙ total_same D _ _ (λ i l. clear_elsewhere p W H mem k (bank_fits k below) (m * D + i)
        (λ u u_below e. other (digits_determine D l u_below e).0))
        ∙ sym (sum_is m h)

    pub clear_words_16 : Words16 mem → Words16 cleared
    clear_words_16 words i = by_test (dec_lt (get_or cleared i 0) 65536)
      where
        by_test : Dec (get_or cleared i 0 < 65536) → get_or cleared i 0 < 65536
        by_test (yes h) = h
        by_test (no h) =
            absurd (h (omega (
              arith,
              words i,
              clear_elsewhere p W H mem k (bank_fits k below) i (λ u u_below e. h (omega (
                arith,
                ap (λ (n : ℕ). get_or cleared n 0) e,
                clear_zeros p W H mem k (bank_fits k below) u u_below,
              ))),
            )))
