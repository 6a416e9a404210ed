-- What a test that computes says of numbers, and tests put together.
-- Assumes nothing.
use Prim.Native.Nat.{ℕ, ◌≤◌, ◌<◌}
use mathlib.Core.Path.{◌≡◌, refl, sym, ap}
use mathlib.Core.Logic.Iff
use mathlib.Core.Logic.{◌↔◌}
use mathlib.Core.Bool.{Bool, true, false, not, ◌&&◌, ◌||◌, and-eq-true_iff, false≢true}
use lib.Dec.{leb, ltb, eqb}
use borrow.Author.Tests.{ltb-true, ltb-false, leb-true, leb-false, eqb-true, eqb-false, not-false}
use borrow.Author.Tests.{lt-ltb, le-ltb, le-leb, lt-leb, eq-eqb, ne_eqb}

-- Tests of two numbers.
pub leb_iff : (m n : ℕ) → (leb m n ≡ true) ↔ (m ≤ n)
leb_iff m n = (leb-true m n, le-leb m n)

pub leb_false_iff : (m n : ℕ) → (leb m n ≡ false) ↔ (n < m)
leb_false_iff m n = (leb-false m n, lt-leb m n)

pub ltb_iff : (m n : ℕ) → (ltb m n ≡ true) ↔ (m < n)
ltb_iff m n = (ltb-true m n, lt-ltb m n)

pub ltb_false_iff : (m n : ℕ) → (ltb m n ≡ false) ↔ (n ≤ m)
ltb_false_iff m n = (ltb-false m n, le-ltb m n)

pub eqb_iff : (m n : ℕ) → (eqb m n ≡ true) ↔ (m ≡ n)
eqb_iff m n = (eqb-true m n, eq-eqb m n)

pub eqb_false_iff : (m n : ℕ) → (eqb m n ≡ false) ↔ (m ≡ n → ⊥)
eqb_false_iff m n = (eqb-false m n, ne_eqb m n)

module _ {P Q : Type 0} where
  -- two tests of which both hold, and two of which neither does
  pub and_iff : (a b : Bool) → (a ≡ true) ↔ P → (b ≡ true) ↔ Q → (a && b ≡ true) ↔ (P × Q)
  and_iff a b h k = Iff.trans (and-eq-true_iff a b) (Iff.and h k)

  pub or_false_iff : (a b : Bool) → (a ≡ false) ↔ P → (b ≡ false) ↔ Q → (a || b ≡ false) ↔ (P × Q)
  or_false_iff a b h k = Iff.trans (neither a b) (Iff.and h k)
    where
      neither : (a b : Bool) → (a || b ≡ false) ↔ ((a ≡ false) × (b ≡ false))
      neither true b = (λ e. absurd (false≢true (sym e)), λ t. absurd (false≢true (sym t.0)))
      neither false b = (λ e. (refl, e), λ t. t.1)

-- a test that does not fail
pub not_iff : {P : Type 0} (b : Bool) → (b ≡ true) ↔ P → (not b ≡ false) ↔ P
not_iff b h = Iff.trans (not-false b, ap not) h

-- two tests that hold together are the same
pub same_truth : (a b : Bool) → (a ≡ true → b ≡ true) → (b ≡ true → a ≡ true) → a ≡ b
same_truth true b there back = sym (there refl)
same_truth false true there back = back refl
same_truth false false there back = refl
