-- `pictures::sums::exchange` meets its contract: what was taken off and added is the remainder of the difference.
-- Assumes nothing.
use Rattle.std.proofs.Common.{◌≡◌, ℕ, ◌+◌, ◌/◌, ◌%◌, ◌^◌, ◌<◌, [], ◌∷◌, pos, ◌+ℤ◌, ◌-ℤ◌, sym, arith}
use Rattle.integers.proofs.Divisions.{remainder_is}
use Rattle.integers.proofs.Order.{eq_by}
use Rattle.integers.proofs.Ring.{reify}
use Rattle.scope.specs.Banks.{exchanged}
use Rattle.pictures.proofs.sums.exchange.Goals as goal

-- s less `old` is m modulo 2^64, and m more x is r
taken-and-added :
    (s old x m r : ℕ) → s < 2 ^ 64 → (m + old) % 2 ^ 64 ≡ s → r ≡ (m + x) % 2 ^ 64 → r ≡ exchanged s old x
unfolding exchanged
taken-and-added s old x m r small off on =
    let a : ℕ = (m + old) / 2 ^ 64 in
    let b : ℕ = (m + x) / 2 ^ 64 in
    sym (remainder_is (2 ^ 64) (omega arith) (pos s -ℤ pos old +ℤ pos x) (pos b -ℤ pos a) r (omega (arith, on))
    (eq_by (pos s ∷ pos old ∷ pos x ∷ pos a ∷ pos b ∷ pos r ∷ []) (search reify depth 40) (omega (arith, off, on))))

pub returns : goal.returns
returns c = taken-and-added _ _ _ _ _ (omega arith) c.wrapping_sub_u64.ensures.value c.wrapping_add_u64.ensures.value
