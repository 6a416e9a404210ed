-- `finder::bank_tables::bases_of` meets its contract. The loop's invariant: the first banks of the rows before j are right,
-- and `row` is j modulo d.
-- Assumes nothing.
use Prim.Native.Nat.{ℕ, ◌*◌, ◌%◌, ◌≤◌, ◌<◌}
use native.Mathlib.Omega.{arith}
use native.Mathlib.Nat.{zero-mod, mul-le-mul_right}
use mathlib.Core.Path.{◌≡◌, sym, ap}
use Rattle.checks.proofs.FilledArrays.{filled_none, filled_more, filled_all}
use Rattle.finder.specs.Counting.{bases_of}
use Rattle.finder.proofs.CellBanks.{bank_in_range}
use Rattle.finder.proofs.CellEntries.{remainder_below, next_remainder}
use Rattle.finder.proofs.bank_tables.bases_of.Goals as goal

pub loop-j-init : goal.loop-j-init
loop-j-init c = (sym (zero-mod _), filled_none _)

-- a row's first bank is below 1024, and so is d
small : (a d j row : ℕ) → 1 ≤ a → 1 ≤ d → a * d ≤ 1024 → row ≡ j % d → row * a < 1024
small a d j row h k m e = rw e (omega (arith, bank_in_range a d j 0 (omega arith) (omega arith)))

factor-small : (a d : ℕ) → 1 ≤ a → a * d ≤ 1024 → d ≤ 1024
factor-small a d h m = omega (arith, mul-le-mul_right d h)

module _ (c : goal.In-loop-j) where
  base-small : c.loop-j.row * c.args.a < 1024
  base-small =
      small _ c.args.d c.loop-j.j _ (omega arith) (omega arith) c.requires.2 c.loop-j.invariant.0

pub next_below-row-requires : goal.next_below-row-requires
next_below-row-requires c =
    (remainder_below _ c.loop-j.j _ c.requires.1 c.loop-j.invariant.0, factor-small c.args.a c.args.d c.requires.0 c.requires.2)

pub loop-j-preserved : goal.loop-j-preserved
loop-j-preserved c =
    (next_remainder c.loop-j.row _ c.loop-j.j _ c.loop-j.invariant.0 c.next_below-row.ensures, filled_more c.loop-j.invariant.1 (ap (λ (k : ℕ). k * c.args.a) c.loop-j.invariant.0))

pub returns : goal.returns
unfolding bases_of
returns c =
    let t = c.loop-j.invariant.1 in filled_all t (omega (arith, t.size))

pub overflow_mul-bases : goal.overflow_mul-bases
overflow_mul-bases c =
    omega (arith, base-small c)

pub overflow_cast-bases : goal.overflow_cast-bases
overflow_cast-bases c =
    omega (arith, base-small c)

pub bounds-bases-j : goal.bounds-bases-j
bounds-bases-j c =
    omega (arith, c.loop-j.invariant.1.size)
