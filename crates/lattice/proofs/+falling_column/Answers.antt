-- `lattice::falling_column` meets its contract.
-- Assumes nothing.
use Prim.Native.Nat.{ℕ, ◌+◌, ◌*◌, ◌-◌, ◌/◌, ◌≤◌}
use mathlib.Core.Path.{sym}
use native.Mathlib.Omega.{arith}
use native.Mathlib.Nat.{mod-lt, div-le_self, mul-le-mul}
use Rattle.lattice.proofs.Carried.{column_stops, column_goes}
use Rattle.lattice.proofs.+falling_column.Goals as goal

-- what the code adds in the place of taking a multiple of y off
small_product : (a p y q : ℕ) → a ≤ 1024 → p ≤ 32768 → p / q * (a - y) ≤ 32768 * 1024
small_product a p y q h k =
    mul-le-mul {n₂ = 32768} {m₂ = 1024} (omega (arith, div-le_self p q)) (omega arith)

pub returns-then-q-eq0 : goal.returns-then-q-eq0
returns-then-q-eq0 t c =
    let a = c.args in
    rw c.if-q-eq0.true (sym (column_stops a.a (omega arith) a.x a.p a.y (omega arith)))

pub overflow_add-x : goal.overflow_add-x
overflow_add-x t c =
    let a = c.args in
    omega (arith, small_product a.a a.p a.y a.q (omega arith) (omega arith))

pub overflow_mul-p : goal.overflow_mul-p
overflow_mul-p t c = omega (arith, overflow_add-x t c)

pub falling_column-requires : goal.falling_column-requires
falling_column-requires t c =
    let a = c.args in
    omega (
      arith,
      c.requires,
      mod-lt a.p {m = a.q} (omega arith),
      mod-lt (a.x + a.p / a.q * (a.a - a.y)) {m = a.a} (omega arith),
    )

pub returns : goal.returns
returns t c =
    let a = c.args in
    rw (column_goes a.a (omega arith) a.x a.p a.y a.q (omega arith) (omega arith)) c.falling_column.ensures
