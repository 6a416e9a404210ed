-- `integers::quotient` meets its contract: the machine's quotient is brought to the floor.
-- Assumes nothing.
use mir.Facts.{to_z-of_z}
use Rattle.integers.proofs.TowardZero.{top_fits, divisor_fits, divisor_is, divides, quotient_read, sign_read}
use Rattle.integers.proofs.TowardZero.{sum_fits, quotient_returned}
use Rattle.integers.proofs.quotient.Goals as goal

pub returns : goal.returns
returns c =
    let f = c.ranges.z in
    let t = c.ranges.top in
    rw (divisor_is f t, to_z-of_z f, quotient_read f t, sign_read f t c.sign.ensures) (quotient_returned f t)

pub overflow_cast-d : goal.overflow_cast-d
overflow_cast-d c =
    top_fits c.ranges.z c.ranges.top

pub overflow_add-d : goal.overflow_add-d
overflow_add-d c =
    divisor_fits c.ranges.z c.ranges.top

pub nonzero_div-result : goal.nonzero_div-result
nonzero_div-result c =
    divides c.ranges.z c.ranges.top

pub nonzero_rem-z : goal.nonzero_rem-z
nonzero_rem-z c =
    divides c.ranges.z c.ranges.top

pub overflow_add-result : goal.overflow_add-result
overflow_add-result c =
    let f = c.ranges.z in
    let t = c.ranges.top in
    rw (divisor_is f t, to_z-of_z f, quotient_read f t, sign_read f t c.sign.ensures) (sum_fits f t)
