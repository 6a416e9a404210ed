-- `integers::remainder` meets its contract: the machine's remainder is brought to the floor.
-- Assumes nothing.
use mir.Facts.{to_z-of_z}
use Rattle.integers.proofs.TowardZero.{top_fits, divisor_fits, divisor_is, divides, rest_read, sign_read}
use Rattle.integers.proofs.TowardZero.{product_fits, difference_fits, unsigned_fits, remainder_returned}
use Rattle.integers.proofs.remainder.Goals as goal

pub returns : goal.returns
returns c =
    let f = c.ranges.z in
    let t = c.ranges.top in
    rw (divisor_is f t, to_z-of_z f, rest_read f t, sign_read f t c.sign.ensures) (remainder_returned f t)

pub overflow_cast-d : goal.overflow_cast-d
overflow_cast-d c =
    top_fits c.ranges.z c.ranges.top

pub overflow_add-d : goal.overflow_add-d
overflow_add-d c =
    divisor_fits c.ranges.z c.ranges.top

pub nonzero_rem-r : goal.nonzero_rem-r
nonzero_rem-r c =
    divides c.ranges.z c.ranges.top

pub overflow_mul-result : goal.overflow_mul-result
overflow_mul-result c =
    let f = c.ranges.z in
    let t = c.ranges.top in
    rw (divisor_is f t, sign_read f t c.sign.ensures) (product_fits f t)

pub overflow_sub-result : goal.overflow_sub-result
overflow_sub-result c =
    let f = c.ranges.z in
    let t = c.ranges.top in
    rw (divisor_is f t, to_z-of_z f, rest_read f t, sign_read f t c.sign.ensures) (difference_fits f t)

pub overflow_cast-result : goal.overflow_cast-result
overflow_cast-result c =
    let f = c.ranges.z in
    let t = c.ranges.top in
    rw (divisor_is f t, to_z-of_z f, rest_read f t, sign_read f t c.sign.ensures) (unsigned_fits f t)
