-- `integers::gcd_of`: the measure is the second argument, which falls at each call.
-- Assumes nothing.
use Rattle.integers.proofs.+gcd_of.Given as goal

abbrev pub decreases-gcd_of : goal.decreases-gcd_of
decreases-gcd_of l = l.b
