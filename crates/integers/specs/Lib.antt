-- Definitions of whole numbers, in the order to read them.
pub mod Division  -- floor division, remainder, rounding up, divisibility, and their promises
pub mod Gcd  -- the greatest common divisor by Euclid's falling remainders, and its promises
pub mod DivisionValues  -- worked values of both
