-- Worked values of the definitions, in one list, and the one theorem that checks them by computation.
-- Assumes nothing.
use Rattle.std.specs.Prelude.{ℕ, ◌≡◌, refl, List, [], ◌∷◌, map, ℤ, pos, neg_ℤ}
use Rattle.integers.specs.Division.{floor_div, floor_mod, ceil_div}
use Rattle.integers.specs.Gcd.{gcd}

record Row : Type 0 where
  computed : ℤ
  stated : ℤ

row : ℤ → ℤ → Row
row x y = record { computed = x; stated = y }

neg : ℕ → ℤ
neg n = neg_ℤ (pos n)

-- The remainder has both edges of signed 32 bits and of a: "for every signed 32-bit number and every a from 1 to 1024" (document
-- 02, Card 2).
figures : List Row
unfolding row neg floor_div floor_mod ceil_div gcd
figures =
    row (floor_div (pos 7) 2) (pos 3)
    ∷ row (floor_div (neg 1) 2) (neg 1)
    ∷ row (floor_div (neg 4) 2) (neg 2)
    ∷ row (floor_div (neg 5) 2) (neg 3)
    ∷ row (pos (floor_mod (pos 7) 3)) (pos 1)
    ∷ row (pos (floor_mod (neg 1) 6)) (pos 5)
    ∷ row (pos (floor_mod (neg 6) 6)) (pos 0)
    ∷ row (pos (floor_mod (neg 7) 6)) (pos 5)
    ∷ row (pos (floor_mod (neg 1) 1)) (pos 0)
    ∷ row (pos (floor_mod (neg 1) 1024)) (pos 1023)
    ∷ row (pos (floor_mod (neg 2147483648) 1)) (pos 0)
    ∷ row (pos (floor_mod (neg 2147483648) 1023)) (pos 1021)
    ∷ row (pos (floor_mod (neg 2147483648) 1024)) (pos 0)
    ∷ row (pos (floor_mod (neg 2147483647) 1024)) (pos 1)
    ∷ row (pos (floor_mod (pos 2147483647) 1024)) (pos 1023)
    ∷ row (pos (ceil_div 7 5)) (pos 2)
    ∷ row (pos (ceil_div 10 5)) (pos 2)
    ∷ row (pos (gcd 12 18)) (pos 6)
    ∷ row (pos (gcd 0 7)) (pos 7)
    ∷ row (pos (gcd 7 0)) (pos 7)
    ∷ row (pos (gcd 65535 32768)) (pos 1)
    ∷ []

figures_hold : map (λ r. r.computed) figures ≡ map (λ r. r.stated) figures
unfolding figures
figures_hold = refl
