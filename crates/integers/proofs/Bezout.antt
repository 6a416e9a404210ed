-- The greatest common divisor: Euclid's rule, Bezout's combination for naturals and for integers, and that it is the greatest.
-- Assumes nothing.
use Prim.Native.Nat.{ℕ, zero, suc, ◌+◌, ◌*◌, ◌/◌, ◌%◌, ◌<◌}
use mathlib.Core.Path.{◌≡◌, refl, ap}
use mathlib.Core.List.{[], ◌∷◌}
use native.Mathlib.Omega.{arith}
use native.Mathlib.Nat.{div-add-mod, mod-lt}
use lib.IntN.{ℤ, pos, negsuc, neg_ℤ, nat_abs, ◌+ℤ◌, ◌*ℤ◌, ◌-ℤ◌}
use Rattle.integers.specs.Gcd.{gcd_steps, gcd, EuclidsRule, Multiple, GcdIsGreatest}
use Rattle.integers.proofs.Ring.{ring, linear, ◌·◌, reify}
use Rattle.integers.proofs.Divisions.{Divides, divides_multiple, multiple_divides}

-- more steps than the second number change nothing
steps_enough : (k l a b : ℕ) → b < k → b < l → gcd_steps k a b ≡ gcd_steps l a b
unfolding gcd_steps
steps_enough zero l a b h m = absurd (omega arith)
steps_enough (suc k) zero a b h m = absurd (omega arith)
steps_enough (suc k) (suc l) a zero h m = refl
steps_enough (suc k) (suc l) a (suc b) h m =
    let r : a % suc b < suc b = mod-lt a (omega arith) in
    steps_enough k l (suc b) (a % suc b) (omega arith) (omega arith)

-- gcd is Euclid's rule
pub euclids_rule : EuclidsRule
unfolding gcd gcd_steps
euclids_rule =
    record {
      stop = λ a. refl;
      step = λ a b.
          let r : a % suc b < suc b = mod-lt a (omega arith) in
          steps_enough (suc b) (suc (a % suc b)) (suc b) (a % suc b) (omega arith) (omega arith);
    }

-- g divides x and y, and is a combination of them
pub record Bezout (x y : ℤ) (g : ℕ) : Type 0 where
  pub s : ℤ
  pub t : ℤ
  pub combination : pos g ≡ s *ℤ x +ℤ t *ℤ y
  pub left : Divides g x
  pub right : Divides g y

-- from (b, a mod b) to (a, b)
bezout_step : (a b g : ℕ) → Bezout (pos b) (pos (a % b)) g → Bezout (pos a) (pos b) g
bezout_step a b g w = step w.s w.t w.left.times w.right.times w.combination w.left.is w.right.is
  where
    whole : pos (b * (a / b) + a % b) ≡ pos a
    whole = ap pos (div-add-mod a b)

    step :
        (s t u v : ℤ) → pos g ≡ s *ℤ pos b +ℤ t *ℤ pos (a % b) → pos b ≡ u *ℤ pos g → pos (a % b) ≡ v *ℤ pos g
        → Bezout (pos a) (pos b) g
    step s t u v e h k =
        record {
          s = t;
          t = s -ℤ t *ℤ pos (a / b);
          combination =
              linear ((pos 1 · e) ∷ (t · whole) ∷ [])
              (ring (pos g ∷ pos a ∷ pos b ∷ pos (a / b) ∷ pos (a % b) ∷ s ∷ t ∷ []) (search reify depth 40 fits 9000) refl);
          left =
              record {
                times = u *ℤ pos (a / b) +ℤ v;
                is =
                    linear ((negsuc 0 · whole) ∷ (pos (a / b) · h) ∷ (pos 1 · k) ∷ [])
                    (ring (pos g ∷ pos a ∷ pos b ∷ pos (a / b) ∷ pos (a % b) ∷ u ∷ v ∷ []) (search reify depth 40 fits 9000) refl);
              };
          right = record { times = u; is = h };
        }

bezout_of_steps : (k a b : ℕ) → b < k → Bezout (pos a) (pos b) (gcd_steps k a b)
unfolding gcd_steps
bezout_of_steps zero a b h = absurd (omega arith)
bezout_of_steps (suc k) a zero h =
    record {
      s = pos 1;
      t = pos 0;
      combination = ring (pos a ∷ []) (search reify depth 40 fits 9000) refl;
      left = record { times = pos 1; is = ring (pos a ∷ []) (search reify depth 40 fits 9000) refl };
      right = record { times = pos 0; is = ring (pos a ∷ []) (search reify depth 40 fits 9000) refl };
    }
bezout_of_steps (suc k) a (suc b) h =
    let r : a % suc b < suc b = mod-lt a (omega arith) in
    bezout_step a (suc b) (gcd_steps k (suc b) (a % suc b)) (bezout_of_steps k (suc b) (a % suc b) (omega arith))

-- Bezout's combination of two naturals
pub bezout : (a b : ℕ) → Bezout (pos a) (pos b) (gcd a b)
unfolding gcd
bezout a b = bezout_of_steps (suc b) a b (omega arith)

-- an integer's size is the integer times a sign
pub record Sign (x : ℤ) : Type 0 where
  pub sign : ℤ
  pub unit : sign *ℤ sign ≡ pos 1
  pub size : pos (nat_abs x) ≡ sign *ℤ x

pub sign_of : (x : ℤ) → Sign x
sign_of (pos n) = record { sign = pos 1; unit = refl; size = ring (pos n ∷ []) (search reify depth 40 fits 9000) refl }
sign_of (negsuc n) = record { sign = negsuc 0; unit = refl; size = ap pos (omega arith) }

-- what divides the size divides the integer
divides_signed : (g : ℕ) (x : ℤ) → Divides g (pos (nat_abs x)) → Divides g x
divides_signed g x w = signed (sign_of x) w.times w.is
  where
    signed : Sign x → (u : ℤ) → pos (nat_abs x) ≡ u *ℤ pos g → Divides g x
    signed p u e =
        record {
          times = p.sign *ℤ u;
          is =
              linear ((neg_ℤ x · p.unit) ∷ (neg_ℤ p.sign · p.size) ∷ (p.sign · e) ∷ [])
              (ring (x ∷ p.sign ∷ pos g ∷ u ∷ pos (nat_abs x) ∷ []) (search reify depth 40 fits 9000) refl);
        }

-- Bezout's combination of two integers
pub bezout_of_integers : (x y : ℤ) → Bezout x y (gcd (nat_abs x) (nat_abs y))
bezout_of_integers x y = signed (gcd (nat_abs x) (nat_abs y)) (bezout (nat_abs x) (nat_abs y)) (sign_of x) (sign_of y)
  where
    signed : (g : ℕ) → Bezout (pos (nat_abs x)) (pos (nat_abs y)) g → Sign x → Sign y → Bezout x y g
    signed g w p q =
        record {
          s = w.s *ℤ p.sign;
          t = w.t *ℤ q.sign;
          combination =
              linear ((pos 1 · w.combination) ∷ (w.s · p.size) ∷ (w.t · q.size) ∷ [])
              (ring (pos g ∷ w.s ∷ w.t ∷ p.sign ∷ q.sign ∷ x ∷ y ∷ pos (nat_abs x) ∷ pos (nat_abs y) ∷ [])
              (search reify depth 40 fits 9000)
              refl);
          left = divides_signed g x w.left;
          right = divides_signed g y w.right;
        }

-- It divides both numbers, and every common divisor divides it, since it is a combination of them.
pub gcd_is_greatest : GcdIsGreatest
gcd_is_greatest =
    record {
      left = λ a b. divides_multiple (gcd a b) a (bezout a b).left;
      right = λ a b. divides_multiple (gcd a b) b (bezout a b).right;
      greatest = λ a b g h k. divides_combination a b g (bezout a b) (multiple_divides g a h) (multiple_divides g b k);
    }
  where
    divides_combination : (a b g : ℕ) → Bezout (pos a) (pos b) (gcd a b) → Divides g (pos a) → Divides g (pos b) → Multiple g (gcd a b)
    divides_combination a b g w h k =
        divides_multiple g (gcd a b)
        (record {
          times = w.s *ℤ h.times +ℤ w.t *ℤ k.times;
          is =
              linear ((pos 1 · w.combination) ∷ (w.s · h.is) ∷ (w.t · k.is) ∷ [])
              (ring (pos (gcd a b) ∷ pos a ∷ pos b ∷ pos g ∷ w.s ∷ w.t ∷ h.times ∷ k.times ∷ [])
              (search reify depth 40 fits 9000)
              refl);
        })
