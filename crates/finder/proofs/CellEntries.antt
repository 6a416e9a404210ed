-- The tables of a plan, and the pattern that the cells of a book have, entry by entry.
-- Assumes nothing.
use Prim.Native.Nat.{ℕ, suc, ◌+◌, ◌*◌, ◌%◌, min, ◌≤◌, ◌<◌}
use native.Mathlib.Nat.{zero-add, mod-lt, mod-add-mod}
use native.Mathlib.Omega.{arith}
use mathlib.Core.Path.{◌≡◌, ◌∙◌, ap}
use mathlib.Core.List.{List}
use lib.IntN.{pos}
use lib.ListN.{length, get_or}
use Rattle.scope.specs.Plans.{at}
use Rattle.scope.specs.Finding.{pixel_in}
use Rattle.checks.proofs.Searches.{length_gather, get_d_gather}
use Rattle.finder.specs.Counting.{cell_pixel, pattern_in, lanes_of, bases_of}

-- the tables by entry
pub length_lanes : (a : ℕ) → length (lanes_of a) ≡ 32
unfolding lanes_of
length_lanes a = length_gather 0 32 (λ c. c % a)

pub lane_at : (a c : ℕ) → c < 32 → get_or (lanes_of a) c 0 ≡ c % a
unfolding lanes_of
lane_at a c h = get_d_gather 0 32 (λ c. c % a) c 0 h ∙ ap (λ (c : ℕ). c % a) (zero-add c)

pub length_bases : (a d : ℕ) → length (bases_of a d) ≡ 32
unfolding bases_of
length_bases a d = length_gather 0 32 (λ j. (j % d) * a)

pub base_at : (a d j : ℕ) → j < 32 → get_or (bases_of a d) j 0 ≡ (j % d) * a
unfolding bases_of
base_at a d j h = get_d_gather 0 32 (λ j. (j % d) * a) j 0 h ∙ ap (λ (j : ℕ). (j % d) * a) (zero-add j)

-- a remainder that is counted along: it is below a, and the next one
pub remainder_below : (x c a : ℕ) → 1 ≤ a → x ≡ c % a → x < a
remainder_below x c a h e = omega (arith, mod-lt c h, e)

pub next_remainder : (x y c a : ℕ) → x ≡ c % a → y ≡ (x + 1) % a → y ≡ (c + 1) % a
next_remainder x y c a e i = i ∙ ap (λ (k : ℕ). (k + 1) % a) e ∙ mod-add-mod c a 1

-- the pattern of the entries by position
pub length_pattern_in : (cells : List ℕ) (n : ℕ) → length (pattern_in cells n) ≡ min (get_or cells (65 * n) 0) 64
unfolding pattern_in
length_pattern_in cells n = length_gather 0 (min (get_or cells (65 * n) 0) 64) (λ e. cell_pixel (get_or cells (65 * n + suc e) 0))

pub pixel_in_lem :
    (cells : List ℕ) (n e : ℕ) → e < min (get_or cells (65 * n) 0) 64
    → pixel_in (pattern_in cells n) e ≡ cell_pixel (get_or cells (65 * n + suc e) 0)
unfolding pattern_in
pixel_in_lem cells n e h =
    get_d_gather 0 (min (get_or cells (65 * n) 0) 64) (λ e. cell_pixel (get_or cells (65 * n + suc e) 0)) e (at (pos 0) (pos 0)) h
    ∙ ap (λ (e : ℕ). cell_pixel (get_or cells (65 * n + suc e) 0)) (zero-add e)
