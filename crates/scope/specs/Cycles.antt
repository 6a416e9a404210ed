-- Document 02, Card 4: "Our cheaper cameras may spend r cycles on a pattern". The lattice classes of a pattern's pixels, the plans
-- that suit for r and the least of them, a pixel's cycle, and the clash for r.
-- Assumes nothing.
use Rattle.std.specs.Prelude.{ℕ, suc, ◌-◌, Bool, not, List, [], ◌∷◌, leb, ltb, eqb, length, get_or, take}
use Rattle.std.proofs.Math.Option.{Option}
use Rattle.scope.specs.Search.{first, gather, picked, whenever, every, some_below}
use Rattle.scope.specs.Plans.{Pixel, at}
use Rattle.scope.specs.Finding.{least_of, least_count_of, pixel_in, together}
use Rattle.scope.specs.Banks.{bank_of}
use Rattle.scope.specs.declared.Plan.{Plan}
use Rattle.scope.specs.declared.Clash.{Clash}

-- Two pixels are in one "lattice class" if their difference is in the lattice: `together` of their positions. The class of the pixel
-- at e, as far as t holds it, is the positions of the pixels that are in one class with it, its own too
unfoldable pub class_of : Plan → List Pixel → ℕ → List ℕ
unfolding picked together
class_of p t e = picked 0 (length t) (together p t e)

-- "A plan suits for r if no lattice class holds more than r pixels of one pattern." A class with a pixel is that pixel's class
unfoldable pub suits_for : ℕ → Plan → List Pixel → Bool
unfolding some_below class_of
suits_for r p t = not (some_below (length t) λ e. ltb r (length (class_of p t e)))

-- it suits a book for r if it suits each pattern for r
unfoldable pub suits_all_for : ℕ → Plan → List (List Pixel) → Bool
unfolding every suits_for
suits_all_for r p ts = every (suits_for r p) ts

-- the finder's test for r
abbrev pub suitable_for : ℕ → List (List Pixel) → Plan → Bool
suitable_for r ts = λ p. suits_all_for r p ts

-- "Find the plan with least N for r, with the same ties.": N from 1 to the limit, then the least b, then the least d
abbrev pub least_plan_for : ℕ → List (List Pixel) → ℕ → Option Plan
least_plan_for r ts limit = least_of (suitable_for r ts) limit

-- "the least for that r": the N of that plan, for r from 1 on
unfoldable pub least_count_for : ℕ → List (List Pixel) → ℕ
unfolding least_count_of suits_all_for
least_count_for r ts = least_count_of (suitable_for r ts)

-- "Give each pixel its cycle: the count of earlier pixels of the pattern in its bank."
unfoldable pub cycle_of : Plan → List Pixel → ℕ → ℕ
unfolding picked bank_of at
cycle_of p t e = length (picked 0 e λ l. eqb (bank_of p (pixel_in t l)) (bank_of p (pixel_in t e)))

-- "the cycles in pixel order"
unfoldable pub cycles : Plan → List Pixel → List ℕ
unfolding gather cycle_of
cycles p t = gather 0 (length t) (cycle_of p t)

-- a pattern's number, and positions of it
pub record LongClash : Type 0 where
  pub pattern : ℕ
  pub positions : List ℕ

-- the clash struct inside an enum holds the pattern and two positions: as a clash of two, and the first two of a longer one
abbrev pub lengthened : Clash → LongClash
lengthened c = record { pattern = c.pattern; positions = c.earlier ∷ c.later ∷ [] }

unfoldable pub shortened : LongClash → Clash
shortened c = record { pattern = c.pattern; earlier = get_or c.positions 0 0; later = get_or c.positions 1 0 }

-- the later positions of the class of the pixel at e
unfoldable pub followers : Plan → List Pixel → ℕ → List ℕ
unfolding picked together
followers p t e = picked (suc e) (length t - suc e) (together p t e)

-- "the r + 1 ascending positions of one lattice class that come first, compared position by position", in pattern n: they begin
-- with the first position that has r followers, and go on with the first r of these
unfoldable pub clash_in_for : ℕ → Plan → ℕ → List Pixel → Option LongClash
unfolding first whenever followers
clash_in_for r p n t =
    first 0 (length t) λ e.
    whenever (leb r (length (followers p t e))) (record { pattern = n; positions = e ∷ take r (followers p t e) })

-- "in the lowest pattern that has one"
unfoldable pub clash_for : ℕ → Plan → List (List Pixel) → Option LongClash
unfolding first clash_in_for
clash_for r p ts = first 0 (length ts) λ n. clash_in_for r p n (get_or ts n [])
