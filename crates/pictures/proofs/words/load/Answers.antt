-- `pictures::words::load` meets its contract: the tests come with the place, where the word is.
-- Assumes nothing.
use Rattle.std.specs.Prelude.{Result, Ok, Err}
use Rattle.std.proofs.Common.{◌≡◌, ℕ, List, length, get_or, sym, ap, arith, ◌∙◌}
use Rattle.scope.specs.Plans.{Pixel}
use Rattle.scope.specs.Banks.{word_in}
use Rattle.scope.specs.Calls.{load}
use Rattle.scope.specs.declared.Plan.{Plan}
use Rattle.scope.specs.declared.Refusal.{Refusal}
use Rattle.scope.proofs.PlanFacts.{pixel_handed}
use Rattle.checks.proofs.Chains.{handed_on, gives_value, gives_refusal}
use Rattle.pictures.specs.Places.{word_place}
use Rattle.pictures.proofs.PictureTests.{PlaceIn, place_in, place_refusal_shows}
use Rattle.pictures.proofs.words.load.Goals as goal

-- what the call answers
module _ (p : Plan) (W H : ℕ) (mem : List ℕ) (v : Pixel) where
  loaded : {n : ℕ} → PlaceIn p W H (length mem) v n → Ok (get_or mem n 0) ≡ load p W H mem v
  unfolding load word_in
  loaded place = gives_value place.passed Err (ap (λ (n : ℕ). Ok (get_or mem n 0)) (sym place.place_is))

  refused :
      {u : Pixel} {asked : Result ℕ Refusal} {r : Refusal} → u ≡ v → asked ≡ word_place p W H (length mem) u → asked ≡ Err r
      → Err r ≡ load p W H mem v
  unfolding load
  refused handed is e = gives_refusal (place_refusal_shows p W H (length mem) handed is e) Err (Ok (word_in p W H mem v))

pub returns : goal.returns
returns c = loaded _ _ _ _ _ (place_in _ _ _ _ (pixel_handed c.ranges.i c.ranges.j) c.word_place.ensures c.in_ok-k.was)

pub returns-in_err-k : goal.returns-in_err-k
returns-in_err-k c =
    let f = c.ranges in
    handed_on _ c.from_residual.ensures ∙ refused _ _ _ _ _ (pixel_handed f.i f.j) c.word_place.ensures c.in_err-k.was

pub offset_bounds-mem-k : goal.offset_bounds-mem-k
offset_bounds-mem-k c =
    omega (arith, place_in _ _ _ _ (pixel_handed c.ranges.i c.ranges.j) c.word_place.ensures c.in_ok-k.was)

pub bounds-mem-k : goal.bounds-mem-k
bounds-mem-k c =
    (place_in _ _ _ _ (pixel_handed c.ranges.i c.ranges.j) c.word_place.ensures c.in_ok-k.was).in_memory
