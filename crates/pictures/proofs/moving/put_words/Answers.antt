-- `pictures::moving::put_words` meets its contract. The loop's invariant: the words at the first e places were put.
-- Assumes nothing.
use Rattle.std.proofs.Common.{◌≡◌, ℕ, ◌<◌, List, length, get_or, refl, ap, ◌∙◌, arith}
use Rattle.scope.specs.Plans.{Pixel, at}
use Rattle.scope.specs.Banks.{over_start}
use Rattle.scope.proofs.PlanFacts.{pixel_handed}
use Rattle.pictures.proofs.CallTests.{picture_test_iff}
use Rattle.pictures.proofs.PictureTests.{word_in_memory}
use Rattle.pictures.proofs.Wrapped.{wrapped_has_word, place_for, no_words, one_more_word, words_at_places}
use Rattle.pictures.proofs.moving.put_words.Lts as lts
use Rattle.pictures.proofs.moving.put_words.Tie as tie
use Rattle.pictures.proofs.moving.put_words.Reads as reads
use Rattle.pictures.proofs.moving.put_words.Goals as goal

-- what is known at a step of the code
abbrev After-find_places : Type 0
After-find_places = lts.After-find_places tie.the-claims reads.Pre reads.Post goal.the-invariant-loop-e goal.the-decreases-loop-e

abbrev In-loop-e : Type 0
In-loop-e = lts.In-loop tie.the-claims reads.Pre reads.Post goal.the-invariant-loop-e goal.the-decreases-loop-e

abbrev Start : Type 0
Start = lts.Start tie.the-claims reads.Pre reads.Post goal.the-invariant-loop-e goal.the-decreases-loop-e

-- where the places are known
module _ (c : After-find_places) where
  abbrev start : Start
  start = c.before.before.before.before

  abbrev places : List ℕ
  places = c.find_places.new.places

  place_is : (e : ℕ) → e < start.args.t.used →
      let u = start.args in
      get_or places e 0 ≡ place_for u.p u.w u.h u.t (at u.i u.j) e
  place_is e h =
      let u = start.args in
      let f = start.ranges in
      c.find_places.ensures e h ∙ ap (λ (o : Pixel). place_for u.p u.w u.h u.t o e) (pixel_handed f.i f.j)

  -- each place is one of the memory's
  in_memory : (e : ℕ) → e < start.args.t.used → get_or places e 0 < length start.args.mem.now
  in_memory e h =
      rw (place_is e h)
      (word_in_memory _ _ _ _ _ (wrapped_has_word _ _ _ _ ((picture_test_iff _ _ _ _).0 start.requires.0) _))

-- the place of a turn
turn-in-memory :
    (c : In-loop-e)
    → get_or (places c.before.before) c.loop-e.e 0 < length (start c.before.before).args.mem.now
turn-in-memory c = in_memory c.before.before c.loop-e.e c.loop-e-test.true

pub loop-e-preserved : goal.loop-e-preserved
loop-e-preserved c =
    one_more_word (start c.before.before.before.before).args.mem.now (places c.before.before.before.before) c.loop-e.e c.loop-e.invariant (omega (arith, (start c.before.before.before.before).requires.2))

pub returns : goal.returns
returns c =
    let u = (start c.before.before.before).args in
    let done : c.loop-e.e ≡ u.t.used = omega arith in
    rw done at c.loop-e.invariant.is
    ∙ ap (λ (xs : List ℕ). over_start xs u.out.now) (words_at_places u.mem.now (places c.before.before.before) _ _ _ _ _ (place_is c.before.before.before))

pub find_places-requires : goal.find_places-requires
find_places-requires c =
    (c.requires.0, c.requires.1, refl, λ plain. rw (pixel_handed c.ranges.i c.ranges.j) (c.requires.3 plain))

pub loop-e-init : goal.loop-e-init
loop-e-init c =
    no_words (start c.before).args.mem.now (places c.before) _

pub bounds-mem-k : goal.bounds-mem-k
bounds-mem-k c =
    turn-in-memory c.before.before

pub offset_bounds-mem-k : goal.offset_bounds-mem-k
offset_bounds-mem-k c =
    omega (arith, turn-in-memory c.before)
