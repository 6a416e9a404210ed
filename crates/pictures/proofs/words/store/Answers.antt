-- `pictures::words::store` meets its contract: the tests come with the place, where the word is put and its bank's sum is kept.
-- Assumes nothing.
use mathlib.Core.Path.{◌∙◌}
use Rattle.std.specs.Prelude.{Result, Ok, Err}
use Rattle.std.proofs.Common.{◌≡◌, ℕ, ◌<◌, [], ◌∷◌, length, get_or, set, sym, refl, ap, ◌∙◌, ap₂, arith}
use mathlib.Core.Option.{Option, none, some}
use Rattle.scope.specs.Plans.{Pixel}
use Rattle.scope.specs.Banks.{bank_of, word_of, word_in, exchanged, after_store, sums_after_store}
use Rattle.scope.specs.Numbers.{outside_test}
use Rattle.scope.specs.Calls.{Lent, lent, size_of, answered, lent_test, store_test, store, address_test}
use Rattle.scope.specs.code.Words.{place}
use Rattle.scope.specs.promises.Meaning.{IsLent}
use Rattle.scope.specs.declared.Plan.{Plan}
use Rattle.scope.specs.declared.Place.{Place}
use Rattle.scope.specs.declared.Refusal.{Refusal}
use Rattle.scope.proofs.PlanFacts.{pixel_handed}
use Rattle.checks.proofs.Chains.{handed_on, Gives, chain_refuses}
use Rattle.lattice.proofs.SameBank.{banks_are_classes}
use Rattle.lattice.proofs.Words.{pixels_have_words}
use Rattle.pictures.specs.Places.{lent_depth}
use Rattle.pictures.proofs.CallTests.{lent_test_iff, store_test_iff}
use Rattle.pictures.proofs.PictureTests.{only_outside, lent_shows, lent_refusal_shows, leaves_written, leaves_as_it_was}
use Rattle.pictures.proofs.words.store.Goals as goal

-- what an answer that is a place, or a refusal, shows of its tests
module _ (t : Option Refusal) (x : Place) {answer : Result Place Refusal} where
  place-shows : {y : Place} → answer ≡ answered t Err (Ok x) → answer ≡ Ok y → (t ≡ none) × (x ≡ y)
  unfolding answered
  place-shows = by-test t
    where
      by-test :
          {y : Place} (t : Option Refusal) → answer ≡ answered t Err (Ok x) → answer ≡ Ok y
          → (t ≡ none) × (x ≡ y)
      by-test none is e = (refl, cc)
      by-test (some r) is e = let z : ◌≡◌ {A = ℕ} 0 1 = cc in absurd (omega arith)

  no-place-shows : {r : Refusal} → answer ≡ answered t Err (Ok x) → answer ≡ Err r → t ≡ some r
  unfolding answered
  no-place-shows = by-test t
    where
      by-test :
          {r : Refusal} (t : Option Refusal) → answer ≡ answered t Err (Ok x) → answer ≡ Err r
          → t ≡ some r
      by-test none is e = let z : ◌≡◌ {A = ℕ} 0 1 = cc in absurd (omega arith)
      by-test (some s) is e = cc

-- what the call answers and what it leaves
module _ (p : Plan) (W H : ℕ) (l : Lent) (v : Pixel) (x : ℕ) where
  abbrev stored : Lent
  stored = lent (after_store p W H l.memory v x) (sums_after_store p W H l.memory l.sums v x)

  refused : {r : Refusal} → store_test p W H (size_of l) v ≡ some r → Gives (store p W H l v x) (Err r) l
  unfolding store
  refused found = leaves_as_it_was found l stored

  no-picture :
      {asked : Result ℕ Refusal} {r : Refusal} → asked ≡ lent_depth p W H (size_of l) → asked ≡ Err r
      → Gives (store p W H l v x) (Err r) l
  unfolding store_test
  no-picture {r} is e =
      refused (chain_refuses (lent_test p W H (size_of l)) (outside_test W H (v ∷ []) ∷ []) r (lent_refusal_shows p W H (size_of l) is e))

  abbrev own : Place
  own = record { bank = bank_of p v; word = word_of p W H v }

  -- the picture is there, and the plan was asked for the place
  module _
      {asked : Result ℕ Refusal} {deep : ℕ} {u : Pixel} {placed : Result Place Refusal} (is : asked ≡ lent_depth p W H (size_of l)) (e : asked ≡ Ok deep)
      (handed : u ≡ v) (place_is : placed ≡ place p W H u)
    where
      here : IsLent p W H (size_of l)
      here = (lent_test_iff p W H (size_of l)).0 (lent_shows p W H (size_of l) is e).0

      tests_same : address_test p W H v ≡ store_test p W H (size_of l) v
      unfolding store_test
      tests_same =
          only_outside p W H v (lent_shows p W H (size_of l) is e).0 here.picture.plan here.picture.w_side here.picture.h_side

      place-tested :
          placed ≡ answered (store_test p W H (size_of l) v) Err (Ok own)
      unfolding place
      place-tested =
          place_is
          ∙ ap (place p W H) handed
          ∙ ap (λ (t : Option Refusal). answered t Err (Ok own))
          tests_same

      outside : {r : Refusal} → placed ≡ Err r → Gives (store p W H l v x) (Err r) l
      outside e = refused (no-place-shows (store_test p W H (size_of l) v) own place-tested e)

      module _ {y : Place} (given : placed ≡ Ok y) where
        passed : store_test p W H (size_of l) v ≡ none
        passed = (place-shows (store_test p W H (size_of l) v) own place-tested given).0

        bank-is : bank_of p v ≡ y.bank
        bank-is = ap (λ (z : Place). z.bank) (place-shows (store_test p W H (size_of l) v) own place-tested given).1

        word-is : word_of p W H v ≡ y.word
        word-is = ap (λ (z : Place). z.word) (place-shows (store_test p W H (size_of l) v) own place-tested given).1

        in_memory : y.word < length l.memory
        in_memory =
            let inside = ((store_test_iff p W H (size_of l) v).0 passed).1 in
            omega (arith, word-is, (pixels_have_words p W H here.picture.plan).word_below v inside, here.picture.memory)

        in-sums : y.bank < length l.sums
        in-sums = omega (arith, bank-is, (banks_are_classes p here.picture.plan).bank_below v, here.sums)

        memory-is : set l.memory y.word x ≡ after_store p W H l.memory v x
        unfolding after_store
        memory-is = ap (λ (n : ℕ). set l.memory n x) (sym word-is)

        sums-are :
            {s : ℕ} → s ≡ exchanged (get_or l.sums y.bank 0) (get_or l.memory y.word 0) x
            → set l.sums y.bank s ≡ sums_after_store p W H l.memory l.sums v x
        unfolding sums_after_store word_in
        sums-are sum_is_lem =
            ap (set l.sums y.bank) sum_is_lem
            ∙ ap₂ (λ (k n : ℕ). set l.sums k (exchanged (get_or l.sums k 0) (get_or l.memory n 0) x)) (sym bank-is) (sym word-is)

        done :
            {s : ℕ} → s ≡ exchanged (get_or l.sums y.bank 0) (get_or l.memory y.word 0) x
            → Gives (store p W H l v x) (Ok tt) (lent (set l.memory y.word x) (set l.sums y.bank s))
        unfolding store
        done sum_is_lem = leaves_written passed l stored (ap₂ lent memory-is (sums-are sum_is_lem))

pub returns-in_err-lent_depth : goal.returns-in_err-lent_depth
returns-in_err-lent_depth c =
    let (answer, left) = no-picture _ _ _ (lent c.args.mem.now c.args.sums.now) _ c.args.x c.lent_depth.ensures c.in_err-lent_depth.was in
    record { answer = handed_on _ c.from_residual.ensures ∙ answer; left = left }

pub returns : goal.returns
returns c =
    let (answer, left) = done _ _ _ (lent c.args.mem.now c.args.sums.now) _ c.args.x c.lent_depth.ensures c.in_ok-lent_depth.was (pixel_handed c.ranges.i c.ranges.j) c.place.ensures c.in_ok-at.was c.exchange.ensures in
    record { answer = answer; left = left }

pub returns-in_err-at : goal.returns-in_err-at
returns-in_err-at c =
    let (answer, left) = outside _ _ _ (lent c.args.mem.now c.args.sums.now) _ c.args.x c.lent_depth.ensures c.in_ok-lent_depth.was (pixel_handed c.ranges.i c.ranges.j) c.place.ensures c.in_err-at.was in
    record { answer = handed_on _ c.from_residual-in_err-at.ensures ∙ answer; left = left }

pub offset_bounds-mem-k : goal.offset_bounds-mem-k
offset_bounds-mem-k c = omega (arith, in_memory _ _ _ (lent c.args.mem.now c.args.sums.now) _ c.args.x c.lent_depth.ensures c.in_ok-lent_depth.was (pixel_handed c.ranges.i c.ranges.j) c.place.ensures c.in_ok-at.was)

pub offset_bounds-mem-k-2 : goal.offset_bounds-mem-k-2
offset_bounds-mem-k-2 c = omega (arith, in_memory _ _ _ (lent c.args.mem.now c.args.sums.now) _ c.args.x c.lent_depth.ensures c.in_ok-lent_depth.was (pixel_handed c.ranges.i c.ranges.j) c.place.ensures c.in_ok-at.was)

pub bounds-mem-k : goal.bounds-mem-k
bounds-mem-k c = in_memory _ _ _ (lent c.args.mem.now c.args.sums.now) _ c.args.x c.lent_depth.ensures c.in_ok-lent_depth.was (pixel_handed c.ranges.i c.ranges.j) c.place.ensures c.in_ok-at.was

pub bounds-mem-k-2 : goal.bounds-mem-k-2
bounds-mem-k-2 c = in_memory _ _ _ (lent c.args.mem.now c.args.sums.now) _ c.args.x c.lent_depth.ensures c.in_ok-lent_depth.was (pixel_handed c.ranges.i c.ranges.j) c.place.ensures c.in_ok-at.was

pub offset_bounds-sums-n : goal.offset_bounds-sums-n
offset_bounds-sums-n c = omega (arith, in-sums _ _ _ (lent c.args.mem.now c.args.sums.now) _ c.args.x c.lent_depth.ensures c.in_ok-lent_depth.was (pixel_handed c.ranges.i c.ranges.j) c.place.ensures c.in_ok-at.was)

pub offset_bounds-sums-n-2 : goal.offset_bounds-sums-n-2
offset_bounds-sums-n-2 c = omega (arith, in-sums _ _ _ (lent c.args.mem.now c.args.sums.now) _ c.args.x c.lent_depth.ensures c.in_ok-lent_depth.was (pixel_handed c.ranges.i c.ranges.j) c.place.ensures c.in_ok-at.was)

pub bounds-sums-n : goal.bounds-sums-n
bounds-sums-n c = in-sums _ _ _ (lent c.args.mem.now c.args.sums.now) _ c.args.x c.lent_depth.ensures c.in_ok-lent_depth.was (pixel_handed c.ranges.i c.ranges.j) c.place.ensures c.in_ok-at.was

pub bounds-sums-n-2 : goal.bounds-sums-n-2
bounds-sums-n-2 c = in-sums _ _ _ (lent c.args.mem.now c.args.sums.now) _ c.args.x c.lent_depth.ensures c.in_ok-lent_depth.was (pixel_handed c.ranges.i c.ranges.j) c.place.ensures c.in_ok-at.was
