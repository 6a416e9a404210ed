-- `scope::Plan::word` meets its contract: the word of the place, or the same refusal.
-- Assumes nothing.
use Rattle.scope.specs.declared.Place.{Place}
use Rattle.std.specs.Prelude.{Result, Ok, Err}
use Prim.Native.Nat.{ℕ}
use mathlib.Core.Path.{◌≡◌, refl, sym, ◌∙◌, ap}
use mathlib.Core.Option.{Option, none, some}
use Rattle.scope.specs.Plans.{Pixel}
use Rattle.scope.specs.Banks.{bank_of, word_of}
use Rattle.scope.specs.Calls.{answered, address_test}
use Rattle.scope.specs.code.Words.{place, word}
use Rattle.scope.specs.declared.Plan.{Plan}
use Rattle.scope.specs.declared.Refusal.{Refusal}
use Rattle.scope.proofs.Chains.{handed_on}
use Rattle.scope.proofs.PlanFacts.{pixel_handed}
use Rattle.scope.proofs.Plan.word.Goals as goal

-- the word of an answer that has a place
abbrev wordFrom : Result Place Refusal → Result ℕ Refusal
wordFrom (Ok x) = Ok x.word
wordFrom (Err r) = Err r

word-is : (p : Plan) (W H : ℕ) (v : Pixel) → wordFrom (place p W H v) ≡ word p W H v
unfolding place word answered
word-is p W H v = by-test (address_test p W H v)
  where
    by-test :
        (t : Option Refusal)
        → wordFrom (answered t Err (Ok (record { bank = bank_of p v; word = word_of p W H v })))
        ≡ answered t Err (Ok (word_of p W H v))
    by-test none = refl
    by-test (some r) = refl

given : (p : Plan) (W H : ℕ) {u v : Pixel} {x y : Result Place Refusal} → u ≡ v → x ≡ place p W H u → x ≡ y → wordFrom y ≡ word p W H v
given p W H {u} {v} same is e = ap wordFrom (sym e ∙ is) ∙ word-is p W H u ∙ ap (word p W H) same

pub returns : goal.returns
returns c =
    let f = c.ranges in
    given _ _ _ (pixel_handed f.i f.j) c.place.ensures c.in_ok-place.was

pub returns-in_err-place : goal.returns-in_err-place
returns-in_err-place c =
    let f = c.ranges in
    handed_on _ c.from_residual.ensures ∙ given _ _ _ (pixel_handed f.i f.j) c.place.ensures c.in_err-place.was
