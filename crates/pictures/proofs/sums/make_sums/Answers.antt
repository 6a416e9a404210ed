-- `pictures::sums::make_sums` meets its contract: where the tests find nothing each bank is summed, and elsewhere the refusal comes back.
-- Assumes nothing.
use Rattle.std.specs.Prelude.{Result, Ok, Err}
use Rattle.std.proofs.Common.{◌≡◌, ℕ, ◌*◌, ◌≤◌, List, length, refl, ap, ◌∙◌, arith}
use Rattle.scope.specs.Plans.{banks}
use Rattle.scope.specs.Banks.{depth_of, bank_sum, bank_words, fresh_sums}
use Rattle.scope.specs.Calls.{Lent, lent, size_of, make_sums}
use Rattle.scope.specs.promises.Meaning.{IsLent}
use Rattle.scope.specs.declared.Plan.{Plan}
use Rattle.scope.specs.declared.Refusal.{Refusal}
use Rattle.checks.proofs.Chains.{handed_on, Gives}
use Rattle.lattice.proofs.Words.{depth_at_most}
use Rattle.pictures.specs.Places.{lent_depth, sums_over}
use Rattle.pictures.proofs.CallTests.{lent_test_iff}
use Rattle.pictures.proofs.PictureTests.{lent_shows, lent_refusal_shows, leaves_written, leaves_as_it_was}
use Rattle.pictures.proofs.sums.make_sums.Goals as goal

module _ (p : Plan) (W H : ℕ) (l : Lent) {asked : Result ℕ Refusal} (is : asked ≡ lent_depth p W H (size_of l)) where
  abbrev fresh : Lent
  fresh = lent l.memory (fresh_sums p W H l.memory l.sums)

  refused : {r : Refusal} → asked ≡ Err r → Gives (make_sums p W H l) (Err r) l
  unfolding make_sums
  refused e = leaves_as_it_was (lent_refusal_shows p W H (size_of l) is e) l fresh

  module _ {deep n : ℕ} (e : asked ≡ Ok deep) (counted : n ≡ banks p) where
    here : IsLent p W H (size_of l)
    here = (lent_test_iff p W H (size_of l)).0 (lent_shows p W H (size_of l) is e).0

    depth_is : depth_of p W H ≡ deep
    depth_is = (lent_shows p W H (size_of l) is e).1

    -- what `put_sums` requires
    banks-there : (n * deep ≤ length l.memory) × (n ≤ length l.sums) × (n ≤ 1024) × (deep ≤ 16777216)
    unfolding banks
    banks-there = (
      rw (counted, ← depth_is) here.picture.memory,
      omega (arith, counted, here.sums),
      omega (arith, counted, here.picture.plan.most),
      rw (← depth_is) (depth_at_most p W H here.picture.plan here.picture.w_side here.picture.h_side),
    )

    over-is-fresh : sums_over n deep l.memory l.sums ≡ fresh_sums p W H l.memory l.sums
    unfolding sums_over fresh_sums bank_sum bank_words
    over-is-fresh = rw (counted, ← depth_is) refl

    made : {sums : List ℕ} → sums ≡ sums_over n deep l.memory l.sums → Gives (make_sums p W H l) (Ok tt) (lent l.memory sums)
    unfolding make_sums
    made put = leaves_written (lent_shows p W H (size_of l) is e).0 l fresh (ap (lent l.memory) (put ∙ over-is-fresh))

pub put_sums-requires : goal.put_sums-requires
put_sums-requires c =
    banks-there _ _ _ (lent c.args.mem.now c.args.sums.now) c.lent_depth.ensures c.in_ok-deep.was c.banks.ensures

pub returns : goal.returns
returns c =
    let (answer, left) = made _ _ _ (lent c.args.mem.now c.args.sums.now) c.lent_depth.ensures c.in_ok-deep.was c.banks.ensures c.put_sums.ensures in
    record { answer = answer; left = left }

pub returns-in_err-deep : goal.returns-in_err-deep
returns-in_err-deep c =
    let (answer, left) = refused _ _ _ (lent c.args.mem.now c.args.sums.now) c.lent_depth.ensures c.in_err-deep.was in
    record { answer = handed_on _ c.from_residual.ensures ∙ answer; left = left }
