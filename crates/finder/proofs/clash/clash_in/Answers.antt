-- `finder::clash::clash_in` meets its contract. The loop's invariant: the positions from e on are searched.
-- Assumes nothing.
use Prim.Native.Nat.{ℕ, suc, ◌-◌, ◌<◌}
use native.Mathlib.Omega.{arith}
use mathlib.Core.Path.{◌≡◌, ◌∙◌, ap, subst}
use mathlib.Core.Bool.{true}
use lib.ListN.{get_or}
use mir.Syntax.{w8}
use Rattle.scope.specs.Plans.{at, is_plan, pixel_at}
use Rattle.scope.specs.Banks.{bank_of}
use Rattle.scope.proofs.PlanFacts.{entry_handed}
use Rattle.finder.proofs.Meetings.{bank_at, place_below, count_below, SearchedFrom, none_searched, all_searched, clash_met, none_met}
use Rattle.finder.proofs.clash.clash_in.Lts as lts
use Rattle.finder.proofs.clash.clash_in.Tie as tie
use Rattle.finder.proofs.clash.clash_in.Reads as reads
use Rattle.finder.proofs.clash.clash_in.Goals as goal
use Rattle.finder.proofs.clash.clash_in.Goals.{then-r-count, else-r-count}

-- what is known at a step of the code
abbrev At-loop-e : Type 0
At-loop-e = lts.At-loop tie.the-claims reads.Pre reads.Post goal.the-invariant-loop-e goal.the-decreases-loop-e

abbrev Start : Type 0
Start = lts.Start tie.the-claims reads.Pre reads.Post goal.the-invariant-loop-e goal.the-decreases-loop-e

pub loop-e-init : goal.loop-e-init
loop-e-init c = (omega arith, none_searched _ _ _ _)

-- in a turn, at position e of the pattern t, where the pixel's bank is known
module _ (c : goal.After-bank_in-k) where
  abbrev head : At-loop-e
  head = c.before.before.before.before

  abbrev start : Start
  start = head.before.before.before

  abbrev e : ℕ
  e = head.loop-e.e - 1

  abbrev k : ℕ
  k = c.bank_in-k.result

  plan : is_plan start.args.p.plan ≡ true
  plan = start.args.p.is

  bank-is : k ≡ bank_at start.args.p.plan start.args.t e
  unfolding pixel_at at
  bank-is =
      c.bank_in-k.ensures.0
      ∙ ap (bank_of start.args.p.plan)
      (entry_handed w8 _ _ c.bank_in-arg-1.given c.bank_in-arg-in-loop-e-1.given)

  bank-small : k < 1024
  bank-small = c.bank_in-k.ensures.1

  later-small : get_or head.loop-e.next k 0 < 64
  later-small = place_below head.loop-e.invariant.1 head.loop-e.invariant.0 start.requires.0 k bank-small

  searched :
      SearchedFrom start.args.r start.args.p.plan start.args.n start.args.t head.loop-e.next head.loop-e.held head.loop-e.met
      (suc e)
  searched =
      let more : head.loop-e.e ≡ suc e = omega arith in
      subst
      (SearchedFrom start.args.r start.args.p.plan start.args.n start.args.t head.loop-e.next head.loop-e.held head.loop-e.met)
      more
      head.loop-e.invariant.1

  count_small : get_or head.loop-e.held (get_or head.loop-e.next k 0) 0 < 64
  count_small = count_below plan searched (omega arith) start.requires.0 bank-is bank-small

pub bounds-next-k : goal.bounds-next-k
bounds-next-k c = bank-small c

pub overflow_cast-later : goal.overflow_cast-later
overflow_cast-later c = record { fits = omega (arith, later-small c) }

pub bounds-held-later : goal.bounds-held-later
bounds-held-later c = later-small c

pub overflow_add-held : goal.overflow_add-held
overflow_add-held c = record { fits = omega (arith, count_small c.before) }

pub bounds-next-k-in-loop-e : goal.bounds-next-k-in-loop-e
bounds-next-k-in-loop-e c = bank-small c.before

pub loop-e-preserved : goal.loop-e-preserved
loop-e-preserved c =
    let most = (start c.before).requires.0 in (
      omega arith,
      elim c.if-r-count.branch [
        | then-r-count w ↦ clash_met (plan c.before) (searched c.before) (omega arith) most (bank-is c.before) (bank-small c.before) (start c.before).requires.1 w.if-r-count.true w.met-is
        | else-r-count w ↦ none_met (plan c.before) (searched c.before) (omega arith) most (bank-is c.before) (bank-small c.before) w.if-r-count.false w.met-is
      ],
    )

pub returns : goal.returns
returns c = all_searched c.loop-e.invariant.1 c.loop-e-test.false

pub bounds-columns-e : goal.bounds-columns-e
bounds-columns-e c =
    omega arith

pub bounds-rows-e : goal.bounds-rows-e
bounds-rows-e c =
    omega arith

pub bounds-held-e : goal.bounds-held-e
bounds-held-e c =
    omega arith

pub overflow_cast-next : goal.overflow_cast-next
overflow_cast-next c =
    record { fits = omega arith }
