-- `finder::cycles::write_cycles` meets its contract: 2, 3, 4, 19, 20, 11, 17, then 10 with its positions, then 16, and else the cycles.
-- Assumes nothing.
use Rattle.scope.specs.declared.Refusal.{Refusal}
use Rattle.std.specs.Prelude.{Result, Ok}
use Prim.Native.Nat.{ℕ, ◌≤◌, ◌<◌}
use native.Mathlib.Omega.{arith}
use mathlib.Core.Path.{◌≡◌, ◌∙◌, ap}
use mathlib.Core.Option.{none}
use Rattle.scope.specs.Plans.{pattern_at}
use Rattle.scope.specs.Calls.{cycles_first}
use Rattle.scope.specs.declared.Book.{Book}
use Rattle.scope.specs.declared.Pattern.{Pattern}
use Rattle.scope.specs.declared.Plan.{Plan}
use Rattle.book.specs.Scan.{outcome_of, entry_number}
use Rattle.book.proofs.Outcomes.{done_found_nothing, refused_found}
use Rattle.book.proofs.Scanning.{entry_number_is}
use Rattle.finder.proofs.WrittenCycles.{below_16, own_legal, first_refused, unsuited, no_room, cycles_written}
use Rattle.finder.proofs.cycles.write_cycles.Goals as goal

-- where the tests before 10 found nothing, with the record k that stands for the pattern
module _
    (book : Book) (r : ℕ) (p : Plan) (n : ℕ) {outcome : Result Unit Refusal} (told : outcome ≡ outcome_of (cycles_first book r p n)) (done : outcome ≡ Ok tt) where
  passed : cycles_first book r p n ≡ none
  passed = done_found_nothing (cycles_first book r p n) told done

  module _ {k : ℕ} (entered : k ≡ entry_number n) where
    is_number : k ≡ n
    is_number = entered ∙ entry_number_is n (below_16 book r p n passed)

    number_small : k < 16
    number_small = omega (arith, is_number, below_16 book r p n passed)

    own : pattern_at book k ≡ pattern_at book n
    own = ap (pattern_at book) is_number

    own_most : (pattern_at book k).used ≤ 64
    own_most = omega (arith, (own_legal book r p n passed).most, ap (λ (t : Pattern). t.used) own)

pub returns-in-Err : goal.returns-in-Err
returns-in-Err c =
    let w = first_refused _ _ _ _ c.args.out.now (refused_found _ c.cycles_outcome-outcome.ensures c.in-Err.is) in
    record { answer = w.0; left = w.1 }

pub offset_bounds-book-k : goal.offset_bounds-book-k
offset_bounds-book-k c =
    record { fits = omega (arith, number_small c.args.book c.args.r c.args.p c.args.n c.cycles_outcome-outcome.ensures c.in_default.is c.entry_number-k.ensures) }

pub bounds-book-k : goal.bounds-book-k
bounds-book-k c = number_small c.args.book c.args.r c.args.p c.args.n c.cycles_outcome-outcome.ensures c.in_default.is c.entry_number-k.ensures

pub returns-in-Err-suits : goal.returns-in-Err-suits
unfolding pattern_at
returns-in-Err-suits c =
    let (outcome, positions) = c.suits_answer-suited.ensures in
    let first = passed c.args.book c.args.r c.args.p c.args.n c.cycles_outcome-outcome.ensures c.in_default.is in
    let same = own c.args.book c.args.r c.args.p c.args.n c.cycles_outcome-outcome.ensures c.in_default.is c.entry_number-k.ensures in
    let w = unsuited _ _ _ _ c.args.out.now first same outcome positions c.in-Err-suits.is in
    record { answer = w.0; left = w.1 }

pub returns-then-out-t : goal.returns-then-out-t
unfolding pattern_at
returns-then-out-t c =
    let (outcome, positions) = c.suits_answer-suited.ensures in
    let first = passed c.args.book c.args.r c.args.p c.args.n c.cycles_outcome-outcome.ensures c.in_default.is in
    let same = own c.args.book c.args.r c.args.p c.args.n c.cycles_outcome-outcome.ensures c.in_default.is c.entry_number-k.ensures in
    let w = no_room _ _ _ _ c.args.out.now first same outcome positions c.in_default-suits.is c.if-out-t.true in
    record { answer = w.0; left = w.1 }

pub invariant_of-put_cycles : goal.invariant_of-put_cycles
invariant_of-put_cycles c =
    record {
      is = (own_legal _ _ _ _ (passed c.args.book c.args.r c.args.p c.args.n c.cycles_outcome-outcome.ensures c.in_default.is)).plan;
    }

pub put_cycles-requires : goal.put_cycles-requires
unfolding pattern_at
put_cycles-requires c =
    (own_most c.args.book c.args.r c.args.p c.args.n c.cycles_outcome-outcome.ensures c.in_default.is c.entry_number-k.ensures, c.if-out-t.false)

pub returns : goal.returns
unfolding pattern_at
returns c =
    let (outcome, positions) = c.suits_answer-suited.ensures in
    let first = passed c.args.book c.args.r c.args.p c.args.n c.cycles_outcome-outcome.ensures c.in_default.is in
    let same = own c.args.book c.args.r c.args.p c.args.n c.cycles_outcome-outcome.ensures c.in_default.is c.entry_number-k.ensures in
    let w = cycles_written _ _ _ _ c.args.out.now first same outcome positions c.in_default-suits.is c.if-out-t.false c.put_cycles.ensures in
    record { answer = w.0; left = w.1 }
