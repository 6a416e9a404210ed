-- What document 01 promises of the finder, the check and the fetch holds at r = 1: a lattice that parts the pixels is one without a class
-- of two.
-- Assumes nothing.
use Prim.Native.Nat.{ℕ}
use native.Mathlib.Omega.{arith}
use mathlib.Core.Path.{◌≡◌, sym, ◌∙◌, ap, subst}
use mathlib.Core.Logic.{◌↔◌}
use mathlib.Core.Bool.{true}
use mathlib.Core.Option.{Option, none, some, map}
use mathlib.Core.List.{List}
use lib.ListN.{length}
use Rattle.integers.proofs.Divisions.{ceiling_division}
use Rattle.scope.specs.Plans.{pattern_at, pixels, patterns, banks, suits_all, normal_form}
use Rattle.scope.specs.Finding.{clash_in, clash}
use Rattle.scope.specs.Cycles.{LongClash, lengthened, shortened}
use Rattle.scope.specs.Numbers.{refusal, of_result}
use Rattle.scope.specs.Calls.{find}
use Rattle.scope.specs.promises.Meaning.{IsBook}
use Rattle.scope.specs.promises.CyclePromises.{LeastForCycles}
use Rattle.scope.specs.promises.Demand.{banks_read, cycles_read, InCycles}
use Rattle.scope.specs.promises.OneCyclePromises.{LeastFor, NoneParted, AllDifferent, KeptAtOne}
use Rattle.scope.specs.declared.Plan.{Plan}
use Rattle.scope.specs.declared.Book.{Book}
use Rattle.scope.specs.declared.Clash.{Clash}
use Rattle.checks.proofs.Searches.{none_not_some, some_injective}
use Rattle.lattice.proofs.NormalForm.{normal_form_is_only}
use Rattle.lattice.proofs.OneCycle.{clash_for_one_in, clash_for_one}
use Rattle.finder.proofs.FindAnswers.{find_value_iff}
use Rattle.finder.proofs.OneCycle.{uncrowded_one, suits_all_one}
use Rattle.finder.proofs.Least.{finder_is_least, finder_none, finder_order}
use Rattle.finder.proofs.Bounds.{finder_stays_within}
use Rattle.finder.proofs.Checks.{surplus_is_excess}
use Rattle.finder.proofs.ClashSearch.{first_clash_in_pattern, first_clash_in_book, no_clash_none_meets, no_clash_iff_suits_all}
use Rattle.finder.proofs.CheckClashes.{clash_of_check}
use Rattle.finder.proofs.OwnClashes.{clash_of_fetch}

-- Least for one cycle is least.
least_for_one : (book : Book) → IsBook book → (p : Plan) → LeastForCycles 1 book p → LeastFor book p
least_for_one book legal p l =
    record {
      plan = l.plan;
      suiting = sym (suits_all_one book legal p l.plan.a_least l.plan.d_least) ∙ l.suiting;
      parted = (uncrowded_one book legal _ _).0 l.uncrowded;
      least = λ x y independent parted. l.least x y independent ((uncrowded_one book legal x y).1 parted);
    }

-- 7 exactly where no two vectors that part the pixels have a determinant within the limit
none_parted_iff : (book : Book) (limit : ℕ) → (of_result (find book 1 limit) ≡ refusal 7 0 none) ↔ NoneParted book limit
none_parted_iff book limit = (
  λ e.
      let w = (finder_none book 1 limit).0 e in
      record {
        legal_book = w.legal_book;
        limit_least = w.limit_least;
        limit_most = w.limit_most;
        above = λ x y independent parted. w.above x y independent ((uncrowded_one book w.legal_book x y).1 parted);
      },
  λ w.
      (finder_none book 1 limit).1 (record {
        legal_book = w.legal_book;
        limit_least = w.limit_least;
        limit_most = w.limit_most;
        legal_cycles = (omega arith, omega arith);
        above = λ x y independent uncrowded. w.above x y independent ((uncrowded_one book w.legal_book x y).0 uncrowded);
      }),
)

-- the clash for one cycle is the pair of positions that the struct holds
pair_of : (o : Option Clash) (c : LongClash) → map lengthened o ≡ some c → o ≡ some (shortened c)
unfolding shortened
pair_of none c e = absurd (none_not_some e)
pair_of (some d) c e = ap (λ (k : LongClash). some (shortened k)) (some_injective e)

-- words that have no cycle but 0 come from different banks
different_banks : (ks cs : List ℕ) → InCycles 1 ks cs → AllDifferent ks
different_banks ks cs h e l ordered within same =
    let l_below = h.below l (omega (arith, within, h.as_many)) in
    let e_below = h.below e (omega (arith, within, ordered, h.as_many)) in
    h.apart e l ordered within same (omega (arith, e_below, l_below))

pub kept_at_one : KeptAtOne
unfolding shortened
kept_at_one =
    record {
      least = λ book limit p e.
          let legal : IsBook book = ((find_value_iff book 1 limit p).0 e).0.legal_book in
          let (least, within) = finder_is_least book 1 limit p e in
          (least_for_one book legal p least, within);
      none_within = none_parted_iff;
      order = λ book limit p e q is_plan_lem suits.
          let legal : IsBook book = ((find_value_iff book 1 limit p).0 e).0.legal_book in
          finder_order book 1 limit p e q is_plan_lem (suits_all_one book legal q is_plan_lem.a_least is_plan_lem.d_least ∙ suits);
      pixel_count = λ book limit p e t m.
          omega (arith, (ceiling_division (length t) 1 (omega arith) (banks p)).0 ((finder_stays_within book 1 limit p e).pixel_count t m));
      surplus = λ book x y c e.
          let h = surplus_is_excess book 1 x y c e in
          let a_least = h.plan.a_least in
          let d_least = h.plan.d_least in
          let suiting : suits_all c.plan (patterns book) ≡ true =
          sym (suits_all_one book h.legal_book c.plan a_least d_least) ∙ h.suiting in (
            suiting,
            no_clash_none_meets book c.plan a_least d_least
                ((no_clash_iff_suits_all book c.plan a_least d_least h.legal_book).1 suiting),
          );
      clash = λ book x y c e.
          let h = clash_of_check book 1 x y c e in
          let g = normal_form_is_only.generates x y h.independent in
          first_clash_in_book book (normal_form x y) g.a_least g.d_least (shortened c)
          (pair_of (clash (normal_form x y) (patterns book)) c (sym (clash_for_one (normal_form x y) (patterns book)) ∙ h.found));
      clash_of_fetch = λ ring book p W H mem n o out c e.
          let h = clash_of_fetch ring book 1 p W H mem n o out c e in
          let b = h.before in
          first_clash_in_pattern book p b.plan.a_least b.plan.d_least n b.number (shortened c)
          (pair_of (clash_in p n (pixels (pattern_at book n))) c (sym (clash_for_one_in p n (pixels (pattern_at book n))) ∙ h.found));
      banks_differ = λ g one mem calls h past c later e taken.
          different_banks (banks_read g c) (cycles_read g c)
          (subst (λ (r : ℕ). InCycles r (banks_read g c) (cycles_read g c)) one ((h.each past c later e).in_cycles taken));
    }
