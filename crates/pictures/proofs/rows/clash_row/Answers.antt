-- `pictures::rows::clash_row` meets its contract. The loop's invariant: the first e positions were put behind the pattern.
-- Assumes nothing.
use Rattle.std.proofs.Common.{◌≡◌, ℕ, suc, ◌+◌, ◌<◌, min, List, [], ◌∷◌, length, take, sym, refl, ap, ◌∙◌, arith, take_all}
use native.Mathlib.Decide.{dec_lt}
use Rattle.scope.specs.Banks.{over_start}
use Rattle.pictures.specs.Lists.{twelve}
use Rattle.pictures.proofs.ReplyRows.{clash_numbers_lem}
use Rattle.pictures.proofs.Stretches.{entry_put}
use Rattle.pictures.proofs.rows.clash_row.Goals as goal

pub loop-e-init : goal.loop-e-init
unfolding over_start
loop-e-init c = record { same_length = refl; is = refl }

pub loop-e-preserved : goal.loop-e-preserved
loop-e-preserved c =
    entry_put (_ ∷ _ ∷ _ ∷ []) _ (3 + c.loop-e.e) c.loop-e.e refl (omega arith) (omega arith) c.loop-e.invariant

-- the positions that were put are the first r + 1
taken-all : (r m : ℕ) (es : List ℕ) → length es ≡ 9 → m ≡ min r 8 + 1 → take m es ≡ take (suc r) es
taken-all r m es size is = by-r (dec_lt r 8)
  where
    by-r : Dec (r < 8) → take m es ≡ take (suc r) es
    by-r (yes h) = let same : m ≡ suc r = omega arith in ap (λ (k : ℕ). take k es) same
    by-r (no h) = take_all m es (omega arith) ∙ sym (take_all (suc r) es (omega arith))

pub returns-after-loop-e : goal.returns-after-loop-e
unfolding twelve
returns-after-loop-e c values =
    let l = c.loop-e in
    let t = c.row_of-told in
    let all = taken-all c.args.r l.e c.args.positions (omega arith) (omega arith) in
    l.invariant.is
    ∙ ap (λ (es : List ℕ). twelve (t.result.number ∷ t.result.place ∷ c.in-Some.c.pattern ∷ es)) all
    ∙ clash_numbers_lem t.ensures c.in-Some.is values _

pub returns-in_default : goal.returns-in_default
unfolding twelve
returns-in_default c values = clash_numbers_lem c.row_of-told.ensures c.in_default.is values _
