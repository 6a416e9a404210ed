-- `records::fill_records` meets its contract: one record that is not placeable leaves the list as it was, else each is filled in.
-- Assumes nothing.
use Rattle.std.proofs.Common.{◌≡◌, ℕ, suc, ◌<◌, Bool, true, false, List, [], ◌∷◌, length, get_or, sym, refl, ◌∙◌, arith, rules, tests}
use Rattle.std.specs.List.{list_all}
use Rattle.std.proofs.lemmas.Iterator.{YieldsList-from_slice}
use Rattle.std.proofs.lemmas.Iterator.Search.{all_from_yields_List}
use Rattle.std.proofs.lemmas.List.Folds.{list_all_at}
use Rattle.scope.specs.promises.PicturePromises.{no_record}
use Rattle.scope.specs.declared.PixelRecord.{PixelRecord}
use Rattle.checks.proofs.Searches.{true-not-false}
use Rattle.checks.proofs.FilledArrays.{filled_all}
use Rattle.records.specs.Filling.{is_placeable}
use Rattle.records.proofs.RecordLists.{none_filled, all_filled}
use Rattle.records.proofs.fill_records.Goals as goal

module _ (p : PixelRecord → Bool) where
  -- where not all records pass a test, one of them doesn't
  abbrev Failing : List PixelRecord → Type 0
  Failing rs = (m : ℕ) × (m < length rs) × (p (get_or rs m no_record) ≡ false)

  one-fails : (rs : List PixelRecord) → list_all p rs ≡ false → Failing rs
  one-fails [] e = absurd (true-not-false e)
  one-fails (r ∷ rs) e = by_first (p r) refl (one-fails rs)
    where
      by_first : (b : Bool) → p r ≡ b → (list_all p rs ≡ false → Failing rs) → Failing (r ∷ rs)
      by_first false h others = (0, omega arith, h)
      by_first true h others = let (m, b, f) = others (rw h at e) in (suc m, omega arith, f)

  -- where all do, each does
  each-passes : (rs : List PixelRecord) → list_all p rs ≡ true → (m : ℕ) → m < length rs → p (get_or rs m no_record) ≡ true
  each-passes rs e m b = by_own (p (get_or rs m no_record)) refl
    where
      by_own : (t : Bool) → p (get_or rs m no_record) ≡ t → t ≡ true
      by_own true h = refl
      by_own false h = absurd (true-not-false (sym e ∙ list_all_at p rs m no_record b h))

pub returns-then-not-all : goal.returns-then-not-all
returns-then-not-all c =
    let u = c.args in
    let is : c.all.result ≡ list_all (is_placeable u.p u.w u.h) u.list.now =
    all_from_yields_List (is_placeable u.p u.w u.h) _ _ _ c.all.ensures.ran (YieldsList-from_slice u.list.now cc) (λ x b q k. search (rules, tests)) in
    let (m, b, e) = one-fails (is_placeable u.p u.w u.h) u.list.now (cc is) in
    let given = none_filled u.p u.w u.h u.list.now m b e in
    (c.fill_answer.ensures ∙ given.0, given.1)

pub returns : goal.returns
returns c =
    let u = c.args in
    let is : c.all.result ≡ list_all (is_placeable u.p u.w u.h) u.list.now =
    all_from_yields_List (is_placeable u.p u.w u.h) _ _ _ c.all.ensures.ran (YieldsList-from_slice u.list.now cc) (λ x b q k. search (rules, tests)) in
    let each = each-passes (is_placeable u.p u.w u.h) u.list.now (cc is) in
    let given = all_filled u.p u.w u.h u.list.now each in
    (c.fill_answer-2.ensures ∙ given.0, filled_all c.loop-i.invariant (omega arith) ∙ given.1)
