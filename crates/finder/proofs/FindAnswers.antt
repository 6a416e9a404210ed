-- What the call `find` answers by its search: a plan or 7 for a legal book, r and limit, and neither for any other.
-- Assumes nothing.
use Rattle.std.specs.Prelude.{Result, Ok, Err}
use Prim.Native.Nat.{ℕ, ◌≤◌}
use mathlib.Core.Path.{◌≡◌, refl, sym, ◌∙◌, ap}
use mathlib.Core.Logic.Iff
use mathlib.Core.Logic.{◌↔◌, ◌⊎◌, inl, inr}
use mathlib.Core.Option.{Option, none, some}
use mathlib.Core.List.{[], ◌∷◌}
use Rattle.scope.specs.Plans.{patterns}
use Rattle.scope.specs.Cycles.{LongClash, least_plan_for}
use Rattle.scope.specs.Numbers.{record_test, limit_test, cycles_test, value, refusal, of_result}
use Rattle.scope.specs.Calls.{find_test, found, find}
use Rattle.scope.specs.promises.Meaning.{IsBook, IsCycles}
use Rattle.scope.specs.declared.Plan.{Plan}
use Rattle.scope.specs.declared.Book.{Book}
use Rattle.scope.specs.declared.Refusal.{Refusal}
use Rattle.checks.proofs.Chains.{chain_refuses, value_not_refusal, value_injective, answered_none, gives_refusal, RefusedBy, answered_value, answered_refusal}
use Rattle.checks.proofs.Booleans.{last_test, test_before}
use Rattle.checks.proofs.Tests.{limit_legal_iff, cycles_legal_iff}
use Rattle.checks.proofs.BookTests.{book_legal_iff}
use Rattle.checks.proofs.RefusalNumbers.{find_refusals}

-- what an answer tells of its search
found_value : (o : Option Plan) (p : Plan) → of_result (found o) ≡ value p → o ≡ some p
unfolding found
found_value none p e = absurd (value_not_refusal (sym e))
found_value (some q) p e = ap some (value_injective e)

found_refusal : {n i : ℕ} {c : Option LongClash} (o : Option Plan) → of_result (found o) ≡ refusal n i c → o ≡ none
unfolding found
found_refusal none e = refl
found_refusal (some p) e = absurd (value_not_refusal e)

pub plan_found : {r : Result Plan Refusal} {p : Plan} (o : Option Plan) → r ≡ found o → r ≡ Ok p → o ≡ some p
plan_found {p} o answer e = found_value o p (ap of_result (sym answer ∙ e))

pub none_found : {r : Result Plan Refusal} {x : Refusal} (o : Option Plan) → r ≡ found o → r ≡ Err x → o ≡ none
none_found o answer e = found_refusal o (ap of_result (sym answer ∙ e))

-- "A book and a limit are legal if no number but 7 turns them down.", and r is from 1 to 8
pub record LegalFind (book : Book) (r limit : ℕ) : Type 0 where
  pub legal_book : IsBook book
  pub limit_least : 1 ≤ limit
  pub limit_most : limit ≤ 1024
  pub legal_cycles : IsCycles r

pub legal_find_iff : (book : Book) (r limit : ℕ) → (find_test book r limit ≡ none) ↔ LegalFind book r limit
unfolding find_test
legal_find_iff book r limit =
    Iff.trans (test_before (book_legal_iff book) (test_before (limit_legal_iff limit) (last_test (cycles_legal_iff r)))).iff (
      λ h. record { legal_book = h.0; limit_least = h.1.0.0; limit_most = h.1.0.1; legal_cycles = h.1.1 },
      λ h. (h.legal_book, ((h.limit_least, h.limit_most), h.legal_cycles)),
    )

module _ (book : Book) (r limit : ℕ) where
  abbrev search : Option Plan
  search = least_plan_for r (patterns book) limit

  -- A call that is turned down answers what its tests found, those of the record first.
  pub find_refused : (f : Refusal) → find_test book r limit ≡ some f → Err f ≡ find book r limit
  unfolding find
  find_refused f e = gives_refusal e Err (found search)

  pub book_refused : (f : Refusal) → record_test book ≡ some f → Err f ≡ find book r limit
  unfolding find_test
  book_refused f e = find_refused f (chain_refuses (record_test book) (limit_test limit ∷ cycles_test r ∷ []) f e)

  -- A legal call answers what its search found.
  pub legal_find : LegalFind book r limit → find book r limit ≡ found search
  unfolding find
  legal_find h = answered_none (find_test book r limit) Err (found search) ((legal_find_iff book r limit).1 h)

  -- A plan is answered exactly where the call is legal and the search finds it.
  pub find_value_iff : (p : Plan) → (of_result (find book r limit) ≡ value p) ↔ (LegalFind book r limit × (search ≡ some p))
  unfolding find found
  find_value_iff p = (there, back)
    where
      there : of_result (find book r limit) ≡ value p → LegalFind book r limit × (search ≡ some p)
      there e =
          let t = answered_value of_result (find_test book r limit) Err (found search) p (λ f. refl) e in
          ((legal_find_iff book r limit).0 t.0, found_value search p t.1)

      back : LegalFind book r limit × (search ≡ some p) → of_result (find book r limit) ≡ value p
      back (h, e) = ap of_result (legal_find h ∙ ap found e)

  -- 7 is answered exactly where the call is legal and the search finds nothing.
  pub find_none_iff : (of_result (find book r limit) ≡ refusal 7 0 none) ↔ (LegalFind book r limit × (search ≡ none))
  unfolding find found
  find_none_iff = (λ e. there (answered_refusal of_result (find_test book r limit) Err (found search) 7 0 none (λ f. refl) e), back)
    where
      there :
          RefusedBy (find_test book r limit) 7 0 none
          ⊎ ((find_test book r limit ≡ none) × (of_result (found search) ≡ refusal 7 0 none))
          → LegalFind book r limit × (search ≡ none)
      there (inl t) = absurd (find_refusals book r limit t.0 t.1 t.2)
      there (inr t) = ((legal_find_iff book r limit).0 t.0, found_refusal search t.1)

      back : LegalFind book r limit × (search ≡ none) → of_result (find book r limit) ≡ refusal 7 0 none
      back (h, e) = ap of_result (legal_find h ∙ ap found e)
