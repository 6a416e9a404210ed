-- Chains of tests, and what a call answers by them: where they find nothing its value, and where not the first refusal.
-- Assumes nothing.
use Rattle.std.specs.Prelude.{Result, Ok, Err, IsErr, IsErrAnd}
use Rattle.std.proofs.lemmas.Result.{err_from_is_err_and}
use Prim.Native.Nat.{ℕ}
use native.Mathlib.Omega.{arith}
use mathlib.Core.Path.{◌≡◌, refl, sym, ◌∙◌, ap}
use mathlib.Core.Bool.{Bool, true, false, true≢false}
use mathlib.Core.Logic.{◌↔◌}
use mathlib.Core.Option.{Option, none, some, none-ne-some}
use mathlib.Core.List.{List, [], ◌∷◌, ◌++◌}
use Rattle.scope.specs.Search.{whenever, first_of}
use Rattle.scope.specs.Numbers.{Answer, value, refusal, turned_down, of_result}
use Rattle.scope.specs.Calls.{answered}
use Rattle.scope.specs.Cycles.{LongClash}
use Rattle.scope.specs.declared.Refusal.{Refusal}

-- A test finds its refusal exactly where its condition holds.
module _ {A : Type 0} where
  pub whenever_none : (b : Bool) (x : A) → whenever b x ≡ none → b ≡ false
  unfolding whenever
  whenever_none true x e = absurd (none-ne-some x (sym e))
  whenever_none false x e = refl

  pub none_whenever : (b : Bool) (x : A) → b ≡ false → whenever b x ≡ none
  unfolding whenever
  none_whenever true x e = absurd (true≢false e)
  none_whenever false x e = refl

  pub some_whenever : (b : Bool) (x : A) → b ≡ true → whenever b x ≡ some x
  unfolding whenever
  some_whenever true x e = refl
  some_whenever false x e = absurd (true≢false (sym e))

-- A chain finds nothing exactly where its first test finds nothing and the rest finds nothing.
pub chain_none_iff : (t : Option Refusal) (ts : List (Option Refusal)) → (first_of (t ∷ ts) ≡ none) ↔ ((t ≡ none) × (first_of ts ≡ none))
unfolding first_of
chain_none_iff none ts = (λ e. (refl, e), λ h. h.1)
chain_none_iff (some r) ts = (λ e. absurd (none-ne-some r (sym e)), λ h. absurd (none-ne-some r (sym h.0)))

-- A first test that refuses is what it finds, and one that finds nothing leaves it to the rest.
pub chain_refuses : (t : Option Refusal) (ts : List (Option Refusal)) (r : Refusal) → t ≡ some r → first_of (t ∷ ts) ≡ some r
unfolding first_of
chain_refuses t ts r e = rw (e, first_of)

pub chain_goes_on : (t : Option Refusal) (ts : List (Option Refusal)) → t ≡ none → first_of (t ∷ ts) ≡ first_of ts
unfolding first_of
chain_goes_on t ts e = rw (e, first_of)

-- A chain of one test is that test.
pub chain_of_one : (t : Option Refusal) → first_of (t ∷ []) ≡ t
unfolding first_of
chain_of_one none = refl
chain_of_one (some r) = refl

-- Tests of a chain that follow each other can stand in it as one test.
pub tests_as_one :
    (before these after : List (Option Refusal)) → first_of (before ++ (these ++ after)) ≡ first_of (before ++ (first_of these ∷ after))
unfolding first_of
tests_as_one [] [] after = refl
tests_as_one [] (none ∷ these) after = tests_as_one [] these after
tests_as_one [] (some r ∷ these) after = refl
tests_as_one (none ∷ before) these after = tests_as_one before these after
tests_as_one (some r ∷ before) these after = refl

-- A value is no refusal, and each says what it holds.
module _ {A : Type 0} where
  pub value_not_refusal : {x : A} {n i : ℕ} {c : Option LongClash} → value x ≡ refusal n i c → ⊥
  value_not_refusal e = let z : ◌≡◌ {A = ℕ} 0 1 = cc in omega arith

  pub value_injective : {x y : A} → value x ≡ value y → x ≡ y
  value_injective e = cc

-- A call whose tests find nothing gives its value, and one whose tests find a refusal gives that.
module _ {X : Type 0} where
  pub answered_none : (t : Option Refusal) (refused : Refusal → X) (x : X) → t ≡ none → answered t refused x ≡ x
  unfolding answered
  answered_none t refused x e = rw (e, answered)

  pub answered_some :
      (t : Option Refusal) (refused : Refusal → X) (x : X) (r : Refusal) → t ≡ some r → answered t refused x ≡ refused r
  unfolding answered
  answered_some t refused x r e = rw (e, answered)

  -- the same, as an answer that is given: its value, or in its own way the refusal
  pub gives_value : {t : Option Refusal} → t ≡ none → (refused : Refusal → X) {given x : X} → given ≡ x → given ≡ answered t refused x
  gives_value {t} passed refused {x} e = e ∙ sym (answered_none t refused x passed)

  pub gives_refusal : {t : Option Refusal} {r : Refusal} → t ≡ some r → (refused : Refusal → X) (x : X) → refused r ≡ answered t refused x
  gives_refusal {t} {r} found refused x = sym (answered_some t refused x r found)

  -- a refusal that is not the value is what the tests found
  pub answered_refused :
      (t : Option Refusal) (refused : Refusal → X) (x : X) (r : Refusal) → ((s : Refusal) → refused s ≡ refused r → s ≡ r)
      → (x ≡ refused r → ⊥) → answered t refused x ≡ refused r → t ≡ some r
  unfolding answered
  answered_refused none refused x r says no-refusal e = absurd (no-refusal e)
  answered_refused (some s) refused x r says no-refusal e = ap some (says s e)

-- `of` reads an answer in numbers and values, and a refused call's as turned down: a call that gives a value has tests
-- that found nothing.
module _ {X A : Type 0} (of : X → Answer A) (t : Option Refusal) (refused : Refusal → X) where
  pub answered_value :
      (x : X) (v : A) → ((r : Refusal) → of (refused r) ≡ turned_down r) → of (answered t refused x) ≡ value v
      → (t ≡ none) × (of x ≡ value v)
  answered_value x v reads e = by_tests t refl
    where
      by_tests : (s : Option Refusal) → t ≡ s → (t ≡ none) × (of x ≡ value v)
      by_tests none h = (h, ap of (sym (answered_none t refused x h)) ∙ e)
      by_tests (some r) h = absurd (value_not_refusal (sym e ∙ ap of (answered_some t refused x r h) ∙ reads r))

-- What an outcome tells of the tests behind it.
module _ {outcome : Result Unit Refusal} (t : Option Refusal) (is : outcome ≡ answered t Err (Ok tt)) where
  pub done_found_nothing : outcome ≡ Ok tt → t ≡ none
  done_found_nothing e = (answered_value of_result t Err (Ok tt) tt (λ r. refl) (ap of_result (sym is ∙ e))).0

  pub refused_found : {r : Refusal} → outcome ≡ Err r → t ≡ some r
  refused_found {r} e =
      answered_refused t Err (Ok tt) r (λ s h. same_refusal s h) (λ h. value_not_refusal (ap of_result h)) (sym is ∙ e)
    where
      refusal_or : Refusal → Result Unit Refusal → Refusal
      refusal_or f (Ok x) = f
      refusal_or f (Err s) = s

      same_refusal : (s : Refusal) → ◌≡◌ {A = Result Unit Refusal} (Err s) (Err r) → s ≡ r
      same_refusal s h = ap (refusal_or s) h

-- What `?` answers where a callee refused: the callee's refusal.
pub handed_on : {A E : Type 0} (x : Result A E) {r : E} → IsErr x × IsErrAnd x (λ f. f ≡ r) → x ≡ Err r
handed_on x h = let p = err_from_is_err_and x h.1 in p.1 ∙ ap Err p.2

-- and where that answer is of the same type, it is the callee's.
pub passed_on :
    {A E : Type 0} (x : Result A E) {y : Result A E} {r : E}
    → IsErr x × IsErrAnd x (λ f. f ≡ r) → y ≡ Err r → x ≡ y
passed_on x h e = handed_on x h ∙ sym e
