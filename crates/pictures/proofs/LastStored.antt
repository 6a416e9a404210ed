-- The word last stored at a pixel, call by call: what a call sets, what it leaves, and how lists of calls join.
-- Assumes nothing.
use Rattle.std.proofs.Common.{◌≡◌, ℕ, Bool, true, false, cond, ◌↔◌, List, ◌∷◌, ◌++◌, refl, ap, ◌∙◌}
use mathlib.Core.Option.{Option, none, some}
use Rattle.integers.proofs.Comparisons.{eqb_iff}
use Rattle.scope.specs.Search.{state_after}
use Rattle.scope.specs.Plans.{Pixel}
use Rattle.scope.specs.Banks.{bank_of}
use Rattle.scope.specs.Calls.{Size, answered}
use Rattle.scope.specs.promises.Demand.{Write, store, clear, make_sums, Call, write, read, Setting, test, effect, word_after, stored_since, last_stored}
use Rattle.scope.specs.promises.Demand.{Touches, Untouched, LastStoredMeans}
use Rattle.scope.specs.declared.Refusal.{Refusal}
use Rattle.checks.proofs.Chains.{answered_none, answered_some}
use Rattle.checks.proofs.BookTests.{same_pixel_iff}
use Rattle.checks.proofs.CallLists.{state_after_append, state_kept}

-- a choice by a test goes one way where what the test means holds, and the other way where it does not
choice_taken : {P : Type 0} (b : Bool) (x y : ℕ) → (b ≡ true) ↔ P → P → cond b x y ≡ x
choice_taken b x y means h = ap (λ (c : Bool). cond c x y) (means.1 h)

choice_left : {P : Type 0} (b : Bool) (x y : ℕ) → (b ≡ true) ↔ P → (P → ⊥) → cond b x y ≡ y
choice_left true x y means no-P = absurd (no-P (means.0 refl))
choice_left false x y means no-P = refl

module _ (g : Setting) (v : Pixel) (old : ℕ) where
  -- a store at the pixel sets its word, and one elsewhere leaves it
  pub store_sets : (w : Pixel) (x : ℕ) → w ≡ v → effect g v old (store w x) ≡ x
  unfolding effect
  store_sets w x = choice_taken _ x old (same_pixel_iff w v)

  pub store_leaves : (w : Pixel) (x : ℕ) → (w ≡ v → ⊥) → effect g v old (store w x) ≡ old
  unfolding effect
  store_leaves w x = choice_left _ x old (same_pixel_iff w v)

  -- a clear of the pixel's bank makes its word 0, and one of another bank leaves it
  pub clear_sets : (k : ℕ) → k ≡ bank_of g.plan v → effect g v old (clear k) ≡ 0
  unfolding effect
  clear_sets k = choice_taken _ 0 old (eqb_iff k (bank_of g.plan v))

  pub clear_leaves : (k : ℕ) → (k ≡ bank_of g.plan v → ⊥) → effect g v old (clear k) ≡ old
  unfolding effect
  clear_leaves k = choice_left _ 0 old (eqb_iff k (bank_of g.plan v))

module _ (g : Setting) (s : Size) (v : Pixel) where
  -- a write that is not turned down has its effect
  taken_has_effect : (old : ℕ) (w : Write) → test g s (write w) ≡ none → word_after g s v old (write w) ≡ effect g v old w
  unfolding word_after
  taken_has_effect old w e = answered_none (test g s (write w)) (λ r. old) (effect g v old w) e

  -- a call that does not touch the pixel's word leaves it, turned down or not
  no_effect : (old : ℕ) (w : Write) → test g s (write w) ≡ none → (Touches g s v (write w) → ⊥) → effect g v old w ≡ old
  unfolding effect
  no_effect old (store w x) e h = store_leaves g v old w x (λ d. h (e, d))
  no_effect old (clear k) e h = clear_leaves g v old k (λ d. h (e, d))
  no_effect old make_sums e h = refl

  untouching_leaves : (old : ℕ) (c : Call) → (Touches g s v c → ⊥) → word_after g s v old c ≡ old
  unfolding word_after
  untouching_leaves old (read r) h = refl
  untouching_leaves old (write w) h = by_test (test g s (write w)) refl
    where
      by_test :
          (t : Option Refusal) → test g s (write w) ≡ t
          → answered (test g s (write w)) (λ r. old) (effect g v old w) ≡ old
      by_test none e = answered_none (test g s (write w)) (λ r. old) (effect g v old w) e ∙ no_effect old w e h
      by_test (some r) e = answered_some (test g s (write w)) (λ r. old) (effect g v old w) r e

  -- calls that do not touch the pixel's word leave it
  untouched_leaves : (old : ℕ) (later : List Call) → Untouched g s v later → stored_since g s v old later ≡ old
  unfolding stored_since
  untouched_leaves old later h = state_kept (word_after g s v) old later (λ c m. untouching_leaves old c (h c m))

  -- a write in the midst that sets the word to x whatever it was, and is not touched later
  set_since :
      (past later : List Call) (w : Write) (x : ℕ) → test g s (write w) ≡ none → ((old : ℕ) → effect g v old w ≡ x)
      → Untouched g s v later
      → last_stored g s (past ++ (write w ∷ later)) v ≡ x
  unfolding last_stored stored_since state_after
  set_since past later w x e sets untouched =
      state_after_append (word_after g s v) 0 past (write w ∷ later)
      ∙ untouched_leaves _ later untouched
      ∙ taken_has_effect _ w e
      ∙ sets _

-- The word last stored is that of the latest store, or 0 if there is none or a clear came since.
pub last_stored_means : LastStoredMeans
unfolding last_stored
last_stored_means =
    record {
      latest = λ g s v past later x e h. set_since g s v past later (store v x) x e (λ old. store_sets g v old v x refl) h;
      cleared_since = λ g s v past later k e d h. set_since g s v past later (clear k) 0 e (λ old. clear_sets g v old k d) h;
      never = λ g s v calls h. untouched_leaves g s v 0 calls h;
    }
