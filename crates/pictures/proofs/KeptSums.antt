-- The sums of the banks over a list of calls: from a call that makes them afresh and is not turned down, each is the walk's figure.
-- Assumes nothing.
use Rattle.std.specs.Prelude.{Result, Ok, Err}
use Rattle.std.proofs.Common.{◌≡◌, ℕ, List, [], ◌∷◌, ◌++◌, map, length, sym, refl, ap, ◌∙◌, subst, ap₂}
use mathlib.Core.Option.{Option, none}
use mathlib.Core.List.Memᴰ
use Rattle.scope.specs.Search.{state_after, replies_of}
use Rattle.scope.specs.Numbers.{plan_test, sums_test, bank_test, of_result}
use Rattle.scope.specs.Calls as Calls
use Rattle.scope.specs.Calls.{Lent, Size, size_of, picture_test, whole_bank_test, read_sum_test}
use Rattle.scope.specs.promises.Meaning.{IsLent}
use Rattle.scope.specs.promises.Demand.{make_sums, load, fetch, sum, read_sum, Call, write, read, Setting, Reply, summed}
use Rattle.scope.specs.promises.Demand.{read_reply, reply, after, run, replies, test}
use Rattle.scope.specs.promises.SumPromises.{Words16, AllStore16, SumsAre, walking, walking_since, SumsKept}
use Rattle.scope.specs.declared.Refusal.{Refusal}
use Rattle.checks.proofs.Chains.{chain_goes_on}
use Rattle.checks.proofs.Tests.{plan_legal_iff, sums_enough_iff}
use Rattle.checks.proofs.CallLists.{state_after_append, reply_in_place}
use Rattle.pictures.proofs.CallTests.{picture_test_iff, bank_test_iff}
use Rattle.pictures.proofs.Replies.{same_answers}
use Rattle.pictures.proofs.SumSteps.{Stays, Kept, run_keeps, call_stays, call_kept, made_kept}

module _ (g : Setting) where
  -- A look-up tests what a walk does, where 11, 12 and 13 find nothing,
  same_tests :
      (s : Size) (k : ℕ) → IsLent g.plan g.W g.H s
      → read_sum_test g.plan s.entries k ≡ whole_bank_test g.plan g.W g.H s.words k
  unfolding read_sum_test whole_bank_test
  same_tests s k here =
      chain_goes_on (plan_test g.plan) (sums_test g.plan s.entries ∷ last) ((plan_legal_iff g.plan).1 here.picture.plan)
      ∙ chain_goes_on (sums_test g.plan s.entries) last ((sums_enough_iff g.plan s.entries).1 here.sums)
      ∙ sym
      (chain_goes_on (picture_test g.plan g.W g.H s.words) last
      ((picture_test_iff g.plan g.W g.H s.words).1 here.picture))
    where
      last : List (Option Refusal)
      last = bank_test g.plan k ∷ []

  -- and so it answers as the walk does.
  reads_as_walk : (start l : Lent) → Kept g start l → (k : ℕ) → reply g l (read (read_sum k)) ≡ reply g l (read (sum k))
  unfolding reply read_reply Calls.sum Calls.read_sum
  reads_as_walk start l h k =
      ap (λ (c : Result ℕ Refusal). summed (of_result c))
      (same_answers (same_tests (size_of l) k here) Err (λ t. ap Ok
      (h.each k ((bank_test_iff g.plan g.W g.H (length l.memory) k).0 t).1)))
    where
      here : IsLent g.plan g.W g.H (size_of l)
      here = subst (IsLent g.plan g.W g.H) (sym h.stays.as_long) h.legal

  -- With walks in the place of look-ups the calls leave the same, and reply the same.
  walking_leaves : (l : Lent) (c : Call) → after g l (walking c) ≡ after g l c
  unfolding walking after
  walking_leaves l (write w) = refl
  walking_leaves l (read (load v)) = refl
  walking_leaves l (read (fetch ring n o out)) = refl
  walking_leaves l (read (sum k)) = refl
  walking_leaves l (read (read_sum k)) = refl

  walking_replies : (start l : Lent) (c : Call) → Kept g start l → reply g l c ≡ reply g l (walking c)
  unfolding walking
  walking_replies start l (write w) h = refl
  walking_replies start l (read (load v)) h = refl
  walking_replies start l (read (fetch ring n o out)) h = refl
  walking_replies start l (read (sum k)) h = refl
  walking_replies start l (read (read_sum k)) h = reads_as_walk start l h k

  all_walking :
      (start l : Lent) (later : List Call) → AllStore16 later → Kept g start l → replies g l later ≡ replies g l (map walking later)
  unfolding replies replies_of
  all_walking start l [] stores h = refl
  all_walking start l (c ∷ later) stores h =
      ap₂ {C = List Reply} ◌∷◌ (walking_replies start l c h)
      (all_walking start (after g l c) later (λ d m. stores d (Memᴰ.tail m)) (call_kept g start l c (stores c (Memᴰ.head refl)) h)
      ∙ ap (λ (s : Lent). replies g s (map walking later)) (sym (walking_leaves l c)))

module _ (g : Setting) (l : Lent) (words : Words16 l.memory) where
  run_stays : (calls : List Call) → AllStore16 calls → Stays g l (run g l calls)
  run_stays calls stores =
      run_keeps g (Stays g l) (call_stays g l) l calls stores (record { past = refl; as_long = refl; words = words })

  module _
      (before later : List Call) (stores : AllStore16 (before ++ (write make_sums ∷ later)))
      (t : test g (size_of l) (write make_sums) ≡ none)
    where
      -- the state after the call that makes the sums afresh
      abbrev made : Lent
      made = after g (run g l before) (write make_sums)

      made_is_kept : Kept g l made
      made_is_kept =
          made_kept g l (run g l before) t (run_stays before (λ c m. stores c (Memᴰ.append_left (write make_sums ∷ later) m)))

      later_stores : AllStore16 later
      later_stores c m = stores c (Memᴰ.append_right before (Memᴰ.tail m))

      sums_are : SumsAre g (run g l (before ++ (write make_sums ∷ later)))
      unfolding run state_after
      sums_are = rw (state_after_append (after g) l before (write make_sums ∷ later)) (
          record { each = end.each; reading = reads_as_walk g l (run g made later) end })
        where
          end : Kept g l (run g made later)
          end = run_keeps g (Kept g l) (call_kept g l) made later later_stores made_is_kept

      reads_since : replies g l (before ++ (write make_sums ∷ later)) ≡ replies g l (walking_since before later)
      unfolding replies run
      reads_since =
          reply_in_place (after g) (reply g) l before (write make_sums) later
          ∙ ap
          (λ (rs : List Reply). replies g l before ++ (reply g (run g l before) (write make_sums) ∷ rs))
          (all_walking g l made later later_stores made_is_kept)
          ∙ sym (reply_in_place (after g) (reply g) l before (write make_sums) (map walking later))

-- From a call that makes the sums afresh and is not turned down each sum is the walk's figure.
pub sums_kept : SumsKept
sums_kept g l calls words stores =
    record {
      past = (run_stays g l words calls stores).past;
      as_long = (run_stays g l words calls stores).as_long;
      sums = λ before later e t.
          subst (λ (cs : List Call). SumsAre g (run g l cs)) (sym e) (sums_are g l words before later (subst AllStore16 e stores) t);
      read_since = λ before later e t.
          ap (replies g l) e ∙ reads_since g l words before later (subst AllStore16 e stores) t;
    }
