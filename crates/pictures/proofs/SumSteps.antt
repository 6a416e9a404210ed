-- What one call of a list does to the sums of the banks: what every call keeps, and what is kept from one on that makes them afresh.
-- Assumes nothing.
use Rattle.std.proofs.Common.{◌≡◌, ℕ, ◌+◌, ◌<◌, List, [], ◌∷◌, length, get_or, drop, sym, refl, ap, ◌∙◌, subst, arith}
use native.Mathlib.Decide.{ℕ_discrete}
use mathlib.Core.Option.{Option, none, some}
use mathlib.Core.List.Memᴰ
use Rattle.scope.specs.Search.{state_after}
use Rattle.scope.specs.Plans.{Pixel, banks}
use Rattle.scope.specs.Banks.{bank_of, bank_sum, after_store, after_clear, sums_after_store, sums_after_clear}
use Rattle.scope.specs.Calls.{Lent, Size, size_of, answered}
use Rattle.scope.specs.promises.Meaning.{IsPicture, IsLent, Inside}
use Rattle.scope.specs.promises.Demand.{Write, store, clear, make_sums, Call, write, read, Setting, after, run, test}
use Rattle.scope.specs.promises.SumPromises.{Words16, Stores16, AllStore16}
use Rattle.scope.specs.declared.Plan.{Plan}
use Rattle.scope.specs.declared.Refusal.{Refusal}
use Rattle.checks.proofs.Chains.{answered_none}
use Rattle.lattice.proofs.SameBank.{bank_below_count}
use Rattle.pictures.proofs.Memory.{store_length, clear_length}
use Rattle.pictures.proofs.CallTests.{lent_test_iff, store_test_iff, clear_test_iff}
use Rattle.pictures.proofs.BankSumLaws.{exchanged_is, bank_fits, sum_below, store_bank_sum, store_other_bank, store_words_16}
use Rattle.pictures.proofs.BankSumLaws.{clear_bank_sum, clear_other_bank, clear_words_16}
use Rattle.pictures.proofs.SumEntries.{same_size, store_sum, store_other_sums, store_sums_past, store_sums_length}
use Rattle.pictures.proofs.SumEntries.{clear_sum, clear_other_sums, clear_sums_past, clear_sums_length, fresh_sum, fresh_past, fresh_length}
use Rattle.pictures.proofs.Runs.{done, after_is}

-- What every call keeps, from `start` on: the entries past N, the lengths, and that the words have 16 bits.
pub record Stays (g : Setting) (start l : Lent) : Type 0 where
  pub past : drop (banks g.plan) l.sums ≡ drop (banks g.plan) start.sums
  pub as_long : size_of l ≡ size_of start
  pub words : Words16 l.memory

-- Each sum is the walk's figure.
abbrev pub Each : Setting → Lent → Type 0
Each g l = (k : ℕ) → k < banks g.plan → get_or l.sums k 0 ≡ bank_sum g.plan g.W g.H l.memory k

-- What the calls keep from one on that makes the sums afresh
pub record Kept (g : Setting) (start l : Lent) : Type 0 where
  pub stays : Stays g start l
  pub legal : IsLent g.plan g.W g.H (size_of start)
  pub each : Each g l

module _ (g : Setting) where
  -- a write that is turned down keeps what holds, and one that is not does what it is for
  write_keeps :
      (P : Lent → Type 0) (l : Lent) (w : Write) → P l → (test g (size_of l) (write w) ≡ none → P (done g l w))
      → P (after g l (write w))
  unfolding answered
  write_keeps P l w h k = subst P (sym (after_is g l w)) (by_test (test g (size_of l) (write w)) k)
    where
      by_test : (t : Option Refusal) → (t ≡ none → P (done g l w)) → P (answered t (λ r. l) (done g l w))
      by_test none d = d refl
      by_test (some r) d = h

  -- so do lists of calls
  pub run_keeps :
      (P : Lent → Type 0) → ((l : Lent) (c : Call) → Stores16 c → P l → P (after g l c)) → (l : Lent) (calls : List Call)
      → AllStore16 calls → P l → P (run g l calls)
  unfolding run state_after
  run_keeps P each l [] stores h = h
  run_keeps P each l (c ∷ calls) stores h =
      run_keeps P each (after g l c) calls (λ d m. stores d (Memᴰ.tail m)) (each l c (stores c (Memᴰ.head refl)) h)

  -- one write that is not turned down: the entries past N, the lengths and the words' bits stay,
  done_stays :
      (start l : Lent) (w : Write) → Stores16 (write w) → test g (size_of l) (write w) ≡ none → Stays g start l
      → Stays g start (done g l w)
  unfolding test
  done_stays start l (store v x) small t h =
      let (here, inside) = (store_test_iff g.plan g.W g.H (size_of l) v).0 t in
      record {
        past =
            store_sums_past g.plan g.W g.H l.memory l.sums v x (banks g.plan)
            (bank_below_count g.plan here.picture.plan v) ∙ h.past;
        as_long =
            same_size (done g l (store v x)) l (store_length g.plan g.W g.H l.memory v x)
            (store_sums_length g.plan g.W g.H l.memory l.sums v x) ∙ h.as_long;
        words = store_words_16 g.plan g.W g.H l.memory here.picture v x inside small h.words;
      }
  done_stays start l (clear k) small t h =
      let (here, below) = (clear_test_iff g.plan g.W g.H (size_of l) k).0 t in
      record {
        past = clear_sums_past l.sums k (banks g.plan) below ∙ h.past;
        as_long =
            same_size (done g l (clear k)) l
            (clear_length g.plan g.W g.H l.memory k (bank_fits g.plan g.W g.H l.memory here.picture k below))
            (clear_sums_length l.sums k) ∙ h.as_long;
        words = clear_words_16 g.plan g.W g.H l.memory here.picture k below h.words;
      }
  done_stays start l make_sums small t h =
      let here = (lent_test_iff g.plan g.W g.H (size_of l)).0 t in
      record {
        past = fresh_past g.plan g.W g.H l.memory l.sums ∙ h.past;
        as_long =
            same_size (done g l make_sums) l refl (fresh_length g.plan g.W g.H l.memory l.sums here.sums)
            ∙ h.as_long;
        words = h.words;
      }

  pub call_stays : (start l : Lent) (c : Call) → Stores16 c → Stays g start l → Stays g start (after g l c)
  unfolding after
  call_stays start l (read r) stores h = h
  call_stays start l (write w) stores h = write_keeps (Stays g start) l w h (λ t. done_stays start l w stores t h)

  -- each sum is the walk's figure if it was so before,
  store_each :
      (l : Lent) (v : Pixel) (x : ℕ) → x < 65536 → IsLent g.plan g.W g.H (size_of l) → Inside g.W g.H v
      → Words16 l.memory → Each g l → Each g (done g l (store v x))
  store_each l v x small here inside words each k h = by_bank (ℕ_discrete k b)
    where
      p : Plan
      p = g.plan

      b : ℕ
      b = bank_of p v

      below : b < banks p
      below = bank_below_count p here.picture.plan v

      stored : List ℕ
      stored = after_store p g.W g.H l.memory v x

      still : IsPicture p g.W g.H (length stored)
      still = subst (IsPicture p g.W g.H) (sym (store_length p g.W g.H l.memory v x)) here.picture

      own : get_or (sums_after_store p g.W g.H l.memory l.sums v x) b 0 ≡ bank_sum p g.W g.H stored b
      own =
          store_sum p g.W g.H l.memory l.sums v x (omega (arith, below, here.sums))
          ∙ exchanged_is _ _ x _
          (store_bank_sum p g.W g.H l.memory here.picture v x inside ∙ ap (λ (n : ℕ). n + x) (sym (each b below)))
          (sum_below p g.W g.H stored still
          (store_words_16 p g.W g.H l.memory here.picture v x inside small words) b below)

      by_bank :
          Dec (k ≡ b)
          → get_or (sums_after_store p g.W g.H l.memory l.sums v x) k 0 ≡ bank_sum p g.W g.H stored k
      by_bank (yes e) = rw e own
      by_bank (no e) =
          store_other_sums p g.W g.H l.memory l.sums v x k e
          ∙ each k h
          ∙ sym (store_other_bank p g.W g.H l.memory here.picture v x inside k h e)

  clear_each :
      (l : Lent) (j : ℕ) → j < banks g.plan → IsLent g.plan g.W g.H (size_of l) → Each g l → Each g (done g l (clear j))
  clear_each l j below here each k h = by_bank (ℕ_discrete k j)
    where
      by_bank :
          Dec (k ≡ j)
          → get_or (sums_after_clear l.sums j) k 0
          ≡ bank_sum g.plan g.W g.H (after_clear g.plan g.W g.H l.memory j) k
      by_bank (yes e) =
          rw e
          (clear_sum l.sums j (omega (arith, below, here.sums))
          ∙ sym (clear_bank_sum g.plan g.W g.H l.memory here.picture j below))
      by_bank (no e) =
          clear_other_sums l.sums j k e
          ∙ each k h
          ∙ sym (clear_other_bank g.plan g.W g.H l.memory here.picture j below k h e)

  -- and after a call that makes them afresh whatever they were.
  fresh_each : (l : Lent) → Each g (done g l make_sums)
  fresh_each l = fresh_sum g.plan g.W g.H l.memory l.sums

  done_each :
      (l : Lent) (w : Write) → Stores16 (write w) → test g (size_of l) (write w) ≡ none → Words16 l.memory → Each g l
      → Each g (done g l w)
  unfolding test
  done_each l (store v x) small t words each =
      let (here, inside) = (store_test_iff g.plan g.W g.H (size_of l) v).0 t in
      store_each l v x small here inside words each
  done_each l (clear k) small t words each =
      let (here, below) = (clear_test_iff g.plan g.W g.H (size_of l) k).0 t in
      clear_each l k below here each
  done_each l make_sums small t words each = fresh_each l

  pub call_kept : (start l : Lent) (c : Call) → Stores16 c → Kept g start l → Kept g start (after g l c)
  unfolding after
  call_kept start l (read r) stores h = h
  call_kept start l (write w) stores h =
      record {
        stays = call_stays start l (write w) stores h.stays;
        legal = h.legal;
        each = write_keeps (Each g) l w h.each (λ t. done_each l w stores t h.stays.words h.each);
      }

  pub made_kept :
      (start l : Lent) → test g (size_of start) (write make_sums) ≡ none → Stays g start l
      → Kept g start (after g l (write make_sums))
  unfolding test
  made_kept start l t h =
      record {
        stays = call_stays start l (write make_sums) tt h;
        legal = (lent_test_iff g.plan g.W g.H (size_of start)).0 t;
        each =
            subst (Each g)
            (sym (after_is g l make_sums ∙ answered_none (test g (size_of l) (write make_sums)) (λ r. l) _ taken))
            (fresh_each l);
      }
    where
      taken : test g (size_of l) (write make_sums) ≡ none
      taken = ap (λ (s : Size). test g s (write make_sums)) h.as_long ∙ t
