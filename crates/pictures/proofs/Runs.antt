-- What a run of calls does to a memory: the word last stored at each pixel stands at its place, call by call.
-- Assumes nothing.
use Rattle.std.specs.Prelude.{Result, Ok, Err}
use Rattle.std.proofs.Common.{◌≡◌, ℕ, ◌<◌, ◌≤◌, List, [], ◌∷◌, length, get_or, drop, sym, refl, ap, ◌∙◌, subst, arith}
use native.Mathlib.Decide.{ℕ_discrete}
use mathlib.Core.Option.{Option, none, some}
use Rattle.integers.proofs.Digits.{digits_determine}
use Rattle.scope.specs.Search.{state_after}
use Rattle.scope.specs.Plans.{Pixel, banks}
use Rattle.scope.specs.Banks.{bank_of, word_of, word_in, after_store, after_clear, sums_after_store, sums_after_clear, fresh_sums}
use Rattle.scope.specs.Calls as Calls
use Rattle.scope.specs.Calls.{After, Lent, lent, Size, size_of, answered, changed}
use Rattle.scope.specs.promises.Meaning.{IsPlan, Inside}
use Rattle.scope.specs.promises.PicturePromises.{WordsOf}
use Rattle.scope.specs.promises.Demand.{Write, store, clear, make_sums, Call, write, read, Setting, write_result, after, run}
use Rattle.scope.specs.promises.Demand.{test, effect, word_after, stored_since, picture_words}
use Rattle.scope.specs.declared.Refusal.{Refusal}
use Rattle.checks.proofs.Chains.{changed_content}
use Rattle.lattice.proofs.Words.{pixels_have_words}
use Rattle.pictures.proofs.Memory.{bank_end, bank_in_picture, store_puts, store_elsewhere, store_past, store_length}
use Rattle.pictures.proofs.Memory.{clear_zeros, clear_elsewhere, clear_keeps_zero, clear_past, clear_length}
use Rattle.pictures.proofs.LastStored.{store_sets, store_leaves, clear_sets, clear_leaves}
use Rattle.pictures.proofs.CallTests.{lent_test_iff, store_test_iff, clear_test_iff}
use Rattle.pictures.proofs.SumEntries.{same_size, store_sums_length, clear_sums_length, fresh_length}

-- In the memory of l each pixel v of the picture has the word `old v`, every other word of the picture is 0, and the rest is as
-- in `start`. Its sums are only as long as there.
pub record Holds (g : Setting) (start : Lent) (old : Pixel → ℕ) (l : Lent) : Type 0 where
  pub words : (v : Pixel) → Inside g.W g.H v → word_in g.plan g.W g.H l.memory v ≡ old v
  pub others :
      (i : ℕ) → i < picture_words g
      → ((v : Pixel) → Inside g.W g.H v → word_of g.plan g.W g.H v ≡ i → ⊥)
      → get_or l.memory i 0 ≡ 0
  pub rest : drop (picture_words g) l.memory ≡ drop (picture_words g) start.memory
  pub as_long : size_of l ≡ size_of start

-- memory and sums after a write that is not turned down
abbrev pub done : Setting → Lent → Write → Lent
done g l (store v x) =
    lent (after_store g.plan g.W g.H l.memory v x) (sums_after_store g.plan g.W g.H l.memory l.sums v x)
done g l (clear k) = lent (after_clear g.plan g.W g.H l.memory k) (sums_after_clear l.sums k)
done g l make_sums = lent l.memory (fresh_sums g.plan g.W g.H l.memory l.sums)

-- a write leaves both as they were if it is turned down
pub write_is :
    (g : Setting) (l : Lent) (w : Write)
    → write_result g l w ≡ changed (test g (size_of l) (write w)) Err l (Ok tt) (done g l w)
unfolding write_result test Calls.store Calls.clear Calls.make_sums
write_is g l (store v x) = refl
write_is g l (clear k) = refl
write_is g l make_sums = refl

pub after_is :
    (g : Setting) (l : Lent) (w : Write) → after g l (write w) ≡ answered (test g (size_of l) (write w)) (λ r. l) (done g l w)
unfolding after
after_is g l w =
    ap (λ (r : After (Result Unit Refusal) Lent). r.content) (write_is g l w)
    ∙ changed_content (test g (size_of l) (write w)) Err l (Ok tt) (done g l w)

-- the word of a pixel inside is one of the picture's
pub word_inside_picture :
    (g : Setting) → IsPlan g.plan → (v : Pixel) → Inside g.W g.H v
    → word_of g.plan g.W g.H v < picture_words g
unfolding picture_words
word_inside_picture g legal_plan = (pixels_have_words g.plan g.W g.H legal_plan).word_below

module _ (g : Setting) (legal_plan : IsPlan g.plan) (start : Lent) (enough : picture_words g ≤ length start.memory) where
  own_words : WordsOf g.plan g.W g.H
  own_words = pixels_have_words g.plan g.W g.H legal_plan

  memory_long : {old : Pixel → ℕ} {l : Lent} → Holds g start old l → length l.memory ≡ length start.memory
  memory_long h = ap (λ (s : Size). s.words) h.as_long

  -- a store sets the word of its pixel
  store_holds :
      (old : Pixel → ℕ) (l : Lent) (v : Pixel) (x : ℕ) → Inside g.W g.H v → Holds g start old l
      → Holds g start (λ w. effect g w (old w) (store v x)) (done g l (store v x))
  unfolding word_in
  store_holds old l v x inside h =
      record {
        words = λ w w_inside. by_word w w_inside (ℕ_discrete (place w) (place v));
        others =
            λ i below none_there.
            store_elsewhere g.plan g.W g.H mem v x i (λ e. none_there v inside (sym e)) ∙ h.others i below none_there;
        rest = store_past g.plan g.W g.H mem v x (picture_words g) (word_inside_picture g legal_plan v inside) ∙ h.rest;
        as_long = same_size (done g l (store v x)) l (store_length g.plan g.W g.H mem v x) (store_sums_length g.plan g.W g.H mem l.sums v x) ∙ h.as_long;
      }
    where
      mem : List ℕ
      mem = l.memory

      place : Pixel → ℕ
      place = word_of g.plan g.W g.H

      by_word :
          (w : Pixel) → Inside g.W g.H w → Dec (place w ≡ place v)
          → word_in g.plan g.W g.H (after_store g.plan g.W g.H mem v x) w ≡ effect g w (old w) (store v x)
      by_word w w_inside (yes e) =
          rw (store_sets g w (old w) v x (own_words.own v w inside w_inside (sym e)), e)
          (store_puts g.plan g.W g.H mem v x (omega (arith, word_inside_picture g legal_plan v inside, memory_long h)))
      by_word w w_inside (no e) =
          store_elsewhere g.plan g.W g.H mem v x (place w) e
          ∙ h.words w w_inside
          ∙ sym (store_leaves g w (old w) v x (λ d. e (ap place (sym d))))

  -- a clear makes the words of its bank 0
  clear_holds :
      (old : Pixel → ℕ) (l : Lent) (k : ℕ) → k < banks g.plan → Holds g start old l
      → Holds g start (λ w. effect g w (old w) (clear k)) (done g l (clear k))
  unfolding word_in word_of picture_words
  clear_holds old l k below h =
      record {
        words = λ w w_inside. by_bank w w_inside (ℕ_discrete k (bank_of g.plan w));
        others = λ i i_below none_there. clear_keeps_zero g.plan g.W g.H mem k fits i (h.others i i_below none_there);
        rest = clear_past g.plan g.W g.H mem k fits (picture_words g) in_picture ∙ h.rest;
        as_long = same_size (done g l (clear k)) l (clear_length g.plan g.W g.H mem k fits) (clear_sums_length l.sums k) ∙ h.as_long;
      }
    where
      mem : List ℕ
      mem = l.memory

      in_picture : bank_end g.plan g.W g.H k ≤ picture_words g
      in_picture = bank_in_picture g.plan g.W g.H k below

      fits : bank_end g.plan g.W g.H k ≤ length mem
      fits = omega (arith, in_picture, memory_long h)

      by_bank :
          (w : Pixel) → Inside g.W g.H w → Dec (k ≡ bank_of g.plan w)
          → word_in g.plan g.W g.H (after_clear g.plan g.W g.H mem k) w ≡ effect g w (old w) (clear k)
      by_bank w w_inside (yes e) =
          rw (clear_sets g w (old w) k e, ← e) (clear_zeros g.plan g.W g.H mem k fits _ (own_words.address_below w w_inside))
      by_bank w w_inside (no e) =
          clear_elsewhere g.plan g.W g.H mem k fits (word_of g.plan g.W g.H w)
          (λ u u_below d. e (sym (digits_determine _ (own_words.address_below w w_inside) u_below d).0))
          ∙ h.words w w_inside
          ∙ sym (clear_leaves g w (old w) k e)

  -- a write that is not turned down has its effect
  done_holds :
      (old : Pixel → ℕ) (l : Lent) (w : Write) → test g (size_of start) (write w) ≡ none → Holds g start old l
      → Holds g start (λ v. effect g v (old v) w) (done g l w)
  unfolding test effect
  done_holds old l (store v x) e h =
      store_holds old l v x ((store_test_iff g.plan g.W g.H (size_of start) v).0 e).1 h
  done_holds old l (clear k) e h =
      clear_holds old l k ((clear_test_iff g.plan g.W g.H (size_of start) k).0 e).1 h
  done_holds old l make_sums e h =
      let enough_sums : banks g.plan ≤ length l.sums =
      rw (ap (λ (s : Size). s.entries) h.as_long) ((lent_test_iff g.plan g.W g.H (size_of start)).0 e).sums in
      record {
        words = h.words;
        others = h.others;
        rest = h.rest;
        as_long = same_size (done g l make_sums) l refl (fresh_length g.plan g.W g.H l.memory l.sums enough_sums) ∙ h.as_long;
      }

  -- one call, turned down or not
  call_holds :
      (old : Pixel → ℕ) (l : Lent) (c : Call) → Holds g start old l
      → Holds g start (λ v. word_after g (size_of start) v (old v) c) (after g l c)
  unfolding answered after word_after
  call_holds old l (read r) h = h
  call_holds old l (write w) h =
      rw (after_is g l w)
      (subst (λ (s : Size). Holds g start word_then (answered (test g s (write w)) (λ r. l) (done g l w))) (sym h.as_long)
      (by_test (test g (size_of start) (write w)) refl))
    where
      word_then : Pixel → ℕ
      word_then v = word_after g (size_of start) v (old v) (write w)

      by_test :
          (t : Option Refusal) → test g (size_of start) (write w) ≡ t
          → Holds g start (λ v. answered t (λ r. old v) (effect g v (old v) w)) (answered t (λ r. l) (done g l w))
      by_test none e = done_holds old l w e h
      by_test (some r) e = h

  -- After a run of calls each pixel has the word stored there since.
  pub run_holds :
      (old : Pixel → ℕ) (l : Lent) (calls : List Call) → Holds g start old l
      → Holds g start (λ v. stored_since g (size_of start) v (old v) calls) (run g l calls)
  unfolding run stored_since state_after
  run_holds old l [] h = h
  run_holds old l (c ∷ calls) h =
      run_holds (λ v. word_after g (size_of start) v (old v) c) (after g l c) calls (call_holds old l c h)
