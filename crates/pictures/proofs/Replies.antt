-- In a memory where the words last stored stand in their places, each call gives what it is to give.
-- Assumes nothing.
use Rattle.std.specs.Prelude.{Result, Err}
use Rattle.std.proofs.Common.{◌≡◌, ℕ, Bool, List, [], ◌∷◌, map, length, refl, ap, ◌∙◌, ap₂}
use mathlib.Core.Option.{Option, none, some}
use mathlib.Core.List.{Memᴰ}
use Rattle.scope.specs.Plans.{Pixel}
use Rattle.scope.specs.Banks.{word_in, over_start}
use Rattle.scope.specs.Numbers.{Answer, value, turned_down, with_positions, of_result}
use Rattle.scope.specs.Calls as Calls
use Rattle.scope.specs.Calls.{After, Lent, Size, size_of, answered, changed, beside_clash, fetch_rest, fetch_test, either_fetch}
use Rattle.scope.specs.promises.Meaning.{AllInside}
use Rattle.scope.specs.promises.Demand.{load, fetch, sum, read_sum, Call, write, read, Setting, run, test, last_stored}
use Rattle.scope.specs.promises.Demand.{wrote, loaded, fetched, summed, read_reply, reply, pixels_fetched, refused_fetch, reply_due}
use Rattle.scope.specs.declared.Refusal.{Refusal}
use Rattle.checks.proofs.Chains.{changed_answer, changed_content}
use Rattle.lattice.proofs.Rings.{read_inside}
use Rattle.pictures.proofs.CallTests.{word_test_iff, fetch_test_iff}
use Rattle.pictures.proofs.Positions.{told, told_as_due}
use Rattle.pictures.proofs.Runs.{Holds, write_is}

-- two maps that agree on each entry give the same list
same_map : {A B : Type 0} (f g : A → B) (xs : List A) → ((x : A) → Memᴰ x xs → f x ≡ g x) → map f xs ≡ map g xs
same_map f g [] h = refl
same_map {B} f g (x ∷ xs) h =
    ap₂ {C = List B} ◌∷◌ (h x (Memᴰ.head refl)) (same_map f g xs (λ y m. h y (Memᴰ.tail m)))

-- the tests t and s find the same
module _ {t s : Option Refusal} (same : t ≡ s) where
  -- what is given where they find nothing may be worked out otherwise
  pub same_answers : {A : Type 0} (refused : Refusal → A) {x y : A} → (s ≡ none → x ≡ y) → answered t refused x ≡ answered s refused y
  unfolding answered
  same_answers refused {x} {y} h = ap (λ (u : Option Refusal). answered u refused x) same ∙ by_test s h
    where
      by_test : (u : Option Refusal) → (u ≡ none → x ≡ y) → answered u refused x ≡ answered u refused y
      by_test none k = k refl
      by_test (some r) k = refl

  -- and so in numbers and values, where a refusal is told as it is due
  read_answer :
      {X A : Type 0} (of : X → Answer A) {refused : Refusal → X} (due : Refusal → Answer A) {x : X} {y : Answer A}
      → ((f : Refusal) → s ≡ some f → of (refused f) ≡ due f) → (s ≡ none → of x ≡ y)
      → of (answered t refused x) ≡ answered s due y
  unfolding answered
  read_answer {X} {A} of {refused} due {x} {y} reads h = ap (λ (u : Option Refusal). of (answered u refused x)) same ∙ by_test s reads h
    where
      by_test :
          (u : Option Refusal) → ((f : Refusal) → u ≡ some f → of (refused f) ≡ due f) → (u ≡ none → of x ≡ y)
          → of (answered u refused x) ≡ answered u due y
      by_test none reads k = k refl
      by_test (some f) reads k = reads f refl

  -- of a call that changes what it was lent
  read_changed :
      {X A Y : Type 0} (of : X → Answer A) {refused : Refusal → X} (due : Refusal → Answer A) (old new : Y) {x : X} {y : Answer A}
      → ((f : Refusal) → s ≡ some f → of (refused f) ≡ due f) → (s ≡ none → of x ≡ y)
      → of (changed t refused old x new).answer ≡ answered s due y
  read_changed of {refused} due old new {x} reads h = ap of (changed_answer t refused old x new) ∙ read_answer of due reads h

  read_content :
      {X Y : Type 0} (refused : Refusal → X) (old : Y) (x : X) {new expected : Y} → (s ≡ none → new ≡ expected)
      → (changed t refused old x new).content ≡ answered s (λ r. old) expected
  read_content refused old x {new} h = changed_content t refused old x new ∙ same_answers (λ r. old) h

module _
    (g : Setting) (start : Lent) (past : List Call)
    (h : Holds g start (last_stored g (size_of start) past) (run g start past))
  where
    abbrev l : Lent
    l = run g start past

    same_test : (c : Call) → test g (size_of l) c ≡ test g (size_of start) c
    same_test c = ap (λ (s : Size). test g s c) h.as_long

    -- the words of pixels inside are those last stored
    words_due :
        (vs : List Pixel) → AllInside g.W g.H vs
        → map (word_in g.plan g.W g.H l.memory) vs ≡ map (last_stored g (size_of start) past) vs
    words_due vs inside = same_map _ _ vs (λ v m. h.words v (inside v m))

    -- the pixels of a fetch that is not turned down are inside
    fetched_inside :
        (ring : Bool) (n : ℕ) (o : Pixel) (out : List ℕ) → test g (size_of start) (read (fetch ring n o out)) ≡ none
        → AllInside g.W g.H (pixels_fetched g ring n o)
    unfolding test pixels_fetched
    fetched_inside ring n o out e =
        let (legal, (allowed, room)) = (fetch_test_iff g.plan g.W g.H (length start.memory) g.book g.r n ring o (length out)).0 e in
        read_inside g.plan g.W g.H legal.picture.w_side.0 legal.picture.h_side.0 ring _ allowed

    -- The call's answer, and a fetch's output, are what the conditions and the words last stored tell.
    pub reply_is_due : (c : Call) → reply g l c ≡ reply_due g start past c
    unfolding reply read_reply reply_due test Calls.load Calls.sum Calls.read_sum either_fetch beside_clash fetch_rest fetch_test pixels_fetched
    reply_is_due (write w) =
        ap wrote
        (ap (λ (r : After (Result Unit Refusal) Lent). of_result r.answer) (write_is g l w)
        ∙ read_changed (same_test (write w)) of_result turned_down l _ (λ f e. refl) (λ e. refl))
    reply_is_due (read (load v)) =
        ap loaded
        (read_answer (same_test (read (load v))) of_result turned_down (λ f e. refl)
        (λ e. ap value (h.words v ((word_test_iff g.plan g.W g.H (length start.memory) v).0 e).1)))
    reply_is_due (read (fetch ring n o out)) =
        let same = same_test (read (fetch ring n o out)) in
        ap₂ fetched
        (read_changed same
        (λ (c : Result ℕ Refusal). with_positions (told g.book g.r g.plan g.W g.H (length l.memory) n) (of_result c)) (refused_fetch g n)
        out _
        (λ f e. told_as_due g n f (length l.memory) ring o (length out) (same ∙ e)) (λ e. refl))
        (read_content same Err out _ (λ e. ap (λ (xs : List ℕ). over_start xs out)
        (words_due (pixels_fetched g ring n o) (fetched_inside ring n o out e))))
    reply_is_due (read (sum k)) = ap summed (read_answer (same_test (read (sum k))) of_result turned_down (λ f e. refl) (λ e. refl))
    reply_is_due (read (read_sum k)) =
        ap summed (read_answer (same_test (read (read_sum k))) of_result turned_down (λ f e. refl) (λ e. refl))
