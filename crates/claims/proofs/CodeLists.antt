-- Demand 3 of a list that the code made under the finder's plan.
-- Assumes nothing.
use Rattle.std.specs.Prelude.{Result, Ok, Err}
use Prim.Native.Nat.{ℕ}
use native.Mathlib.Omega.{arith}
use mathlib.Core.Path.{◌≡◌, refl, sym, ◌∙◌, ap, ap₂, subst}
use mathlib.Core.List.{List, [], ◌∷◌, ◌++◌, flat_map, append_assoc}
use lib.ListN.{get_or, drop}
use Rattle.scope.specs.Search.{state_after, replies_of}
use Rattle.scope.specs.Banks.{word_in, over_start}
use Rattle.scope.specs.Numbers.{value, of_result}
use Rattle.scope.specs.Calls.{After, Lent, size_of, find}
use Rattle.scope.specs.promises.Demand.{Call, Reply, Setting, after, run, replies, picture_words, ListHolds}
use Rattle.scope.specs.declared.Book.{Book}
use Rattle.scope.specs.declared.Plan.{Plan}
use Rattle.scope.specs.declared.Refusal.{Refusal}
use Rattle.checks.proofs.CallLists.{state_after_append}
use Rattle.checks.proofs.Chains.{Gives}
use Rattle.pictures.specs.Lists.{setting, calls_of, output_of, reply_numbers, Buffers, made_list, run_list}
use Rattle.pictures.specs.Lists.{Listed}
use Rattle.pictures.proofs.DemandHolds.{demand_3}
use Rattle.pictures.proofs.ListSums.{made_left}
use Rattle.claims.specs.Demanded.{ran_for, find_and_run, replies_due, DemandMet, Demanded}
use Rattle.claims.specs.DemandedExample.{DemandFollows}
use Rattle.claims.specs.Demanded.{FoundRun}

-- Each reply is the one that is due.
replies_are_due :
    (g : Setting) (l : Lent) (calls past rest : List Call) → ListHolds g l calls → calls ≡ past ++ rest
    → replies g (run g l past) rest ≡ replies_due g l past rest
unfolding run replies replies_of replies_due
replies_are_due g l calls past [] h e = refl
replies_are_due g l calls past (c ∷ rest) h e =
    ap₂ (λ (r : Reply) (rs : List Reply). r ∷ rs) (h.each past c rest e).agrees
    (ap (λ (m : Lent). replies g m rest) (sym (state_after_append (after g) l past (c ∷ [])))
    ∙ replies_are_due g l calls (past ++ (c ∷ [])) rest h (e ∙ sym (append_assoc past (c ∷ []) rest)))

-- A list that was made, and of which demand 3 holds over the definitions.
demand_met :
    (g : Setting) (numbers : List ℕ) (b left : Buffers) → left ≡ made_list g numbers b
    → ListHolds g b.picture (calls_of numbers b.outputs)
    → DemandMet g (calls_of numbers b.outputs) b left
unfolding made_list run state_after
demand_met g numbers b left is h =
    let calls : List Call = calls_of numbers b.outputs in
    let due : replies g b.picture calls ≡ replies_due g b.picture [] calls = replies_are_due g b.picture calls [] calls h refl in
    let picture : left.picture ≡ run g b.picture calls = ap (λ (x : Buffers). x.picture) is in
    let memory : left.picture.memory ≡ (run g b.picture calls).memory = ap (λ (l : Lent). l.memory) picture in
    record {
      outputs = ap (λ (x : Buffers). x.outputs) is ∙ ap (λ (rs : List Reply). over_start (flat_map output_of rs) b.outputs) due;
      answers = ap (λ (x : Buffers). x.rows) is ∙ ap (λ (rs : List Reply). over_start (flat_map reply_numbers rs) b.rows) due;
      words = λ v inside. ap (λ (m : List ℕ). word_in g.plan g.W g.H m v) memory ∙ h.words v inside;
      others = λ i below none_there. ap (λ (m : List ℕ). get_or m i 0) memory ∙ h.others i below none_there;
      rest = ap (drop (picture_words g)) memory ∙ h.rest;
      as_long = ap size_of picture ∙ h.as_long;
      holds = h;
    }

-- an answer says which plan, and what came of the list
run_or : Plan × Listed → FoundRun → Plan × Listed
run_or other (Ok run) = run
run_or other (Err r) = other

same_plan : {p q : Plan} {l m : Listed} → ◌≡◌ {A = FoundRun} (Ok (p, l)) (Ok (q, m)) → p ≡ q
unfolding run_or
same_plan {p} {q} {l} {m} e = ap (λ (x : FoundRun). (run_or (p, l) x).0) e

same_listed : {p q : Plan} {l m : Listed} → ◌≡◌ {A = FoundRun} (Ok (p, l)) (Ok (q, m)) → l ≡ m
unfolding run_or
same_listed {p} {q} {l} {m} e = ap (λ (x : FoundRun). (run_or (p, l) x).1) e

refused_not_ran : {r : Refusal} {p : Plan} {l : Listed} → ◌≡◌ {A = FoundRun} (Err r) (Ok (p, l)) → ⊥
refused_not_ran e = let z : ◌≡◌ {A = ℕ} 0 1 = cc in omega arith

-- The contract, by the finder's answer: a plan and the list under it,
module _ (book : Book) (r limit W H : ℕ) (numbers : List ℕ) (b : Buffers) {planned : Result Plan Refusal} (is : planned ≡ find book r limit) where
  abbrev Kept : FoundRun → Buffers → Type 0
  Kept x left =
      (x ≡ (find_and_run book r limit W H numbers b).answer)
      × ((left ≡ (find_and_run book r limit W H numbers b).content) × Demanded x book r W H numbers b left)

  by_answer : {q : Result Plan Refusal} → planned ≡ q → find_and_run book r limit W H numbers b ≡ ran_for q book r W H numbers b
  unfolding find_and_run
  by_answer e = ap (λ (q : Result Plan Refusal). ran_for q book r W H numbers b) (sym is ∙ e)

  pub plan_kept :
      {p : Plan} {listed : Listed} {left : Buffers} → planned ≡ Ok p
      → Gives (run_list (setting book r p W H) numbers b) listed left
      → Kept (Ok (p, listed)) left
  unfolding ran_for
  plan_kept {p} {listed} {left} found (answer, content) = (
    ap (λ (l : Listed). Ok (p, l)) answer ∙ ap (λ (x : After FoundRun Buffers). x.answer) (sym (by_answer found)),
    (
      content ∙ ap (λ (x : After FoundRun Buffers). x.content) (sym (by_answer found)),
      λ q ran enough zeros.
          let same : p ≡ q = same_plan ran in
          let plan : of_result (find book r limit) ≡ value q = ap of_result (sym is ∙ found ∙ ap Ok same) in
          demand_met (setting book r q W H) numbers b left
          (content
          ∙ made_left (setting book r p W H) numbers b (sym (same_listed ran) ∙ answer)
          ∙ ap (λ (p : Plan). made_list (setting book r p W H) numbers b) same)
          (demand_3 (setting book r q W H) limit b.picture (calls_of numbers b.outputs) plan enough zeros),
    ),
  )

  -- or its refusal.
  pub refusal_kept : {f : Refusal} → planned ≡ Err f → Kept (Err f) b
  unfolding ran_for
  refusal_kept found = (
    ap (λ (x : After FoundRun Buffers). x.answer) (sym (by_answer found)),
    (ap (λ (x : After FoundRun Buffers). x.content) (sym (by_answer found)), λ q ran enough zeros. absurd (refused_not_ran ran)),
  )

-- and what is demanded of an answer is demanded of one that is equal to it
pub same_demand :
    (numbers : List ℕ) {x y : FoundRun} {book : Book} {r W H : ℕ} {b left : Buffers} → x ≡ y
    → Demanded y book r W H numbers b left → Demanded x book r W H numbers b left
same_demand numbers {book = book} {r = r} {W = W} {H = H} {b = b} {left = left} e demand =
    subst (λ (s : FoundRun). Demanded s book r W H numbers b left) (sym e) demand

-- So the third clause of the contract follows from the first two.
module _ (book : Book) (r limit W H : ℕ) (numbers : List ℕ) (b : Buffers) (x : FoundRun) (left : Buffers) where
  abbrev KeptOf : FoundRun → Buffers → Type 0
  KeptOf = Kept book r limit W H numbers b {planned = find book r limit} refl

  same_kept :
      {s : FoundRun} {l : Buffers} → x ≡ (find_and_run book r limit W H numbers b).answer
      → left ≡ (find_and_run book r limit W H numbers b).content → KeptOf s l → Demanded x book r W H numbers b left
  same_kept {s} answer content (a, (c, demand)) =
      subst (λ (s : FoundRun). Demanded s book r W H numbers b left) (a ∙ sym answer)
      (subst (λ (l : Buffers). Demanded s book r W H numbers b l) (c ∙ sym content) demand)

  by_found : (q : Result Plan Refusal) → find book r limit ≡ q → (s : FoundRun) × (l : Buffers) × KeptOf s l
  by_found (Ok p) found = (_, _, plan_kept book r limit W H numbers b refl found (refl, refl))
  by_found (Err f) found = (_, _, refusal_kept book r limit W H numbers b refl found)

pub demand_follows : DemandFollows
demand_follows book r limit W H numbers b x left answer content =
    same_kept book r limit W H numbers b x left answer content (by_found book r limit W H numbers b x left (find book r limit) refl).2
