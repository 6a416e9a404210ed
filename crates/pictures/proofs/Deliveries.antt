-- What both fetches answer and leave in the output: the refusal of a test and the output as it was, or what is delivered.
-- Assumes nothing.
use Rattle.std.specs.Prelude.{Result, Ok, Err}
use Rattle.std.proofs.Common.{◌≡◌, ℕ, ◌<◌, ◌≤◌, Bool, true, false, not, List, [], ◌∷◌, map, length, pos, sym, refl, ap, ◌∙◌, ap₂, arith}
use mathlib.Core.Bool.{false≢true}
use mathlib.Core.Option.{Option, none, some}
use mathlib.Core.List.{Memᴰ}
use Rattle.integers.proofs.Divisions.{remainder_of_small}
use Rattle.scope.specs.Search.{every, first_of, whenever}
use Rattle.scope.specs.Plans.{Pixel}
use Rattle.scope.specs.Banks.{inside, word_in, over_start, wrapped}
use Rattle.scope.specs.Numbers.{output_test}
use Rattle.scope.specs.Calls.{After, changed, moved, edge_test, pixels_read, rest_test, fetch_rest}
use Rattle.scope.specs.declared.Pattern.{Pattern}
use Rattle.scope.specs.declared.Plan.{Plan}
use Rattle.scope.specs.declared.Refusal.{Refusal}
use Rattle.scope.specs.declared.Refusal.TheVariants.{Output}
use Rattle.scope.proofs.PlanFacts.{inside_means, inside_iff}
use Rattle.scope.proofs.MethodAnswers.{demand_met, demand_fails}
use Rattle.checks.proofs.Chains.{chain_refuses, chain_goes_on, chain_of_one, Gives, same_gives, value_given, refusal_given}
use Rattle.checks.proofs.Deciding.{output_decides}
use Rattle.checks.proofs.Searches.{holds_every}
use Rattle.checks.proofs.Patterns.{same_coordinates}
use Rattle.checks.proofs.Tests.{all_inside_iff}
use Rattle.book.specs.Scan.{outcome_of}
use Rattle.book.proofs.Outcomes.{answered_by_refusal, answered_by_done}
use Rattle.lattice.proofs.Formulas.{moved_size}
use Rattle.pictures.specs.Fetching.{words_at, delivered}
use Rattle.pictures.proofs.Fetches.{length_read}

-- What is delivered, by the output's room; the pixel v that was handed on is the position o.
module _ (t : Pattern) (p : Plan) (W H : ℕ) (mem : List ℕ) (o : Pixel) (out : List ℕ) where
  abbrev room : Option Refusal
  room = output_test (length (moved t o)) (length out)

  abbrev number : Result ℕ Refusal
  number = Ok (length (moved t o))

  abbrev filled : List ℕ
  filled = over_start (words_at p W H mem (moved t o)) out

  pub too_short : length out < t.used → Gives (delivered p W H mem (moved t o) out) (Err Output) out
  unfolding delivered
  too_short h =
      refusal_given room Err out number filled Output
      ((output_decides (length (moved t o)) (length out)).refuses (λ k. omega (arith, moved_size t o)))

  pub enough_room :
      {v : Pixel} {content : List ℕ} → t.used ≤ length out → v ≡ o → content ≡ over_start (words_at p W H mem (moved t v)) out
      → Gives (delivered p W H mem (moved t o) out) (Ok t.used) content
  unfolding delivered
  enough_room h same put =
      let right =
      value_given room Err out number filled
      ((output_decides (length (moved t o)) (length out)).passes (omega (arith, moved_size t o))) in (
        ap Ok (sym (moved_size t o)) ∙ right.0,
        put ∙ ap (λ (u : Pixel). over_start (words_at p W H mem (moved t u)) out) same ∙ right.1,
      )

-- A pixel inside the picture is its own wrapped pixel, so pixels that are all inside stay as they are.
inside_wrapped : (W H : ℕ) (v : Pixel) → inside W H v ≡ true → wrapped W H v ≡ v
unfolding wrapped
inside_wrapped W H v e =
    let here = inside_means W H v e in
    same_coordinates
    (rw here.column (ap pos (remainder_of_small W (omega (arith, here.i_below)) here.i here.i_below)))
    (rw here.row (ap pos (remainder_of_small H (omega (arith, here.j_below)) here.j here.j_below)))

map_fixed : {A : Type 0} (f : A → A) (xs : List A) → ((x : A) → Memᴰ x xs → f x ≡ x) → map f xs ≡ xs
map_fixed f [] h = refl
map_fixed f (x ∷ xs) h = ap₂ ◌∷◌ (h x (Memᴰ.head refl)) (map_fixed f xs (λ y m. h y (Memᴰ.tail m)))

-- A test of a condition: its outcome where the condition fails, and where it holds.
module _ (b : Bool) (r : Refusal) where
  pub condition_fails : b ≡ false → Err r ≡ outcome_of (whenever (not b) r)
  condition_fails e = answered_by_refusal (whenever (not b) r) r (demand_fails b r e)

  pub condition_holds : b ≡ true → (Ok tt) ≡ outcome_of (whenever (not b) r)
  condition_holds e = answered_by_done (whenever (not b) r) (demand_met b r e)

-- where the edge's test finds nothing, the wrapped pixels are those that are read
read_wrapped :
    (ring : Bool) (p : Plan) (W H : ℕ) (vs : List Pixel) → edge_test ring p W H vs ≡ none
    → map (wrapped W H) vs ≡ pixels_read ring W H vs
unfolding edge_test pixels_read
read_wrapped true p W H vs e = refl
read_wrapped false p W H vs e =
    let all_inside = (all_inside_iff W H vs).0 e in
    map_fixed (wrapped W H) vs (λ v m. inside_wrapped W H v ((inside_iff W H v).1 (all_inside v m)))

-- and of a plain fetch all are inside
pub plain_inside :
    (ring : Bool) (p : Plan) (W H : ℕ) (vs : List Pixel) → edge_test ring p W H vs ≡ none → ring ≡ false
    → every (inside W H) vs ≡ true
unfolding edge_test
plain_inside true p W H vs e plain = absurd (false≢true (sym plain))
plain_inside false p W H vs e plain =
    holds_every (inside W H) vs (λ v m. (inside_iff W H v).1 ((all_inside_iff W H vs).0 e v m))

-- What a fetch goes on with after its first tests, which found `start`.
module _
    (start : Option Refusal) (ring : Bool) (t : Pattern) (p : Plan) (W H : ℕ) (mem : List ℕ) (o : Pixel) (out : List ℕ)
  where
    abbrev vs : List Pixel
    vs = moved t o

    abbrev edge : Option Refusal
    edge = edge_test ring p W H vs

    abbrev output : Option Refusal
    output = output_test t.used (length out)

    abbrev rest : After (Result ℕ Refusal) (List ℕ)
    rest = fetch_rest start ring t p W H mem o out

    abbrev count_read_lem : Result ℕ Refusal
    count_read_lem = Ok (length (pixels_read ring W H vs))

    abbrev words_put : List ℕ
    words_put = over_start (map (word_in p W H mem) (pixels_read ring W H vs)) out

    refused : (r : Refusal) → first_of (start ∷ edge ∷ output ∷ []) ≡ some r → Gives rest (Err r) out
    unfolding fetch_rest rest_test
    refused = refusal_given (first_of (start ∷ edge ∷ output ∷ [])) Err out count_read_lem words_put

    -- The refusal of the first tests,
    pub rest_turned_down : (r : Refusal) → start ≡ some r → Gives rest (Err r) out
    rest_turned_down r e = refused r (chain_refuses start (edge ∷ output ∷ []) r e)

    module _ (passed : start ≡ none) where
      past_start : first_of (start ∷ edge ∷ output ∷ []) ≡ first_of (edge ∷ output ∷ [])
      past_start = chain_goes_on start (edge ∷ output ∷ []) passed

      -- that of the edge,
      pub rest_at_edge : (r : Refusal) → edge ≡ some r → Gives rest (Err r) out
      rest_at_edge r e = refused r (past_start ∙ chain_refuses edge (output ∷ []) r e)

      -- or what is delivered; the pixel v that was handed on is the position o.
      pub rest_delivers :
          {v : Pixel} {answer : Result ℕ Refusal} {content : List ℕ} → edge ≡ none → v ≡ o
          → Gives (delivered p W H mem (moved t v) out) answer content
          → Gives rest answer content
      unfolding delivered fetch_rest rest_test words_at
      rest_delivers e same =
          let same_tests : output_test (length vs) (length out) ≡ first_of (start ∷ edge ∷ output ∷ []) =
          ap (λ (m : ℕ). output_test m (length out)) (moved_size t o)
          ∙ sym (past_start ∙ chain_goes_on edge (output ∷ []) e ∙ chain_of_one output) in
          let is_rest : delivered p W H mem vs out ≡ rest =
          cc (same_tests, read_wrapped ring p W H vs e, length_read ring W H vs) in
          same_gives (ap (λ (u : Pixel). delivered p W H mem (moved t u) out) same ∙ is_rest)

-- Where the first tests found a refusal the pattern does not count, so the record that stands for it may be another's.
pub rest_alike :
    (start : Option Refusal) (ring : Bool) (t u : Pattern) (p : Plan) (W H : ℕ) (mem : List ℕ) (o : Pixel) (out : List ℕ)
    → (start ≡ none → t ≡ u) → fetch_rest start ring t p W H mem o out ≡ fetch_rest start ring u p W H mem o out
unfolding fetch_rest rest_test first_of changed
rest_alike none ring t u p W H mem o out alike = ap (λ (t : Pattern). fetch_rest none ring t p W H mem o out) (alike refl)
rest_alike (some r) ring t u p W H mem o out alike = refl
