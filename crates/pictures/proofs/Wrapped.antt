-- A pattern's pixels, moved and wrapped: each has a word in the picture. How a loop puts the words at their places to an output.
-- Assumes nothing.
use Rattle.std.proofs.Common.{◌≡◌, ℕ, zero, suc, ◌+◌, ◌<◌, List, [], ◌∷◌, ◌++◌, map, length, get_or, set, ℤ, pos, ◌+ℤ◌, sym, refl, ap, ◌∙◌, zero-add, add-one, to_z-of_z, w8, w16, SFits, to_z, of_z}
use mathlib.Core.Option.{none}
use Rattle.integers.specs.Division.{floor_mod}
use Rattle.scope.specs.Search.{gather}
use Rattle.scope.specs.Plans.{Pixel, at, plus, pixel_at, pixels}
use Rattle.scope.specs.Banks.{word_of, word_in, wrapped, over_start}
use Rattle.scope.specs.Calls.{word_test, moved}
use Rattle.scope.specs.promises.Meaning.{IsPicture}
use Rattle.scope.specs.declared.Plan.{Plan}
use Rattle.scope.specs.declared.Pattern.{Pattern}
use Rattle.scope.proofs.PlanFacts.{pixel_handed}
use Rattle.checks.proofs.Searches.{length_gather, gather_one_more, gather_same}
use Rattle.checks.proofs.Patterns.{same_coordinates}
use Rattle.checks.proofs.Outputs.{Put, one_more_put}
use Rattle.lattice.proofs.Rings.{ring_keeps_banks}
use Rattle.pictures.proofs.CallTests.{word_test_iff}
use Rattle.pictures.specs.Fetching.{words_at}

-- A picture that the memory holds has a word at every pixel, wrapped.
pub wrapped_has_word : (p : Plan) (W H words : ℕ) → IsPicture p W H words → (v : Pixel) → word_test p W H words (wrapped W H v) ≡ none
wrapped_has_word p W H words h v =
    (word_test_iff p W H words (wrapped W H v)).1 (h, ring_keeps_banks.lands W H h.w_side.0 h.h_side.0 v)

-- x and y are the remainders of the coordinates of o + (i, j) by the sides: the pixel that is handed on is o + (i, j), wrapped
pub wrapped_handed :
    (W H : ℕ) (o : Pixel) {i j x y : ℤ} → SFits w8 i → SFits w8 j → SFits w16 x → SFits w16 y
    → x ≡ pos (floor_mod (o.column +ℤ to_z w8 (of_z w8 i)) W)
    → y ≡ pos (floor_mod (o.row +ℤ to_z w8 (of_z w8 j)) H)
    → at (to_z w16 (of_z w16 x)) (to_z w16 (of_z w16 y)) ≡ wrapped W H (plus o (record { column = i; row = j }))
unfolding at wrapped plus
wrapped_handed W H o f g fx fy column row =
    pixel_handed fx fy
    ∙ same_coordinates (column ∙ ap (λ (z : ℤ). pos (floor_mod (o.column +ℤ z) W)) (to_z-of_z f))
    (row ∙ ap (λ (z : ℤ). pos (floor_mod (o.row +ℤ z) H)) (to_z-of_z g))

-- the place of the word of the pixel at position e, moved to o and wrapped
abbrev pub place_for : Plan → ℕ → ℕ → Pattern → Pixel → ℕ → ℕ
place_for p W H t o e = word_of p W H (wrapped W H (plus o (pixel_at t e)))

module _ (mem places : List ℕ) where
  abbrev word_from : ℕ → ℕ
  word_from m = get_or mem (get_or places m 0) 0

  -- the words at the first e places
  abbrev pub words_from : ℕ → List ℕ
  words_from e = gather 0 e word_from

  -- None was put yet.
  pub no_words : (out : List ℕ) → Put (words_from 0) out out
  unfolding gather over_start
  no_words out = record { same_length = refl; is = refl }

  -- One more is put at the place after them.
  pub one_more_word :
      {before out : List ℕ} (e : ℕ) → Put (words_from e) before out → e < length before
      → Put (words_from (e + 1)) before (set out e (word_from e))
  one_more_word e put h =
      let one_more : words_from (e + 1) ≡ words_from e ++ (word_from e ∷ []) =
      ap (λ (n : ℕ). gather 0 n word_from) (add-one e)
      ∙ gather_one_more 0 e word_from
      ∙ ap (λ (n : ℕ). words_from e ++ (word_from n ∷ [])) (zero-add e) in
      rw one_more (one_more_put put e (word_from e) (sym (length_gather 0 e word_from)) h)

  map_gather : {A B : Type 0} (f : A → B) (k n : ℕ) (g : ℕ → A) → map f (gather k n g) ≡ gather k n (λ m. f (g m))
  unfolding gather
  map_gather f k zero g = refl
  map_gather {A} {B} f k (suc n) g = ap {B = List B} (λ xs. f (g k) ∷ xs) (map_gather f (suc k) n g)

  -- Where the places are those of a pattern's pixels, all of them are the words of the pattern.
  pub words_at_places :
      (p : Plan) (W H : ℕ) (t : Pattern) (o : Pixel) → ((e : ℕ) → e < t.used → get_or places e 0 ≡ place_for p W H t o e)
      → words_from t.used ≡ words_at p W H mem (moved t o)
  unfolding words_at moved pixels word_in
  words_at_places p W H t o are =
      gather_same 0 t.used word_from (λ m. get_or mem (place_for p W H t o m) 0)
      (λ m least below. ap (λ (k : ℕ). get_or mem k 0) (are m (rw (zero-add t.used) at below)))
      ∙ sym
      (rw (map_gather (plus o) 0 t.used (pixel_at t), map_gather (wrapped W H) 0 t.used (λ m. plus o (pixel_at t m)))
      (map_gather (word_in p W H mem) 0 t.used (λ m. wrapped W H (plus o (pixel_at t m)))))
