-- The tests of a book's bytes as the code makes them, pattern after pattern: what is left after a legal count, and what the
-- patterns so far decide.
-- Assumes nothing.
use Prim.Native.Nat.{ℕ, ◌+◌, ◌*◌, ◌≤◌, ◌<◌}
use mathlib.Core.Path.{◌≡◌, ◌∙◌}
use mathlib.Core.Option.{none, some}
use mathlib.Core.List.{List, [], ◌∷◌}
use lib.ListN.{length}
use Rattle.scope.specs.Search.{first}
use Rattle.scope.specs.Books.{byte, start}
use Rattle.scope.specs.Numbers.{count_read, pixel_read, pattern_read, extra_test, bytes_test}
use Rattle.scope.specs.declared.Refusal.{Refusal}
use Rattle.checks.proofs.Chains.{chain_goes_on, chain_of_one}
use Rattle.checks.proofs.BookRefusals.{search_refuses}
use Rattle.book.proofs.Reading.{FromTo, count_read_iff, pattern_read_iff, bytes_read_iff, pattern_inside}

module _ (s : List ℕ) where
  -- After the legal count of the pattern at place i its pixels decide.
  pub pixels_decide_from :
      (i : ℕ) → i < length s → FromTo 64 (byte s i) → pattern_read s i ≡ first 0 (byte s i) (pixel_read s (i + 1))
  unfolding pattern_read
  pixels_decide_from i h legal =
      chain_goes_on (count_read s 64 i) (first 0 (byte s i) (pixel_read s (i + 1)) ∷ []) ((count_read_iff s 64 i).1 (h, legal))
      ∙ chain_of_one (first 0 (byte s i) (pixel_read s (i + 1)))

  -- The pixels of a pattern that was read are there.
  pub read_pattern_inside : (i : ℕ) → pattern_read s i ≡ none → i + 1 + 2 * byte s i ≤ length s
  read_pattern_inside i e = pattern_inside s i ((pattern_read_iff s i).0 e)

  -- With a legal count, the first pattern that is refused decides; where all are read and no byte is left, the bytes are taken.
  module _ (counted : 0 < length s) (legal : FromTo 16 (byte s 0)) where
    pub pattern_decides :
        (n : ℕ) (r : Refusal) → n < byte s 0 → ((m : ℕ) → m < n → pattern_read s (start s m) ≡ none)
        → pattern_read s (start s n) ≡ some r → bytes_test s ≡ some r
    unfolding bytes_test
    pattern_decides n r below before here =
        search_refuses (count_read s 16 0) (byte s 0) (λ m. pattern_read s (start s m)) (extra_test s ∷ []) r n
        ((count_read_iff s 16 0).1 (counted, legal)) below here before

    pub all_taken :
        ((n : ℕ) → n < byte s 0 → pattern_read s (start s n) ≡ none) → length s ≤ start s (byte s 0) → bytes_test s ≡ none
    all_taken each over =
        (bytes_read_iff s).1 ((counted, legal), (λ n h. (pattern_read_iff s (start s n)).0 (each n h), over))
