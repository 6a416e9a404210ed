-- What the code of both fetches goes by.
-- Assumes nothing.
use Rattle.std.specs.Prelude.{ℕ, List, [], ◌∷◌, map, length, Result, Ok, Err}
use Rattle.std.proofs.Math.Option.{Option, none, some}
use Rattle.scope.specs.Search.{first_of}
use Rattle.scope.specs.Plans.{Pixel, pattern_at, pixels}
use Rattle.scope.specs.Banks.{word_in, over_start, wrapped}
use Rattle.scope.specs.Cycles.{clash_in_for}
use Rattle.scope.specs.Numbers.{number_test, suits_test, output_test}
use Rattle.scope.specs.Calls.{After, changed, clash_beside}
use Rattle.book.specs.Scan.{entry_number}
use Rattle.scope.specs.declared.Plan.{Plan}
use Rattle.scope.specs.declared.Book.{Book}
use Rattle.scope.specs.declared.Pattern.{Pattern}
use Rattle.scope.specs.declared.Refusal.{Refusal}

-- what an outcome says that the tests behind it found
abbrev pub found_by : Result Unit Refusal → Option Refusal
found_by (Ok u) = none
found_by (Err r) = some r

-- the record that stands for pattern n: its entry, the last one where there is none
unfoldable pub entry_for : Book → ℕ → Pattern
unfolding pattern_at
entry_for book n = pattern_at book (entry_number n)

-- what a fetch of the pattern t, number n of `count`, begins with, given what the tests of the book and r and of the picture found: the
-- tests before 10, all, and the positions of the clash
unfoldable pub first_test : Option Refusal → Option Refusal → ℕ → ℕ → Option Refusal
unfolding first_of number_test
first_test tested picture count n = first_of (tested ∷ picture ∷ number_test count n ∷ [])

unfoldable pub start_test : Option Refusal → Option Refusal → ℕ → Pattern → ℕ → Plan → ℕ → Option Refusal
unfolding first_of first_test suits_test
start_test tested picture count t r p n = first_of (first_test tested picture count n ∷ suits_test r p n t ∷ [])

unfoldable pub start_positions : Option Refusal → Option Refusal → ℕ → Pattern → ℕ → Plan → ℕ → List ℕ
unfolding clash_beside first_test clash_in_for pixels
start_positions tested picture count t r p n = clash_beside (first_test tested picture count n) (clash_in_for r p n (pixels t))

-- the words at these pixels, wrapped
unfoldable pub words_at : Plan → ℕ → ℕ → List ℕ → List Pixel → List ℕ
unfolding word_in wrapped
words_at p W H mem vs = map (word_in p W H mem) (map (wrapped W H) vs)

-- 16, and the words at the start of the output
unfoldable pub delivered : Plan → ℕ → ℕ → List ℕ → List Pixel → List ℕ → After (Result ℕ Refusal) (List ℕ)
unfolding changed output_test words_at over_start
delivered p W H mem vs out =
    changed (output_test (length vs) (length out)) Err out (Ok (length vs))
    (over_start (words_at p W H mem vs) out)
