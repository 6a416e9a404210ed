-- Document 01, "Figures to agree with", the last lines: what the program writes for the bytes that it reads.
-- Assumes nothing.
use Rattle.std.specs.Prelude.{ℕ, zero, suc, ◌+◌, ◌/◌, ◌%◌, List, [], ◌∷◌, ◌++◌, Result, Ok, Err}
use Prim.Native.Char.{code}
use Prim.Native.String.{String}
use Rattle.scope.specs.Plans.{banks}
use Rattle.scope.specs.Numbers.{number_of}
use Rattle.scope.specs.Calls.{read_book, find}
use Rattle.scope.specs.declared.Plan.{Plan}
use Rattle.scope.specs.declared.Refusal.{Refusal}

-- the decimal digits of n in ASCII, in front of `rest`; n has at most as many digits as the steps given
unfoldable pub digits : ℕ → ℕ → List ℕ → List ℕ
digits zero n rest = rest
digits (suc steps) n rest = elim (n / 10) [ zero ↦ (48 + n % 10) ∷ rest | suc m ↦ digits steps (suc m) ((48 + n % 10) ∷ rest) ]

unfoldable pub decimal : ℕ → List ℕ
unfolding digits
decimal n = digits (suc n) n []

-- the bytes of an ASCII text
unfoldable pub ascii : String → List ℕ
ascii = elim [ String.[] ↦ [] | String.◌∷◌ c (s → bytes) ↦ code c ∷ bytes ]

-- "two lines, `banks 5` (N) and `plan 5 2 1` (a, b, d)"
unfoldable pub plan_lines : Plan → List ℕ
unfolding ascii decimal banks
plan_lines p =
    ascii "banks " ++ decimal (banks p) ++ ascii "\nplan " ++ decimal p.a ++ ascii " " ++ decimal p.b ++ ascii " "
    ++ decimal p.d ++ ascii "\n"

-- "one line, `refused` and the number"
unfoldable pub refused_line : Refusal → List ℕ
unfolding ascii decimal
refused_line r = ascii "refused " ++ decimal (number_of r) ++ ascii "\n"

unfoldable pub plan_text : Result Plan Refusal → List ℕ
unfolding plan_lines refused_line
plan_text (Ok p) = plan_lines p
plan_text (Err r) = refused_line r

-- "The program reads a book from standard input and uses limit 1024." It uses r = 1: its text is that of document 01
unfoldable pub program_text : List ℕ → List ℕ
unfolding read_book find plan_text refused_line
program_text s =
    elim (read_book s).outcome [
      | Ok u ↦ plan_text (find (read_book s).book 1 1024)
      | Err r ↦ refused_line r
    ]
