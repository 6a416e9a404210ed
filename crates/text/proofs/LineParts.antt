-- The lines of an answer as the words and the printed numbers that are put, how long they are, and that they are put into a text.
-- Assumes nothing.
use Prim.Native.Nat.{ℕ, ◌*◌, ◌^◌, ◌≤◌, ◌<◌}
use native.Mathlib.Omega.{arith}
use mathlib.Core.Path.{◌≡◌}
use mathlib.Core.List.{List, [], ◌++◌, append_assoc}
use lib.ListN.{length, replicate, length-append}
use Rattle.std.specs.Fmt as printed
use Rattle.std.proofs.lemmas.Fmt.{length-decimal-le}
use Rattle.integers.proofs.Sizes.{product_fits_64}
use Rattle.scope.specs.Plans.{banks}
use Rattle.scope.specs.Banks.{over_start}
use Rattle.scope.specs.Numbers.{number_of}
use Rattle.scope.specs.Program.{ascii, decimal, plan_lines, refused_line}
use Rattle.scope.specs.declared.Plan.{Plan}
use Rattle.scope.specs.declared.Refusal.{Refusal}
use Rattle.scope.specs.declared.Refusal.TheVariants.{Ends, Count, Coordinate, Repeat, Extra, Limit, NoPlan, Dependent, Large}
use Rattle.scope.specs.declared.Refusal.TheVariants.{Unsuited, NotPlan, Sides, Memory, Outside, Cell, Output, NoPattern, Ring, Lower, Cycles}
use Rattle.text.specs.Texts.{text_of}
use Rattle.text.proofs.DecimalDigits.{decimal_is_printed, digits_at_most}

-- a word and the digits of a number after a text
abbrev and_part : List ℕ → List ℕ → List ℕ → List ℕ
and_part text word digits = (text ++ word) ++ digits

one_by_one :
    (w n w' n' w'' n'' w''' n''' end : List ℕ)
    → and_part (and_part (and_part (and_part [] w n) w' n') w'' n'') w''' n''' ++ end ≡ w ++ n ++ w' ++ n' ++ w'' ++ n'' ++ w''' ++ n''' ++ end
one_by_one w n w' n' w'' n'' w''' n''' end = simp append_assoc

-- how many digits are printed of a number of 64 bits, and of 32
pub printed_at_most : (n : ℕ) → n < 2 ^ 64 → length (printed.decimal n) ≤ 20
printed_at_most n h = length-decimal-le 20 n (omega arith) (omega arith) h

pub printed_at_most_10 : (n : ℕ) → n < 2 ^ 32 → length (printed.decimal n) ≤ 10
printed_at_most_10 n h = length-decimal-le 10 n (omega arith) (omega arith) (omega arith)

banks_fit : (p : Plan) → p.a < 2 ^ 32 → p.d < 2 ^ 32 → banks p < 2 ^ 64
unfolding banks
banks_fit p ha hd = (product_fits_64 p.a p.d ha hd).fits

pub plan_lines_put :
    (p : Plan) → p.a < 2 ^ 32 → p.b < 2 ^ 32 → p.d < 2 ^ 32
    → and_part
    (and_part
    (and_part (and_part [] (ascii "banks ") (printed.decimal (banks p))) (ascii "\nplan ") (printed.decimal p.a))
    (ascii " ")
    (printed.decimal p.b))
    (ascii " ")
    (printed.decimal p.d)
    ++ ascii "\n"
    ≡ plan_lines p
unfolding plan_lines
plan_lines_put p ha hb hd =
    rw (
      ← (decimal_is_printed (banks p) (banks_fit p ha hd)),
      ← (decimal_is_printed p.a (omega arith)),
      ← (decimal_is_printed p.b (omega arith)),
      ← (decimal_is_printed p.d (omega arith)),
    )
    (one_by_one (ascii "banks ") (decimal (banks p)) (ascii "\nplan ") (decimal p.a) (ascii " ") (decimal p.b) (ascii " ")
    (decimal p.d) (ascii "\n"))

pub refused_line_put :
    (r : Refusal) → number_of r < 2 ^ 64 → and_part [] (ascii "refused ") (printed.decimal (number_of r)) ++ ascii "\n" ≡ refused_line r
unfolding refused_line
refused_line_put r h = rw (← (decimal_is_printed (number_of r) h)) (append_assoc (ascii "refused ") (decimal (number_of r)) (ascii "\n"))

-- A plan's lines have at most 65 bytes.
pub plan_lines_at_most : (p : Plan) → p.a < 2 ^ 32 → p.b < 2 ^ 32 → p.d < 2 ^ 32 → length (plan_lines p) ≤ 65
unfolding plan_lines ascii banks
plan_lines_at_most p ha hb hd =
    simp length-append
    (omega (
      arith,
      digits_at_most 19 (p.a * p.d) (omega (arith, (product_fits_64 p.a p.d ha hd).fits)),
      digits_at_most 9 p.a (omega arith),
      digits_at_most 9 p.b (omega arith),
      digits_at_most 9 p.d (omega arith),
    ))

-- A refusal's number has at most two digits, and its line at most 11 bytes.
number_at_most : (r : Refusal) → number_of r ≤ 20
number_at_most (Ends i) = omega arith
number_at_most (Count i) = omega arith
number_at_most (Coordinate i) = omega arith
number_at_most (Repeat i) = omega arith
number_at_most (Extra i) = omega arith
number_at_most Limit = omega arith
number_at_most NoPlan = omega arith
number_at_most Dependent = omega arith
number_at_most Large = omega arith
number_at_most (Unsuited c) = omega arith
number_at_most NotPlan = omega arith
number_at_most Sides = omega arith
number_at_most Memory = omega arith
number_at_most Outside = omega arith
number_at_most Cell = omega arith
number_at_most Output = omega arith
number_at_most NoPattern = omega arith
number_at_most Ring = omega arith
number_at_most (Lower i) = omega arith
number_at_most Cycles = omega arith

pub refused_line_at_most : (r : Refusal) → length (refused_line r) ≤ 11
unfolding refused_line ascii
refused_line_at_most r =
    simp length-append (omega (arith, digits_at_most 1 (number_of r) (omega (arith, number_at_most r))))

-- A text whose bytes were put to 80 zeros.
pub text_put :
    (xs bytes : List ℕ) (n : ℕ) → (n ≡ length xs) × (bytes ≡ over_start xs (replicate 80 0))
    → record { bytes = bytes; length = n } ≡ text_of xs
unfolding text_of
text_put xs bytes n (e, come) = rw (e, come)
