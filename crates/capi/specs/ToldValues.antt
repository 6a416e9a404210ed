-- Worked values of what is told and of flat arrays, and the theorems that check them by computation.
-- Assumes nothing.
use Rattle.pictures.specs.declared.lists.ListFault.{ListFault}
use Rattle.std.specs.Prelude.{ℕ, ◌≡◌, refl, ℤ, pos, negsuc, length, get_or, replicate, take, Result, Ok, Err}
use mathlib.Core.List.{List, [], ◌∷◌, ◌++◌, map, flat_map}
use Rattle.scope.specs.Plans.{Pixel, at, plan, pixels, pattern_at}
use Rattle.scope.specs.Books.{book_of}
use Rattle.scope.specs.Numbers.{Answer, value, turned_down, of_check, of_fetch}
use Rattle.scope.specs.declared.Book.{Book}
use Rattle.scope.specs.declared.Refusal.{Refusal}
use Rattle.scope.specs.declared.Verdict.{Verdict}
use Rattle.scope.specs.declared.Clash.{Clash}
use Rattle.scope.specs.declared.CheckAnswer.{CheckAnswer}
use Rattle.scope.specs.declared.FetchAnswer.{FetchAnswer}
use Rattle.capi.specs.Told.{number_told, row_in, plan_row, checked_row, number_row, pixel_row, no_row, put_from, of_listed, of_found_run}
use Rattle.capi.specs.Flat.{flat_book, flat_columns, flat_rows, flat_used}

-- the number that an answer is told by, and an array of twelve nines after it
told : {A : Type 0} → (A → List ℕ) → Answer A → List ℕ
told row x = number_told x ∷ put_from 0 (row_in row x) (replicate 12 9)

record Row (A : Type 0) : Type 0 where
  computed : A
  stated : A

row : {A : Type 0} → A → A → Row A
row x y = record { computed = x; stated = y }

-- a clash of pattern 3, and answers beside nine positions
abbrev clash : Clash
clash = record { pattern = 3; earlier = 1; later = 2 }

abbrev nine : List ℕ
nine = 1 ∷ 2 ∷ 4 ∷ 5 ∷ 6 ∷ 7 ∷ 8 ∷ 20 ∷ 21 ∷ []

abbrev checked : Verdict → CheckAnswer
checked v = record { verdict = v; positions = nine }

abbrev fetched : Result ℕ Refusal → FetchAnswer
fetched c = record { counted = c; positions = nine }

answers : List (Row (List ℕ))
unfolding row told plan at
answers =
    row (told plan_row (value (plan 5 2 1))) (0 ∷ 5 ∷ 2 ∷ 1 ∷ replicate 9 9)
    ∷ row (told number_row (value 8)) (0 ∷ 8 ∷ replicate 11 9)
    ∷ row (told pixel_row (value (at (pos 6) (pos 3)))) (0 ∷ 6 ∷ 3 ∷ replicate 10 9)
    ∷ row (told plan_row (turned_down Refusal.Dependent)) (8 ∷ 0 ∷ replicate 11 9)
    ∷ row (told number_row (turned_down (Refusal.Repeat 4))) (4 ∷ 4 ∷ replicate 11 9)
    ∷ row (told number_row (turned_down (Refusal.Lower 6))) (19 ∷ 6 ∷ replicate 11 9)
    ∷ row (told number_row (turned_down (Refusal.Unsuited (record { pattern = 1; earlier = 2; later = 3 }))))
    (10 ∷ 0 ∷ 1 ∷ 2 ∷ 3 ∷ replicate 8 9)
    ∷ row (told number_row (turned_down Refusal.Cycles)) (20 ∷ 0 ∷ replicate 11 9)
    ∷ row (told checked_row (of_check 2 (checked (Verdict.Suits (record { plan = plan 6 4 2; surplus = 7 })))))
    (0 ∷ 6 ∷ 4 ∷ 2 ∷ 7 ∷ replicate 8 9)
    ∷ row (told checked_row (of_check 1 (checked (Verdict.Clashes clash)))) (10 ∷ 0 ∷ 3 ∷ 1 ∷ 2 ∷ replicate 8 9)
    ∷ row (told checked_row (of_check 2 (checked (Verdict.Clashes clash)))) (10 ∷ 0 ∷ 3 ∷ 1 ∷ 2 ∷ 4 ∷ replicate 7 9)
    ∷ row (told checked_row (of_check 8 (checked (Verdict.Clashes clash))))
    (10 ∷ 0 ∷ 3 ∷ 1 ∷ 2 ∷ 4 ∷ 5 ∷ 6 ∷ 7 ∷ 8 ∷ 20 ∷ 21 ∷ 9 ∷ [])
    ∷ row (told checked_row (of_check 2 (checked (Verdict.Refused Refusal.Large)))) (9 ∷ 0 ∷ replicate 11 9)
    ∷ row (told number_row (of_fetch 2 (fetched (Ok 5)))) (0 ∷ 5 ∷ replicate 11 9)
    ∷ row (told number_row (of_fetch 2 (fetched (Err (Refusal.Unsuited clash))))) (10 ∷ 0 ∷ 3 ∷ 1 ∷ 2 ∷ 4 ∷ replicate 7 9)
    ∷ row (told number_row (of_fetch 2 (fetched (Err Refusal.Ring)))) (18 ∷ 0 ∷ replicate 11 9)
    ∷ []

answers_hold : map (λ r. r.computed) answers ≡ map (λ r. r.stated) answers
unfolding answers
answers_hold = refl

-- what came of a list of calls, and of one that begins with the finder
lists : List (Row (List ℕ))
unfolding row told plan
lists =
    row (told no_row (of_listed (Ok tt))) (0 ∷ replicate 12 9)
    ∷ row (told no_row (of_listed (Err (ListFault.NotCalls 10)))) (255 ∷ 10 ∷ replicate 11 9)
    ∷ row (told no_row (of_listed (Err ListFault.Short))) (16 ∷ 0 ∷ replicate 11 9)
    ∷ row (told plan_row (of_found_run (Ok (plan 5 2 1, Ok tt)))) (0 ∷ 5 ∷ 2 ∷ 1 ∷ replicate 9 9)
    ∷ row (told plan_row (of_found_run (Ok (plan 5 2 1, Err (ListFault.NotCalls 10))))) (255 ∷ 10 ∷ replicate 11 9)
    ∷ row (told plan_row (of_found_run (Ok (plan 5 2 1, Err ListFault.Short)))) (16 ∷ 0 ∷ replicate 11 9)
    ∷ row (told plan_row (of_found_run (Err (Refusal.Repeat 4)))) (4 ∷ 4 ∷ replicate 11 9)
    ∷ row (told plan_row (of_found_run (Err (Refusal.Lower 0)))) (19 ∷ 0 ∷ replicate 11 9)
    ∷ []

lists_hold : map (λ r. r.computed) lists ≡ map (λ r. r.stated) lists
unfolding lists
lists_hold = refl

-- flat arrays of two patterns, the pixel (1, 2) and the pixels (3, 4) and (5, 6); the entries left out are 0
unflattened : ℕ → Book
unfolding flat_book
unflattened count =
    flat_book ((pos 1 ∷ replicate 63 (pos 0)) ++ (pos 3 ∷ pos 5 ∷ [])) ((pos 2 ∷ replicate 63 (pos 0)) ++ (pos 4 ∷ pos 6 ∷ []))
    (1 ∷ 2 ∷ []) count

coordinates : List Pixel → List ℤ
unfolding flat_map
coordinates vs = flat_map (λ v. v.column ∷ v.row ∷ []) vs

-- the record of two patterns, the pixel (-1, 2) and the pixels (3, -4) and (5, 6)
flattened : Book
unfolding book_of at
flattened =
    book_of ((at (negsuc 0) (pos 2) ∷ []) ∷ (at (pos 3) (negsuc 3) ∷ at (pos 5) (pos 6) ∷ []) ∷ [])

-- the entries at 0, 1, 64, 65 and 66
entries_of : List ℤ → List ℤ
entries_of xs = map (λ k. get_or xs k (pos 9)) (0 ∷ 1 ∷ 64 ∷ 65 ∷ 66 ∷ [])

flats : List (Row (List ℤ))
unfolding row unflattened flattened coordinates entries_of pixels pattern_at flat_columns flat_rows flat_used
flats =
    row (coordinates (pixels (pattern_at (unflattened 2) 0))) (pos 1 ∷ pos 2 ∷ [])
    ∷ row (coordinates (pixels (pattern_at (unflattened 2) 1))) (pos 3 ∷ pos 4 ∷ pos 5 ∷ pos 6 ∷ [])
    ∷ row (pos (unflattened 2).count ∷ pos (length (unflattened 2).patterns) ∷ []) (pos 2 ∷ pos 16 ∷ [])
    -- a pattern past the count is empty
    ∷ row (map pos (map (λ t. t.used) (take 3 (unflattened 1).patterns))) (pos 1 ∷ pos 0 ∷ pos 0 ∷ [])
    ∷ row (take 2 (pattern_at (unflattened 1) 1).columns) (pos 0 ∷ pos 0 ∷ [])
    ∷ row (entries_of (flat_columns flattened)) (negsuc 0 ∷ pos 0 ∷ pos 3 ∷ pos 5 ∷ pos 0 ∷ [])
    ∷ row (entries_of (flat_rows flattened)) (pos 2 ∷ pos 0 ∷ negsuc 3 ∷ pos 6 ∷ pos 0 ∷ [])
    ∷ row (map pos (take 3 (flat_used flattened))) (pos 1 ∷ pos 2 ∷ pos 0 ∷ [])
    ∷ row (map pos (length (flat_columns flattened) ∷ length (flat_rows flattened) ∷ length (flat_used flattened) ∷ []))
    (pos 1024 ∷ pos 1024 ∷ pos 16 ∷ [])
    ∷ []

flats_hold : map (λ r. r.computed) flats ≡ map (λ r. r.stated) flats
unfolding flats
flats_hold = refl
