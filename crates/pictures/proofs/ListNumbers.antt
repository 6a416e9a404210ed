-- Every list of calls that fit has numbers, and numbers are only those of calls that fit.
-- Assumes nothing.
use Rattle.std.proofs.Common.{◌≡◌, ℕ, zero, suc, ◌+◌, ◌-◌, ◌*◌, ◌/◌, ◌%◌, ◌<◌, ◌≤◌, Bool, true, false, cond, ◌||◌, ltb, ◌⊎◌, List, [], ◌∷◌, ◌++◌, length, get_or, take, drop, ℤ, pos, negsuc, ◌-ℤ◌, sym, refl, ap, ◌∙◌, subst, ap₂, inl, inr, arith, length-append, length-take, get_or-drop, ltb-false, ltb-true, le-ltb, lt-ltb}
use native.Mathlib.Nat.{min-le_left}
use mathlib.Core.Option.{none}
use mathlib.Core.List.Memᴰ
use mathlib.Core.List.{flat_map, Memᴰ}
use lib.Seq.{take-append_seam, drop-append_seam}
use Rattle.integers.proofs.Integers.{own_parts, parts_add, same_integer}
use Rattle.checks.proofs.Lists.{mem_flat_map, length_flat_map}
use Rattle.scope.specs.Plans.{Pixel, at}
use Rattle.scope.specs.promises.Demand.{store, clear, make_sums, load, fetch, sum, read_sum, Call, write, read}
use Rattle.pictures.specs.Lists.{coordinate_of, call_of, call_at, room_of, room_at, calls_from, calls_of, is_call_at, list_fault}
use Rattle.pictures.specs.ListNumbers.{coordinate_number, numbers_of, output_in, Fits64, Fits16, PixelFits, Fits, AllFit, AllFit64, EveryListHasNumbers, NumbersGiveFittingCalls}
use Rattle.pictures.proofs.MadeCalls.{any_call, each_call}
use Rattle.pictures.proofs.ListFaults.{fault_in, past_first, no_calls, list_right}

-- the coordinate of a number, by the half in which its last 16 bits are
pub lower_half : (x : ℕ) → x % 65536 < 32768 → coordinate_of x ≡ pos (x % 65536)
unfolding coordinate_of
lower_half x h = rw (lt-ltb (x % 65536) 32768 h) refl

pub upper_half : (x : ℕ) → 32768 ≤ x % 65536 → coordinate_of x ≡ pos (x % 65536) -ℤ pos 65536
unfolding coordinate_of
upper_half x h = rw (le-ltb (x % 65536) 32768 h) refl

pub less_65536 : (y : ℕ) → y < 65536 → pos y -ℤ pos 65536 ≡ negsuc (65535 - y)
less_65536 y h =
    same_integer (parts_add (own_parts (pos y)) (own_parts (negsuc 65535))) (own_parts (negsuc (65535 - y))) (omega arith)

-- a coordinate is that of its own number, which has 16 bits
coordinate_back : (z : ℤ) → Fits16 z → coordinate_of (coordinate_number z) ≡ z
coordinate_back (pos n) h =
    let same : n % 65536 ≡ n = omega arith in
    lower_half n (omega (arith, same)) ∙ ap pos same
coordinate_back (negsuc n) h =
    let same : (65535 - n) % 65536 ≡ 65535 - n = omega arith in
    let number : 65535 - (65535 - n) ≡ n = omega arith in
    upper_half (65535 - n) (omega (arith, same))
    ∙ ap (λ (m : ℕ). pos m -ℤ pos 65536) same
    ∙ less_65536 (65535 - n) (omega arith)
    ∙ ap negsuc number

coordinate_below : (z : ℤ) → Fits16 z → coordinate_number z < 65536
coordinate_below (pos n) h = omega arith
coordinate_below (negsuc n) h = omega arith

pixel_back : (v : Pixel) → PixelFits v → at (coordinate_of (coordinate_number v.column)) (coordinate_of (coordinate_number v.row)) ≡ v
unfolding at
pixel_back v h = ap₂ at (coordinate_back v.column h.column) (coordinate_back v.row h.row)

-- The numbers of a call, with others after them
five_numbers : (c : Call) → length (numbers_of c) ≡ 5
five_numbers (write (store v x)) = refl
five_numbers (write (clear k)) = refl
five_numbers (write make_sums) = refl
five_numbers (read (load v)) = refl
five_numbers (read (fetch ring n o out)) = refl
five_numbers (read (sum k)) = refl
five_numbers (read (read_sum k)) = refl

own_room : (c : Call) (xs : List ℕ) → room_at (numbers_of c ++ xs) ≡ length (output_in c)
unfolding room_at
own_room (write (store v x)) xs = refl
own_room (write (clear k)) xs = refl
own_room (write make_sums) xs = refl
own_room (read (sum k)) xs = refl
own_room (read (read_sum k)) xs = refl
own_room (read (load v)) xs = refl
own_room (read (fetch false n o out)) xs = refl
own_room (read (fetch true n o out)) xs = refl

others_after : (c : Call) (xs : List ℕ) → drop 5 (numbers_of c ++ xs) ≡ xs
others_after (write (store v x)) xs = refl
others_after (write (clear k)) xs = refl
others_after (write make_sums) xs = refl
others_after (read (sum k)) xs = refl
others_after (read (read_sum k)) xs = refl
others_after (read (load v)) xs = refl
others_after (read (fetch ring n o out)) xs = refl

own_call : (c : Call) (xs : List ℕ) → Fits c → call_at (numbers_of c ++ xs) (output_in c) ≡ c
unfolding call_at
own_call (write (store v x)) xs (h, k) =
    let word : x % 65536 ≡ x = omega arith in
    ap₂ (λ (w : Pixel) (n : ℕ). write (store w n)) (pixel_back v h) word
own_call (write (clear k)) xs h = refl
own_call (write make_sums) xs h = refl
own_call (read (sum k)) xs h = refl
own_call (read (read_sum k)) xs h = refl
own_call (read (load v)) xs h = ap (λ (w : Pixel). read (load w)) (pixel_back v h)
own_call (read (fetch false n o out)) xs (h, k, l) = ap (λ (w : Pixel). read (fetch false n w out)) (pixel_back o h)
own_call (read (fetch true n o out)) xs (h, k, l) = ap (λ (w : Pixel). read (fetch true n w out)) (pixel_back o h)

pixel_numbers :
    (v : Pixel) → PixelFits v
    → (ltb (coordinate_number v.column) 65536 ≡ true) × (ltb (coordinate_number v.row) 65536 ≡ true)
pixel_numbers v h = (
  lt-ltb (coordinate_number v.column) 65536 (coordinate_below v.column h.column),
  lt-ltb (coordinate_number v.row) 65536 (coordinate_below v.row h.row),
)

is_call : (c : Call) (xs : List ℕ) → Fits c → is_call_at (numbers_of c ++ xs) ≡ true
unfolding is_call_at
is_call (write (store v x)) xs (h, k) = rw ((pixel_numbers v h).0, (pixel_numbers v h).1, lt-ltb x 65536 k) refl
is_call (write (clear k)) xs h = refl
is_call (write make_sums) xs h = refl
is_call (read (sum k)) xs h = refl
is_call (read (read_sum k)) xs h = refl
is_call (read (load v)) xs h = rw ((pixel_numbers v h).0, (pixel_numbers v h).1) refl
is_call (read (fetch false n o out)) xs (h, k, l) = rw ((pixel_numbers o h).0, (pixel_numbers o h).1) refl
is_call (read (fetch true n o out)) xs (h, k, l) = rw ((pixel_numbers o h).0, (pixel_numbers o h).1) refl

-- The list that the code makes of the numbers
all_back :
    (calls : List Call) → AllFit calls → calls_from (length calls) (flat_map numbers_of calls) (flat_map output_in calls) ≡ calls
unfolding calls_from flat_map
all_back [] h = refl
all_back (c ∷ cs) h =
    one_more c cs (h c (Memᴰ.head refl)) (all_back cs (λ d m. h d (Memᴰ.tail m)))
  where
    one_more :
        (c : Call) (cs : List Call) → Fits c → calls_from (length cs) (flat_map numbers_of cs) (flat_map output_in cs) ≡ cs
        → calls_from (suc (length cs)) (numbers_of c ++ flat_map numbers_of cs) (output_in c ++ flat_map output_in cs) ≡ c ∷ cs
    one_more c cs h others =
        rw (
          own_room c (flat_map numbers_of cs),
          others_after c (flat_map numbers_of cs),
          take-append_seam (output_in c) (flat_map output_in cs),
          drop-append_seam (output_in c) (flat_map output_in cs),
          own_call c (flat_map numbers_of cs) h,
          others,
        ) refl

-- Nothing is wrong with them.
none_wrong :
    (k : ℕ) (calls : List Call) → AllFit calls
    → list_fault (length calls) k (flat_map numbers_of calls) (length (flat_map output_in calls)) ≡ none
unfolding flat_map
none_wrong k [] h = no_calls k [] 0 0 refl
none_wrong k (c ∷ cs) h =
    one_more k c cs (h c (Memᴰ.head refl)) (none_wrong (k + 5) cs (λ d m. h d (Memᴰ.tail m)))
  where
    one_more :
        (k : ℕ) (c : Call) (cs : List Call) → Fits c
        → list_fault (length cs) (k + 5) (flat_map numbers_of cs) (length (flat_map output_in cs)) ≡ none
        → list_fault (suc (length cs)) k (numbers_of c ++ flat_map numbers_of cs) (length (output_in c ++ flat_map output_in cs)) ≡ none
    one_more k c cs h others =
        let xs : List ℕ = numbers_of c ++ flat_map numbers_of cs in
        let room : length (output_in c ++ flat_map output_in cs) ≡ length (output_in c) + length (flat_map output_in cs) =
        length-append (output_in c) (flat_map output_in cs)
        in
        let own : room_at xs ≡ length (output_in c) = own_room c (flat_map numbers_of cs) in
        let calls_left : suc (length cs) - 1 ≡ length cs = omega arith in
        let room_left : length (output_in c ++ flat_map output_in cs) - room_at xs ≡ length (flat_map output_in cs) =
        omega (arith, room, own)
        in
        past_first k xs (length (output_in c ++ flat_map output_in cs)) (suc (length cs)) (omega arith)
        (is_call c (flat_map numbers_of cs) h)
        (omega (arith, room, own))
        ∙ rw (calls_left, others_after c (flat_map numbers_of cs), room_left) others

-- The numbers of a call that fits have 64 bits.
no_number : AllFit64 []
no_number n m = absurd (Memᴰ.not-nil m)

one_more_number : {x : ℕ} {xs : List ℕ} → Fits64 x → AllFit64 xs → AllFit64 (x ∷ xs)
one_more_number {x} {xs} h others n m = by_place (Memᴰ.cases_cons m)
  where
    by_place : (n ≡ x) ⊎ Memᴰ n xs → Fits64 n
    by_place (inl e) = omega arith
    by_place (inr t) = others n t

-- those of a call with a pixel
with_pixel :
    {kind x room : ℕ} (v : Pixel) → Fits64 kind → PixelFits v → Fits64 x → Fits64 room
    → AllFit64 (kind ∷ coordinate_number v.column ∷ coordinate_number v.row ∷ x ∷ room ∷ [])
with_pixel v a h b c =
    one_more_number a
    (one_more_number (omega (arith, coordinate_below v.column h.column))
    (one_more_number (omega (arith, coordinate_below v.row h.row)) (one_more_number b (one_more_number c no_number))))

-- those of a call with a bank, or with none
with_bank : {kind k : ℕ} → Fits64 kind → Fits64 k → AllFit64 (kind ∷ 0 ∷ 0 ∷ k ∷ 0 ∷ [])
with_bank a b =
    one_more_number a
    (one_more_number (omega arith) (one_more_number (omega arith) (one_more_number b (one_more_number (omega arith) no_number))))

numbers_fit : (c : Call) → Fits c → AllFit64 (numbers_of c)
numbers_fit (write (store v x)) (h, k) = with_pixel v (omega arith) h (omega arith) (omega arith)
numbers_fit (write (clear k)) h = with_bank (omega arith) h
numbers_fit (write make_sums) h = with_bank (omega arith) (omega arith)
numbers_fit (read (sum k)) h = with_bank (omega arith) h
numbers_fit (read (read_sum k)) h = with_bank (omega arith) h
numbers_fit (read (load v)) h = with_pixel v (omega arith) h (omega arith) (omega arith)
numbers_fit (read (fetch false n o out)) (h, k, l) = with_pixel o (omega arith) h k l
numbers_fit (read (fetch true n o out)) (h, k, l) = with_pixel o (omega arith) h k l

pub every_list_has_numbers : EveryListHasNumbers
unfolding calls_of
every_list_has_numbers calls h =
    let xs : List ℕ = flat_map numbers_of calls in
    let size : length xs ≡ length calls * 5 = length_flat_map numbers_of 5 five_numbers calls in
    let count : length xs / 5 ≡ length calls = omega (arith, size) in
    let outs : List ℕ = flat_map output_in calls in
    let right : fault_in xs (length outs) ≡ none = rw count (none_wrong 0 calls h) in
    record {
      back = rw count (all_back calls h);
      fit = λ n m. let (c, mine, here) = mem_flat_map numbers_of calls m in numbers_fit c (h c mine) n here;
      taken = λ rows room. list_right xs (length outs) rows right (omega (arith, size)) (omega (arith, count, room));
    }

-- The other way round: the coordinate of any number has 16 bits,
coordinate_fits : (x : ℕ) → Fits16 (coordinate_of x)
coordinate_fits x = by_half (ltb (x % 65536) 32768) refl
  where
    by_half : (b : Bool) → ltb (x % 65536) 32768 ≡ b → Fits16 (coordinate_of x)
    by_half true e =
        let half : x % 65536 < 32768 = ltb-true (x % 65536) 32768 e in
        subst Fits16 (sym (lower_half x half)) half
    by_half false e =
        let half : 32768 ≤ x % 65536 = ltb-false (x % 65536) 32768 e in
        subst Fits16 (sym (upper_half x half ∙ less_65536 (x % 65536) (omega arith))) (omega (arith, half))

pixel_fits : (i j : ℕ) → PixelFits (at (coordinate_of i) (coordinate_of j))
unfolding at
pixel_fits i j = record { column = coordinate_fits i; row = coordinate_fits j }

-- and so does a store's word.
call_fits : (kind i j n : ℕ) (out : List ℕ) → Fits64 n → Fits64 (length out) → Fits (call_of kind i j n out)
call_fits kind i j n out h k =
    any_call Fits kind i j n out (pixel_fits i j, omega arith) h (pixel_fits i j) (λ ring. (pixel_fits i j, h, k)) tt h h

-- numbers by their place
abbrev EntriesFit : List ℕ → Type 0
EntriesFit xs = (i : ℕ) → Fits64 (get_or xs i 0)

entries_fit : (xs : List ℕ) → AllFit64 xs → EntriesFit xs
entries_fit [] h i = omega arith
entries_fit (x ∷ xs) h zero = h x (Memᴰ.head refl)
entries_fit (x ∷ xs) h (suc i) = entries_fit xs (λ n m. h n (Memᴰ.tail m)) i

rest_fits : (k : ℕ) (xs : List ℕ) → EntriesFit xs → EntriesFit (drop k xs)
rest_fits k xs h i = subst Fits64 (sym (get_or-drop k xs i 0)) (h (k + i))

room_fits : (kind room : ℕ) → Fits64 room → Fits64 (room_of kind room)
unfolding room_of
room_fits kind room h = by_kind (ltb kind 3 || ltb 4 kind)
  where
    by_kind : (b : Bool) → Fits64 (cond b 0 room)
    by_kind true = omega arith
    by_kind false = h

first_fits : (xs outs : List ℕ) → EntriesFit xs → Fits (call_at xs (take (room_at xs) outs))
unfolding call_at room_at
first_fits xs outs h =
    let room : ℕ = room_of (get_or xs 0 0) (get_or xs 4 0) in
    let size : length (take room outs) ≤ room = rw (length-take room outs) (min-le_left room (length outs)) in
    call_fits (get_or xs 0 0) (get_or xs 1 0) (get_or xs 2 0) (get_or xs 3 0) (take room outs) (h 3)
    (omega (arith, size, room_fits (get_or xs 0 0) (get_or xs 4 0) (h 4)))

calls_fit : (n : ℕ) (xs outs : List ℕ) → EntriesFit xs → AllFit (calls_from n xs outs)
calls_fit = each_call Fits EntriesFit (rest_fits 5) first_fits

pub numbers_give_fitting_calls : NumbersGiveFittingCalls
unfolding calls_of
numbers_give_fitting_calls xs outs h = calls_fit (length xs / 5) xs outs (entries_fit xs h)
