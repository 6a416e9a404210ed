-- Document 01, "Banks and addresses": where a pixel's word stands. Document 02, Card 6: the sums of the banks.
-- Assumes nothing.
use Rattle.std.specs.Prelude.{ℕ, ◌+◌, ◌*◌, ◌/◌, ◌%◌, ◌^◌, Bool, false, ◌&&◌, ltb, ℤ, pos, negsuc, nat_abs, ◌+ℤ◌, ◌-ℤ◌, ◌*ℤ◌, length, get_or, take, drop, replicate, set}
use mathlib.Core.List.{List, ◌++◌, foldr}
use Rattle.integers.specs.Division.{floor_div, floor_mod, ceil_div}
use Rattle.scope.specs.Search.{gather}
use Rattle.scope.specs.Plans.{Pixel, banks}
use Rattle.scope.specs.declared.Plan.{Plan}

-- "j = q × d + r with 0 ≤ r < d, q rounded down"
unfoldable pub quotient : Plan → Pixel → ℤ
unfolding floor_div
quotient p v = floor_div v.row p.d

unfoldable pub remainder : Plan → Pixel → ℕ
unfolding floor_mod
remainder p v = floor_mod v.row p.d

-- "The bank is r × a + ((i - b × q) mod a), the remainder from 0 to a - 1."
unfoldable pub bank_of : Plan → Pixel → ℕ
unfolding quotient remainder floor_mod
bank_of p v = remainder p v * p.a + floor_mod (v.column -ℤ pos p.b *ℤ quotient p v) p.a

-- 0 ≤ z < n
unfoldable pub within : ℤ → ℕ → Bool
within (pos i) n = ltb i n
within (negsuc i) n = false

-- "A picture has width W and height H, [..] its pixels from (0, 0) to (W-1, H-1)."
unfoldable pub inside : ℕ → ℕ → Pixel → Bool
unfolding within
inside W H v = within v.column W && within v.row H

-- "Let C be W/a rounded up."
unfoldable pub across : Plan → ℕ → ℕ
unfolding ceil_div
across p W = ceil_div W p.a

-- "The address is q × C + (i/a rounded down)." No coordinate of a picture's pixel is negative, so the address is not.
-- It is given the picture, W and H, though H does not tell in it
unfoldable pub address_of : Plan → ℕ → ℕ → Pixel → ℕ
unfolding quotient across floor_div
address_of p W H v = nat_abs (quotient p v *ℤ pos (across p W) +ℤ floor_div v.column p.a)

-- "The depth is C × (H/d rounded up)."
unfoldable pub depth_of : Plan → ℕ → ℕ → ℕ
unfolding across ceil_div
depth_of p W H = across p W * ceil_div H p.d

-- "Bank k has the words k × depth to (k+1) × depth - 1 of the lent memory": the word at a pixel's bank and address
unfoldable pub word_of : Plan → ℕ → ℕ → Pixel → ℕ
unfolding bank_of depth_of address_of
word_of p W H v = bank_of p v * depth_of p W H + address_of p W H v

unfoldable pub word_in : Plan → ℕ → ℕ → List ℕ → Pixel → ℕ
unfolding word_of
word_in p W H mem v = get_or mem (word_of p W H v) 0

-- "The reverse map gives the pixel of a bank and address." With bank = r × a + c and address = q × C + u:
-- the row is q × d + r, and the column is the one from u × a to u × a + a - 1 that is c + b × q modulo a
unfoldable pub pixel_of : Plan → ℕ → ℕ → ℕ → ℕ → Pixel
unfolding across
pixel_of p W H bank address =
    let r : ℕ = bank / p.a in
    let c : ℕ = bank % p.a in
    let q : ℕ = address / across p W in
    let u : ℕ = address % across p W in
    record { column = pos (u * p.a + (c + p.b * q) % p.a); row = pos (q * p.d + r) }

-- the words of bank k
unfoldable pub bank_words : Plan → ℕ → ℕ → List ℕ → ℕ → List ℕ
unfolding depth_of
bank_words p W H mem k = take (depth_of p W H) (drop (k * depth_of p W H) mem)

-- "A store puts its word at its pixel's bank and address [..] neither changes another word of the memory."
unfoldable pub after_store : Plan → ℕ → ℕ → List ℕ → Pixel → ℕ → List ℕ
unfolding word_of
after_store p W H mem v x = set mem (word_of p W H v) x

-- "a clear puts 0 in every word of its bank"
unfoldable pub after_clear : Plan → ℕ → ℕ → List ℕ → ℕ → List ℕ
unfolding depth_of
after_clear p W H mem k =
    take (k * depth_of p W H) mem ++ (replicate (depth_of p W H) 0 ++ drop (k * depth_of p W H + depth_of p W H) mem)

-- "the exact sum of one bank's words"
unfoldable pub bank_sum : Plan → ℕ → ℕ → List ℕ → ℕ → ℕ
unfolding bank_words
bank_sum p W H mem k = foldr ◌+◌ 0 (bank_words p W H mem k)

-- xs "at the start of a lent output, the rest unchanged"
unfoldable pub over_start : List ℕ → List ℕ → List ℕ
over_start xs out = xs ++ drop (length xs) out

-- Document 02, Card 6, "a second lent buffer of N 64-bit numbers". "A store takes the old word off its bank's sum and adds the new one,
-- modulo 2^64"
unfoldable pub exchanged : ℕ → ℕ → ℕ → ℕ
unfolding floor_mod
exchanged sum old new = floor_mod (pos sum -ℤ pos old +ℤ pos new) (2 ^ 64)

unfoldable pub sums_after_store : Plan → ℕ → ℕ → List ℕ → List ℕ → Pixel → ℕ → List ℕ
unfolding bank_of exchanged word_in
sums_after_store p W H mem sums v x =
    set sums (bank_of p v) (exchanged (get_or sums (bank_of p v) 0) (word_in p W H mem v) x)

-- "a clear sets 0"
unfoldable pub sums_after_clear : List ℕ → ℕ → List ℕ
sums_after_clear sums k = set sums k 0

-- "A call that makes them afresh from the memory"; "Entries past N are never touched."
unfoldable pub fresh_sums : Plan → ℕ → ℕ → List ℕ → List ℕ → List ℕ
unfolding over_start gather banks bank_sum
fresh_sums p W H mem sums = over_start (gather 0 (banks p) (bank_sum p W H mem)) sums

-- "A ring fetch reduces columns modulo W and rows modulo H."
unfoldable pub wrapped : ℕ → ℕ → Pixel → Pixel
unfolding floor_mod
wrapped W H v = record { column = pos (floor_mod v.column W); row = pos (floor_mod v.row H) }
