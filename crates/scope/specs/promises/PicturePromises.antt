-- What is promised of banks, addresses and the calls on a picture, under every plan. Statements; Promises.antt has them all.
-- Demand 3's list has its own file, Demand.antt.
-- Assumes nothing.
use Rattle.scope.specs.declared.Refusal.{Refusal}
use Rattle.std.specs.Prelude.{ℕ, zero, suc, ◌+◌, ◌*◌, ◌^◌, ◌≤◌, ◌<◌, ◌≡◌, ◌↔◌, true, List, map, ℤ, pos, ◌+ℤ◌, ◌-ℤ◌, ◌*ℤ◌, length, get_or, drop, Result}
use Rattle.std.proofs.Math.Option.{Option, none}
use Rattle.integers.specs.Division.{IsDivision}
use Rattle.integers.specs.Gcd.{Multiple}
use Rattle.scope.specs.Plans.{Pixel, at, minus, pattern_at, pixels, banks, InLattice}
use Rattle.scope.specs.Banks.{bank_of, address_of, depth_of, word_of, exchanged, wrapped}
use Rattle.scope.specs.Cycles.{suits_for, cycle_of, cycles, LongClash}
use Rattle.scope.specs.Numbers.{value, refusal, of_result, of_fetch, of_located}
use Rattle.scope.specs.Calls.{After, Lent, size_of, write_book, locate, store, load, clear, sum, make_sums, read_sum, moved, fetch, ring_moved, ring_fetch, write_cycles, record_pixel, fill_records}
use Rattle.scope.specs.promises.Meaning.{IsPlan, IsSide, Inside, AllInside, IsPicture, IsLent, IsBook, IsCycles, RingAllowed}
use Rattle.scope.specs.promises.Demand.{InCycles}
use Rattle.scope.specs.declared.Plan.{Plan}
use Rattle.scope.specs.declared.Book.{Book}
use Rattle.scope.specs.declared.Pattern.{Pattern}
use Rattle.scope.specs.declared.PixelRecord.{PixelRecord}
use Rattle.scope.specs.declared.FetchAnswer.{FetchAnswer}

-- C is n/d rounded up: the least m with n ≤ m × d
abbrev pub RoundedUp : ℕ → ℕ → ℕ → Type 0
RoundedUp n d C = (m : ℕ) → (C ≤ m) ↔ (n ≤ m * d)

-- Document 01's formulas, by divisions with remainder.
pub record FormulasAre : Type 0 where
  -- "j = q × d + r with 0 ≤ r < d, q rounded down. The bank is r × a + ((i - b × q) mod a), the remainder from 0 to a - 1."
  pub bank :
      (p : Plan) → IsPlan p → (v : Pixel) (q z : ℤ) (r c : ℕ) → IsDivision v.row p.d q r
      → IsDivision (v.column -ℤ pos p.b *ℤ q) p.a z c
      → bank_of p v ≡ r * p.a + c
  -- "The depth is C × (H/d rounded up)."
  pub depth : (p : Plan) (W H C R : ℕ) → IsPlan p → RoundedUp W p.a C → RoundedUp H p.d R → depth_of p W H ≡ C * R
  -- "The address is q × C + (i/a rounded down)", of i = u × a + s and j = q × d + r
  pub address :
      (p : Plan) (W H C : ℕ) → IsPlan p → RoundedUp W p.a C → (q r u s : ℕ) → r < p.d → s < p.a
      → address_of p W H (at (pos (u * p.a + s)) (pos (q * p.d + r))) ≡ q * C + u
  -- "A ring fetch reduces columns modulo W and rows modulo H."
  pub wrapped_column : (W H : ℕ) → 1 ≤ W → (v : Pixel) (q : ℤ) (c : ℕ) → IsDivision v.column W q c → (wrapped W H v).column ≡ pos c
  pub wrapped_row : (W H : ℕ) → 1 ≤ H → (v : Pixel) (q : ℤ) (c : ℕ) → IsDivision v.row H q c → (wrapped W H v).row ≡ pos c
  pub ring_moved_lem : (W H : ℕ) (t : Pattern) (o : Pixel) → ring_moved W H t o ≡ map (wrapped W H) (moved t o)
  -- Card 6: "takes the old word off its bank's sum and adds the new one, modulo 2^64"
  pub exchanged_sum :
      (sum old new : ℕ) (q : ℤ) (n : ℕ) → IsDivision (pos sum -ℤ pos old +ℤ pos new) (2 ^ 64) q n → exchanged sum old new ≡ n
  -- a record's pixel is its column and row
  pub record_pixel_lem : (r : PixelRecord) → record_pixel r ≡ at r.column r.row

pub record BankIsClass (p : Plan) : Type 0 where
  -- two pixels have the same bank exactly if their difference is in the lattice
  pub same_bank : (v w : Pixel) → (bank_of p v ≡ bank_of p w) ↔ InLattice p (minus v w)
  -- a bank is below N, and each number below N is a bank
  pub bank_below : (v : Pixel) → bank_of p v < banks p
  pub each_bank : (k : ℕ) → k < banks p → (v : Pixel) × (bank_of p v ≡ k)

abbrev pub BanksAreClasses : Type 0
BanksAreClasses = (p : Plan) → IsPlan p → BankIsClass p

-- Each pixel of a picture of any size has a word of its own, among its bank's words and below N × depth.
pub record WordsOf (p : Plan) (W H : ℕ) : Type 0 where
  pub address_below : (v : Pixel) → Inside W H v → address_of p W H v < depth_of p W H
  pub word_below : (v : Pixel) → Inside W H v → word_of p W H v < banks p * depth_of p W H
  pub own : (v w : Pixel) → Inside W H v → Inside W H w → word_of p W H v ≡ word_of p W H w → v ≡ w

abbrev pub PixelsHaveWords : Type 0
PixelsHaveWords = (p : Plan) (W H : ℕ) → IsPlan p → WordsOf p W H

-- "The reverse map gives the pixel of a bank and address."
pub record ReverseOf (p : Plan) (W H : ℕ) : Type 0 where
  -- it undoes bank and address
  pub undone : (v : Pixel) → Inside W H v → of_located (locate p W H (bank_of p v) (address_of p W H v)) ≡ value v
  -- and the other way round: what it gives is a pixel of the picture with that bank and address
  pub given : (k i : ℕ) (v : Pixel) → of_located (locate p W H k i) ≡ value v → Inside W H v × (bank_of p v ≡ k) × (address_of p W H v ≡ i)
  -- 15 exactly where no pixel of the picture has that bank and address
  pub refused :
      (k i : ℕ) → (of_located (locate p W H k i) ≡ refusal 15 0 none)
      ↔ ((v : Pixel) → Inside W H v → bank_of p v ≡ k → address_of p W H v ≡ i → ⊥)

abbrev pub ReverseMap : Type 0
ReverseMap = (p : Plan) (W H : ℕ) → IsPlan p → IsSide W → IsSide H → ReverseOf p W H

-- the word at bank × depth + address
abbrev pub word_at : Plan → ℕ → ℕ → List ℕ → Pixel → ℕ
word_at p W H mem v = get_or mem (bank_of p v * depth_of p W H + address_of p W H v) 0

-- "A store puts its word at its pixel's bank and address, [..] and neither changes another word of the memory." "Words past
-- N × depth are never touched." Card 6: of the sums only its bank's changes.
pub record StoredOne (p : Plan) (W H : ℕ) (l : Lent) (v : Pixel) (x : ℕ) (r : After (Result Unit Refusal) Lent) : Type 0 where
  pub done : of_result r.answer ≡ value tt
  pub put : word_at p W H r.content.memory v ≡ x
  pub elsewhere : (i : ℕ) → (i ≡ bank_of p v * depth_of p W H + address_of p W H v → ⊥) → get_or r.content.memory i 0 ≡ get_or l.memory i 0
  pub past : drop (banks p * depth_of p W H) r.content.memory ≡ drop (banks p * depth_of p W H) l.memory
  pub sum : get_or r.content.sums (bank_of p v) 0 ≡ exchanged (get_or l.sums (bank_of p v) 0) (word_at p W H l.memory v) x
  pub other_sums : (k : ℕ) → (k ≡ bank_of p v → ⊥) → get_or r.content.sums k 0 ≡ get_or l.sums k 0
  pub as_long : size_of r.content ≡ size_of l

-- "a clear puts 0 in every word of its bank"; Card 6: and in its sum
pub record ClearedOne (p : Plan) (W H : ℕ) (l : Lent) (k : ℕ) (r : After (Result Unit Refusal) Lent) : Type 0 where
  pub done : of_result r.answer ≡ value tt
  pub zeros : (i : ℕ) → i < depth_of p W H → get_or r.content.memory (k * depth_of p W H + i) 0 ≡ 0
  pub before : (i : ℕ) → i < k * depth_of p W H → get_or r.content.memory i 0 ≡ get_or l.memory i 0
  pub after : (i : ℕ) → k * depth_of p W H + depth_of p W H ≤ i → get_or r.content.memory i 0 ≡ get_or l.memory i 0
  pub past : drop (banks p * depth_of p W H) r.content.memory ≡ drop (banks p * depth_of p W H) l.memory
  pub sum : get_or r.content.sums k 0 ≡ 0
  pub other_sums : (m : ℕ) → (m ≡ k → ⊥) → get_or r.content.sums m 0 ≡ get_or l.sums m 0
  pub as_long : size_of r.content ≡ size_of l

-- f 0 + f 1 + .. + f (n - 1)
unfoldable pub total_below : ℕ → (ℕ → ℕ) → ℕ
total_below zero f = 0
total_below (suc n) f = total_below n f + f n

-- Card 6: "makes them afresh from the memory"; "Entries past N are never touched."
pub record SumsMade (p : Plan) (W H : ℕ) (l : Lent) (r : After (Result Unit Refusal) Lent) : Type 0 where
  pub done : of_result r.answer ≡ value tt
  pub each :
      (k : ℕ) → k < banks p → get_or r.content.sums k 0 ≡ total_below (depth_of p W H) λ i. get_or l.memory (k * depth_of p W H + i) 0
  pub past : drop (banks p) r.content.sums ≡ drop (banks p) l.sums
  pub memory_kept : r.content.memory ≡ l.memory
  pub as_long : size_of r.content ≡ size_of l

-- "words in the book's pixel order, the rest of the output unchanged": entry e is the word at the pixel vs[e]; the pattern is t
pub record FetchedAll
    (r : ℕ) (p : Plan) (W H : ℕ) (mem : List ℕ) (t : Pattern) (vs : List Pixel) (out : List ℕ) (x : After FetchAnswer (List ℕ))
    : Type 0
  where
    pub count : of_fetch r x.answer ≡ value (length vs)
    pub words : (e : ℕ) → e < length vs → get_or x.content e 0 ≡ word_at p W H mem (get_or vs e (at (pos 0) (pos 0)))
    pub rest : drop (length vs) x.content ≡ drop (length vs) out
    pub as_long : length x.content ≡ length out
    -- "A fetch takes at most one word from each bank in each cycle"
    pub in_cycles : InCycles r (map (bank_of p) vs) (cycles p (pixels t))

-- a fetch for r, plain or ring, but for its position and its output: the plan suits its own pattern for r
pub record LegalFetch (book : Book) (r : ℕ) (p : Plan) (W H words n : ℕ) : Type 0 where
  pub legal_book : IsBook book
  pub legal_cycles : IsCycles r
  pub picture : IsPicture p W H words
  pub number : n < book.count
  pub suiting : suits_for r p (pixels (pattern_at book n)) ≡ true

-- the cycles of a pattern for r, but for the output
pub record LegalCycles (book : Book) (r : ℕ) (p : Plan) (n : ℕ) : Type 0 where
  pub legal_book : IsBook book
  pub legal_cycles : IsCycles r
  pub plan : IsPlan p
  pub number : n < book.count
  pub suiting : suits_for r p (pixels (pattern_at book n)) ≡ true

-- "writes the cycles in pixel order, one byte each, at the start of a lent output, the rest unchanged"
pub record WrittenCycles (r : ℕ) (p : Plan) (t : Pattern) (out : List ℕ) (x : After FetchAnswer (List ℕ)) : Type 0 where
  pub count : of_fetch r x.answer ≡ value t.used
  pub bytes : (e : ℕ) → e < t.used → get_or x.content e 0 ≡ cycle_of p (pixels t) e
  pub below : (e : ℕ) → e < t.used → get_or x.content e 0 < r
  pub rest : drop t.used x.content ≡ drop t.used out
  pub as_long : length x.content ≡ length out

-- "every record's bank and address are filled in"
abbrev pub no_record : PixelRecord
no_record = record { column = pos 0; row = pos 0; bank = 0; address = 0 }

pub record FilledAll (p : Plan) (W H : ℕ) (rs : List PixelRecord) (r : After (Result Unit Refusal) (List PixelRecord)) : Type 0 where
  pub done : of_result r.answer ≡ value tt
  pub as_long : length r.content ≡ length rs
  pub pixel : (i : ℕ) → record_pixel (get_or r.content i no_record) ≡ record_pixel (get_or rs i no_record)
  pub bank : (i : ℕ) → i < length rs → (get_or r.content i no_record).bank ≡ bank_of p (record_pixel (get_or rs i no_record))
  pub address : (i : ℕ) → i < length rs → (get_or r.content i no_record).address ≡ address_of p W H (record_pixel (get_or rs i no_record))

-- A legal call on a picture is never refused and gives what document 01 says, "under every plan, ours or a supplier's".
pub record PictureCalls : Type 0 where
  pub stores :
      (p : Plan) (W H : ℕ) (l : Lent) (v : Pixel) (x : ℕ) → IsLent p W H (size_of l) → Inside W H v
      → StoredOne p W H l v x (store p W H l v x)
  pub loads :
      (p : Plan) (W H : ℕ) (mem : List ℕ) (v : Pixel) → IsPicture p W H (length mem) → Inside W H v
      → of_result (load p W H mem v) ≡ value (word_at p W H mem v)
  pub clears :
      (p : Plan) (W H : ℕ) (l : Lent) (k : ℕ) → IsLent p W H (size_of l) → k < banks p → ClearedOne p W H l k (clear p W H l k)
  pub sums :
      (p : Plan) (W H : ℕ) (mem : List ℕ) (k : ℕ) → IsPicture p W H (length mem) → k < banks p
      → of_result (sum p W H mem k) ≡ value (total_below (depth_of p W H) λ i. get_or mem (k * depth_of p W H + i) 0)
  -- "in 64 bits": the words have 16
  pub sum_fits :
      (p : Plan) (W H : ℕ) (mem : List ℕ) (k n : ℕ) → ((i : ℕ) → get_or mem i 0 < 65536)
      → of_result (sum p W H mem k) ≡ value n → n < 0x1_0000_0000_0000_0000
  pub makes_sums : (p : Plan) (W H : ℕ) (l : Lent) → IsLent p W H (size_of l) → SumsMade p W H l (make_sums p W H l)
  pub reads_sum :
      (p : Plan) (sums : List ℕ) (k : ℕ) → IsPlan p → banks p ≤ length sums → k < banks p
      → of_result (read_sum p sums k) ≡ value (get_or sums k 0)
  pub fetches :
      (book : Book) (r : ℕ) (p : Plan) (W H : ℕ) (mem : List ℕ) (n : ℕ) (o : Pixel) (out : List ℕ)
      → LegalFetch book r p W H (length mem) n → AllInside W H (moved (pattern_at book n) o)
      → (pattern_at book n).used ≤ length out
      → FetchedAll r p W H mem (pattern_at book n) (moved (pattern_at book n) o) out (fetch book r p W H mem n o out)
  pub ring_fetches :
      (book : Book) (r : ℕ) (p : Plan) (W H : ℕ) (mem : List ℕ) (n : ℕ) (o : Pixel) (out : List ℕ)
      → LegalFetch book r p W H (length mem) n → RingAllowed p W H
      → (pattern_at book n).used ≤ length out
      → FetchedAll r p W H mem (pattern_at book n) (ring_moved W H (pattern_at book n) o) out (ring_fetch book r p W H mem n o out)
  pub writes_cycles :
      (book : Book) (r : ℕ) (p : Plan) (n : ℕ) (out : List ℕ) → LegalCycles book r p n → (pattern_at book n).used ≤ length out
      → WrittenCycles r p (pattern_at book n) out (write_cycles book r p n out)
  pub fills :
      (p : Plan) (W H : ℕ) (rs : List PixelRecord) → IsPlan p → IsSide W → IsSide H
      → AllInside W H (map record_pixel rs) → FilledAll p W H rs (fill_records p W H rs)

-- "buffers and lists stay unchanged" on a refusal, n, i and c being its number, place and clash
pub record RefusalsChangeNothing : Type 0 where
  pub writes :
      (book : Book) (out : List ℕ) (n i : ℕ) (c : Option LongClash)
      → of_result (write_book book out).answer ≡ refusal n i c → (write_book book out).content ≡ out
  pub stores :
      (p : Plan) (W H : ℕ) (l : Lent) (v : Pixel) (x n i : ℕ) (c : Option LongClash)
      → of_result (store p W H l v x).answer ≡ refusal n i c → (store p W H l v x).content ≡ l
  pub clears :
      (p : Plan) (W H : ℕ) (l : Lent) (k n i : ℕ) (c : Option LongClash)
      → of_result (clear p W H l k).answer ≡ refusal n i c → (clear p W H l k).content ≡ l
  pub makes_sums :
      (p : Plan) (W H : ℕ) (l : Lent) (n i : ℕ) (c : Option LongClash)
      → of_result (make_sums p W H l).answer ≡ refusal n i c → (make_sums p W H l).content ≡ l
  pub fetches :
      (book : Book) (r : ℕ) (p : Plan) (W H : ℕ) (mem : List ℕ) (m : ℕ) (o : Pixel) (out : List ℕ) (n i : ℕ) (c : Option LongClash)
      → of_fetch r (fetch book r p W H mem m o out).answer ≡ refusal n i c
      → (fetch book r p W H mem m o out).content ≡ out
  pub ring_fetches :
      (book : Book) (r : ℕ) (p : Plan) (W H : ℕ) (mem : List ℕ) (m : ℕ) (o : Pixel) (out : List ℕ) (n i : ℕ) (c : Option LongClash)
      → of_fetch r (ring_fetch book r p W H mem m o out).answer ≡ refusal n i c
      → (ring_fetch book r p W H mem m o out).content ≡ out
  pub writes_cycles :
      (book : Book) (r : ℕ) (p : Plan) (m : ℕ) (out : List ℕ) (n i : ℕ) (c : Option LongClash)
      → of_fetch r (write_cycles book r p m out).answer ≡ refusal n i c
      → (write_cycles book r p m out).content ≡ out
  pub fills :
      (p : Plan) (W H : ℕ) (rs : List PixelRecord) (n i : ℕ) (c : Option LongClash)
      → of_result (fill_records p W H rs).answer ≡ refusal n i c → (fill_records p W H rs).content ≡ rs

-- Document 02, Card 5: what a ring fetch goes by.
pub record RingKeepsBanks : Type 0 where
  -- it is "allowed exactly if (W, 0) and (0, H) are in the lattice"
  pub in_lattice :
      (p : Plan) (W H : ℕ) → IsPlan p
      → RingAllowed p W H ↔ (InLattice p (at (pos W) (pos 0)) × InLattice p (at (pos 0) (pos H)))
  -- a wrapped pixel has the bank of the pixel exactly where it is allowed, and lands inside
  pub same_bank :
      (p : Plan) (W H : ℕ) → IsPlan p → 1 ≤ W → 1 ≤ H
      → RingAllowed p W H ↔ ((v : Pixel) → bank_of p (wrapped W H v) ≡ bank_of p v)
  pub lands : (W H : ℕ) → 1 ≤ W → 1 ≤ H → (v : Pixel) → Inside W H (wrapped W H v)
  -- so no two words of a ring fetch have both bank and cycle in common, for each r
  pub in_cycles :
      (r : ℕ) (p : Plan) (W H : ℕ) → IsPlan p → 1 ≤ W → 1 ≤ H → RingAllowed p W H
      → (t : Pattern) (o : Pixel) → suits_for r p (pixels t) ≡ true
      → InCycles r (map (bank_of p) (ring_moved W H t o)) (cycles p (pixels t))
  -- document 000, Theorem 2.6, for both sides: where W and H are multiples of N it is allowed
  pub multiples : (p : Plan) (W H : ℕ) → IsPlan p → Multiple (banks p) W → Multiple (banks p) H → RingAllowed p W H
