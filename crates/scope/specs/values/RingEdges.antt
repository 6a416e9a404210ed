-- Rows for ring fetches in demand 3's list (document 02, Card 5), worked out from its sentences: what they reply, what is due, and the
-- banks and cycles of their words. They refuse must-fail edits.
-- Assumes nothing.
use Rattle.std.specs.Prelude.{ℕ, refl, true, false, replicate}
use mathlib.Core.List.{List, [], ◌∷◌, ◌++◌, map, flat_map}
use Rattle.scope.specs.Plans.{at, plan}
use Rattle.scope.specs.Books.{book_of}
use Rattle.scope.specs.Calls.{lent}
use Rattle.scope.specs.promises.Demand as Demand
use Rattle.scope.specs.values.Rows.{Row, Hold, row, is, neg, px, two, replied}
use Rattle.scope.specs.declared.Plan.{Plan}

-- two pixels in a row, under a plan for r, on W by 2
ringed : ℕ → Plan → ℕ → Demand.Setting
unfolding book_of two
ringed r p W = record { book = book_of (two ∷ []); r = r; plan = p; W = W; H = 2 }

stores : List Demand.Call
unfolding px
stores =
    Demand.write (Demand.store (px 0 0) 5) ∷ Demand.write (Demand.store (px 1 0) 6) ∷ Demand.write (Demand.store (px 0 1) 7)
    ∷ Demand.write (Demand.store (px 1 1) 8) ∷ []

-- past the edge to the right and below, to the left and above; a plain fetch there; no such pattern; no room
fetches : List Demand.Call
unfolding px at neg
fetches =
    Demand.read (Demand.fetch true 0 (px 1 3) (3 ∷ 3 ∷ 3 ∷ []))
    ∷ Demand.read (Demand.fetch true 0 (at (neg 3) (neg 2)) (3 ∷ 3 ∷ []))
    ∷ Demand.read (Demand.fetch false 0 (px 1 1) (3 ∷ 3 ∷ []))
    ∷ Demand.read (Demand.fetch true 1 (px 0 0) (3 ∷ []))
    ∷ Demand.read (Demand.fetch true 0 (px 0 0) (3 ∷ []))
    ∷ []

-- What they reply on 2 by 2: the words last stored at the wrapped pixels, then 14, 17 and 16. On 3 by 2 each ring fetch of pattern 0
-- gets 18, which is tested before 16. A clear in between makes the words of bank 1 0. The conditions tell the same.
lists : List Row
unfolding row is plan ringed stores fetches replied flat_map Demand.replies Demand.reply_due
lists =
    row (is (flat_map replied (Demand.replies (ringed 1 (plan 2 0 1) 2) (lent (0 ∷ 0 ∷ 0 ∷ 0 ∷ 4 ∷ []) (0 ∷ 0 ∷ [])) (stores ++ fetches)))) (is (0 ∷ 0 ∷ 0 ∷ 0 ∷ 0 ∷ 2 ∷ 8 ∷ 7 ∷ 3 ∷ 0 ∷ 2 ∷ 6 ∷ 5 ∷ 14 ∷ 3 ∷ 3 ∷ 17 ∷ 3 ∷ 16 ∷ 3 ∷ []))
    ∷ row (is (flat_map replied (map (Demand.reply_due (ringed 1 (plan 2 0 1) 2) (lent (0 ∷ 0 ∷ 0 ∷ 0 ∷ 4 ∷ []) (0 ∷ 0 ∷ [])) stores) fetches))) (is (0 ∷ 2 ∷ 8 ∷ 7 ∷ 3 ∷ 0 ∷ 2 ∷ 6 ∷ 5 ∷ 14 ∷ 3 ∷ 3 ∷ 17 ∷ 3 ∷ 16 ∷ 3 ∷ []))
    ∷ row (is (flat_map replied (Demand.replies (ringed 1 (plan 2 0 1) 3) (lent (replicate 8 0) []) fetches))) (is (18 ∷ 3 ∷ 3 ∷ 3 ∷ 18 ∷ 3 ∷ 3 ∷ 0 ∷ 2 ∷ 0 ∷ 0 ∷ 17 ∷ 3 ∷ 18 ∷ 3 ∷ []))
    ∷ row (is (flat_map replied (map (Demand.reply_due (ringed 1 (plan 2 0 1) 3) (lent (replicate 8 0) []) []) fetches))) (is (18 ∷ 3 ∷ 3 ∷ 3 ∷ 18 ∷ 3 ∷ 3 ∷ 0 ∷ 2 ∷ 0 ∷ 0 ∷ 17 ∷ 3 ∷ 18 ∷ 3 ∷ []))
    ∷ row (is (flat_map replied (Demand.replies (ringed 1 (plan 2 0 1) 2) (lent (0 ∷ 0 ∷ 0 ∷ 0 ∷ []) (0 ∷ 0 ∷ [])) (stores ++ (Demand.write (Demand.clear 1) ∷ fetches))))) (is (0 ∷ 0 ∷ 0 ∷ 0 ∷ 0 ∷ 0 ∷ 2 ∷ 0 ∷ 7 ∷ 3 ∷ 0 ∷ 2 ∷ 0 ∷ 5 ∷ 14 ∷ 3 ∷ 3 ∷ 17 ∷ 3 ∷ 16 ∷ 3 ∷ []))
    ∷ []

lists_hold : Hold lists
unfolding lists
lists_hold = refl

-- The banks at the wrapped pixels are those at the pixels, and the cycles those of the pattern: bank 1, then 0, in one cycle; at r = 2
-- under 1, 0, 1 bank 0 in two. A book that does not suit at r = 1 gives 10 with its clash, before 18.
cycles : List Row
unfolding row is plan ringed fetches replied flat_map Demand.replies Demand.reply_due Demand.banks_read Demand.cycles_read
cycles =
    row (is (flat_map (Demand.banks_read (ringed 1 (plan 2 0 1) 2)) fetches)) (is (1 ∷ 0 ∷ 1 ∷ 0 ∷ 1 ∷ 0 ∷ 0 ∷ 1 ∷ []))
    ∷ row (is (flat_map (Demand.cycles_read (ringed 1 (plan 2 0 1) 2)) fetches)) (is (0 ∷ 0 ∷ 0 ∷ 0 ∷ 0 ∷ 0 ∷ 0 ∷ 0 ∷ []))
    ∷ row (is (flat_map (Demand.banks_read (ringed 2 (plan 1 0 1) 3)) fetches)) (is (0 ∷ 0 ∷ 0 ∷ 0 ∷ 0 ∷ 0 ∷ 0 ∷ 0 ∷ []))
    ∷ row (is (flat_map (Demand.cycles_read (ringed 2 (plan 1 0 1) 3)) fetches)) (is (0 ∷ 1 ∷ 0 ∷ 1 ∷ 0 ∷ 1 ∷ 0 ∷ 1 ∷ []))
    ∷ row (is (flat_map replied (Demand.replies (ringed 1 (plan 1 0 4) 2) (lent (replicate 8 0) []) fetches))) (is (10 ∷ 0 ∷ 0 ∷ 1 ∷ 3 ∷ 3 ∷ 3 ∷ 10 ∷ 0 ∷ 0 ∷ 1 ∷ 3 ∷ 3 ∷ 10 ∷ 0 ∷ 0 ∷ 1 ∷ 3 ∷ 3 ∷ 17 ∷ 3 ∷ 10 ∷ 0 ∷ 0 ∷ 1 ∷ 3 ∷ []))
    ∷ row (is (flat_map replied (map (Demand.reply_due (ringed 1 (plan 1 0 4) 2) (lent (replicate 8 0) []) []) fetches))) (is (10 ∷ 0 ∷ 0 ∷ 1 ∷ 3 ∷ 3 ∷ 3 ∷ 10 ∷ 0 ∷ 0 ∷ 1 ∷ 3 ∷ 3 ∷ 10 ∷ 0 ∷ 0 ∷ 1 ∷ 3 ∷ 3 ∷ 17 ∷ 3 ∷ 10 ∷ 0 ∷ 0 ∷ 1 ∷ 3 ∷ []))
    ∷ []

cycles_hold : Hold cycles
unfolding cycles
cycles_hold = refl
