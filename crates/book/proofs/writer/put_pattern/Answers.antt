-- `book::writer::put_pattern` meets its contract. The loop's invariant: the pixel count and the bytes of the first e pixels
-- were put.
-- Assumes nothing.
use Prim.Native.Nat.{◌+◌, ◌*◌, ◌<◌}
use native.Mathlib.Omega.{arith}
use mathlib.Core.Path.{◌≡◌, ◌∙◌, ap}
use mathlib.Core.List.{flat_map}
use lib.ListN.{length, set, length-set}
use mir.Syntax.{w8}
use Rattle.integers.proofs.Raised.{number_handed}
use Rattle.scope.specs.Search.{gather}
use Rattle.scope.specs.Plans.{pixels}
use Rattle.scope.specs.Books.{unsigned, pattern_bytes}
use Rattle.checks.proofs.Outputs.{Put, first_put, all_put}
use Rattle.book.proofs.PutBooks.{pixels_put, pixel_put, all_pixels_put}
use Rattle.book.proofs.writer.put_pattern.Lts as lts
use Rattle.book.proofs.writer.put_pattern.Tie as tie
use Rattle.book.proofs.writer.put_pattern.Reads as reads
use Rattle.book.proofs.writer.put_pattern.Goals as goal

-- what is known at a step of the code
abbrev In-loop-e : Type 0
In-loop-e = lts.In-loop tie.the-claims reads.Pre reads.Post goal.the-invariant-loop-e goal.the-decreases-loop-e

abbrev Start : Type 0
Start = lts.Start tie.the-claims reads.Pre reads.Post goal.the-invariant-loop-e goal.the-decreases-loop-e

-- the call, from where the loop begins
abbrev entry : goal.After-rows-1 → Start
entry c = c.before.before.before

-- the turn, from where both bytes of its pixel are known
abbrev turn : goal.After-unsigned_byte-in-loop-e → In-loop-e
turn c = c.before.before.before.before

-- in a turn there is room for the pixel's two bytes
room : (c : In-loop-e) → 2 + 2 * c.loop-e.e < length c.loop-e.out
room c =
    let u = (entry c.before.before).args in
    omega (arith, c.loop-e.invariant, length-set u.out.now 0 u.t.used)

pub loop-e-init : goal.loop-e-init
unfolding flat_map gather
loop-e-init c = let u = (entry c).args in first_put u.t.used u.out.now (omega arith)

pub loop-e-preserved : goal.loop-e-preserved
loop-e-preserved c =
    let l = (turn c).before in
    pixel_put (entry l.before).args.t l.loop-e.e
    (c.unsigned_byte.ensures ∙ ap unsigned (number_handed w8 c.unsigned_byte-arg-1.given))
    (c.unsigned_byte-in-loop-e.ensures ∙ ap unsigned (number_handed w8 c.unsigned_byte-arg-in-loop-e-1.given))
    l.loop-e.invariant
    (omega (arith, room (turn c)))

pub shape_of-out : goal.shape_of-out
shape_of-out c =
    c.loop-e.invariant.same_length ∙ length-set (entry c.before.before).args.out.now 0 _

pub returns : goal.returns
returns c =
    let u = (entry c.before.before).args in
    let done : c.loop-e.e ≡ u.t.used = omega arith in
    let put : Put (pixels_put u.t u.t.used) (set u.out.now 0 u.t.used) c.loop-e.out =
    rw done at c.loop-e.invariant in
    all_put u.t.used u.t.used _ (pattern_bytes (pixels u.t)) u.out.now c.loop-e.out put (all_pixels_put u.t)

pub bounds-out-e : goal.bounds-out-e
bounds-out-e c =
    omega (arith, room c.before.before)

pub bounds-out-e-in-loop-e : goal.bounds-out-e-in-loop-e
bounds-out-e-in-loop-e c =
    simp length-set (omega (arith, room (turn c)))
