-- `capi::flat::entries_of` meets its contract.
-- Assumes nothing.
use Rattle.std.proofs.Common.{◌≡◌, ℕ, ◌+◌, ◌-◌, ◌*◌, ◌<◌, List, length, get_or, take, drop, ℤ, pos, refl, ◌∙◌, arith, get_or-drop, length-take, length-drop, rules}
use Rattle.std.proofs.lemmas.List.{get_or-take}
use Rattle.checks.proofs.FilledArrays.{gathered}
use Rattle.capi.specs.Flat.{entries}
use Rattle.capi.proofs.flat.entries_of.Goals as goal

-- the part that is copied has the entries of pattern n
part-is :
    (xs : List ℤ) (n : ℕ) → n < 16 → length xs ≡ 1024 → take (64 * n + 64 - 64 * n) (drop (64 * n) xs) ≡ entries xs n
unfolding entries
part-is xs n h size =
    let long : 64 * n + 64 - 64 * n ≡ 64 = omega arith in
    rw long
    (gathered (pos 0) 64 (λ e. get_or xs (64 * n + e) (pos 0)) (take 64 (drop (64 * n) xs))
    (simp (length-take, length-drop) (omega arith))
    (λ m b. rw (get_or-take 64 (drop (64 * n) xs) m (pos 0) b, get_or-drop) refl))

pub returns : goal.returns
returns c =
    let size : length c.args.xs.now ≡ 1024 = search rules in
    c.copy_from_slice.ensures.after ∙ part-is c.args.xs.now c.args.n c.requires size
