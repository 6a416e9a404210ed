-- A call of a list in numbers, by the numbers from a place on.
-- Assumes nothing.
use Rattle.std.proofs.Common.{◌≡◌, ℕ, ◌+◌, List, get_or, drop, refl, add-zero, get_or-drop}
use Rattle.pictures.specs.Lists.{room_of, room_at, is_call, is_call_at}

-- the call whose numbers begin at place k
module _ (xs : List ℕ) (k : ℕ) where
  pub call_at : is_call_at (drop k xs) ≡ is_call (get_or xs k 0) (get_or xs (k + 1) 0) (get_or xs (k + 2) 0) (get_or xs (k + 3) 0)
  unfolding is_call_at
  call_at = rw (get_or-drop, get_or-drop, get_or-drop, get_or-drop, add-zero k) refl

  pub room_at_lem : room_at (drop k xs) ≡ room_of (get_or xs k 0) (get_or xs (k + 4) 0)
  unfolding room_at
  room_at_lem = rw (get_or-drop, get_or-drop, add-zero k) refl
