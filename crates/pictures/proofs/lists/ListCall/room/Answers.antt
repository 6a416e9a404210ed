-- `pictures::lists::ListCall::room` meets its contract: only a fetch has room.
-- Assumes nothing.
use Rattle.std.proofs.Common.{◌≡◌, ℕ, Bool, ℤ, refl}
use Rattle.pictures.specs.Lists.{room_read}
use Rattle.pictures.specs.declared.lists.ListCall.{ListCall}
use Rattle.pictures.specs.declared.lists.ListCall.TheVariants.{Store, Clear, Load, Fetch, MakeSums, Sum, ReadSum}
use Rattle.pictures.proofs.lists.ListCall.room.Goals as goal

no_room :
    (call : ListCall) → ((ring : Bool) (i j : ℤ) (pattern room : ℕ) → call ≡ Fetch ring i j pattern room → ⊥) → 0 ≡ room_read call
unfolding room_read
no_room (Store i j x) h = refl
no_room (Clear bank) h = refl
no_room (Load i j) h = refl
no_room (Fetch ring i j pattern room) h = absurd (h ring i j pattern room refl)
no_room MakeSums h = refl
no_room (Sum bank) h = refl
no_room (ReadSum bank) h = refl

pub returns-in-Fetch : goal.returns-in-Fetch
unfolding room_read
returns-in-Fetch c = rw c.in-Fetch.is refl

pub returns-in_default : goal.returns-in_default
returns-in_default c = no_room _ c.in_default.not-Fetch
