-- A list of calls, each on the state as the one before left it, over any state, call and reply.
-- Assumes nothing.
use Prim.Native.Nat.{suc}
use mathlib.Core.Path.{◌≡◌, refl, ◌∙◌, ap}
use mathlib.Core.List.{List, [], ◌∷◌, ◌++◌, Memᴰ}
use lib.ListN.{length}
use Rattle.scope.specs.Search.{state_after, replies_of}

module _ {S C : Type 0} (after : S → C → S) where
  -- the calls of two lists together, and calls that each leave the state as it is
  pub state_after_append :
      (s : S) (past later : List C) → state_after after s (past ++ later) ≡ state_after after (state_after after s past) later
  unfolding state_after
  state_after_append s [] later = refl
  state_after_append s (c ∷ past) later = state_after_append (after s c) past later

  pub state_kept : (s : S) (calls : List C) → ((c : C) → Memᴰ c calls → after s c ≡ s) → state_after after s calls ≡ s
  unfolding state_after
  state_kept s [] h = refl
  state_kept s (c ∷ calls) h =
      ap (λ (t : S). state_after after t calls) (h c (Memᴰ.head refl)) ∙ state_kept s calls (λ d m. h d (Memᴰ.tail m))

  -- There is one reply to each call,
  module _ {R : Type 0} (reply : S → C → R) where
    pub as_many_replies : (s : S) (calls : List C) → length (replies_of after reply s calls) ≡ length calls
    unfolding replies_of
    as_many_replies s [] = refl
    as_many_replies s (c ∷ calls) = ap suc (as_many_replies (after s c) calls)

    -- and it is made on the state as those before left it.
    pub reply_in_place :
        (s : S) (past : List C) (c : C) (later : List C)
        → replies_of after reply s (past ++ (c ∷ later))
        ≡ replies_of after reply s past
        ++ (reply (state_after after s past) c ∷ replies_of after reply (after (state_after after s past) c) later)
    unfolding replies_of state_after
    reply_in_place s [] c later = refl
    reply_in_place s (d ∷ past) c later = ap (λ (rs : List R). reply s d ∷ rs) (reply_in_place (after s d) past c later)
