-- How the bytes of a line are put at the start of an output, one part after the other, and where they end.
-- Assumes nothing.
use Prim.Native.Nat.{ℕ, ◌+◌, ◌-◌, ◌≤◌, ◌<◌}
use native.Mathlib.Omega.{arith}
use mathlib.Core.Path.{◌≡◌, refl, sym, ◌∙◌, ap}
use mathlib.Core.List.{List, [], ◌∷◌, ◌++◌, foldr, append_assoc, append-nil}
use lib.ListN.{length, take, drop, set, length-append, length-take, length-drop, take-append-drop}
use lib.Seq.{drop-drop}
use Rattle.scope.specs.Banks.{over_start}
use Rattle.checks.proofs.Outputs.{Put, one_more_put, part_put, over_start_first, over_start_rest, over_start_length}

-- The bytes xs were put at the start of `before`, which is `out` now, and end at `at`.
pub record PutTo (xs : List ℕ) (at : ℕ) (before out : List ℕ) : Type 0 where
  pub place : at ≡ length xs
  pub put : Put xs before out

-- `out` after the part of it from `at` was lent and came back as `part`
abbrev pub with_part : ℕ → List ℕ → List ℕ → List ℕ
with_part at out part = take at out ++ (part ++ drop (length out - at) (drop at out))

-- Nothing was put yet.
pub nothing_put : (out : List ℕ) → PutTo [] 0 out out
unfolding over_start
nothing_put out = record { place = refl; put = record { same_length = refl; is = refl } }

-- There is room for one byte more, and it is put.
module _
    {xs before out : List ℕ}
    {at : ℕ}
    (p : PutTo xs at before out)
    (b : ℕ)
    (room : length (xs ++ (b ∷ [])) ≤ length before)
  where
    length_one_more : length (xs ++ (b ∷ [])) ≡ at + 1
    length_one_more = length-append xs (b ∷ []) ∙ omega (arith, p.place)

    room_for_byte : at < length out
    room_for_byte = omega (arith, length_one_more, p.put.same_length)

    byte_put : PutTo (xs ++ (b ∷ [])) (at + 1) before (set out at b)
    byte_put =
        record {
          place = sym length_one_more;
          put = one_more_put p.put at b p.place (omega (arith, length_one_more));
        }

-- The parts one after the other.
abbrev pub joined : List (List ℕ) → List ℕ
joined = foldr ◌++◌ []

-- There is room in `before` for `whole`, which is the parts.
pub record RoomFor (whole : List ℕ) (parts : List (List ℕ)) (before : List ℕ) : Type 0 where
  pub is : whole ≡ joined parts
  pub room : length whole ≤ length before

-- There is room for `whole`, and all of it but the last parts was put at the start of `before`, which is `out` now, and ends
-- at `at`.
pub record PutBut (whole : List ℕ) (parts : List (List ℕ)) (at : ℕ) (before out : List ℕ) : Type 0 where
  pub front : List ℕ
  pub is : whole ≡ front ++ joined parts
  pub put_to : PutTo front at before out
  pub room : length (front ++ joined parts) ≤ length before

-- What is put again tells once.
over_start_again : (xs ys before : List ℕ) → over_start (xs ++ ys) (over_start xs before) ≡ over_start (xs ++ ys) before
unfolding over_start
over_start_again xs ys before =
    ap ((xs ++ ys) ++◌)
    (rw (length-append, ← (drop-drop (length ys) (length xs) before), ← (drop-drop (length ys) (length xs) (over_start xs before)))
    (ap (drop (length ys)) (over_start_rest xs before)))

-- What was put ends in the output.
pub ends_inside :
    {whole before out : List ℕ} {parts : List (List ℕ)} {at : ℕ} → PutBut whole parts at before out → at ≤ length before
ends_inside {parts} p = omega (arith, p.put_to.place, p.room, length-append p.front (joined parts))

-- There is room for the next part, and a call puts it to what comes after those that stand, which is lent and comes back.
module _ {whole ys before out : List ℕ} {parts : List (List ℕ)} {at : ℕ} (p : PutBut whole (ys ∷ parts) at before out) where
  length_more : at + length ys ≤ length before
  length_more =
      omega (arith, p.put_to.place, p.room, length-append p.front (ys ++ joined parts), length-append ys (joined parts))

  pub part_starts : at ≤ length out
  part_starts = omega (arith, length_more, p.put_to.put.same_length)

  pub room_in_part : length ys ≤ length (take (length out - at) (drop at out))
  room_in_part = simp (length-take, length-drop) (omega (arith, length_more, p.put_to.put.same_length))

  pub next_part_put :
      {part : List ℕ} {k : ℕ} → (k ≡ length ys) × (part ≡ over_start ys (take (length out - at) (drop at out)))
      → PutBut whole parts (at + k) before (with_part at out part)
  next_part_put {part} (e, come) =
      let same : p.front ++ (ys ++ joined parts) ≡ (p.front ++ ys) ++ joined parts = rw append_assoc in
      record {
        front = p.front ++ ys;
        is = p.is ∙ same;
        put_to =
            record {
              place = rw (e, p.put_to.place) (sym (length-append p.front ys));
              put =
                  part_put p.put_to.put ys part at (length out - at) p.put_to.place
                  (omega (arith, p.put_to.put.same_length))
                  (omega (arith, length_more)) come;
            };
        room = rw same at p.room;
      }

pub first_bytes_end : (out : List ℕ) (at : ℕ) → at ≤ length out → at ≡ length (take at out)
first_bytes_end out at h = sym (length-take at out ∙ omega arith)

-- Of an output whose first `at` bytes stand the parts are left,
pub first_bytes_stand :
    (out : List ℕ) (at : ℕ) (parts : List (List ℕ)) → at + length (joined parts) ≤ length out
    → PutBut (take at out ++ joined parts) parts at out out
unfolding over_start
first_bytes_stand out at parts room =
    let place : at ≡ length (take at out) = first_bytes_end out at (omega arith) in
    record {
      front = take at out;
      is = refl;
      put_to = record { place = place; put = record { same_length = refl; is = rw (← place) (sym (take-append-drop at out)) } };
      room = rw (length-append (take at out) (joined parts), ← place) room;
    }

-- and of one in which nothing stands all of them.
pub none_stands : {whole before : List ℕ} {parts : List (List ℕ)} → RoomFor whole parts before → PutBut whole parts 0 before before
none_stands {before} p = record { front = []; is = p.is; put_to = nothing_put before; room = rw p.is at p.room }

-- There is room for the next part after those that stand, and a call puts it there.
module _ {whole ys before out : List ℕ} {parts : List (List ℕ)} {at : ℕ} (p : PutBut whole (ys ∷ parts) at before out) where
  pub room_after : at + length ys ≤ length out
  room_after = omega (arith, length_more p, p.put_to.put.same_length)

  pub put_after :
      {k : ℕ} {come : List ℕ} → (k ≡ at + length ys) × (come ≡ over_start (take at out ++ ys) out) → PutBut whole parts k before come
  put_after {k} {come} (e, is) =
      let same : p.front ++ (ys ++ joined parts) ≡ (p.front ++ ys) ++ joined parts = rw append_assoc in
      let stands : take at out ≡ p.front = rw (p.put_to.put.is, p.put_to.place) (over_start_first p.front before) in
      let all : come ≡ over_start (p.front ++ ys) before =
      is ∙ rw (stands, p.put_to.put.is) (over_start_again p.front ys before) in
      let long : k ≡ length (p.front ++ ys) = rw (e, p.put_to.place) (sym (length-append p.front ys)) in
      record {
        front = p.front ++ ys;
        is = p.is ∙ same;
        put_to =
            record {
              place = long;
              put =
                  record {
                    same_length = rw all (over_start_length (p.front ++ ys) before (omega (arith, long, e, length_more p)));
                    is = all;
                  };
            };
        room = rw same at p.room;
      }

-- Where no part is left, all was put.
pub whole_put : {whole before out : List ℕ} {at : ℕ} → PutBut whole [] at before out → PutTo whole at before out
whole_put p = rw (p.is ∙ append-nil p.front) p.put_to

-- There is room for the last byte, and it is put.
module _ {whole before out : List ℕ} {b at : ℕ} (p : PutBut whole ((b ∷ []) ∷ []) at before out) where
  pub room_for_last : at < length out
  room_for_last = room_for_byte p.put_to b p.room

  pub last_put : PutTo whole (at + 1) before (set out at b)
  last_put = rw p.is (byte_put p.put_to b p.room)
