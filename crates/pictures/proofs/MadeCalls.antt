-- What the code does for one call of a list, in the terms of demand 3.
-- Assumes nothing.
use Rattle.scope.specs.declared.Refusal.{Refusal}
use Rattle.std.specs.Prelude.{Result}
use Rattle.std.proofs.Common.{◌≡◌, ℕ, zero, suc, ◌%◌, Bool, true, false, cond, ◌||◌, eqb, ltb, leb, ◌⊎◌, List, [], ◌∷◌, length, get_or, take, drop, sym, refl, ap, ◌∙◌, subst, ap₂, inl, inr, arith, ne_eqb, le-leb}
use mathlib.Core.List.Memᴰ
use mathlib.Core.List.{Memᴰ}
use Rattle.integers.proofs.Comparisons.{ltb_false_iff, or_false_iff}
use Rattle.scope.specs.Plans.{Pixel, at}
use Rattle.scope.specs.Numbers.{with_positions, of_result, of_fetch}
use Rattle.scope.specs.Calls as Calls
use Rattle.scope.specs.Calls.{Lent, fetch_rest}
use Rattle.scope.specs.promises.Demand.{store, clear, make_sums, load, fetch, sum, read_sum, Call, write, read, Setting, write_result, read_reply, reply, after}
use Rattle.scope.specs.declared.Book.{Book}
use Rattle.scope.specs.declared.Pattern.{Pattern}
use Rattle.scope.specs.declared.Plan.{Plan}
use Rattle.checks.proofs.Chains.{Gives, same_gives}
use Rattle.finder.specs.declared.clash.Suited.{Suited}
use Rattle.pictures.specs.Fetching.{found_by, entry_for}
use Rattle.pictures.specs.Lists.{setting, coordinate_of, call_of, call_at, room_of, room_at, calls_from, answer_numbers, twelve, reply_numbers, output_of, stretch_after, BegunAt, OneMade}
use Rattle.pictures.proofs.Starts.{fetched_by_entry}

-- whichever call the numbers are those of
either : {A : Type 0} (P : A → Type 0) (b : Bool) {x y : A} → P x → P y → P (cond b x y)
either P true h k = h
either P false h k = k

pub any_call :
    (P : Call → Type 0) (kind i j n : ℕ) (out : List ℕ) →
    let v = at (coordinate_of i) (coordinate_of j) in
    P (write (store v (n % 65536))) → P (write (clear n)) → P (read (load v)) → ((ring : Bool) → P (read (fetch ring n v out)))
    → P (write make_sums) → P (read (sum n)) → P (read (read_sum n))
    → P (call_of kind i j n out)
unfolding call_of
any_call P kind i j n out s c l f m w r =
    either P (eqb kind 0) s
    (either P (eqb kind 1) c
    (either P (eqb kind 2) l
    (either P (leb kind 4) (f (eqb kind 4)) (either P (eqb kind 5) m (either P (eqb kind 6) w r)))))

-- what holds of the first call wherever a list stands holds of each call
pub each_call :
    (P : Call → Type 0) (Q : List ℕ → Type 0) → ((xs : List ℕ) → Q xs → Q (drop 5 xs))
    → ((xs outs : List ℕ) → Q xs → P (call_at xs (take (room_at xs) outs)))
    → (n : ℕ) (xs outs : List ℕ) → Q xs → (c : Call) → Memᴰ c (calls_from n xs outs) → P c
unfolding calls_from
each_call P Q further first zero xs outs q c m = absurd (Memᴰ.not-nil m)
each_call P Q further first (suc n) xs outs q c m =
    by_place (Memᴰ.cases_cons m) (each_call P Q further first n (drop 5 xs) (drop (room_at xs) outs) (further xs q) c)
  where
    by_place :
        (c ≡ call_at xs (take (room_at xs) outs)) ⊎ Memᴰ c (calls_from n (drop 5 xs) (drop (room_at xs) outs))
        → (Memᴰ c (calls_from n (drop 5 xs) (drop (room_at xs) outs)) → P c)
        → P c
    by_place (inl e) r = subst P (sym e) (first xs outs q)
    by_place (inr t) r = r t

module _ (book : Book) (r : ℕ) (p : Plan) (W H : ℕ) (l : Lent) (out : List ℕ) where
  abbrev Makes : Call → List ℕ → Lent → List ℕ → Type 0
  Makes call row next end = OneMade (setting book r p W H) l call out row next end

  abbrev told : Result Unit Refusal → List ℕ
  told o = twelve (answer_numbers (λ x. []) (of_result o))

  abbrev numbered : Result ℕ Refusal → List ℕ
  numbered c = twelve (answer_numbers (λ m. m ∷ []) (of_result c))

  pub clear_made :
      {answer : Result Unit Refusal} {next : Lent} {row : List ℕ} (bank : ℕ) → Gives (Calls.clear p W H l bank) answer next → row ≡ told answer
      → Makes (write (clear bank)) row next out
  unfolding reply write_result after reply_numbers
  clear_made bank (answer, content) row_is = record { row_is = row_is ∙ ap told answer; picture_is = content; output_is = refl }

  -- the calls on the sums
  pub sums_made :
      {answer : Result Unit Refusal} {next : Lent} {row : List ℕ} → Gives (Calls.make_sums p W H l) answer next → row ≡ told answer
      → Makes (write make_sums) row next out
  unfolding reply write_result after reply_numbers
  sums_made (answer, content) row_is = record { row_is = row_is ∙ ap told answer; picture_is = content; output_is = refl }

  pub walk_made :
      {answer : Result ℕ Refusal} {row : List ℕ} (bank : ℕ) → answer ≡ Calls.sum p W H l.memory bank → row ≡ numbered answer
      → Makes (read (sum bank)) row l out
  unfolding reply read_reply after reply_numbers
  walk_made bank answer row_is = record { row_is = row_is ∙ ap numbered answer; picture_is = refl; output_is = refl }

  pub read_made :
      {answer : Result ℕ Refusal} {row : List ℕ} (bank : ℕ) → answer ≡ Calls.read_sum p l.sums bank → row ≡ numbered answer
      → Makes (read (read_sum bank)) row l out
  unfolding reply read_reply after reply_numbers
  read_made bank answer row_is = record { row_is = row_is ∙ ap numbered answer; picture_is = refl; output_is = refl }

  -- v, the pixel that was handed on, is the call's
  module _ {u v : Pixel} (handed : v ≡ u) where
    pub store_made :
        {answer : Result Unit Refusal} {next : Lent} {row : List ℕ} (x : ℕ) → Gives (Calls.store p W H l v x) answer next → row ≡ told answer
        → Makes (write (store u x)) row next out
    unfolding reply write_result after reply_numbers
    store_made x gives row_is =
        let (answer, content) = same_gives (ap (λ (w : Pixel). Calls.store p W H l w x) handed) gives in
        record { row_is = row_is ∙ ap told answer; picture_is = content; output_is = refl }

    pub load_made :
        {word : Result ℕ Refusal} {row : List ℕ} → word ≡ Calls.load p W H l.memory v → row ≡ numbered word
        → Makes (read (load u)) row l out
    unfolding reply read_reply after reply_numbers
    load_made word row_is =
        record { row_is = row_is ∙ ap numbered (word ∙ ap (Calls.load p W H l.memory) handed); picture_is = refl; output_is = refl }

    -- a fetch, with what it begins with and the record that stands for its pattern
    pub fetch_made :
        {start : Suited} {t : Pattern} {counted : Result ℕ Refusal} {end row : List ℕ} (ring : Bool) (n : ℕ)
        → BegunAt book r p W H (length l.memory) n start → t ≡ entry_for book n
        → Gives (fetch_rest (found_by start.outcome) ring t p W H l.memory v out) counted end
        → row ≡ twelve (answer_numbers (λ m. m ∷ []) (of_fetch r (record { counted = counted; positions = start.positions })))
        → Makes (read (fetch ring n u out)) row l end
    unfolding reply read_reply after reply_numbers
    fetch_made {start} {t} {counted} {end} {row} ring n begun entry gives row_is =
        let ((number, positions), words) = fetched_by_entry ring book r p W H l.memory n u out begun entry handed gives in
        record {
          row_is =
              row_is
              ∙ ap₂ (λ (c : Result ℕ Refusal) (es : List ℕ). twelve (answer_numbers (λ m. m ∷ []) (with_positions (take (suc r) es) (of_result c))))
              number
              positions;
          picture_is = refl;
          output_is = words;
        }

-- The output that a call leaves is its reply's own: only a fetch has room.
abbrev OwnOutput : Setting → Lent → List ℕ → Call → Type 0
OwnOutput g l old c = stretch_after (reply g l c) old ≡ output_of (reply g l c)

own_output :
    (g : Setting) (l : Lent) (ys : List ℕ) (kind i j n room : ℕ) →
    let old = take (room_of kind room) ys in
    OwnOutput g l old (call_of kind i j n old)
unfolding room_of call_of reply read_reply
own_output g l ys kind i j n room = by_room (ltb kind 3 || ltb 4 kind) refl
  where
    by_room : (b : Bool) → (ltb kind 3 || ltb 4 kind) ≡ b → let old = take (cond b 0 room) ys in OwnOutput g l old (call_of kind i j n old)
    by_room true e = any_call (OwnOutput g l []) kind i j n [] refl refl refl (λ ring. refl) refl refl refl
    by_room false e =
        let (least, most) = (or_false_iff (ltb kind 3) (ltb 4 kind) (ltb_false_iff kind 3) (ltb_false_iff 4 kind)).0 e in
        rw (
          ne_eqb kind 0 (λ d. omega (arith, least)),
          ne_eqb kind 1 (λ d. omega (arith, least)),
          ne_eqb kind 2 (λ d. omega (arith, least)),
          le-leb kind 4 most,
        ) refl

pub output_own :
    (g : Setting) (l : Lent) (xs ys : List ℕ) →
    let old = take (room_at xs) ys in
    stretch_after (reply g l (call_at xs old)) old ≡ output_of (reply g l (call_at xs old))
unfolding call_at room_at
output_own g l xs ys = own_output g l ys (get_or xs 0 0) (get_or xs 1 0) (get_or xs 2 0) (get_or xs 3 0) (get_or xs 4 0)
