-- `pictures::lists::ListCall::read` meets its contract, by what the first number is.
-- Assumes nothing.
use Rattle.std.proofs.Common.{◌≡◌, ℕ, ◌^◌, ◌<◌, ◌≤◌, ◌%◌, true, false, ◌&&◌, eqb, ltb, leb, ne_eqb, List, get_or, ℤ, refl, ◌∙◌, ap, ap₂, arith, rules, le-ltb, lt-ltb, le-leb, w16, to_z, of_z}
use Rattle.std.proofs.Math.Bool.{and-false}
use lib.Signed.{mag}
use mir.Val.{hbits}
use borrow.Author.Tests.{lt-leb}
use Rattle.scope.specs.Plans.{Pixel, at}
use Rattle.scope.specs.promises.Demand.{store, load, fetch, write, read}
use Rattle.scope.proofs.PlanFacts.{entry_handed}
use Rattle.pictures.specs.Lists.{coordinate_of, call_at, room_at, is_call_at, call_read, room_read, IsRead}
use Rattle.pictures.specs.declared.lists.ListCall.TheVariants.{Store, Clear, Load, Fetch, MakeSums, Sum, ReadSum}
use Rattle.pictures.proofs.lists.ListCall.read.Goals as goal

module _ (xs : List ℕ) where
  no-column : 65535 < get_or xs 1 0 → is_call_at xs ≡ false
  unfolding is_call_at
  no-column h = rw (le-ltb (get_or xs 1 0) 65536 (omega arith), and-false (leb (get_or xs 0 0) 7)) refl

  module _ (a : get_or xs 1 0 ≤ 65535) where
    no_row : 65535 < get_or xs 2 0 → is_call_at xs ≡ false
    unfolding is_call_at
    no_row h = rw (le-ltb (get_or xs 2 0) 65536 (omega arith), and-false (leb (get_or xs 0 0) 7 && ltb (get_or xs 1 0) 65536)) refl

    no_kind : 7 < get_or xs 0 0 → is_call_at xs ≡ false
    unfolding is_call_at
    no_kind h = rw (lt-leb (get_or xs 0 0) 7 h) refl

    module _ (b : get_or xs 2 0 ≤ 65535) where
      long_word : get_or xs 0 0 ≡ 0 → 65536 ≤ get_or xs 3 0 → is_call_at xs ≡ false
      unfolding is_call_at
      long_word is h =
          rw (is, lt-ltb (get_or xs 1 0) 65536 (omega arith), lt-ltb (get_or xs 2 0) 65536 (omega arith), le-ltb (get_or xs 3 0) 65536 h) refl

      -- a call of kind 1 to 7
      kind_read : (k : ℕ) → 1 ≤ k → k ≤ 7 → get_or xs 0 0 ≡ k → is_call_at xs ≡ true
      unfolding is_call_at
      kind_read k least most is =
          rw (
            is,
            le-leb k 7 most,
            lt-ltb (get_or xs 1 0) 65536 (omega arith),
            lt-ltb (get_or xs 2 0) 65536 (omega arith),
            le-leb 1 k least,
          ) refl

      clear_read : get_or xs 0 0 ≡ 1 → IsRead xs (Clear (get_or xs 3 0))
      unfolding call_read room_read call_at room_at
      clear_read is = record { numbers = kind_read 1 (omega arith) (omega arith) is; call = λ out. rw is refl; room = rw is refl }

      make_read : get_or xs 0 0 ≡ 5 → IsRead xs MakeSums
      unfolding call_read room_read call_at room_at
      make_read is = record { numbers = kind_read 5 (omega arith) (omega arith) is; call = λ out. rw is refl; room = rw is refl }

      walk_read : get_or xs 0 0 ≡ 6 → IsRead xs (Sum (get_or xs 3 0))
      unfolding call_read room_read call_at room_at
      walk_read is = record { numbers = kind_read 6 (omega arith) (omega arith) is; call = λ out. rw is refl; room = rw is refl }

      sum_read : get_or xs 0 0 ≡ 7 → IsRead xs (ReadSum (get_or xs 3 0))
      unfolding call_read room_read call_at room_at
      sum_read is = record { numbers = kind_read 7 (omega arith) (omega arith) is; call = λ out. rw is refl; room = rw is refl }

      -- with the pixel of the numbers
      module _ {i j : ℤ} (fits_i : mag i < 2 ^ hbits w16) (fits_j : mag j < 2 ^ hbits w16) (i-is : i ≡ coordinate_of (get_or xs 1 0)) (j-is : j ≡ coordinate_of (get_or xs 2 0)) where
        abbrev column : ℤ
        column = to_z w16 (of_z w16 i)

        abbrev row : ℤ
        row = to_z w16 (of_z w16 j)

        pixel-is : at column row ≡ at (coordinate_of (get_or xs 1 0)) (coordinate_of (get_or xs 2 0))
        pixel-is = entry_handed w16 _ _ fits_i fits_j ∙ ap₂ at i-is j-is

        store_read : {x : ℕ} → get_or xs 0 0 ≡ 0 → get_or xs 3 0 < 65536 → x ≡ get_or xs 3 0 → IsRead xs (Store column row x)
        unfolding call_read room_read call_at room_at is_call_at
        store_read {x} is h x-is =
            let word : x ≡ get_or xs 3 0 % 65536 = omega arith in
            record {
              numbers = rw (is, lt-ltb (get_or xs 1 0) 65536 (omega arith), lt-ltb (get_or xs 2 0) 65536 (omega arith), lt-ltb (get_or xs 3 0) 65536 h) refl;
              call = λ out. rw is (ap₂ (λ (v : Pixel) (n : ℕ). write (store v n)) pixel-is word);
              room = rw is refl;
            }

        load_read : get_or xs 0 0 ≡ 2 → IsRead xs (Load column row)
        unfolding call_read room_read call_at room_at
        load_read is =
            record {
              numbers = kind_read 2 (omega arith) (omega arith) is;
              call = λ out. rw is (ap (λ (v : Pixel). read (load v)) pixel-is);
              room = rw is refl;
            }

        fetch_read :
            3 ≤ get_or xs 0 0 → get_or xs 0 0 ≤ 4
            → IsRead xs (Fetch (eqb (get_or xs 0 0) 4) column row (get_or xs 3 0) (get_or xs 4 0))
        unfolding call_read room_read call_at room_at
        fetch_read least most =
            record {
              numbers = kind_read (get_or xs 0 0) (omega arith) (omega arith) refl;
              call =
                  λ out.
                  rw (
                    ne_eqb (get_or xs 0 0) 0 (λ e. omega arith),
                    ne_eqb (get_or xs 0 0) 1 (λ e. omega arith),
                    ne_eqb (get_or xs 0 0) 2 (λ e. omega arith),
                    le-leb (get_or xs 0 0) 4 most,
                  ) (ap (λ (v : Pixel). read (fetch (eqb (get_or xs 0 0) 4) (get_or xs 3 0) v out)) pixel-is);
              room = rw (le-ltb (get_or xs 0 0) 3 least, le-ltb 4 (get_or xs 0 0) most) refl;
            }

pub returns-then-column-gt65535 : goal.returns-then-column-gt65535
returns-then-column-gt65535 c = no-column _ c.if-column-gt65535.true

pub returns-then-row-gt65535 : goal.returns-then-row-gt65535
returns-then-row-gt65535 c = no_row _ c.if-column-gt65535.false c.if-row-gt65535.true

pub returns-in_err-ok-in-0 : goal.returns-in_err-ok-in-0
returns-in_err-ok-in-0 c = rw c.from_residual.ensures (long_word _ c.if-column-gt65535.false c.if-row-gt65535.false c.in-0.is (search rules))

pub returns-in_ok-ok-in-0 : goal.returns-in_ok-ok-in-0
returns-in_ok-ok-in-0 c =
    store_read _ c.if-column-gt65535.false c.if-row-gt65535.false c.coordinate-i.type_inv c.coordinate-j.type_inv
    c.coordinate-i.ensures c.coordinate-j.ensures c.in-0.is (search rules) (search rules)

pub returns-in-1 : goal.returns-in-1
returns-in-1 c = clear_read _ c.if-column-gt65535.false c.if-row-gt65535.false c.in-1.is

pub returns-in-2 : goal.returns-in-2
returns-in-2 c =
    load_read _ c.if-column-gt65535.false c.if-row-gt65535.false c.coordinate-i.type_inv c.coordinate-j.type_inv
    c.coordinate-i.ensures c.coordinate-j.ensures c.in-2.is

pub returns-in-3 : goal.returns-in-3
returns-in-3 c =
    fetch_read _ c.if-column-gt65535.false c.if-row-gt65535.false c.coordinate-i.type_inv c.coordinate-j.type_inv
    c.coordinate-i.ensures c.coordinate-j.ensures (omega arith) (omega arith)

pub returns-in-5 : goal.returns-in-5
returns-in-5 c = make_read _ c.if-column-gt65535.false c.if-row-gt65535.false c.in-5.is

pub returns-in-6 : goal.returns-in-6
returns-in-6 c = walk_read _ c.if-column-gt65535.false c.if-row-gt65535.false c.in-6.is

pub returns-in-7 : goal.returns-in-7
returns-in-7 c = sum_read _ c.if-column-gt65535.false c.if-row-gt65535.false c.in-7.is

pub returns-in_default : goal.returns-in_default
returns-in_default c = no_kind _ c.if-column-gt65535.false (omega arith)
