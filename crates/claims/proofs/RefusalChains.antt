-- What a chain of tests gives, by what it begins with: a book and r, vectors, a plan and sides, a picture, an output.
-- Assumes nothing.
use Prim.Native.Nat.{ℕ, ◌<◌}
use native.Mathlib.Omega.{arith}
use mathlib.Core.Path.{◌≡◌, refl, ap}
use mathlib.Core.Option.{Option, none}
use mathlib.Core.List.Memᴰ
use mathlib.Core.List.{List, [], ◌∷◌}
use lib.IntN.{nat_abs}
use Rattle.scope.specs.Plans.{Pixel, determinant_size}
use Rattle.scope.specs.Numbers.{Answer, refusal, record_test, dependent_test, large_test, plan_test, sides_test, sums_test, outside_test, bank_test, output_test}
use Rattle.scope.specs.Calls.{Size, picture_test}
use Rattle.scope.specs.promises.Meaning.{IsPlan, IsSide, Inside, AllInside, IsPicture, IsLent, IsBook, IsCycles, Independent}
use Rattle.scope.specs.promises.RefusalPromises.{PlanRefused, PictureRefused, LentRefused, WordRefused, BankRefused, BookRefused}
use Rattle.scope.specs.declared.Plan.{Plan}
use Rattle.scope.specs.declared.Book.{Book}
use Rattle.scope.specs.declared.Refusal.{Refusal}
use Rattle.checks.proofs.Chains.{book_tests, picture_tests}
use Rattle.checks.proofs.BookTests.{book_legal_iff}
use Rattle.checks.proofs.Deciding.{Follows, picture_follows, refused_by_first, after_none, refused_unless, after}
use Rattle.checks.proofs.Deciding.{cycles_decide, independent_decides, size_decides, plan_decides, sides_decide, memory_decides, sums_decide}
use Rattle.checks.proofs.Deciding.{inside_decides, bank_decides, output_decides}

-- vectors with a determinant above 1024 are independent
large_independent : (x y : Pixel) → 1024 < determinant_size x y → Independent x y
unfolding determinant_size
large_independent x y large e = let h : determinant_size x y ≡ 0 = ap nat_abs e in omega arith

-- one pixel outside is a list that is not all inside
pub one_outside : {W H : ℕ} {v : Pixel} → (Inside W H v → ⊥) → AllInside W H (v ∷ []) → ⊥
one_outside {v} outside inside = outside (inside v (Memᴰ.head refl))

-- The answer x follows a chain of tests that begins with
module _ {A : Type 0} {ts : List (Option Refusal)} {x : Answer A} where
  -- those of a book, which a legal one passes
  pub after_book : {book : Book} → Follows (record_test book ∷ ts) x → IsBook book → Follows ts x
  after_book {book} chain legal = after_none chain ((book_legal_iff book).1 legal)

  -- those of vectors
  pub large_refused :
      (v w : Pixel) → Follows (dependent_test v w ∷ large_test v w ∷ ts) x → 1024 < determinant_size v w → x ≡ refusal 9 0 none
  large_refused v w chain large =
      refused_unless (after chain (independent_decides v w) (large_independent v w large)) (size_decides v w) (λ within. omega arith)

  -- that of an output
  pub output_refused : (n room : ℕ) → Follows (output_test n room ∷ ts) x → room < n → x ≡ refusal 16 0 none
  output_refused n room chain short = refused_unless chain (output_decides n room) (λ enough. omega arith)

-- those of a book and r
module _ {A : Type 0} {ts : List (Option Refusal)} {x : Answer A} {book : Book} {r : ℕ} (chain : Follows (book_tests book r ts) x) where
  pub book_refused : BookRefused book r x
  book_refused =
      record { book_2_3_4_19 = refused_by_first chain; cycles_20 = λ legal. refused_unless (after_book chain legal) (cycles_decide r) }

  pub after_cycles : IsBook book → IsCycles r → Follows ts x
  after_cycles legal = after (after_book chain legal) (cycles_decide r)

-- those of a plan and a picture's sides
module _ {A : Type 0} {p : Plan} {W H : ℕ} {ts : List (Option Refusal)} {r : Answer A} where
  pub plan_refused : Follows (plan_test p ∷ sides_test W H ∷ ts) r → PlanRefused p W H r
  plan_refused chain =
      record {
        plan_11 = refused_unless chain (plan_decides p);
        sides_12 = λ plan. refused_unless (after chain (plan_decides p) plan) (sides_decide W H);
      }

  pub after_sides : Follows (plan_test p ∷ sides_test W H ∷ ts) r → IsPlan p → IsSide W → IsSide H → Follows ts r
  after_sides chain plan w h = after (after chain (plan_decides p) plan) (sides_decide W H) (w, h)

-- and those of the memory too
module _
    {A : Type 0} {p : Plan} {W H words : ℕ} {ts : List (Option Refusal)} {r : Answer A}
    (chain : Follows (picture_tests p W H words ts) r)
  where
    pub picture_refused : PictureRefused p W H words r
    picture_refused =
        record {
          first = plan_refused chain;
          memory_13 = λ plan w h short.
              refused_unless (after_sides chain plan w h) (memory_decides p W H words) (λ enough. omega arith);
        }

    pub after_picture : IsPicture p W H words → Follows ts r
    after_picture here =
        after (after_sides chain here.plan here.w_side here.h_side) (memory_decides p W H words) here.memory

-- and those of the sums
module _
    {A : Type 0} {p : Plan} {W H : ℕ} {s : Size} {ts : List (Option Refusal)} {r : Answer A}
    (chain : Follows (picture_tests p W H s.words (sums_test p s.entries ∷ ts)) r)
  where
    pub lent_refused : LentRefused p W H s r
    lent_refused =
        record {
          first = picture_refused chain;
          sums_13 = λ here few. refused_unless (after_picture chain here) (sums_decide p s.entries) (λ enough. omega arith);
        }

    pub after_lent : IsLent p W H s → Follows ts r
    after_lent here = after (after_picture chain here.picture) (sums_decide p s.entries) here.sums

-- The chains of load and of sum,
module _ {A : Type 0} {p : Plan} {W H words : ℕ} {r : Answer A} where
  pub word_refused :
      {v : Pixel} → Follows (picture_test p W H words ∷ outside_test W H (v ∷ []) ∷ []) r → WordRefused p W H words v r
  word_refused {v} chain =
      record {
        first = picture_refused (picture_follows p W H words chain);
        outside_14 = λ here outside.
            refused_unless (after_picture (picture_follows p W H words chain) here) (inside_decides W H (v ∷ [])) (one_outside outside);
      }

  pub bank_refused :
      {k : ℕ} → Follows (picture_test p W H words ∷ bank_test p k ∷ []) r → BankRefused p W H words k r
  bank_refused {k} chain =
      record {
        first = picture_refused (picture_follows p W H words chain);
        bank_15 = λ here above. refused_unless (after_picture (picture_follows p W H words chain) here) (bank_decides p k) (λ below. omega arith);
      }
