-- What was read, and what is written.
-- Assumes nothing.
use Rattle.std.proofs.Common.{◌≡◌, ℕ, ◌+◌, ◌≤◌, ◌<◌, List, [], ◌++◌, length, take, drop, refl, sym, ap, append_assoc, ◌∙◌}
use Rattle.std.specs.Prelude.{Option, Some, None}
use Rattle.std.specs.Io.KnownBytes.{Consumes}
use Rattle.std.proofs.lemmas.List.{take-append-le}
use Rattle.std.proofs.Math.Seq.{take-append_seam, take-append-add}
use lib.Seq.{length-take-le}
use borrow.Rule.Slice.PartMut.{put_mid}
use Rattle.scope.specs.Banks.{over_start}
use Rattle.scope.specs.Program.{program_text}
use Rattle.text.specs.Texts.{text_of}
use Rattle.text.specs.declared.Text.{Text}
use Rattle.text.proofs.ProgramTexts.{text_fits}
use Rattle.bankplan.specs.Input.{AnswersInput}

-- two reads in turn
consumes_both :
    (old mid new : Option (List ℕ)) (xs ys : List ℕ) → Consumes old mid xs → Consumes mid new ys → Consumes old new (xs ++ ys)
consumes_both None mid new xs ys h k = tt
consumes_both (Some s) None new xs ys h k = absurd h
consumes_both (Some s) (Some t) None xs ys h k = absurd k
consumes_both (Some s) (Some t) (Some u) xs ys h k = rw append_assoc (h ∙ ap (λ r. xs ++ r) k)

-- the bytes in a buffer after a read into the part from `at` on
take_read :
    (at k n : ℕ) (buf part : List ℕ) → at ≤ length buf → n ≤ length part
    → take (at + n) (put_mid at k buf part) ≡ take at buf ++ take n part
take_read at k n buf part within short =
    ap (λ m. take (m + n) (put_mid at k buf part)) (sym (length-take-le at buf within))
    ∙ take-append-add (take at buf) (part ++ drop k (drop at buf)) n
    ∙ ap (λ xs. take at buf ++ xs) (take-append-le n part (drop k (drop at buf)) short)

-- a read into the part from `at` on goes on with what the buffer has
pub read_more :
    (old mid new : Option (List ℕ)) (at k n : ℕ) (buf part : List ℕ) → at ≤ length buf → n ≤ length part
    → Consumes old mid (take at buf) → Consumes mid new (take n part) → Consumes old new (take (at + n) (put_mid at k buf part))
read_more old mid new at k n buf part within short h more =
    rw (take_read at k n buf part within short) (consumes_both old mid new (take at buf) (take n part) h more)

-- the bytes of a text
text_bytes : (xs : List ℕ) (t : Text) → t ≡ text_of xs → take t.length t.bytes ≡ xs
unfolding text_of over_start
text_bytes xs t e = rw e (take-append_seam xs _)

-- the text for an input counts bytes that it has, and these are the program's text
pub answer_fits : (buf : List ℕ) (count : ℕ) (t : Text) → AnswersInput buf count t → t.length ≤ 80
answer_fits buf count t a = (text_fits _ t (a.is [] (λ _. refl))).0

pub answer_bytes :
    (buf : List ℕ) (count : ℕ) (t : Text) → AnswersInput buf count t → (rest : List ℕ) → (count < length buf → rest ≡ [])
    → take t.length t.bytes ≡ program_text (take count buf ++ rest)
answer_bytes buf count t a rest ends = text_bytes _ t (a.is rest ends)
