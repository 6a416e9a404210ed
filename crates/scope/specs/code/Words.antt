-- The bank and the word of a pixel, as the code asks a plan for them. Document 01 has no such call: store, load and fetch go by it.
-- Assumes nothing.
use Rattle.scope.specs.declared.Refusal.{Refusal}
use Rattle.std.specs.Prelude.{ℕ, Result, Ok, Err}
use Rattle.scope.specs.Plans.{Pixel}
use Rattle.scope.specs.Banks.{bank_of, word_of}
use Rattle.scope.specs.Calls.{answered, address_test}
use Rattle.scope.specs.declared.Plan.{Plan}
use Rattle.scope.specs.declared.Place.{Place}

-- both, or what the address is refused by: 11, 12, 14
unfoldable pub place : Plan → ℕ → ℕ → Pixel → Result Place Refusal
unfolding answered bank_of word_of
place p W H v = answered (address_test p W H v) Err (Ok (record { bank = bank_of p v; word = word_of p W H v }))

-- the word's place in the memory alone, or the same refusals
unfoldable pub word : Plan → ℕ → ℕ → Pixel → Result ℕ Refusal
unfolding answered word_of
word p W H v = answered (address_test p W H v) Err (Ok (word_of p W H v))
