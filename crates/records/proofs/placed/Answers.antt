-- `records::placed` meets its contract: the bank and the address are those of the plan's methods.
-- Assumes nothing.
use Prim.Native.Nat.{◌<◌}
use native.Mathlib.Omega.{arith}
use mathlib.Core.Path.{◌∙◌}
use Rattle.records.proofs.Placing.{address_handed, bank_handed, record_put, kept, address_small, no_bank, bank_small, is_placed}
use Rattle.records.proofs.placed.Goals as goal

pub returns-in_default : goal.returns-in_default
returns-in_default c =
    kept _ _ _ _ (address_handed c.args.r (omega arith) (omega arith) c.args.p c.args.w c.args.h c.address.ensures) c.in_default.is

pub returns-in_default-bank : goal.returns-in_default-bank
returns-in_default-bank c =
    let a = address_handed c.args.r (omega arith) (omega arith) c.args.p c.args.w c.args.h c.address.ensures in
    let b = bank_handed c.args.r (omega arith) (omega arith) c.args.p c.bank.ensures in
    absurd (no_bank _ _ _ _ a c.in-Ok.is b c.in_default-bank.is)

-- each from both bounds, so that an exchange of the two numbers is refused where the record is returned
module _ (c : goal.In-Ok-bank) where
  both-fit : (c.in-Ok-bank.bank < 4294967296) × (c.in-Ok.address < 4294967296)
  both-fit =
      let a = address_handed c.args.r (omega arith) (omega arith) c.args.p c.args.w c.args.h c.address.ensures in
      let b = bank_handed c.args.r (omega arith) (omega arith) c.args.p c.bank.ensures in
      (bank_small _ _ _ _ a c.in-Ok.is b c.in-Ok-bank.is, address_small _ _ _ _ a c.in-Ok.is)

pub overflow_cast-result : goal.overflow_cast-result
overflow_cast-result c = record { fits = omega (arith, both-fit c) }

pub overflow_cast-result-2 : goal.overflow_cast-result-2
overflow_cast-result-2 c = record { fits = omega (arith, both-fit c) }

pub returns : goal.returns
returns c =
    let a = address_handed c.args.r (omega arith) (omega arith) c.args.p c.args.w c.args.h c.address.ensures in
    let b = bank_handed c.args.r (omega arith) (omega arith) c.args.p c.bank.ensures in
    record_put c.args.r _ _ (omega arith) (omega arith) ∙ is_placed _ _ _ _ a c.in-Ok.is b c.in-Ok-bank.is
