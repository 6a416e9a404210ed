-- `pictures::lists::list_outcome` meets its contract.
-- Assumes nothing.
use Rattle.std.proofs.Common.{sym, ◌∙◌, arith}
use Rattle.checks.proofs.Chains.{handed_on}
use Rattle.pictures.proofs.ListFaults.{listed_fault, listed_made, made_found, fault_found, fault_first, end_not_five, replies_short, list_right}
use Rattle.pictures.proofs.lists.list_outcome.Goals as goal

pub returns-in_err-list_fault : goal.returns-in_err-list_fault
returns-in_err-list_fault c =
    let found = fault_found _ (sym c.in_err-list_fault.was ∙ c.list_fault.ensures) in
    handed_on _ c.from_residual.ensures ∙ listed_fault (fault_first _ _ _ found)

pub returns-then-numbers-ne0 : goal.returns-then-numbers-ne0
returns-then-numbers-ne0 c =
    let right = made_found _ (sym c.in_ok-list_fault.was ∙ c.list_fault.ensures) in
    listed_fault (end_not_five _ _ _ right c.if-numbers-ne0.true)

pub returns-then-rows-calls : goal.returns-then-rows-calls
returns-then-rows-calls c =
    let right = made_found _ (sym c.in_ok-list_fault.was ∙ c.list_fault.ensures) in
    listed_fault (replies_short _ _ _ right c.if-numbers-ne0.false (omega (arith, c.if-rows-calls.true)))

pub returns : goal.returns
returns c =
    let right = made_found _ (sym c.in_ok-list_fault.was ∙ c.list_fault.ensures) in
    listed_made (list_right _ _ _ right c.if-numbers-ne0.false (omega (arith, c.if-rows-calls.false)))
