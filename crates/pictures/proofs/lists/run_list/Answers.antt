-- `pictures::lists::run_list` meets its contract: a list that is wrong changes nothing, and the calls of another are made.
-- Assumes nothing.
use Rattle.std.proofs.Common.{sym, ◌∙◌, arith}
use Rattle.checks.proofs.Chains.{handed_on}
use Rattle.pictures.proofs.ListFaults.{made_passes, fault_found}
use Rattle.pictures.proofs.ListTurns.{list_made, list_not_made}
use Rattle.pictures.proofs.ListSums.{sums_demanded}
use Rattle.pictures.proofs.lists.run_list.Goals as goal

pub make_calls-requires : goal.make_calls-requires
make_calls-requires c =
    let right = made_passes _ _ _ (sym c.in_ok-list_outcome.was ∙ c.list_outcome.ensures) in
    (c.starts_of-starts.ensures, right.calls, right.replies)

pub returns : goal.returns
returns c =
    let right = made_passes _ _ _ (sym c.in_ok-list_outcome.was ∙ c.list_outcome.ensures) in
    let (answer, left) = list_made _ _ _ right.test c.make_calls.ensures in
    record {
      answer = answer;
      left = left;
      kept = sums_demanded _ _ _ (λ i. omega (arith, c.slice_known-1.given i)) (answer, left);
    }

pub returns-in_err-list_outcome : goal.returns-in_err-list_outcome
returns-in_err-list_outcome c =
    let found = fault_found _ (sym c.in_err-list_outcome.was ∙ c.list_outcome.ensures) in
    let (answer, left) = list_not_made _ _ _ found in
    let told = handed_on _ c.from_residual.ensures ∙ answer in
    record {
      answer = told;
      left = left;
      kept = sums_demanded _ _ _ (λ i. omega (arith, c.type_inv.mem i)) (told, left);
    }
