-- `pictures::fetching::start_answer` meets its contract: what was found before, then the number, then whether the plan suits.
-- Assumes nothing.
use Rattle.std.proofs.Common.{ap, ◌∙◌}
use Rattle.pictures.specs.Fetching.{found_by}
use Rattle.pictures.proofs.Starts.{refused_by_tested, refused_by_picture, refused_by_number, as_it_suits}
use Rattle.pictures.proofs.fetching.start_answer.Goals as goal

pub returns-in-Err : goal.returns-in-Err
returns-in-Err c =
    let refused = c.in-Err.is in
    let (outcome, positions) = refused_by_tested _ _ _ _ _ _ _ (ap found_by refused) in
    (refused ∙ outcome, positions)

pub returns-in-Err-picture : goal.returns-in-Err-picture
returns-in-Err-picture c =
    let refused = c.in-Err-picture.is in
    let tested = ap found_by c.in_default.is in
    let (outcome, positions) = refused_by_picture _ _ _ _ _ _ _ tested (ap found_by refused) in
    (refused ∙ outcome, positions)

pub returns-then-count-n : goal.returns-then-count-n
returns-then-count-n c =
    refused_by_number _ _ _ _ _ _ _ (ap found_by c.in_default.is) (ap found_by c.in_default-picture.is)
    c.if-count-n.true

pub returns : goal.returns
returns c =
    let tested = ap found_by c.in_default.is in
    let picture = ap found_by c.in_default-picture.is in
    let pre = c.requires in
    let (r-least, r-most, size) = pre.0 tested in
    let (least, most) = size c.if-count-n.false in
    let (outcome, positions) = c.suits_answer.ensures in
    as_it_suits _ _ _ _ _ _ _ tested picture
    (record { least = least; most = most; cycles_least = r-least; cycles_most = r-most; plan = pre.1 picture })
    c.if-count-n.false
    outcome
    positions
