-- `vectors::allowances::asked` meets its contract: the call is lent the front of the output.
use Rattle.block.specs.Answers.{answer_of}
use Rattle.table.proofs.Given.{within-inside, inside-longer}
use Rattle.vectors.proofs.allowances.asked.Goals as goal

pub returns : goal.returns
returns c =
    let call = c.top_within-answer in
    inside-longer (answer_of call.result) _ _ (within-inside _ _ _ _ _ _ _ (answer_of call.result) _ _ _ call.ensures)
