-- `vectors::ask_within` meets its contract: the call is lent the front of the output.
use Rattle.table.proofs.Given.{inside-longer}
use Rattle.vectors.proofs.ask_within.Goals as goal

pub returns : goal.returns
returns c = let asked = c.asked in inside-longer asked.result _ _ asked.ensures
