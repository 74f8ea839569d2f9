-- `table::format` meets its contract, by that of `block::format`.
use Rattle.table.proofs.Answering.{formats}
use Rattle.table.proofs.format.Goals as goal

pub returns : goal.returns
returns c = formats _ _ _ c.format.ensures.answered c.format.ensures.written
