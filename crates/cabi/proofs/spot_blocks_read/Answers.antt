-- `cabi::spot_blocks_read` meets its contract, by that of `table::blocks_read`.
use borrow.Author.Rules.{rules}
use Rattle.block.specs.Answers.{answer_of}
use Rattle.cabi.proofs.spot_blocks_read.Goals as goal

pub returns : goal.returns
returns c =
    record { answer = answer_of c.blocks_read.result; number = search rules; detail = search rules; keeps = c.blocks_read.ensures }
