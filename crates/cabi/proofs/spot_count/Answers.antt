-- `cabi::spot_count` meets its contract, by that of `table::count`.
use borrow.Author.Rules.{rules}
use Rattle.block.specs.Answers.{answer_of}
use Rattle.cabi.proofs.spot_count.Goals as goal

pub returns : goal.returns
returns c =
    record { answer = answer_of c.count.result; number = search rules; detail = search rules; keeps = c.count.ensures }
