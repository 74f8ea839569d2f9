-- `cabi::spot_format` meets its contract, by that of `table::format`.
use borrow.Author.Rules.{rules}
use Rattle.block.specs.Answers.{told}
use Rattle.cabi.proofs.spot_format.Goals as goal

pub returns : goal.returns
returns c =
    record { answer = told c.format.result; number = search rules; detail = search rules; keeps = c.format.ensures }
