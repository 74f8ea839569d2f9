-- `cabi::spot_check` meets its contract, by that of `table::check`.
use borrow.Author.Rules.{rules}
use Rattle.block.specs.Answers.{yes_or_no}
use Rattle.cabi.proofs.spot_check.Goals as goal

pub returns : goal.returns
returns c =
    record { answer = yes_or_no c.check.result; number = search rules; detail = search rules; keeps = c.check.ensures }
