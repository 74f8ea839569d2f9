-- `cabi::spot_write_message` meets its contract, by that of `message::write_message`.
use borrow.Author.Rules.{rules}
use Rattle.block.specs.Answers.{told}
use Rattle.cabi.proofs.spot_write_message.Goals as goal

pub returns : goal.returns
returns c =
    record { answer = told c.write_message.result; number = search rules; detail = search rules; keeps = c.write_message.ensures }
