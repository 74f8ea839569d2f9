-- `cabi::spot_read_message` meets its contract, by that of `message::read_message`.
use borrow.Author.Rules.{rules}
use Rattle.block.specs.Answers.{told}
use Rattle.cabi.proofs.spot_read_message.Goals as goal

pub returns : goal.returns
returns c =
    record { answer = told c.read_message.result; number = search rules; detail = search rules; keeps = c.read_message.ensures }
