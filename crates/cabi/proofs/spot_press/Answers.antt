-- `cabi::spot_press` meets its contract, by that of `press::press`.
use borrow.Author.Rules.{rules}
use Rattle.block.specs.Answers.{told}
use Rattle.cabi.proofs.spot_press.Goals as goal

pub returns : goal.returns
returns c =
    record { answer = told c.press.result; number = search rules; detail = search rules; keeps = c.press.ensures }
