-- `cabi::spot_apply` meets its contract, by that of `apply::apply`.
use borrow.Author.Rules.{rules}
use Rattle.block.specs.Answers.{told}
use Rattle.cabi.proofs.spot_apply.Goals as goal

pub returns : goal.returns
returns c =
    record { answer = told c.apply.result; number = search rules; detail = search rules; keeps = c.apply.ensures }
