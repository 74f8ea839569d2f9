-- `cabi::spot_rebuild` meets its contract, by that of `table::rebuild`.
use borrow.Author.Rules.{rules}
use Rattle.block.specs.Answers.{told}
use Rattle.cabi.proofs.spot_rebuild.Goals as goal

pub returns : goal.returns
returns c =
    record { answer = told c.rebuild.result; number = search rules; detail = search rules; keeps = c.rebuild.ensures }
