-- `cabi::spot_withdraw` meets its contract, by that of `table::withdraw`.
use mir.ValLaws.{to_z-of_z}
use mir.Syntax.{w32}
use borrow.Author.Rules.{rules}
use Rattle.block.specs.Answers.{told}
use Rattle.cabi.proofs.spot_withdraw.Goals as goal

pub returns : goal.returns
returns c =
    record {
      answer = told c.withdraw.result;
      number = search rules;
      detail = search rules;
      keeps = rw (to_z-of_z w32 c.args.place c.ranges.place, to_z-of_z w32 c.args.rank c.ranges.rank) at c.withdraw.ensures;
    }
