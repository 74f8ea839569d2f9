-- `cabi::spot_top` meets its contract, by that of `table::top`.
use mir.Syntax.{w32}
use mir.ValLaws.{to_z-of_z}
use borrow.Author.Rules.{rules}
use Rattle.block.specs.Answers.{answer_of}
use Rattle.cabi.proofs.spot_top.Goals as goal

pub returns : goal.returns
returns c =
    record {
      answer = answer_of c.top.result;
      number = search rules;
      detail = search rules;
      keeps =
          rw (to_z-of_z w32 c.args.x1 c.ranges.x1, to_z-of_z w32 c.args.x2 c.ranges.x2) at c.top.ensures;
    }
