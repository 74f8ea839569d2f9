-- `cabi::spot_tour_report` meets its contract, by that of `tour::tour_report`.
use mir.Syntax.{w32}
use mir.ValLaws.{to_z-of_z}
use borrow.Author.Rules.{rules}
use Rattle.block.specs.Answers.{answer_of}
use Rattle.cabi.proofs.spot_tour_report.Goals as goal

pub returns : goal.returns
returns c =
    record {
      answer = answer_of c.tour_report.result;
      number = search rules;
      detail = search rules;
      keeps =
          rw (to_z-of_z w32 c.args.x1 c.ranges.x1, to_z-of_z w32 c.args.x2 c.ranges.x2, to_z-of_z w32 c.args.y c.ranges.y) at c.tour_report.ensures;
    }
