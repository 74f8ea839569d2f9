-- `vectors::asked` meets its contract, by those of the two calls.
use Rattle.std.proofs.Math.Path.{subst⁻¹}
use Rattle.block.specs.declared.Answer.{Answer}
use Rattle.table.specs.Queries.{GivenInside}
use Rattle.table.proofs.Given.{report-inside, top-inside}
use Rattle.vectors.proofs.asked.Goals as goal

pub returns-in-Top : goal.returns-in-Top
returns-in-Top c =
    let top = c.top in
    subst⁻¹ (λ (r : Answer). GivenInside r top.new.output) c.answer_of-in-Top.ensures (top-inside _ _ _ _ _ _ _ _ _ top.ensures)

pub returns-in-Report : goal.returns-in-Report
returns-in-Report c =
    let report = c.report in
    subst⁻¹ (λ (r : Answer). GivenInside r report.new.output) c.answer_of.ensures (report-inside _ _ _ _ _ _ _ _ _ report.ensures)
