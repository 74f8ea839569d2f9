-- `histories::asks::call_report` meets its contract, by that of the call.
use Rattle.std.proofs.Math.Path.{subst⁻¹}
use Rattle.block.specs.declared.Answer.{Answer}
use Rattle.table.specs.Queries.{GivenInside}
use Rattle.table.proofs.Given.{report-inside}
use Rattle.histories.proofs.asks.call_report.Goals as goal

pub returns : goal.returns
returns c =
    let call = c.report in
    subst⁻¹ (λ (r : Answer). GivenInside r call.new.output) c.answer_of.ensures (report-inside _ _ _ _ _ _ _ _ _ call.ensures)
