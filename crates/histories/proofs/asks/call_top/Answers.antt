-- `histories::asks::call_top` meets its contract, by that of the call.
use Rattle.std.proofs.Math.Path.{subst⁻¹}
use Rattle.block.specs.declared.Answer.{Answer}
use Rattle.table.specs.Queries.{GivenInside}
use Rattle.table.proofs.Given.{top-inside}
use Rattle.histories.proofs.asks.call_top.Goals as goal

pub returns : goal.returns
returns c =
    let call = c.top in
    subst⁻¹ (λ (r : Answer). GivenInside r call.new.output) c.answer_of.ensures (top-inside _ _ _ _ _ _ _ _ _ call.ensures)
