-- `vectors::tours::asked` meets its contract: the call is lent the front of the output.
use Rattle.std.proofs.Common.{◌≡◌, ℕ, List}
use Rattle.std.proofs.Math.Path.{subst⁻¹}
use Rattle.block.specs.Answers.{answer_of}
use Rattle.block.specs.declared.Answer.{Answer}
use Rattle.table.specs.Queries.{GivenInside}
use Rattle.table.proofs.Given.{inside-longer}
use Rattle.tour.proofs.Promises.{tour-inside}
use Rattle.vectors.proofs.tours.asked.Goals as goal

-- what holds of an answer, of one that is the same
inside-as : (r a : Answer) (out : List ℕ) → r ≡ a → GivenInside a out → GivenInside r out
inside-as r a out e = subst⁻¹ (λ (x : Answer). GivenInside x out) e

pub returns : goal.returns
returns c =
    let call = c.tour_report-reported in
    inside-as c.answer_of.result (answer_of call.result) _ c.answer_of.ensures
    (inside-longer (answer_of call.result) _ _ (tour-inside _ _ _ _ _ _ (answer_of call.result) _ _ call.ensures))
