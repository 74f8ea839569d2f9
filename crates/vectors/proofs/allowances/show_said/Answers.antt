-- `vectors::allowances::show_said` is safe: what was given is read.
use Rattle.std.proofs.Math.Path.{subst⁻¹}
use Rattle.block.specs.declared.Answer.{Answer}
use Rattle.table.specs.Queries.{GivenInside}
use Rattle.vectors.proofs.allowances.show_said.Goals as goal

pub show_spots-requires : goal.show_spots-requires
show_spots-requires g c =
    subst⁻¹ (λ (r : Answer). GivenInside r c.args.output.now) c.answer_of-a.ensures c.requires
