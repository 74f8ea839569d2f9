-- `spot::rank_in` meets its contract.
use Rattle.std.proofs.Common.{◌∙◌, w32}
use mir.ValLaws.{to_z-of_z}
use Rattle.spot.specs.Keys.{rank_in}
use Rattle.spot.proofs.rank_in.Goals as goal

pub returns : goal.returns
unfolding rank_in
returns c = to_z-of_z w32 c.unbias.result (record { sfits = c.unbias.type_inv }) ∙ c.unbias.ensures
