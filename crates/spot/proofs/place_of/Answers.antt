-- `spot::place_of` meets its contract.
use Rattle.std.proofs.Common.{◌∙◌, w32}
use mir.ValLaws.{to_z-of_z}
use Rattle.spot.specs.Keys.{place_of}
use Rattle.spot.proofs.place_of.Goals as goal

pub returns : goal.returns
unfolding place_of
returns c = to_z-of_z w32 c.unbias.result (record { sfits = c.unbias.type_inv }) ∙ c.unbias.ensures
