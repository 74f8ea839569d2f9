-- `spot::turn_low` meets its contract.
use Rattle.std.proofs.Common.{refl}
use Rattle.spot.specs.Keys.{turn_low}
use Rattle.spot.proofs.turn_low.Goals as goal

pub returns : goal.returns
unfolding turn_low
returns c = refl
