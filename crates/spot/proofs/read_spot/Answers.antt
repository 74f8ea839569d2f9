-- `spot::read_spot` meets its contract.
use Rattle.std.proofs.Common.{ap₂}
use Rattle.spot.specs.Spots.{spot_at}
use Rattle.spot.proofs.Card.{spot}
use Rattle.spot.proofs.read_spot.Goals as goal

pub returns : goal.returns
unfolding spot_at
returns c = (ap₂ spot c.read_key-key.ensures.0 c.read32-track.ensures.0, c.read_key-key.ensures.1)
