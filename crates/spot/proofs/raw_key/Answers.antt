-- `spot::raw_key` meets its contract.
use Rattle.std.proofs.Common.{arith}
use Rattle.spot.specs.Spots.{key_at}
use Rattle.spot.proofs.raw_key.Goals as goal

pub returns : goal.returns
unfolding key_at
returns c = omega arith
