-- `spot::rank_key` meets its contract.
use Rattle.std.proofs.Common.{rules}
use Rattle.spot.specs.Keys.{rank_key}
use Rattle.spot.proofs.Halves.{rank-small}
use Rattle.spot.proofs.rank_key.Goals as goal

pub overflow_add-result : goal.overflow_add-result
unfolding rank_key
overflow_add-result c = record { fits = rank-small c.args.k c.ranges.k.fits }

pub returns : goal.returns
unfolding rank_key
returns c = search rules
