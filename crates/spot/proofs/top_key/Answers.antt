-- `spot::top_key` meets its contract.
use Rattle.std.proofs.Common.{ap, ◌∙◌}
use Rattle.spot.specs.Keys.{turn_low, top_key}
use Rattle.spot.proofs.top_key.Goals as goal

pub returns : goal.returns
unfolding top_key
returns c = c.turn_low.ensures ∙ ap turn_low c.rank_key.ensures
