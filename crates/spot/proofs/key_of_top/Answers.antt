-- `spot::key_of_top` meets its contract.
use Rattle.std.proofs.Common.{ap, ◌∙◌}
use Rattle.spot.specs.Keys.{rank_key, key_of_top}
use Rattle.spot.proofs.key_of_top.Goals as goal

pub returns : goal.returns
unfolding key_of_top
returns c = c.rank_key.ensures ∙ ap rank_key c.turn_low.ensures
