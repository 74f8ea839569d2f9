-- `catalogue::limited_key` meets its contract: the keys inside the limits are a range.
use mathlib.Core.Path.{sym, ◌∙◌}
use Rattle.spot.specs.Keys.{within, start_key, end_key}
use Rattle.spot.proofs.Limits.{limited-within}
use Rattle.block.proofs.Shut.{all2}
use Rattle.catalogue.proofs.limited_key.Goals as goal

pub returns : goal.returns
unfolding within start_key end_key
returns c = sym (limited-within c.args.k ∙ all2 _ _)
