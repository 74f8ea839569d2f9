-- `spot::read_key` meets its contract.
use Rattle.std.proofs.Common.{ap, ◌∙◌}
use Rattle.spot.specs.Keys.{limited}
use Rattle.spot.proofs.read_key.Goals as goal

pub returns : goal.returns
returns c = (c.raw_key.ensures, ap limited c.raw_key.ensures ∙ c.requires.1)
