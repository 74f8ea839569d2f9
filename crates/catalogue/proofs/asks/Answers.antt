-- `catalogue::asks` meets its contract: its calls make up `asks`.
use mathlib.Core.Path.{ap₂}
use mathlib.Core.Bool.{◌&&◌}
use Rattle.catalogue.specs.Catalogue.{asks}
use Rattle.catalogue.proofs.asks.Goals as goal

pub returns : goal.returns
unfolding asks
returns c = ap₂ ◌&&◌ c.standing.ensures c.meets.ensures
