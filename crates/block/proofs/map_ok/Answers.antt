-- `block::map_ok` meets its contract: its calls make up `map_fine`.
use Rattle.block.specs.Checks.{map_fine}
use Rattle.block.proofs.map_ok.Goals as goal

pub returns : goal.returns
unfolding map_fine
returns c = cc
