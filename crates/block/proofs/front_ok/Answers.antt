-- `block::front_ok` meets its contract: it computes as `front_fine` does.
use Rattle.block.specs.Checks.{front_fine, ◌and◌}
use Rattle.block.proofs.front_ok.Goals as goal

pub returns : goal.returns
unfolding front_fine ◌and◌
returns c = cc
