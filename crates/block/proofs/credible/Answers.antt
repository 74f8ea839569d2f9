-- `block::credible` meets its contract: it computes as `credible_fine` does.
use Rattle.block.specs.Checks.{credible_fine}
use Rattle.block.proofs.credible.Goals as goal

pub returns : goal.returns
unfolding credible_fine
returns c = cc
