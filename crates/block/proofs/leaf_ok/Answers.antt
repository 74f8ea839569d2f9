-- `block::leaf_ok` meets its contract: it computes as `leaf_fine` does.
use borrow.Author.Rules.{rules}
use Rattle.block.specs.Checks.{leaf_fine}
use Rattle.block.proofs.leaf_ok.Goals as goal

pub returns : goal.returns
unfolding leaf_fine
returns c = search rules
