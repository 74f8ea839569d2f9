-- `block::sizes_ok` meets its contract: it computes as `sizes_fine` does.
use borrow.Author.Rules.{rules}
use Rattle.block.specs.Checks.{sizes_fine}
use Rattle.block.proofs.sizes_ok.Goals as goal

pub returns : goal.returns
unfolding sizes_fine
returns c = search rules
