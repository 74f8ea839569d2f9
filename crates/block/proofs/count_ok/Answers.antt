-- `block::count_ok` meets its contract: it computes as `count_fine` does.
use borrow.Author.Rules.{rules}
use Rattle.block.specs.Checks.{count_fine}
use Rattle.block.proofs.count_ok.Goals as goal

pub returns : goal.returns
unfolding count_fine
returns c = search rules
