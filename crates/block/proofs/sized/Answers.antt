-- `block::sized` meets its contract: it computes as `table_sized` does.
use mathlib.Core.Path.{sym}
use Rattle.block.specs.Table.{sized_for}
use Rattle.block.proofs.Shut.{all3}
use Rattle.block.proofs.sized.Goals as goal

pub returns : goal.returns
unfolding sized_for
returns c = sym (all3 _ _ _)
