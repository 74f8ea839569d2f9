-- `block::in_child` meets its contract: it computes as `in_fine` does.
use mathlib.Core.Path.{refl}
use Rattle.block.specs.Checks.{in_fine}
use Rattle.block.proofs.in_child.Goals as goal

pub returns : goal.returns
unfolding in_fine
returns c = refl
