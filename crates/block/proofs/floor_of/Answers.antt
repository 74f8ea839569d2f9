-- `block::floor_of` meets its contract: by the variant; the root's range begins at 0.
use mathlib.Core.Path.{ap, sym, ◌∙◌}
use Rattle.spot.specs.Keys.{start_key}
use Rattle.block.specs.Checks.{start_of}
use Rattle.block.proofs.floor_of.Goals as goal

pub returns-in-Root : goal.returns-in-Root
unfolding start_of start_key
returns-in-Root c = sym (ap start_of c.in-Root.is)

pub returns-in-Child : goal.returns-in-Child
unfolding start_of start_key
returns-in-Child c = c.max.ensures ∙ sym (ap start_of c.in-Child.is)
