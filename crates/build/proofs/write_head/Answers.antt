-- `build::write_head` meets its contract: the numbers, and the map put into its part of the block.
use Rattle.build.proofs.Head.{head-says}
use mathlib.Core.Path.{refl, ◌∙◌}
use Rattle.build.proofs.write_head.Goals as goal

pub returns : goal.returns
returns c =
    head-says _ _ _ _ c.write_numbers.new.s _ c.mark_to.new.map (c.write_numbers.auto.s ∙ c.requires.0) c.write_numbers.ensures c.mark_to.ensures refl
