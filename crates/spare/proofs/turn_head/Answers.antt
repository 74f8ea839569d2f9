-- `spare::turn_head` meets its contract: three numbers, and the map put into its part of the block.
use Rattle.spare.proofs.Heading.{head-turned}
use mathlib.Core.Path.{refl}
use Rattle.spare.proofs.turn_head.Goals as goal

pub returns : goal.returns
returns c =
    let p = c.requires in
    head-turned _ _ _ _ c.args.head.now c.write8.new.s c.write16.new.s c.write32.new.s c.mark_taken.new.map _ p.2 p.3 p.4 p.0 c.write8.ensures c.write16.ensures c.write32.ensures c.mark_taken.ensures refl
