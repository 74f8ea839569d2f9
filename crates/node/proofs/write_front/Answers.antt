-- `node::write_front` meets its contract: its numbers stand one behind the other.
use Rattle.node.proofs.Put.{front-written}
use Rattle.node.proofs.write_front.Goals as goal

pub returns : goal.returns
returns c =
    front-written c.args.h c.args.s.now c.requires c.write16.ensures c.write8.ensures c.write8-2.ensures c.write8-3.ensures
    c.write8-4.ensures c.write8-5.ensures c.write8-6.ensures
