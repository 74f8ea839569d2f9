-- `node::load` meets its contract: the part lent is the block.
use Rattle.node.proofs.Loads.{valid-part, loaded-part}
use Rattle.node.proofs.load.Goals as goal

pub load_block-requires : goal.load_block-requires
load_block-requires c =
    valid-part c.args.t.now c.args.b c.requires

pub returns : goal.returns
returns c =
    loaded-part c.args.t.now c.args.b c.requires c.load_block.result c.load_block.ensures
