-- `node::put_node` meets its contract: the part lent is the block.
use Rattle.node.proofs.Storing.{block-stored}
use Rattle.node.proofs.put_node.Goals as goal

pub returns : goal.returns
returns c =
    block-stored c.args.t.now c.args.b c.args.n c.requires.0 c.store.ensures
