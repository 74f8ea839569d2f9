-- `node::zero_from` meets its contract: the part lent comes back as zeros.
use Rattle.node.proofs.Put.{zeroed}
use Rattle.node.proofs.zero_from.Goals as goal

pub returns : goal.returns
returns c =
    zeroed c.args.s.now c.args.at c.requires c.zero.ensures
