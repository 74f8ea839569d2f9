-- `journal::write_node` meets its contract: the block is kept, then one that is kept is written.
use Rattle.journal.proofs.Kept.{kept_trans, kept-write}
use Rattle.journal.proofs.write_node.Goals as goal

pub returns : goal.returns
returns c =
    let k = c.save.ensures in
    let w = c.put_node.ensures in
    (kept_trans k.0 (kept-write k.1 w.else w.sized), w)
