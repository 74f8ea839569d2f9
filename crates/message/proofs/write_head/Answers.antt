-- `message::write_head` meets its contract: three numbers one behind the other.
use Rattle.message.proofs.Writing.{head-written}
use Rattle.message.proofs.write_head.Goals as goal

pub returns : goal.returns
returns c =
    let a = c.args in
    head-written a.m.now a.bytes a.n c.requires c.write32.ensures c.write8.ensures c.write16.ensures
