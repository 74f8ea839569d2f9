-- `node::write_entry` meets its contract: its numbers and keys stand one behind the other.
use Rattle.octets.proofs.Tests.{and_both}
use Rattle.node.proofs.Put.{entry-written}
use Rattle.node.proofs.write_entry.Goals as goal

pub returns : goal.returns
returns c =
    let a = c.args in
    let low = c.write_unless.ensures in
    let top = c.write_unless-2.ensures in
    let bottom = c.write_unless-3.ensures in (
      entry-written a.first a.e a.s.now a.at c.requires c.write16.ensures c.write8.ensures c.write8-2.ensures low.0 top.0 bottom.0,
      and_both _ _ (and_both _ _ low.1 top.1) bottom.1,
    )
