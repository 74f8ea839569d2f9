-- `block::entry_ok` meets its contract: it computes as `entry_fine` does.
use Rattle.block.proofs.Marks.{entry-made}
use Rattle.block.proofs.entry_ok.Goals as goal

pub returns : goal.returns
returns c =
    let a = c.args in
    entry-made a.blocks a.own a.low a.from a.next a.s.now a.a c.read16-b.ensures.0 c.count_at.ensures.0 c.count_at-2.ensures.0
    c.raw_key-top.ensures c.raw_key-bottom.ensures c.read64.ensures.0 c.read64-2.ensures.0 c.rank_key.ensures c.credible.ensures
