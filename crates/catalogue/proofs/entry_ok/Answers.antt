-- `catalogue::entry_ok` meets its contract: its calls make up `tile_entry_fine`.
use Rattle.catalogue.proofs.Making.{entry-made}
use Rattle.catalogue.proofs.entry_ok.Goals as goal

pub returns : goal.returns
returns c =
    let a = c.args in
    entry-made a.m a.b a.e c.size_ok.ensures c.span_ok.ensures c.limited_key.ensures c.limited_key-2.ensures
    c.made_ok.ensures c.ended_ok.ensures
