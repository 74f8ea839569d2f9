-- `catalogue::entries_agree` meets its contract: its calls make up `entries_agree`.
use Rattle.catalogue.specs.Catalogue.{tile_entry_at}
use Rattle.catalogue.proofs.Making.{agree-made}
use Rattle.catalogue.proofs.entries_agree.Goals as goal

pub returns : goal.returns
returns c =
    let a = c.args in
    agree-made a.m (tile_entry_at a.s.now) c.apart_all.ensures c.makers_rise_all.ensures c.joins_all.ensures
