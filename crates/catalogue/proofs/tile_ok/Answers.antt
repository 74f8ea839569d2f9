-- `catalogue::tile_ok` meets its contract: its calls make up `tile_fine`.
use Rattle.catalogue.proofs.Making.{tile-made}
use Rattle.catalogue.proofs.tile_ok.Goals as goal

pub returns : goal.returns
returns c =
    let a = c.args in
    tile-made a.m a.b a.e a.s.now c.rises.ensures c.raw_key.ensures c.raw_key-2.ensures c.zeros-tail.ensures c.above_maker.ensures
