-- `catalogue::fused_ok` meets its contract: its calls make up `fused_fine`.
use Rattle.catalogue.proofs.Making.{fused-made}
use Rattle.catalogue.proofs.fused_ok.Goals as goal

pub returns : goal.returns
returns c =
    let a = c.args in
    fused-made a.z a.x a.y c.in_spans.ensures c.in_spans-2.ensures c.in_spans-3.ensures c.rank_key-maker.ensures
    c.rank_key.ensures c.rank_key-2.ensures
