-- `build::put_own` meets its contract: what is stored is a node as a rebuild leaves it.
use Rattle.spot.specs.Spots.{spots_from}
use Rattle.rebuild_theory.specs.Build.{band}
use Rattle.build.specs.Building.{limit_of}
use Rattle.build.proofs.Own.{own-storable, own_put}
use Rattle.build.proofs.put_own.Goals as goal

pub put_node-requires : goal.put_node-requires
put_node-requires c =
    let a = c.args in
    let p = c.requires in (
      p.inside,
      own-storable a.level a.es c.open_first-entries.result c.take_band-points.result c.empty-inserts.result c.empty-deletes.result
          c.open_first-entries.ensures.0 c.open_first-entries.ensures.1 c.empty-inserts.ensures.0 c.empty-deletes.ensures.0 p.shallow p.entries c.take_band-points.ensures.2,
    )

pub returns : goal.returns
returns c =
    let a = c.args in
    own_put a.level a.es c.open_first-entries.result c.take_band-points.result c.empty-inserts.result c.empty-deletes.result
    c.open_first-entries.ensures.0 c.open_first-entries.ensures.1 c.empty-inserts.ensures.0 c.empty-deletes.ensures.0
    {ps = band a.cut (limit_of a.limit) (spots_from a.list.now a.from a.n)} c.put_node.ensures c.take_band-points.ensures.1 c.first_key-low.ensures c.entry_for.ensures
