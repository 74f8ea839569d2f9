-- `tour::gather_tile` meets its contract: a block is a run with nothing above it.
use Rattle.visit.proofs.Gathering.{gathered-root}
use Rattle.tour.proofs.Tiles.{tile-mergeable, tile-collected}
use Rattle.tour.proofs.gather_tile.Goals as goal

pub gather_run-requires : goal.gather_run-requires
gather_run-requires c =
    let p = c.no_path in
    (tile-mergeable c.requires c.args.q p.result p.ensures.0, gathered-root c.args.s.now p.result _ p.ensures.1 p.ensures.2)

pub returns : goal.returns
returns c =
    tile-collected c.requires c.args.q c.no_path.result c.no_path.ensures.1 c.gather_run.ensures
