-- `node::load_block` meets its contract: the counts of the front are within their limits, and each list is read by its reader.
use mathlib.Core.Path.{ap, ◌∙◌}
use native.Mathlib.Omega.{arith}
use Rattle.octets.specs.Lists.{records}
use Rattle.spot.specs.Spots.{key_at, spot_at}
use Rattle.block.specs.declared.Front.{Front}
use Rattle.node.proofs.Loads.{Counts, counts, points-limited, inserts-limited, deletes-limited, loaded-in}
use Rattle.node.proofs.load_block.Goals as goal
use Rattle.node.proofs.load_block.Goals.{After-front_of-h}

counted : (c : After-front_of-h) → Counts c.front_of-h.result
counted c = counts c.args.s.now c.requires c.front_of-h.result c.front_of-h.ensures.0

pub load_entries-entries-requires : goal.load_entries-entries-requires
load_entries-entries-requires c = (c.requires, ap (λ (x : Front). x.c) c.front_of-h.ensures.0)

pub load_list-points-requires : goal.load_list-points-requires
load_list-points-requires c =
    let q = counted (goal.at.load_list-points-requires c).After-front_of-h in (
      omega (arith, q),
      omega (arith, q, c.requires.sized, c.points_from.ensures),
      points-limited c.args.s.now c.requires c.front_of-h.result c.front_of-h.ensures.0 c.points_from.result c.points_from.ensures,
    )

pub load_list-inserts-requires : goal.load_list-inserts-requires
load_list-inserts-requires c =
    let q = counted (goal.at.load_list-inserts-requires c).After-front_of-h in (
      omega (arith, q),
      omega (arith, q, c.requires.sized, c.inserts_from.ensures),
      inserts-limited c.args.s.now c.requires c.front_of-h.result c.front_of-h.ensures.0 c.inserts_from.result c.inserts_from.ensures,
    )

pub load_list-deletes-requires : goal.load_list-deletes-requires
load_list-deletes-requires c =
    let q = counted (goal.at.load_list-deletes-requires c).After-front_of-h in (
      omega (arith, q),
      omega (arith, q, c.requires.sized, c.deletes_from.ensures),
      deletes-limited c.args.s.now c.requires c.front_of-h.result c.front_of-h.ensures.0 c.deletes_from.result c.deletes_from.ensures,
    )

pub returns : goal.returns
returns c =
    let t = c.args.s.now in
    let h = c.front_of-h.result in
    let ps = c.load_list-points.ensures in
    let is = c.load_list-inserts.ensures in
    let ds = c.load_list-deletes.ensures in
    loaded-in t c.requires h c.front_of-h.ensures.0 _ c.count_at-level.ensures.0 c.count_at-level.ensures.1 c.load_entries-entries.ensures
    (ps.0, ps.1 ∙ ap (records (spot_at t) 12 h.p) c.points_from.ensures)
    (is.0, is.1 ∙ ap (records (spot_at t) 12 h.i) c.inserts_from.ensures)
    (ds.0, ds.1 ∙ ap (records (key_at t) 8 h.d) c.deletes_from.ensures)

pub points_from-requires : goal.points_from-requires
points_from-requires c = omega (arith, counted (goal.at.points_from-requires c).After-front_of-h)

pub inserts_from-requires : goal.inserts_from-requires
inserts_from-requires c = omega (arith, counted (goal.at.inserts_from-requires c).After-front_of-h)

pub deletes_from-requires : goal.deletes_from-requires
deletes_from-requires c = omega (arith, counted (goal.at.deletes_from-requires c).After-front_of-h)
