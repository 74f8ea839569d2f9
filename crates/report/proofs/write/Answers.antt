-- `report::write` meets its contract: the spots of the walk that its arguments make, turned to begin at x1.
use mathlib.Core.Path.{sym, subst}
use mir.Syntax.{w32}
use mir.ValLaws.{to_z-of_z}
use native.Mathlib.Omega.{arith}
use Rattle.query.specs.Merging.{Orderly}
use Rattle.query.proofs.Ordered.{walk-order}
use Rattle.report.proofs.Reporting.{query-same, turn-asks, reportable-as, reported-as}
use Rattle.report.proofs.write.Goals as goal

pub collect_table-n-requires : goal.collect_table-n-requires
collect_table-n-requires c =
    let fits = c.ranges in
    let h = reportable-as (query-same _ _ _ _ _ _ _ (to_z-of_z w32 _ fits.x1) (to_z-of_z w32 _ fits.x2) (to_z-of_z w32 _ fits.y) c.make_query-q.ensures) c.requires in
    (h.sized, h.whole, h.room)

pub from_on-requires : goal.from_on-requires
from_on-requires c =
    let found = c.collect_table-n in
    let fits = c.ranges in
    let h = reportable-as (query-same _ _ _ _ _ _ _ (to_z-of_z w32 _ fits.x1) (to_z-of_z w32 _ fits.x2) (to_z-of_z w32 _ fits.y) c.make_query-q.ensures) c.requires in
    turn-asks _ _ (omega (arith, h.room, found.ensures.0, found.auto.out)) (subst Orderly (sym found.ensures.2) (walk-order _ _))

pub returns : goal.returns
returns c =
    let found = c.collect_table-n in
    let fits = c.ranges in
    let same = query-same _ _ _ _ _ _ _ (to_z-of_z w32 _ fits.x1) (to_z-of_z w32 _ fits.x2) (to_z-of_z w32 _ fits.y) c.make_query-q.ensures in
    let h = reportable-as same c.requires in
    reported-as same c.from_key.ensures found.ensures.0 found.ensures.1 found.ensures.2
    (omega (arith, h.room, found.ensures.0, found.auto.out))
    c.from_on.ensures
    (λ i. omega (arith, c.slice_known-3-1.given i))
