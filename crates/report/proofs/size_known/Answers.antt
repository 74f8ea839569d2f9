-- `report::size_known` meets its contract, as `report::size` does.
use mir.Syntax.{w32}
use mir.ValLaws.{to_z-of_z}
use Rattle.query.proofs.Whole.{counted-as}
use Rattle.query.proofs.Gathered.{held-as}
use Rattle.report.proofs.Reporting.{query-same}
use Rattle.report.proofs.size_known.Goals as goal

pub returns : goal.returns
returns c =
    let fits = c.ranges in
    let same = query-same _ _ _ _ _ _ _ (to_z-of_z w32 _ fits.x1) (to_z-of_z w32 _ fits.x2) (to_z-of_z w32 _ fits.y) c.make_query.ensures in
    (counted-as same c.gather_known.ensures.0, held-as same c.gather_known.ensures.1, c.gather_known.ensures.2)
