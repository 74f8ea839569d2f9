-- `report::held` meets its contract: the spots are copied, and turned to begin at x1.
use mir.Syntax.{w32}
use mir.ValLaws.{to_z-of_z}
use native.Mathlib.Omega.{arith}
use Rattle.report.proofs.Reporting.{query-same, turn-asks, held-order, held-turned}
use Rattle.report.proofs.held.Goals as goal

pub from_on-requires : goal.from_on-requires
from_on-requires c =
    turn-asks _ _ (omega (arith, c.requires.room, c.copy.auto.to)) (held-order c.requires c.copy.ensures)

pub returns : goal.returns
returns c =
    let fits = c.ranges in
    held-turned c.requires
    (query-same _ _ _ _ _ _ _ (to_z-of_z w32 _ fits.x1) (to_z-of_z w32 _ fits.x2) (to_z-of_z w32 _ fits.y) c.make_query.ensures)
    c.from_key.ensures
    c.copy.ensures
    c.from_on.ensures
    c.copy.auto.to
    (λ i. omega (arith, c.slice_known-3-1.given i))
