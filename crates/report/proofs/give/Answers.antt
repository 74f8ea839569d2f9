-- `report::give` meets its contract: the spots come from the buffer if it holds them, else from a second walk.
use mathlib.Core.Path.{sym, subst}
use Prim.Native.Nat.{◌*◌, ◌≤◌}
use lib.ListN.{length}
use mir.Syntax.{w32}
use mir.ValLaws.{to_z-of_z}
use native.Mathlib.Omega.{arith}
use Rattle.query.specs.Merging.{Orderly}
use Rattle.query.proofs.Ordered.{walk-order}
use Rattle.report.proofs.Reporting.{held-are}
use Rattle.report.proofs.give.Goals as goal

pub held-requires : goal.held-requires
held-requires c =
    let known = c.requires in
    let fits : 12 * c.args.n ≤ length c.args.few.now = omega (arith, c.if-n-few.true) in
    record {
      held = fits;
      room = omega (arith, known.walk.room, known.count);
      order = subst Orderly (sym (known.held fits)) (walk-order _ _);
    }

pub returns-then-n-few : goal.returns-then-n-few
returns-then-n-few c =
    held-are _ _ _ _ _ _ (c.requires.held (omega (arith, c.if-n-few.true)))
    (rw (to_z-of_z w32 _ c.ranges.x1, to_z-of_z w32 _ c.ranges.x2, to_z-of_z w32 _ c.ranges.y) at c.held.ensures)

pub returns-else-n-few : goal.returns-else-n-few
returns-else-n-few c =
    rw (to_z-of_z w32 _ c.ranges.x1, to_z-of_z w32 _ c.ranges.x2, to_z-of_z w32 _ c.ranges.y) at c.write.ensures.output
