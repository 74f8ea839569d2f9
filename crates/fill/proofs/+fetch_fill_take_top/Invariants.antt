-- fill, fetch and take_top meet their contracts: one induction, on the level.
use Prim.Native.Nat.{◌+◌, ◌*◌}
use mathlib.Core.Path.{◌≡◌}
use lib.ListN.{length}
use Rattle.fill.proofs.Whole.{Filling}
use Rattle.fill.proofs.+fetch_fill_take_top.Given as goal

abbrev pub decreases-fetch : goal.decreases-fetch
decreases-fetch l = 3 * l.level

abbrev pub decreases-fill : goal.decreases-fill
decreases-fill l = 3 * l.level + 1

abbrev pub decreases-take_top : goal.decreases-take_top
decreases-take_top l = 3 * l.level + 2

abbrev pub invariant-fill-loop-round : goal.invariant-fill-loop-round
invariant-fill-loop-round l = Filling l.initial.t l.initial.s l.initial.map l.level l.initial.node l.t l.s l.map l.node × (length l.node.points.spots ≡ 80)
